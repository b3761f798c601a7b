-- `closed` meets its contract: behind the bracket there is a count.
use Rattle.std.proofs.Common.{refl}
use Rattle.formula.proofs.Steps.{closed-count}
use Rattle.formula.proofs.closed.Goals as goal

pub returns : goal.returns
returns c = closed-count c.args.t.now _ c.in-len1-up.len_at_least refl c.multiple_at-n.ensures c.add_group.ensures refl
