-- At the end all ten counts are raised.
use Rattle.std.proofs.Common.{arith}
use Rattle.formula.proofs.Caps.{adds-group}
use Rattle.formula.proofs.Tally.add_group.Goals as goal

pub returns : goal.returns
returns c = adds-group _ _ _ _ c.loop-i.invariant.size (λ k l. c.loop-i.invariant.raised k (omega arith))
