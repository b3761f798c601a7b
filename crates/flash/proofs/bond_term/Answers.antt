-- 100 · 2 ^ 31 · 200 is below 2 ^ 46.
use Rattle.std.proofs.Common.{rules, pos, w32, arith}
use mir.Val.{SFits}
use Rattle.flash.proofs.Sizes.{sized, whole, widened, read, times}
use Rattle.flash.proofs.bond_term.Goals as goal

pub returns-clause-small : goal.returns-clause-small
returns-clause-small c =
    let f : SFits w32 c.unwrap_or.result = search rules in
    let coefficient = read (omega arith) (times (sized 100 (pos 100) (omega arith)) (read (omega arith) (widened f c.from.ensures))) in
    let r = read (omega arith) (times coefficient (whole 200 c.args.n c.requires (omega arith))) in
    rw r.is (omega (arith, r.most))
