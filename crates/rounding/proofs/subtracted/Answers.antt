-- A turn keeps what is held; where the multiple is d, quotient and remainder are found.
use Rattle.std.proofs.Common.{arith}
use Rattle.rounding.proofs.Division.{held-last, held_one, held-zero}
use Rattle.rounding.proofs.subtracted.Goals as goal

pub loop-multiple-preserved-then-multiple-remainder : goal.loop-multiple-preserved-then-multiple-remainder
loop-multiple-preserved-then-multiple-remainder c =
    held_one _ _ _ _ _ c.loop-multiple.invariant (omega arith) _ (omega (arith, c.ranges.n)) (omega arith)

pub loop-multiple-preserved : goal.loop-multiple-preserved
loop-multiple-preserved c =
    held-zero _ _ _ _ _ c.loop-multiple.invariant (omega arith) _ (omega (arith, c.ranges.n)) (omega arith)

pub returns : goal.returns
returns c = held-last _ _ _ _ _ c.loop-multiple.invariant (omega arith)
