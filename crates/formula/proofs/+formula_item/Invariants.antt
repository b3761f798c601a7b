-- `formula` calls `item` at the same depth, which calls it at one less: the measure is twice the depth, and one more for `formula`.
-- The loop's invariant is what is still to be read.
use Rattle.std.proofs.Common.{◌+◌, length}
use Rattle.formula.proofs.Steps.{Going}
use Rattle.formula.proofs.+formula_item.Given as goal

abbrev pub decreases-formula : goal.decreases-formula
decreases-formula l = l.depth + l.depth + 1

abbrev pub decreases-item : goal.decreases-item
decreases-item l = l.depth + l.depth

abbrev pub invariant-formula-loop-left : goal.invariant-formula-loop-left
invariant-formula-loop-left l = Going l.t l.depth l.fn.tally l.left l.tally

abbrev pub decreases-formula-loop-left : goal.decreases-formula-loop-left
decreases-formula-loop-left l = length l.left
