-- Each turn halves the multiple and finds a bit.
use Rattle.rounding.proofs.Division.{Held}
use Rattle.rounding.proofs.subtracted.Given as goal

abbrev pub invariant-loop-multiple : goal.invariant-loop-multiple
invariant-loop-multiple l = Held l.n l.d l.multiple l.quotient l.remainder

abbrev pub decreases-loop-multiple : goal.decreases-loop-multiple
decreases-loop-multiple l = l.multiple
