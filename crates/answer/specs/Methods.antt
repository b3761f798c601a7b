-- The methods of flash and fire points by their numbers (document 01, refusal 16).
use Rattle.std.specs.Prelude.{ℕ, cond, eqb, pos}
use Rattle.answer.specs.declared.PointMethod.{PointMethod}
use Rattle.answer.specs.declared.PointMethod.TheVariants.{ClosedCup, OpenCup, FirePoint}
use Rattle.answer.specs.Numbers.{unknown_method}
use Rattle.answer.specs.Outcome.{Outcome, answered, refuse}
use Rattle.answer.specs.Outside.{outside}

abbrev pub method_number : PointMethod → ℕ
method_number ClosedCup = 1
method_number OpenCup = 2
method_number FirePoint = 3

-- the method of a number from 1 to 3
abbrev pub method_of : ℕ → PointMethod
method_of n = cond (eqb n 1) ClosedCup (cond (eqb n 2) OpenCup FirePoint)

unfoldable pub method_named : ℕ → Outcome PointMethod
method_named n = refuse unknown_method 0 (outside (pos 1) (pos 3) (pos n)) (answered (method_of n))
