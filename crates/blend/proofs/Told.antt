-- What C is shown of both limits tells their answer but for the marks, and is no larger than what is answered.
use mathlib.Core.Path.{◌≡◌, refl}
use mathlib.Core.Bool.{true}
use Prim.Native.Nat.{ℕ, ◌≤◌}
use native.Mathlib.Omega.{arith}
use lib.Dec.{ltb}
use lib.IntN.{ℤ}
use Rattle.std.specs.Prelude.{Result, Ok, Err, IfOk, Option}
use Rattle.answer.specs.declared.Reason.{Reason}
use Rattle.answer.specs.declared.Reason.TheVariants.{NoFormula}
use Rattle.answer.specs.declared.Refused.{Refused}
use Rattle.answer.specs.declared.Rounded.{Rounded}
use Rattle.answer.specs.Numbers.{number_of}
use Rattle.answer.specs.Outcome.{told}
use Rattle.blend.specs.declared.LimitPair.{LimitPair}
use Rattle.blend.specs.Blend.{limits, without_marks, shown_limits, limits_told}

-- each reason has a number above 0
numbered : (r : Reason) → ltb 0 (number_of r) ≡ true
numbered NoFormula = refl
numbered _ = refl

pub limits-told : (t : Option ℤ) (answer : Result (LimitPair (Rounded ℕ)) Refused) →
    limits_told (shown_limits (told answer)) ≡ without_marks (limits t) (told answer)
limits-told t (Ok l) = refl
limits-told t (Err e) = rw (numbered e.reason)

pub limits-most : (answer : Result (LimitPair (Rounded ℕ)) Refused) (n : ℕ) → IfOk answer (λ l. (l.lower.value ≤ n) × (l.upper.value ≤ n)) →
    let shown = shown_limits (told answer) in (shown.lower ≤ n) × (shown.upper ≤ n)
limits-most (Ok l) n h = h
limits-most (Err e) n h = (omega arith, omega arith)
