-- What an analyser's reading says in whole parts per million (document 01, "Analyser readings").
-- A float means its exact value: a finite one is its sign and the fraction num x / den x (std's Float.Ieee.Positive). No float operation stands here.
use Rattle.std.specs.Prelude.{ℕ, Bool, false, not, ◌&&◌, ◌||◌, cond, eqb}
use Rattle.std.specs.Float.Ieee.{Float, nan, inf, fin}
use Rattle.std.specs.Float.Ieee.Positive.{num, den}
use Rattle.answer.specs.Numbers.{bad_reading}
use Rattle.answer.specs.Outcome.{Outcome, refused, answered, refusal, refuse}
use Rattle.answer.specs.declared.Rounded.{Rounded}
use Rattle.answer.specs.declared.Mark.TheVariants.{Exact}
use Rattle.rounding.specs.Fraction.{Fraction, ◌over◌, whole, ◌⊠◌, at_most, rounded}
use Rattle.analyser.specs.declared.Method.{Method}
use Rattle.analyser.specs.declared.Reading.{Reading}
use Rattle.analyser.specs.declared.Reading.TheVariants.{Percent, Ppm, Overload}

-- AMOUNTS. A float is `nan`, `inf s` or `fin s m e`: the number m · 2 ^ e, with a minus where s is true.
-- a finite number from 0 up; minus zero is zero
abbrev pub is_amount : Float → Bool
is_amount nan = false
is_amount (inf s) = false
is_amount (fin s m e) = not s || eqb m 0

-- the exact value of an amount
abbrev pub amount : Float → Fraction
amount x = num x over den x

-- 0 ≤ x ≤ f
unfoldable pub up_to : Float → Fraction → Bool
up_to x f = is_amount x && at_most (amount x) f

-- METHODS AND READINGS
-- a method by its detection limit and its ceiling
abbrev pub method_of : Float → Float → Method
method_of limit ceiling = record { limit = limit; ceiling = ceiling }

-- 0 ≤ limit ≤ ceiling ≤ top
unfoldable pub good_method : Fraction → Method → Bool
good_method top m = up_to m.ceiling top && up_to m.limit (amount m.ceiling)

-- the parts of a reading of x units of `scale` parts: rounded from the exact value; below the limit 0, exactly
unfoldable pub converted : ℕ → Method → Float → Rounded ℕ
converted scale m x = cond (at_most (amount m.limit) (amount x)) (rounded (whole scale ⊠ amount x)) (record { value = 0; mark = Exact })

-- the answer to such a reading, by a method whose ceiling is at most `top`
unfoldable pub measured : Fraction → ℕ → Method → Float → Outcome (Rounded ℕ)
measured top scale m x =
    refuse bad_reading 0 (not (good_method top m))
    (refuse bad_reading 1 (not (up_to x (amount m.ceiling)))
    (answered (converted scale m x)))

-- the answer to an overload: its method is in parts per million, and no overload is admitted
unfoldable pub overloaded : Method → Outcome (Rounded ℕ)
overloaded m = refuse bad_reading 0 (not (good_method (whole 1000000) m)) (refused (refusal bad_reading 1))

-- the answer to any reading: a percent is 10,000 parts per million, and there are 100 of them
unfoldable pub parts_of : Method → Reading → Outcome (Rounded ℕ)
parts_of m (Percent x) = measured (whole 100) 10000 m x
parts_of m (Ppm x) = measured (whole 1000000) 1 m x
parts_of m Overload = overloaded m
