-- The smallest hundredth of a degree at which a test passes, of any pressure: by trying each from the first temperature on.
use Rattle.std.specs.Prelude.{◌≡◌, Bool, true, false, not, cond, ℕ, suc, ◌+◌, ◌-◌, ◌≤◌, ◌<◌, leb, ℤ, pos, negsuc, unwrap_or}
use Rattle.std.proofs.Math.IntN.{sub_ℕ}
use Rattle.answer.specs.Numbers.{true_at_first, false_at_last}
use Rattle.answer.specs.Lowest.{lowest}
use Rattle.answer.specs.Outcome.{Outcome, answered, refuse}

-- TEMPERATURES. Hundredths of °C as hundredths above −273 °C, the t + 273 of formula (35); 0 below that; and back.
abbrev pub kelvin : ℤ → ℕ
kelvin (pos n) = n + 27300
kelvin (negsuc n) = 27300 - suc n

abbrev pub celsius : ℕ → ℤ
celsius t = sub_ℕ t 27300

-- n brought to low to high
unfoldable pub clamp : ℕ → ℕ → ℕ → ℕ
clamp low high n = cond (leb n low) low (cond (leb high n) high n)

-- a test of a temperature, counted so, and a pressure in Pa
abbrev pub Test : Type 0
Test = ℕ → ℕ → Bool

-- the test at t, where the pressure at t is p t
abbrev pub met : Test → (ℕ → ℕ) → ℕ → Bool
met test p t = test t (p t)

-- the smallest from a to b at which it is met; b where it is met at none before b
unfoldable pub smallest : (ℕ → Bool) → ℕ → ℕ → ℕ
smallest f a b = unwrap_or (lowest f a (b - a)) b

-- from the first temperature a to the last b: 12 where the test is true at the first, 13 where it is false at the last
unfoldable pub searched : Test → (ℕ → ℕ) → ℕ → ℕ → Outcome ℤ
searched test p a b =
    refuse true_at_first 0 (met test p a)
    (refuse false_at_last 0 (not (met test p b))
    (answered (celsius (smallest (met test p) a b))))

-- r is the smallest: the test holds there and fails at every earlier hundredth
pub record Least (f : ℕ → Bool) (a b r : ℕ) : Type 0 where
  pub above : a < r
  pub covered : r ≤ b
  pub passes : f r ≡ true
  pub fails : (t : ℕ) → a ≤ t → t < r → f t ≡ false
