-- The unrounded limits of one fuel at the temperature at which their formulas were fitted (document 01, "At 25 °C a limit is 100/(aβ + b) %").
use Rattle.std.specs.Prelude.{cond, ℕ, leb, ℤ, pos}
use Rattle.rounding.specs.Fraction.{Fraction, ◌over◌, whole, ◌⊞◌, ◌⊠◌, ◌⊘◌}

-- the two limits
pub data Side : Type 0 where
  lower upper : Side

-- 25 °C, in hundredths: the temperature of the fit
abbrev pub fit_temperature : ℤ
fit_temperature = pos 2500

-- a and b in thousandths, for β in quarters: upper with a branch of its own where β ≤ 7.5, that is 30 quarters
unfoldable pub slope : Side → ℕ → ℕ
slope lower q = 8684
slope upper q = cond (leb q 30) 1550 768

unfoldable pub constant : Side → ℕ → ℕ
constant lower q = 4679
constant upper q = cond (leb q 30) 560 6554

-- aβ + b
unfoldable pub divisor : Side → ℕ → Fraction
divisor s q = (slope s q over 1000) ⊠ (q over 4) ⊞ (constant s q over 1000)

-- 100 / (aβ + b) %
unfoldable pub limit_of : Side → ℕ → Fraction
limit_of s q = whole 100 ⊘ divisor s q
