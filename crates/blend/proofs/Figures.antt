-- A blend's limits as the code has them, one quotient each, at most 100.00 %.
use mathlib.Core.Path.{◌≡◌, sym}
use mathlib.Core.Bool.{false}
use Prim.Native.Nat.{ℕ, ◌+◌, ◌*◌, ◌-◌, ◌≤◌, ◌<◌}
use native.Mathlib.Nat.{mul-le-mul_left}
use native.Mathlib.Omega.{arith}
use lib.IntN.{ℤ, nat_abs}
use Rattle.answer.proofs.Outside.{inside_is}
use Rattle.rounding.specs.Round.{rounded_value, round_div}
use Rattle.rounding.specs.Fraction.{◌over◌, whole, ◌⊠◌, ◌⊘◌, rounded}
use Rattle.rounding.proofs.Rounding.{round_mono}
use Rattle.rounding.proofs.Fractions.{is-over, is_whole, is-times, is_same, rounded-is}
use Rattle.blend.specs.Limit.{Side, lower, upper}
use Rattle.blend.specs.declared.Blend.{Blend}
use Rattle.blend.specs.Temperature.{gas_outside, correction}
use Rattle.blend.specs.Blend.{sum_of, unit, held, rounded_blend_limit}
use Rattle.blend.specs.Internal.{Within}
use Rattle.blend.proofs.LeChatelier.{from-sums-is}

-- V / (sum / 100) times y / d, in hundredths
corrected : (s : Side) (b : Blend) (y d n m : ℕ) → 0 < sum_of s b → 0 < d → 0 < m → 100 * (b.total * (100 * unit s) * y) * m ≡ n * (1 * (sum_of s b * d))
    → rounded (whole 100 ⊠ ((whole b.total ⊘ (held s b ⊘ whole 100)) ⊠ (y over d))) ≡ round_div n m
corrected s b y d n m p h k e = rounded-is (is_same (is-times (is_whole 100) (is-times (from-sums-is s b p) (is-over y d h))) k e)

pub lower-figure : (b : Blend) (t : ℕ) → 0 < b.lower → round_div (25000 * b.total * (127700 - t)) (313 * b.lower) ≡ rounded_blend_limit lower b t
unfolding rounded_blend_limit correction
lower-figure b t p = sym (go (127700 - t))
  where
    go : (y : ℕ) → rounded (whole 100 ⊠ ((whole b.total ⊘ (held lower b ⊘ whole 100)) ⊠ (y over 125200))) ≡ round_div (25000 * b.total * y) (313 * b.lower)
    go y = corrected lower b y 125200 (25000 * b.total * y) (313 * b.lower) p (omega arith) (omega arith) (omega arith)

pub upper-figure : (b : Blend) (t : ℕ) → 0 < b.upper → round_div (50000 * b.total * (t + 78700)) (203 * b.upper) ≡ rounded_blend_limit upper b t
unfolding rounded_blend_limit correction
upper-figure b t p = sym (go (t + 78700))
  where
    go : (y : ℕ) → rounded (whole 100 ⊠ ((whole b.total ⊘ (held upper b ⊘ whole 100)) ⊠ (y over 81200))) ≡ round_div (50000 * b.total * y) (203 * b.upper)
    go y = corrected upper b y 81200 (50000 * b.total * y) (203 * b.upper) p (omega arith) (omega arith) (omega arith)

-- AT MOST 100.00 %
small : (n d : ℕ) → 0 < d → n ≤ 10000 * d → (round_div n d).value ≤ 10000
unfolding round_div rounded_value
small n d h l = round_mono n d 10000 1 h (omega arith) (omega arith)

module _ (b : Blend) (t : ℕ) (w : Within b) (some : 0 < b.total) (warm : t ≤ 20000) where
  pub lower-most : (rounded_blend_limit lower b t).value ≤ 10000
  lower-most =
      let cold : 127700 - t ≤ 127700 = omega arith in
      let m = mul-le-mul_left b.total cold in
      rw (← lower-figure b t (omega arith)) (small _ _ (omega arith) (omega arith))

  pub upper-most : (rounded_blend_limit upper b t).value ≤ 10000
  upper-most =
      let hot : t + 78700 ≤ 98700 = omega arith in
      let m = mul-le-mul_left b.total hot in
      rw (← upper-figure b t (omega arith)) (small _ _ (omega arith) (omega arith))

pub ruleset figures = (lower-figure, upper-figure, lower-most, upper-most)

-- an admitted temperature is small
pub inside_small : (t : ℤ) → gas_outside t ≡ false → nat_abs t ≤ 20000
inside_small t e = (inside_is 20000 t e).1
