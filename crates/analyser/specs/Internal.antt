-- What holds inside the conversion, of a unit of factor · 2 ^ twos parts and a reading in it. No public promise cites this file.
use Rattle.std.specs.Prelude.{◌≡◌, ℕ, ◌*◌, ◌≤◌, ◌<◌, T, Float}
use Rattle.std.specs.Float.Ieee.Positive.{num, den}
use Rattle.rounding.specs.Fraction.{whole, ◌⊠◌, ◌⊑◌}
use Rattle.analyser.specs.Reading.{is_amount, amount}

-- the two numbers are small: a float's 53 bits times the factor are below 2 ^ 63
pub record Small (factor twos : ℕ) : Type 0 where
  pub positive : 0 < factor
  pub small : factor < 1024
  pub small_twos : twos ≤ 4

-- `top` units of `scale` parts are 1,000,000 parts
pub record Top (top : Float) (scale : ℕ) : Type 0 where
  pub is_an_amount : T (is_amount top)
  pub million : scale * num top ≡ 1000000 * den top

-- x units of `scale` parts are at most 1,000,000 parts
pub record AtMostMillion (x : Float) (scale : ℕ) : Type 0 where
  pub is_an_amount : T (is_amount x)
  pub most : whole scale ⊠ amount x ⊑ whole 1000000
