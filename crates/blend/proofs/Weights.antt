-- aβ + b of a fuel in the unit of a blend's sums: a whole number, which makes the fuel's limit and has extremes.
use mathlib.Core.Path.{◌≡◌, refl}
use mathlib.Core.Bool.{Bool, true, false}
use Prim.Native.Nat.{ℕ, ◌+◌, ◌*◌, ◌≤◌, ◌<◌}
use native.Mathlib.Omega.{arith}
use Rattle.std.proofs.lemmas.Bool.Decides.{nat_tests}
use lib.Dec.{leb}
use Rattle.rounding.specs.Fraction.{◌over◌, ◌⊞◌, ◌⊠◌}
use Rattle.rounding.proofs.Fractions.{Is, is-over, is_whole, is-plus, is-times, is-by, is_same}
use Rattle.blend.specs.Limit.{Side, lower, upper, slope, constant, divisor, limit_of}
use Rattle.blend.specs.Blend.{unit, weight, least, greatest}

pub unit-positive : (s : Side) → 0 < unit s
unit-positive lower = omega arith
unit-positive upper = omega arith

-- aβ + b over the unit u, for a and b in thousandths and β in quarters
line-is : (a b q n m u : ℕ) → 0 < u → a * q * u ≡ n * 4000 → b * u ≡ m * 1000 → Is ((a over 1000) ⊠ (q over 4) ⊞ (b over 1000)) (n + m) u
line-is a b q n m u h e f =
    is-plus
    (is_same (is-times (is-over a 1000 (omega arith)) (is-over q 4 (omega arith))) h e)
    (is_same (is-over b 1000 (omega arith)) h f)

divisor-is : (s : Side) (q : ℕ) → Is (divisor s q) (weight s q) (unit s)
unfolding divisor slope constant weight
divisor-is lower q = line-is 8684 4679 q (2171 * q) 4679 1000 (omega arith) (omega arith) (omega arith)
divisor-is upper q = go (leb q 30) refl
  where
    go : (b : Bool) → leb q 30 ≡ b → Is (divisor upper q) (weight upper q) (unit upper)
    go true e = rw e (line-is 1550 560 q (775 * q) 1120 2000 (omega arith) (omega arith) (omega arith))
    go false e = rw e (line-is 768 6554 q (384 * q) 13108 2000 (omega arith) (omega arith) (omega arith))

pub weight-positive : (s : Side) (q : ℕ) → 0 < weight s q
unfolding weight
weight-positive s q = grind (arith, nat_tests)

pub limit_is : (s : Side) (q : ℕ) → Is (limit_of s q) (100 * unit s) (weight s q)
unfolding limit_of
limit_is s q = is_same (is-by (is_whole 100) (divisor-is s q) (weight-positive s q)) (weight-positive s q) (omega arith)

-- the extremes
pub weight-least : (s : Side) (q : ℕ) → 2 ≤ q → least s ≤ weight s q
unfolding weight
weight-least s q h = grind (arith, nat_tests)

pub weight-most : (s : Side) (q : ℕ) → q ≤ 1000 → weight s q ≤ greatest s
unfolding weight
weight-most s q h = grind (arith, nat_tests)
