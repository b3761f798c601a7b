-- The stoichiometric fraction as one quotient of whole numbers.
use mathlib.Core.Path.{◌≡◌}
use Prim.Native.Nat.{ℕ, ◌+◌, ◌*◌}
use native.Mathlib.Omega.{arith}
use Rattle.rounding.specs.Round.{round_div}
use Rattle.rounding.specs.Fraction.{whole, ◌⊠◌, rounded}
use Rattle.rounding.proofs.Fractions.{Is, is-over, is_whole, is-plus, is-times, is-by, is_same, rounded-is}
use Rattle.oxygen.specs.Stoichiometric.{stoichiometric}

percent-is : (q : ℕ) → Is (whole 100 ⊠ stoichiometric q) 1000000 (121 * q + 100)
unfolding stoichiometric
percent-is q =
    let quarters = is-times (is-over 484 100 (omega arith)) (is-over q 4 (omega arith)) in
    let term = is_same {m = 121 * q} {e = 100} quarters (omega arith) (omega arith) in
    let sum = is-plus term (is_same {m = 100} {e = 100} (is_whole 1) (omega arith) (omega arith)) in
    is_same (is-times (is_whole 100) (is-by (is_whole 100) sum (omega arith))) (omega arith) (omega arith)

pub percent_rounded : (q : ℕ) → rounded (whole 100 ⊠ stoichiometric q) ≡ round_div 1000000 (121 * q + 100)
percent_rounded q = rounded-is (percent-is q)
