-- Laws of numbers outside a range: by each of its ends, and what is known of a number that is not outside.
use mathlib.Core.Path.{◌≡◌, refl}
use mathlib.Core.Bool.{true, false}
use Prim.Native.Nat.{ℕ, zero, suc, ◌≤◌}
use native.Mathlib.Omega.{arith}
use lib.Dec.{ltb}
use lib.IntN.{ℤ, pos, negsuc, neg_ℤ, nat_abs}
use lib.Signed.{lt_z}
use borrow.Author.Tests.{ltb-false}
use Rattle.answer.specs.Outside.{outside}
use Rattle.answer.proofs.Tests.{never, neither}

module _ (low high n : ℤ) where
  pub outside_below : lt_z n low ≡ true → true ≡ outside low high n
  unfolding outside
  outside_below e = rw e

  pub outside_above : lt_z n low ≡ false → lt_z high n ≡ outside low high n
  unfolding outside
  outside_above e = rw e

-- of whole numbers
pub inside : (low high n : ℕ) → outside (pos low) (pos high) (pos n) ≡ false → (low ≤ n) × (n ≤ high)
unfolding outside
inside low high n e = let h = neither (ltb n low) (ltb high n) e in (ltb-false n low h.0, ltb-false high n h.1)

-- of signed ones: from 0 up, and in size
pub inside_is : (high : ℕ) (z : ℤ) → outside (pos 0) (pos high) z ≡ false → (z ≡ pos (nat_abs z)) × (nat_abs z ≤ high)
unfolding outside
inside_is high (pos n) e = (refl, (inside 0 high n e).1)
inside_is high (negsuc n) e = never true refl e

pub inside-size : (low high : ℕ) (z : ℤ) → low ≤ high → outside (neg_ℤ (pos low)) (pos high) z ≡ false → nat_abs z ≤ high
unfolding outside
inside-size low high (pos n) h e = ltb-false high n (neither (lt_z (pos n) (neg_ℤ (pos low))) (ltb high n) e).1
inside-size zero high (negsuc n) h e = never true refl e
inside-size (suc low) high (negsuc n) h e = omega (arith, ltb-false low n (neither (ltb low n) (lt_z (pos high) (negsuc n)) e).0)
