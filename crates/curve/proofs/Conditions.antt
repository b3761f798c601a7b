-- Conditions: that a hotter and higher point meets what a colder and lower one does, and what a condition is within its bounds.
use mathlib.Core.Path.{◌≡◌, sym, ◌∙◌}
use mathlib.Core.Bool.{Bool, true, false, cond}
use Prim.Native.Nat.{ℕ, ◌+◌, ◌*◌, ◌≤◌}
use native.Mathlib.Nat.{le_trans, le_refl, mul-le-mul, mul-le-mul_left, add-le-add}
use native.Mathlib.Omega.{arith}
use borrow.Author.Tests.{le-leb, leb-true, lt-ltb, ltb-true}
use Rattle.curve.specs.declared.Condition.{Condition}
use Rattle.curve.specs.Smallest.{Test}
use Rattle.curve.specs.Condition.{holds, bounded, test_of, met_within}
use Rattle.curve.proofs.Answers.{Grows}

module _ (c : Condition) where
  pub grows : Grows (test_of c)
  unfolding test_of holds
  grows = go (bounded c)
    where
      go : (b : Bool) → Grows (cond b (holds c) (λ t p. false))
      go true t u p q h l e = le-leb _ _ (le_trans (leb-true _ _ e) (mul-le-mul (add-le-add (mul-le-mul_left c.slope h) (le_refl c.base)) l))
      go false t u p q h l e = e

  pub within-bounds : bounded c ≡ true → c.slope * 87300 + c.base ≤ 73786976294838
  unfolding bounded
  within-bounds e = omega (arith, ltb-true ((c.slope * 87300 + c.base) * 250000) 18446744073709551616 e)

  -- up to 600.00 °C and 250,000 Pa what is computed fits
  pub factor_most : (t : ℕ) → true ≡ bounded c → t ≤ 87300 → c.slope * t + c.base ≤ 73786976294838
  factor_most t e h = omega (arith, within-bounds (sym e), mul-le-mul_left c.slope h)

  pub product_most : (t p : ℕ) → true ≡ bounded c → t ≤ 87300 → p ≤ 250000 → (c.slope * t + c.base) * p ≤ 18446744073709500000
  product_most t p e h l = omega (arith, mul-le-mul (factor_most t e h) l)

  pub met-within : (t p : ℕ) → t ≤ 87300 → p ≤ 250000 → met_within c t p ≡ test_of c t p
  unfolding met_within
  met-within t p h l = rw (le-leb _ _ h, le-leb _ _ l)

  pub met_inside : (t p : ℕ) (b : Bool) → b ≡ met_within c t p → t ≤ 87300 → p ≤ 250000 → b ≡ test_of c t p
  met_inside t p b e h l = e ∙ met-within t p h l

  -- a small enough condition is the test that it agrees with
  pub test-is : (test : Test) → c.slope * 87300 + c.base ≤ 73786976294838 → ((t p : ℕ) → holds c t p ≡ test t p) → test_of c ≡ test
  unfolding test_of bounded
  test-is test h same = rw (lt-ltb ((c.slope * 87300 + c.base) * 250000) 18446744073709551616 (omega arith)) (λ i. λ t p. same t p i)
