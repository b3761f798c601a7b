-- β in quarters is what the code computes of it: the terms that add less those that take away; and how large these are.
use mathlib.Core.Path.{◌≡◌, refl, sym, ap, ◌∙◌}
use mathlib.Core.Bool.{true, false}
use Rattle.std.specs.Prelude.{None}
use Prim.Native.Nat.{ℕ, zero, suc, ◌+◌, ◌*◌, ◌-◌, ◌≤◌, ◌<◌}
use native.Mathlib.Decide.{dec_lt}
use native.Mathlib.Omega.{arith}
use borrow.Author.Tests.{lt-ltb, le-ltb}
use lib.IntN.{ℤ, pos, neg_ℤ, nat_abs, ◌+ℤ◌, ◌-ℤ◌, +ℤ_assoc, +ℤ_comm, neg_ℤ-+ℤ}
use lib.Signed.{lt_z}
use Rattle.answer.proofs.Tests.{never}
use Rattle.elements.specs.declared.Element.TheVariants.{Carbon, Hydrogen, Oxygen, Sulfur, Phosphorus, Fluorine, Chlorine, Bromine}
use Rattle.elements.specs.declared.Atoms.{Atoms}
use Rattle.elements.specs.Elements.{count, each, first_above, sum_below, weighted_sum}
use Rattle.elements.proofs.Above.{at-most-200}
use Rattle.elements.specs.Internal.{AtMost200}
use Rattle.oxygen.specs.Beta.{halogens, beta}
use Rattle.elements.proofs.Weights.{weighted-few}
use Rattle.oxygen.specs.Internal.{gain, loss, added, taken}

-- sums of integers in another order
exchanged : (m k n : ℤ) → m +ℤ k +ℤ n ≡ m +ℤ n +ℤ k
exchanged m k n = +ℤ_assoc m k n ∙ ap (λ (z : ℤ). m +ℤ z) (+ℤ_comm k n) ∙ sym (+ℤ_assoc m n k)

regrouped : (c h x o p : ℕ) → pos c +ℤ (pos h -ℤ pos x) -ℤ pos o +ℤ pos p ≡ pos (c + h + p) -ℤ pos (x + o)
regrouped c h x o p =
    ap (λ (z : ℤ). z -ℤ pos o +ℤ pos p) (sym (+ℤ_assoc (pos c) (pos h) (neg_ℤ (pos x))))
    ∙ ap (λ (z : ℤ). z +ℤ pos p) (+ℤ_assoc (pos (c + h)) (neg_ℤ (pos x)) (neg_ℤ (pos o)))
    ∙ exchanged (pos (c + h)) (neg_ℤ (pos x) -ℤ pos o) (pos p)
    ∙ ap (λ (z : ℤ). pos (c + h + p) +ℤ z) (sym (neg_ℤ-+ℤ (pos x) (pos o)))

-- a difference of naturals
difference : (n m : ℕ) → m ≤ n → pos n -ℤ pos m ≡ pos (n - m)
difference n zero h = ap pos (omega arith)
difference n (suc m) h = rw (le-ltb n (suc m) h)

difference_low : (n m : ℕ) → n < m → lt_z (pos n -ℤ pos m) (pos 2) ≡ true
difference_low n zero h = absurd (omega arith)
difference_low n (suc m) h = rw (lt-ltb n (suc m) h)

-- with no count above 200
module _ (a : Atoms) (few : AtMost200 a) where
  pub added_is : weighted_sum added a ≡ gain a
  unfolding gain sum_below
  added_is = weighted-few added a few ∙ omega arith

  pub taken_is : weighted_sum taken a ≡ loss a
  unfolding loss sum_below
  taken_is = weighted-few taken a few ∙ omega arith

  pub gain-most : gain a ≤ 3800
  unfolding gain
  gain-most = omega (arith, few.most Carbon, few.most Sulfur, few.most Hydrogen, few.most Phosphorus)

  pub loss-most : loss a ≤ 1000
  unfolding loss
  loss-most = omega (arith, few.most Fluorine, few.most Chlorine, few.most Bromine, few.most Oxygen)

module _ (a : Atoms) where
  pub beta-is : beta a ≡ pos (gain a) -ℤ pos (loss a)
  unfolding beta gain loss
  beta-is = regrouped (4 * (count a Carbon + count a Sulfur)) (count a Hydrogen) (halogens a) (2 * count a Oxygen) (10 * count a Phosphorus)

  beta-from : loss a ≤ gain a → beta a ≡ pos (gain a - loss a)
  beta-from h = beta-is ∙ difference (gain a) (loss a) h

  pub beta-low : gain a < loss a + 2 → lt_z (beta a) (pos 2) ≡ true
  beta-low h = go (dec_lt (gain a) (loss a))
    where
      go : Dec (gain a < loss a) → lt_z (beta a) (pos 2) ≡ true
      go (yes l) = rw beta-is (difference_low (gain a) (loss a) l)
      go (no l) = rw (beta-from (omega arith)) (lt-ltb (gain a - loss a) 2 (omega arith))

  pub beta-high : loss a + 2 ≤ gain a → (lt_z (beta a) (pos 2) ≡ false) × (nat_abs (beta a) ≡ gain a - loss a)
  beta-high h = rw (beta-from (omega arith)) (le-ltb (gain a - loss a) 2 (omega arith), refl)

  pub beta-back : lt_z (beta a) (pos 2) ≡ false → loss a + 2 ≤ gain a
  beta-back e = go (dec_lt (gain a) (loss a + 2))
    where
      go : Dec (gain a < loss a + 2) → loss a + 2 ≤ gain a
      go (yes l) = never (lt_z (beta a) (pos 2)) (beta-low l) e
      go (no l) = omega arith

-- the sums n and m as the code makes them, where no count is above 200
module _ (a : Atoms) (few : first_above (each 200) a ≡ None) {n m : ℕ} (gained : n ≡ weighted_sum added a) (lost : m ≡ weighted_sum taken a) where
  small : AtMost200 a
  small = at-most-200 a few

  pub sums-most : (n ≤ 3800) × (m ≤ 1000)
  sums-most = (
    omega (arith, gained ∙ added_is a small, gain-most a small),
    omega (arith, lost ∙ taken_is a small, loss-most a small),
  )

  pub sums-low : n < m + 2 → lt_z (beta a) (pos 2) ≡ true
  sums-low l = beta-low a (omega (arith, gained ∙ added_is a small, lost ∙ taken_is a small))

  pub sums-high : m + 2 ≤ n → (lt_z (beta a) (pos 2) ≡ false) × (nat_abs (beta a) ≡ n - m)
  sums-high l = rw (gained ∙ added_is a small, lost ∙ taken_is a small) (beta-high a (omega (arith, gained ∙ added_is a small, lost ∙ taken_is a small)))
