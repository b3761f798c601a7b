-- Signed numbers: sizes of negations, sums, products and differences; what fits and what is read back.
use mathlib.Core.Path.{◌≡◌, refl, sym, ap, ◌∙◌}
use mathlib.Core.Bool.{Bool, true, false}
use Prim.Native.Nat.{ℕ, zero, suc, ◌+◌, ◌*◌, ◌-◌, ◌^◌, ◌<◌, ◌≤◌}
use native.Mathlib.Nat.{le_refl, zero-mul}
use native.Mathlib.Numerals.{add-one}
use native.Mathlib.Omega.{arith}
use lib.Dec.{ltb, eqb}
use lib.IntN.{ℤ, pos, negsuc, neg_ℤ, neg_ℤ-+ℤ, nat_abs, sub_ℕ, ◌+ℤ◌, ◌-ℤ◌, ◌*ℤ◌}
use lib.Signed.{mag, lt_z}
use borrow.Author.Tests.{ltb-true, ltb-false, le-ltb, lt-ltb, ne_eqb}
use mir.Syntax.{Width, w64}
use mir.Val.{SFits, hbits, to_z, of_z}
use mir.Facts.{to_z-of_z}

-- below zero, where −1 − z swaps the two halves of a signed type
pub flip-neg : (z : ℤ) → lt_z z (pos 0) ≡ true → negsuc 0 -ℤ z ≡ pos (mag z)
flip-neg (pos n) h = absurd (omega (arith, ltb-true n 0 h))
flip-neg (negsuc n) h = rw (le-ltb (suc n) 1 (omega arith)) (ap pos (omega arith))

pub size-neg : (z : ℤ) → lt_z z (pos 0) ≡ true → mag z + 1 ≡ nat_abs z
size-neg (pos n) h = absurd (omega (arith, ltb-true n 0 h))
size-neg (negsuc n) h = add-one n

-- not below zero
pub flip-pos : (n : ℕ) → negsuc 0 -ℤ pos n ≡ negsuc n
flip-pos zero = refl
flip-pos (suc n) = ap negsuc (omega arith)

pub size-pos : (z : ℤ) → lt_z z (pos 0) ≡ false → pos (nat_abs z) ≡ z
size-pos (pos n) h = refl
size-pos (negsuc n) h = cc

-- negations
pub size-flip : (z : ℤ) → nat_abs (neg_ℤ z) ≡ nat_abs z
size-flip (pos zero) = refl
size-flip (pos (suc n)) = refl
size-flip (negsuc n) = refl

pub size-neg-is : (n : ℕ) → nat_abs (neg_ℤ (pos n)) ≡ n
size-neg-is n = size-flip (pos n)

pub neg_is : (n : ℕ) → 0 < n → negsuc (n - 1) ≡ neg_ℤ (pos n)
neg_is zero h = absurd (omega arith)
neg_is (suc n) h = ap negsuc (omega arith)

pub pos-not-neg : (a b : ℕ) → 0 < b → pos a ≡ neg_ℤ (pos b) → ⊥
pos-not-neg a zero h e = omega arith
pos-not-neg a (suc b) h e = let z : ◌≡◌ {A = ℕ} 0 1 = cc in omega arith

pub neg-times : (a b : ℕ) → neg_ℤ (pos a) *ℤ pos b ≡ neg_ℤ (pos (a * b))
neg-times zero b = rw zero-mul
neg-times (suc a) b = refl

-- differences
size-sub : (a b : ℕ) → nat_abs (sub_ℕ a b) ≡ (a - b) + (b - a)
size-sub a b = go (ltb a b) refl
  where
    go : (t : Bool) → ltb a b ≡ t → nat_abs (sub_ℕ a b) ≡ (a - b) + (b - a)
    go true e = rw e (omega (arith, ltb-true a b e))
    go false e = rw e (omega (arith, ltb-false a b e))

pub size-diff : (a b : ℕ) → nat_abs (pos a -ℤ pos b) ≡ (a - b) + (b - a)
size-diff a zero = omega arith
size-diff a (suc b) = size-sub a (suc b)

pub size-diff-neg : (a b : ℕ) → nat_abs (neg_ℤ (pos a) -ℤ neg_ℤ (pos b)) ≡ (a - b) + (b - a)
size-diff-neg a b = ap nat_abs (sym (neg_ℤ-+ℤ (pos a) (neg_ℤ (pos b)))) ∙ size-flip (pos a -ℤ pos b) ∙ size-diff a b

-- sums and products
pub size-add : (x y : ℤ) → nat_abs (x +ℤ y) ≤ nat_abs x + nat_abs y
size-add (pos a) (pos b) = le_refl (a + b)
size-add (pos a) (negsuc b) = omega (arith, size-sub a (suc b))
size-add (negsuc a) (pos b) = omega (arith, size-sub b (suc a))
size-add (negsuc a) (negsuc b) = omega arith

pub size-mul : (x y : ℤ) → nat_abs (x *ℤ y) ≡ nat_abs x * nat_abs y
size-mul (pos a) (pos b) = refl
size-mul (pos a) (negsuc b) = size-neg-is (a * suc b)
size-mul (negsuc a) (pos b) = size-neg-is (suc a * b)
size-mul (negsuc a) (negsuc b) = refl

-- what fits a signed type
pub mag-size : (z : ℤ) → mag z ≤ nat_abs z
mag-size (pos n) = le_refl n
mag-size (negsuc n) = omega arith

pub fits-size : {w : Width} (z : ℤ) → nat_abs z < 2 ^ hbits w → SFits w z
fits-size z h = record { sfits = omega (arith, mag-size z) }

-- 0 less a size
pub zero-less : (n : ℕ) → pos 0 -ℤ pos n ≡ neg_ℤ (pos n)
zero-less zero = refl
zero-less (suc n) = rw (lt-ltb 0 (suc n) (omega arith)) (ap negsuc (omega arith))

pub less-fits : (n : ℕ) → n ≤ 2 ^ 63 → SFits w64 (pos 0 -ℤ pos n)
less-fits n l = rw (zero-less n) (go n l)
  where
    go : (k : ℕ) → k ≤ 2 ^ 63 → SFits w64 (neg_ℤ (pos k))
    go zero h = record { sfits = omega arith }
    go (suc k) h = record { sfits = omega arith }

-- a signed local holds bits: what is read back from the bits of y, where y is z and z fits
pub read_back : {w : Width} {y z : ℤ} → SFits w z → y ≡ z → to_z w (of_z w y) ≡ z
read_back {w} f e = ap (λ (x : ℤ). to_z w (of_z w x)) e ∙ to_z-of_z f

-- a test for zero is a test of bits
pub zero_test : (z : ℤ) → SFits w64 z → eqb (of_z w64 z) 0 ≡ eqb (nat_abs z) 0
zero_test (pos n) f = refl
zero_test (negsuc n) f = ne_eqb (2 ^ 64 - suc n) 0 (λ e. omega arith) ∙ sym (ne_eqb (suc n) 0 (λ e. omega arith))
