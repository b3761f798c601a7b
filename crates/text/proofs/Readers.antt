-- Laws of texts that are the same, of readers, and of where they leave a text.
use mathlib.Core.Path.{◌≡◌, refl, sym, ap, ◌∙◌}
use mathlib.Core.Bool.{Bool, true, false}
use mathlib.Core.List.{List, [], ◌∷◌}
use Rattle.std.specs.Prelude.{Some, None}
use Prim.Native.Nat.{ℕ, ◌-◌, ◌≤◌, ◌<◌}
use native.Mathlib.Omega.{arith}
use native.Mathlib.Decide.{dec_lt}
use lib.Dec.{eqb}
use lib.ListN.{length, drop, length-drop, get_or-eq_default}
use borrow.Author.Tests.{eqb-true, eq-eqb}
use Rattle.answer.proofs.Tests.{never, fails_by, both}
use Rattle.text.specs.Bytes.{same}
use Rattle.text.specs.Reader.{at, Result, left_at}

pub same-eq : (s t : List ℕ) → same s t ≡ true → s ≡ t
same-eq [] [] e = refl
same-eq [] (b ∷ t) e = never false e refl
same-eq (a ∷ s) [] e = never false e refl
same-eq (a ∷ s) (b ∷ t) e = let k = both (eqb a b) (same s t) e in rw (eqb-true a b k.0, same-eq s t k.1)

pub same_refl : (s : List ℕ) → same s s ≡ true
same_refl [] = refl
same_refl (a ∷ s) = rw (eq-eqb a a refl, same_refl s)

-- whatever tells whether two texts are equal is that test
pub same-is : (s t : List ℕ) (b : Bool) → (b ≡ true → s ≡ t) × (s ≡ t → b ≡ true) → b ≡ same s t
same-is s t true h = let e = h.0 refl in rw e (sym (same_refl t))
same-is s t false h = sym (fails_by (same s t) false (λ e. h.1 (same-eq s t e)) refl)

-- where a byte is not 0, the text goes on
pub inside : (s : List ℕ) (p : ℕ) → 0 < at s p → p < length s
inside s p l = go (dec_lt p (length s))
  where
    go : Dec (p < length s) → p < length s
    go (yes h) = h
    go (no h) = absurd (omega (arith, get_or-eq_default s 0 {n = p} (omega arith)))

-- what is left of s from p on is left at p
pub left-from : (s : List ℕ) (p : ℕ) → p ≤ length s → length s - length (drop p s) ≡ p
left-from s p l = omega (arith, length-drop p s)

-- of a reader that reads each text of L to its end, a text that it leaves before is none of L
pub not-read : {A : Type 0} (L : List ℕ → Type 0) (read : List ℕ → Result A) → ((t : List ℕ) → L t → left_at 0 (read t) ≡ None)
    → (t : List ℕ) (x : Result A) (p : ℕ) → read t ≡ x → left_at 0 x ≡ Some p → ¬ (L t)
not-read L read whole t x p e l h = let both : None ≡ Some p = sym (whole t h) ∙ ap (left_at 0) e ∙ l in cc
