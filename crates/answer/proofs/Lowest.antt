-- Laws of the search for the lowest number that passes a test: it finds what it says, nothing else is that, and a loop's steps.
use mathlib.Core.Path.{◌≡◌, refl, sym, ap, ◌∙◌}
use mathlib.Core.Bool.{Bool, true, false, cond}
use Rattle.std.specs.Prelude.{Option, Some, None}
use Prim.Native.Nat.{ℕ, zero, suc, ◌+◌, ◌-◌, ◌≤◌, ◌<◌}
use native.Mathlib.Decide.{dec_lt}
use native.Mathlib.Omega.{arith}
use lib.ListN.{length, get_or}
use Rattle.std.specs.List.{position, position_or_len}
use Rattle.std.specs.Option.{option_map}
use Rattle.std.proofs.lemmas.Grind.{common_steps}
use Rattle.std.proofs.lemmas.List.Quantifiers.{position-Some}
use Rattle.std.proofs.lemmas.List.Sums.{fails_before_first}
use mathlib.Core.List.{List}
use Rattle.answer.specs.Lowest.{lowest, IsLowest}
use Rattle.answer.proofs.Tests.{never}

module _ (test : ℕ → Bool) where
  -- what fails at k and at each later number fails from k on
  fails-from : (k r : ℕ) → test k ≡ false → ((j : ℕ) → suc k ≤ j → j < r → test j ≡ false) → (j : ℕ) → k ≤ j → j < r → test j ≡ false
  fails-from k r e h j p q = go (dec_lt k j)
    where
      go : Dec (k < j) → test j ≡ false
      go (yes l) = h j l q
      go (no l) = let same : k ≡ j = omega arith in rw same at e

  further : (k n : ℕ) (o : Option ℕ) → test k ≡ false → IsLowest test (suc k) n o → IsLowest test k (suc n) o
  further k n (Some r) e h = record { from = omega (arith, h.from); to = omega (arith, h.to); passes = h.passes; before = fails-from k r e h.before }
  further k n None e h = fails-from k (k + suc n) e (λ j p q. h j p (omega arith))

  pub is-lowest : (k n : ℕ) → IsLowest test k n (lowest test k n)
  unfolding lowest
  is-lowest k zero = λ j p q. absurd (omega arith)
  is-lowest k (suc n) = go (test k) refl (is-lowest (suc k) n)
    where
      go : (b : Bool) → test k ≡ b → IsLowest test (suc k) n (lowest test (suc k) n) → IsLowest test k (suc n) (cond b (Some k) (lowest test (suc k) n))
      go true e h = record { from = omega arith; to = omega arith; passes = e; before = λ j p q. absurd (omega arith) }
      go false e h = further k n (lowest test (suc k) n) e h

  one-lowest : (k n : ℕ) (o u : Option ℕ) → IsLowest test k n o → IsLowest test k n u → o ≡ u
  one-lowest k n (Some r) (Some s) g h = ap Some (go (dec_lt r s) (dec_lt s r))
    where
      go : Dec (r < s) → Dec (s < r) → r ≡ s
      go (yes l) d = never (test r) g.passes (h.before r g.from l)
      go (no l) (yes m) = never (test s) h.passes (g.before s h.from m)
      go (no l) (no m) = omega arith
  one-lowest k n (Some r) None g h = never (test r) g.passes (h r g.from g.to)
  one-lowest k n None (Some s) g h = never (test s) h.passes (g s h.from h.to)
  one-lowest k n None None g h = refl

  pub only-lowest : (k n : ℕ) (o : Option ℕ) → IsLowest test k n o → lowest test k n ≡ o
  only-lowest k n o h = one-lowest k n (lowest test k n) o (is-lowest k n) h

-- tests that agree have the same lowest
pub lowest-alike : (f g : ℕ → Bool) (k n : ℕ) → ((j : ℕ) → k ≤ j → j < k + n → f j ≡ g j) → lowest f k n ≡ lowest g k n
lowest-alike f g k n e = only-lowest f k n (lowest g k n) (go (lowest g k n) (is-lowest g k n))
  where
    go : (o : Option ℕ) → IsLowest g k n o → IsLowest f k n o
    go (Some r) h = record {
      from = h.from;
      to = h.to;
      passes = e r h.from h.to ∙ h.passes;
      before = λ j p q. e j p (omega (arith, h.to)) ∙ h.before j p q;
    }
    go None h = λ j p q. e j p q ∙ h j p q

-- A loop that has come to i of the n numbers from k on: the search from there.
module _ (test : ℕ → Bool) (k n i : ℕ) where
  one_more : i < n → lowest test (k + i) (n - i) ≡ cond (test (k + i)) (Some (k + i)) (lowest test (k + (i + 1)) (n - (i + 1)))
  unfolding lowest
  one_more l =
      let left : n - i ≡ suc (n - (i + 1)) = omega arith in
      let next : suc (k + i) ≡ k + (i + 1) = omega arith in
      rw (left, next)

  pub lowest-here : i < n → test (k + i) ≡ true → lowest test (k + i) (n - i) ≡ Some (k + i)
  lowest-here l e = one_more l ∙ rw e

  pub lowest-later : i < n → test (k + i) ≡ false → lowest test (k + i) (n - i) ≡ lowest test (k + (i + 1)) (n - (i + 1))
  lowest-later l e = one_more l ∙ rw e

  pub lowest-end : n ≤ i → lowest test (k + i) (n - i) ≡ None
  unfolding lowest
  lowest-end l = let left : n - i ≡ 0 = omega arith in rw left

-- The library's search in a list: the index that it finds, counted from k.
module _ {A : Type 0} (p : A → Bool) (d : A) (test : ℕ → Bool) (k : ℕ) where
  pub position-lowest : (xs : List A) → ((i : ℕ) → i < length xs → test (k + i) ≡ p (get_or xs i d)) → option_map (λ i. i + k) (position p xs) ≡ lowest test k (length xs)
  position-lowest xs same = sym (only-lowest test k (length xs) (option_map (λ i. i + k) (position p xs)) (go (position p xs) refl))
    where
      at-index : (j : ℕ) → k ≤ j → j < k + length xs → test j ≡ p (get_or xs (j - k) d)
      at-index j l h =
          let back : k + (j - k) ≡ j = omega arith in
          sym (ap test back) ∙ same (j - k) (omega arith)

      go : (o : Option ℕ) → position p xs ≡ o → IsLowest test k (length xs) (option_map (λ i. i + k) o)
      go (Some i) e =
          let f = position-Some p xs i d e in
          let here : i + k - k ≡ i = omega arith in
          record {
            from = omega arith;
            to = omega (arith, f.0);
            passes = at-index (i + k) (omega arith) (omega (arith, f.0)) ∙ rw here f.1;
            before = λ j l h. at-index j l (omega (arith, f.0)) ∙ f.2 (j - k) (omega arith);
          }
      go None e =
          let none_before : length xs ≤ position_or_len p xs = grind (arith, common_steps) in
          λ j l h. at-index j l h ∙ fails_before_first p xs (j - k) d (omega arith)
