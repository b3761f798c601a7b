-- The search for the lowest element with more than n atoms: what it finds by the counts, and what the counts are by what it finds.
use mathlib.Core.Path.{◌≡◌, refl, sym, ap, ◌∙◌, subst}
use mathlib.Core.Bool.{Bool, true, false}
use Rattle.std.specs.Prelude.{Option, Some, None}
use Prim.Native.Nat.{ℕ, ◌+◌, ◌-◌, ◌≤◌, ◌<◌}
use native.Mathlib.Omega.{arith}
use lib.Dec.{ltb}
use Rattle.std.specs.Prelude.{length, min, zip}
use Rattle.std.specs.List.{position}
use Rattle.std.specs.Option.{option_map}
use Rattle.std.proofs.lemmas.Slice.Zip.{get_or-zip, length-zip}
use borrow.Author.Tests.{lt-ltb, le-ltb, ltb-true, ltb-false}
use Rattle.answer.specs.Lowest.{lowest, Passes, IsLowest}
use Rattle.answer.proofs.Tests.{never}
use Rattle.answer.proofs.Lowest.{is-lowest, only-lowest, position-lowest}
use Rattle.elements.specs.declared.Element.{Element}
use Rattle.elements.specs.declared.Atoms.{Atoms}
use Rattle.elements.specs.Internal.{AtMost200}
use Rattle.elements.specs.Elements.{number, count, count_at, each, first_above, is_empty}
use Rattle.elements.proofs.Elements.{number-from, number-to, numbered, each_at}

-- where no count is above its bound
pub none_above : (bounds a : Atoms) → first_above bounds a ≡ None → (k : ℕ) → 1 ≤ k → k ≤ 10 → count_at a k ≤ count_at bounds k
unfolding first_above
none_above bounds a e k l h = ltb-false (count_at bounds k) (count_at a k) (rw e at (is-lowest (λ j. ltb (count_at bounds j) (count_at a j)) 1 10) k l (omega arith))

-- the same bound n for each element
module _ (n : ℕ) (a : Atoms) where
  abbrev test : ℕ → Bool
  test k = ltb (count_at (each n) k) (count_at a k)

  test_at : (x : Element) → test (number x) ≡ ltb n (count a x)
  test_at x = ap (λ (k : ℕ). ltb k (count a x)) (each_at n (number x) (number-from x) (number-to x))

  -- the counts by what is found
  lowest-is : (o : Option ℕ) → first_above (each n) a ≡ o → IsLowest test 1 10 o
  unfolding first_above
  lowest-is o q = subst (IsLowest test 1 10) q (is-lowest test 1 10)

  fails : (x : Element) → test (number x) ≡ false → count a x ≤ n
  fails x q = ltb-false n (count a x) (sym (test_at x) ∙ q)

  pub above-some : (k : ℕ) → first_above (each n) a ≡ Some k
      → (e : Element) × (number e ≡ k) × (n < count a e) × ((x : Element) → number x < number e → count a x ≤ n)
  above-some k q =
      let p : Passes test 1 10 k = lowest-is (Some k) q in
      let e = numbered k p.from (omega (arith, p.to)) in (
        e.0,
        e.1,
        ltb-true n (count a e.0) (sym (test_at e.0) ∙ ap test e.1 ∙ p.passes),
        λ x l. fails x (p.before (number x) (number-from x) (omega (arith, e.1))),
      )

  pub above-none : first_above (each n) a ≡ None → (x : Element) → count a x ≤ n
  above-none q x = omega (arith, none_above (each n) a q (number x) (number-from x) (number-to x), each_at n (number x) (number-from x) (number-to x))

  -- what is found by the counts
  failing : (m : ℕ) → m ≤ 11 → ((x : Element) → number x < m → count a x ≤ n) → (j : ℕ) → 1 ≤ j → j < m → test j ≡ false
  failing m h f j l k =
      let e = numbered j l (omega arith) in
      ap test (sym e.1) ∙ test_at e.0 ∙ le-ltb n (count a e.0) (f e.0 (omega (arith, e.1)))

  pub only_above : (e : Element) → n < count a e → ((x : Element) → number x < number e → count a x ≤ n) → first_above (each n) a ≡ Some (number e)
  unfolding first_above
  only_above e l f = only-lowest test 1 10 (Some (number e)) (record {
    from = number-from e;
    to = omega (arith, number-to e);
    passes = test_at e ∙ lt-ltb n (count a e) l;
    before = failing (number e) (omega (arith, number-to e)) f;
  })

  pub no_above : ((x : Element) → count a x ≤ n) → first_above (each n) a ≡ None
  unfolding first_above
  no_above f = only-lowest test 1 10 None (failing 11 (omega arith) (λ x l. f x))

-- no atoms at all
module _ (a : Atoms) where
  pub is-empty : first_above (each 0) a ≡ None → is_empty a ≡ true
  unfolding is_empty
  is-empty e = rw e

  pub not-empty : (k : ℕ) → first_above (each 0) a ≡ Some k → is_empty a ≡ false
  unfolding is_empty
  not-empty k e = rw e

  pub has-atoms : (e : Element) → 0 < count a e → is_empty a ≡ false
  has-atoms e l = go (first_above (each 0) a) refl
    where
      go : (o : Option ℕ) → first_above (each 0) a ≡ o → is_empty a ≡ false
      go (Some k) q = not-empty k q
      go None q = absurd (omega (arith, above-none 0 a q e))

  pub some-element : is_empty a ≡ false → (e : Element) × (0 < count a e)
  some-element h = go (first_above (each 0) a) refl
    where
      go : (o : Option ℕ) → first_above (each 0) a ≡ o → (e : Element) × (0 < count a e)
      go (Some k) q = let e = above-some 0 a k q in (e.0, e.2)
      go None q = never (is_empty a) (is-empty q) h

-- no count above 200
pub at-most-200 : (a : Atoms) → first_above (each 200) a ≡ None → AtMost200 a
at-most-200 a n = record { most = above-none 200 a n }

-- by the index that is found in both lists
pub above-by-index : (bounds a : Atoms) → length (zip bounds.count a.count) ≡ 10 →
    option_map (λ i. i + 1) (position (λ p. ltb p.0 p.1) (zip bounds.count a.count)) ≡ first_above bounds a
unfolding first_above
above-by-index bounds a ten =
    let both = zip bounds.count a.count in
    let lengths : min (length bounds.count) (length a.count) ≡ 10 = sym (length-zip bounds.count a.count) ∙ ten in
    let test : ℕ → Bool = λ k. ltb (count_at bounds k) (count_at a k) in
    let found : option_map (λ i. i + 1) (position (λ p. ltb p.0 p.1) both) ≡ lowest test 1 (length both) =
    position-lowest (λ p. ltb p.0 p.1) (0, 0) test 1 both (λ i l.
    let at : 1 + i - 1 ≡ i = omega arith in
    rw at (ap (λ (p : ℕ × ℕ). ltb p.0 p.1) (sym (get_or-zip bounds.count a.count i (0, 0) (omega (arith, ten, lengths, l)) (omega (arith, ten, lengths, l)))))) in
    found ∙ ap (lowest test 1) ten
