-- Laws of the bytes before the first place that passes a test, which the first line and the first field are, and of their span.
use mathlib.Core.Path.{◌≡◌, refl, sym, ap₂}
use mathlib.Core.Bool.{Bool, true, false, cond}
use mathlib.Core.List.{List, [], ◌∷◌}
use Prim.Native.Nat.{ℕ, suc, ◌+◌, ◌-◌, ◌≤◌, ◌<◌, min}
use native.Mathlib.Decide.{dec_le}
use native.Mathlib.Omega.{arith}
use lib.ListN.{length, take, drop, drop_of_length-le, length-drop}
use lib.Seq.{drop-drop, drop-length}
use Rattle.std.specs.Prelude.{Option, Some, None, MatchOption}
use Rattle.csv_form.specs.declared.Span.{Span}
use Rattle.csv_form.specs.Lines.{before, first_from, first, span_at}

abbrev span : ℕ → ℕ → Span
span end next = record { end = end; next = next }

-- past the end of a text nothing is left
drop-upto : (s : List ℕ) (n : ℕ) → drop (min n (length s)) s ≡ drop n s
drop-upto s n = go (dec_le n (length s))
  where
    go : Dec (n ≤ length s) → drop (min n (length s)) s ≡ drop n s
    go (yes l) = let k : min n (length s) ≡ n = omega arith in rw k
    go (no l) = let k : min n (length s) ≡ length s = omega arith in rw (k, drop-length s, drop_of_length-le s {i = n} (omega arith))

module _ (test : List ℕ → Bool) where
  pub before-yes : (s : List ℕ) → test s ≡ true → before test s ≡ []
  unfolding before
  before-yes [] e = refl
  before-yes (a ∷ s) e = rw e

  pub before-no : (a : ℕ) (s : List ℕ) → test (a ∷ s) ≡ false → before test (a ∷ s) ≡ a ∷ before test s
  unfolding before
  before-no a s e = rw e

  -- the first place is behind them
  first-place : (n : ℕ) (s : List ℕ) → MatchOption (first_from test n s) (length (before test s) ≡ length s) (λ m. n + length (before test s) ≡ m)
  unfolding first_from before
  first-place n [] = refl
  first-place n (a ∷ s) = go (test (a ∷ s)) (first_from test (suc n) s) (first-place (suc n) s)
    where
      go : (b : Bool) (r : Option ℕ) → MatchOption r (length (before test s) ≡ length s) (λ m. suc n + length (before test s) ≡ m)
          → MatchOption (cond b (Some n) r) (length (cond b [] (a ∷ before test s)) ≡ suc (length s)) (λ m. n + length (cond b [] (a ∷ before test s)) ≡ m)
      go true r h = omega arith
      go false None h = omega arith
      go false (Some m) h = omega arith

  -- they are the text's first bytes
  pub before-take : (s : List ℕ) → (take (length (before test s)) s ≡ before test s) × (length (before test s) ≤ length s)
  unfolding before
  before-take [] = (refl, omega arith)
  before-take (a ∷ s) = go (test (a ∷ s)) refl (before-take s)
    where
      go : (b : Bool) → test (a ∷ s) ≡ b → (take (length (before test s)) s ≡ before test s) × (length (before test s) ≤ length s)
          → (take (length (before test (a ∷ s))) (a ∷ s) ≡ before test (a ∷ s)) × (length (before test (a ∷ s)) ≤ length (a ∷ s))
      go true e h = rw e (refl, omega arith)
      go false e h = rw (e, h.0) (refl, omega (arith, h.1))

  -- the span by the first place
  module _ (s : List ℕ) (at gap : ℕ) where
    pub span-some : 0 < gap → (n : ℕ) → Some n ≡ first test (drop at s) → n + gap ≤ length (drop at s) → span (at + n) (at + n + gap) ≡ span_at test gap s at
    unfolding span_at
    span-some z n e l =
        let k : 0 + length (before test (drop at s)) ≡ n = rw (sym e) at (first-place 0 (drop at s)) in
        ap₂ span (omega (arith, length-drop at s)) (omega (arith, length-drop at s))

    pub span-none : None ≡ first test (drop at s) → span (length s) (length s) ≡ span_at test gap s at
    unfolding span_at
    span-none e =
        let k : length (before test (drop at s)) ≡ length (drop at s) = rw (sym e) at (first-place 0 (drop at s)) in
        ap₂ span (omega (arith, length-drop at s)) (omega (arith, length-drop at s))

  module _ (s : List ℕ) (at : ℕ) where
    abbrev bytes : ℕ → List ℕ
    bytes i = before test (drop i s)

    -- THE SPAN of those that begin within the text
    module _ (gap : ℕ) (l : at ≤ length s) (r : Span) (e : r ≡ span_at test gap s at) where
      pub sized : r.end ≡ at + length (bytes at)
      unfolding span_at
      sized = rw e (omega (arith, (before-take (drop at s)).1, length-drop at s))

      pub span-order : (at ≤ r.end) × (r.end ≤ length s) × (r.next ≤ length s)
      unfolding span_at
      span-order = rw e (omega arith, omega arith, omega arith)

      pub span-further : at < length s → 0 < gap → at < r.next
      unfolding span_at
      span-further h k = rw e (omega arith)

      pub span-bytes : take (r.end - at) (drop at s) ≡ bytes at
      span-bytes = let k : r.end - at ≡ length (bytes at) = omega (arith, sized) in rw k (before-take (drop at s)).0

      pub span-next : drop r.next s ≡ drop (length (bytes at) + gap) (drop at s)
      unfolding span_at
      span-next =
          let k : at + length (bytes at) + gap ≡ at + (length (bytes at) + gap) = omega arith in
          rw (e, drop-upto s (at + length (bytes at) + gap), k, drop-drop (length (bytes at) + gap) at s)
