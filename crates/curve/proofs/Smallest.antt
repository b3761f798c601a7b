-- Laws of the smallest number from a to b that passes a test: what it is, that nothing else is that, and how a search by halving finds it.
use mathlib.Core.Path.{◌≡◌, sym, ap, ◌∙◌}
use mathlib.Core.Bool.{Bool, true, false}
use Rattle.std.specs.Prelude.{Option, Some, None, unwrap_or}
use Prim.Native.Nat.{ℕ, ◌+◌, ◌-◌, ◌≤◌, ◌<◌}
use native.Mathlib.Decide.{dec_lt}
use native.Mathlib.Omega.{arith}
use Rattle.answer.specs.Lowest.{lowest, IsLowest}
use Rattle.answer.proofs.Lowest.{is-lowest, only-lowest}
use Rattle.answer.proofs.Tests.{never, fails_by}
use Rattle.curve.specs.Smallest.{smallest, Least}

-- r lies in the range, every number before it fails, and it passes unless it is the range's end
pub record IsSmallest (f : ℕ → Bool) (a b r : ℕ) : Type 0 where
  pub from : a ≤ r
  pub to : r ≤ b
  pub before : (j : ℕ) → a ≤ j → j < r → f j ≡ false
  pub here : r < b → f r ≡ true

module _ (f : ℕ → Bool) (a b : ℕ) (l : a ≤ b) where
  pub is-smallest : IsSmallest f a b (smallest f a b)
  unfolding smallest
  is-smallest = go (lowest f a (b - a)) (is-lowest f a (b - a))
    where
      go : (o : Option ℕ) → IsLowest f a (b - a) o → IsSmallest f a b (unwrap_or o b)
      go (Some r) h = record { from = h.from; to = omega (arith, h.to); before = h.before; here = λ _. h.passes }
      go None h = record { from = l; to = omega arith; before = λ j p q. h j p (omega arith); here = λ p. absurd (omega arith) }

  pub only-smallest : (r : ℕ) → IsSmallest f a b r → smallest f a b ≡ r
  unfolding smallest
  only-smallest r h = go (dec_lt r b)
    where
      go : Dec (r < b) → unwrap_or (lowest f a (b - a)) b ≡ r
      go (yes m) = ap (λ (o : Option ℕ). unwrap_or o b) (only-lowest f a (b - a) (Some r) (record { from = h.from; to = omega arith; passes = h.here m; before = h.before }))
      go (no m) =
          let last : b ≡ r = omega (arith, h.to) in
          ap (λ (o : Option ℕ). unwrap_or o b) (only-lowest f a (b - a) None (λ j p q. h.before j p (omega arith))) ∙ last

  -- of a test that fails at a and passes at b, it is the least
  pub smallest-least : f a ≡ false → f b ≡ true → Least f a b (smallest f a b)
  smallest-least p q = go (smallest f a b) is-smallest
    where
      here : (r : ℕ) → IsSmallest f a b r → Dec (r < b) → f r ≡ true
      here r h (yes m) = h.here m
      here r h (no m) = let same : r ≡ b = omega (arith, h.to) in rw same q

      start : (r : ℕ) → a ≤ r → f r ≡ true → Dec (a < r) → a < r
      start r h e (yes m) = m
      start r h e (no m) = let same : r ≡ a = omega arith in never (f a) (rw same at e) p

      go : (r : ℕ) → IsSmallest f a b r → Least f a b r
      go r h = let e = here r h (dec_lt r b) in record { above = start r h.from e (dec_lt a r); covered = h.to; passes = e; fails = h.before }

-- where it fails at the first, the first may be left out
pub smallest-later : (f : ℕ → Bool) (a b : ℕ) → a < b → f a ≡ false → smallest f a b ≡ smallest f (a + 1) b
smallest-later f a b l e = only-smallest f a b (omega arith) _ (further (smallest f (a + 1) b) (is-smallest f (a + 1) b (omega arith)))
  where
    first : (j : ℕ) → a ≤ j → (a + 1 ≤ j → f j ≡ false) → Dec (a < j) → f j ≡ false
    first j p h (yes m) = h (omega arith)
    first j p h (no m) = let same : j ≡ a = omega arith in rw same e

    further : (r : ℕ) → IsSmallest f (a + 1) b r → IsSmallest f a b r
    further r h = record { from = omega (arith, h.from); to = h.to; before = λ j p q. first j p (λ m. h.before j m q) (dec_lt a j); here = h.here }

-- HALVING. A test that keeps passing, from a to b, once it passes
abbrev pub Keeps : (ℕ → Bool) → ℕ → ℕ → Type 0
Keeps f a b = (t u : ℕ) → a ≤ t → t ≤ u → u ≤ b → f t ≡ true → f u ≡ true

-- what a search keeps: the test passes at the upper end and fails at the lower one, unless that lies before a
pub record Bracket (f : ℕ → Bool) (a b low high : ℕ) : Type 0 where
  pub from : a ≤ low + 1
  pub apart : low < high
  pub to : high ≤ b
  pub fails : a ≤ low → f low ≡ false
  pub passes : f high ≡ true

module _ (f : ℕ → Bool) (a b low high : ℕ) (k : Bracket f a b low high) where
  -- a number between the ends takes the place of one of them
  pub lowered : (mid : ℕ) → low < mid → mid < high → f mid ≡ true → Bracket f a b low mid
  lowered mid l h e = record { from = k.from; apart = l; to = omega (arith, k.to); fails = k.fails; passes = e }

  pub raised : (mid : ℕ) → low < mid → mid < high → f mid ≡ false → Bracket f a b mid high
  raised mid l h e = record { from = omega (arith, k.from); apart = h; to = k.to; fails = λ _. e; passes = k.passes }

  -- where nothing is left between them, the upper one is the smallest
  pub bracketed : Keeps f a b → high - low ≤ 1 → high ≡ smallest f a b
  bracketed on near =
      sym (only-smallest f a b (omega (arith, k.from, k.apart, k.to)) high (record {
        from = omega (arith, k.from, k.apart);
        to = k.to;
        before = λ j p q. fails_by (f j) (f low) (on j low p (omega arith) (omega (arith, k.apart, k.to))) (k.fails (omega arith));
        here = λ _. k.passes;
      }))
