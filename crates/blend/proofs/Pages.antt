-- The model's pages, the entries of each blend: what one call leaves of their totals and of the sums over blends.
use mathlib.Core.Path.{◌≡◌, refl, ap}
use mathlib.Core.List.{List, ◌++◌, Memᴰ}
use Prim.Native.Nat.{ℕ, ◌+◌, ◌≤◌}
use native.Mathlib.Omega.{arith}
use Rattle.std.proofs.lemmas.Bool.Decides.{nat_tests}
use Rattle.answer.specs.Outcome.{value_of}
use Rattle.blend.specs.Fuel.{Fuel}
use Rattle.blend.specs.Calls.{Call, add, join, ask, put, next}
use Rattle.blend.specs.Model.{Entry, Entries, sum, total, model_adds, model_joins, model}
use Rattle.blend.specs.Claims.{Different, Beside}
use Rattle.blend.proofs.Sums.{parts, sum-append, sum_one}
use Rattle.blend.proofs.Over.{over, over-others, over-more}

-- a figure f of all entries of some blends
abbrev pub tally : (Entry → ℕ) → (ℕ → Entries) → List ℕ → ℕ
tally f pages bs = over (λ j. sum f (pages j)) bs

-- no total exceeds 1,000,000
abbrev pub Small : (ℕ → Entries) → Type 0
Small pages = (i : ℕ) → total (pages i) ≤ 1000000

module _ (pages : ℕ → Entries) (i : ℕ) (es : Entries) where
  put-here : put pages i es i ≡ es
  unfolding put
  put-here = grind (arith, nat_tests)

  put-there : (j : ℕ) → (j ≡ i → ⊥) → put pages i es j ≡ pages j
  unfolding put
  put-there j h = grind (arith, nat_tests)

  put_small : Small pages → total es ≤ 1000000 → Small (put pages i es)
  unfolding put
  put_small s h j = grind (arith, nat_tests, s j)

-- ENTRIES APPENDED to those of blend i
module _ (pages : ℕ → Entries) (i : ℕ) (es : Entries) where
  abbrev pub appended : ℕ → Entries
  appended = put pages i (pages i ++ es)

  pub tally-more : (f : Entry → ℕ) {bs : List ℕ} → Memᴰ i bs → Different bs → tally f appended bs ≡ tally f pages bs + sum f es
  tally-more f m d =
      over-more (λ j. sum f (pages j)) (λ j. sum f (appended j)) i (λ j h. rw (put-there pages i (pages i ++ es) j h)) (sum f es)
      (rw (put-here pages i (pages i ++ es)) (sum-append f (pages i) es)) m d

  pub small-appended : Small pages → total (pages i) + total es ≤ 1000000 → Small appended
  small-appended s h = put_small pages i (pages i ++ es) s (rw (sum-append parts (pages i) es) h)

-- ANY CALL
add_small : (es : Entries) (f : Fuel) (v : ℕ) → total es ≤ 1000000 → total (value_of es (model_adds es f v)) ≤ 1000000
unfolding model_adds
add_small es f v s = grind (arith, nat_tests, sum-append, sum_one)

join-small : (es fs : Entries) → total es ≤ 1000000 → total (value_of es (model_joins es fs)) ≤ 1000000
unfolding model_joins
join-small es fs s = grind (arith, nat_tests, sum-append parts es fs)

module _ (pages : ℕ → Entries) where
  pub next_small : (c : Call) → Small pages → Small (next model pages c)
  unfolding next
  next_small (add i f v) s = put_small pages i _ s (add_small (pages i) f v (s i))
  next_small (join i j) s = put_small pages i _ s (join-small (pages i) (pages j) (s i))
  next_small (ask i q) s = s

  -- beside a route, the blends that take part keep their entries
  pub beside-tally : (f : Entry → ℕ) (bs : List ℕ) (c : Call) → Beside bs c → tally f (next model pages c) bs ≡ tally f pages bs
  unfolding next Beside
  beside-tally f bs (add i g v) b = over-others _ _ i (λ j h. ap (sum f) (put-there pages i _ j h)) bs b
  beside-tally f bs (join i k) b = over-others _ _ i (λ j h. ap (sum f) (put-there pages i _ j h)) bs b
  beside-tally f bs (ask i q) b = refl
