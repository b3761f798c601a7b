-- Every route: what the blends that take part hold, with what is still to be added, is the same throughout.
use mathlib.Core.Path.{◌≡◌, refl, sym, ap, ◌∙◌}
use mathlib.Core.Bool.{Bool, true, false}
use mathlib.Core.List.{List, [], ◌∷◌, Memᴰ}
use Prim.Native.Nat.{ℕ, ◌+◌, ◌≤◌, ◌<◌}
use native.Mathlib.Omega.{arith}
use lib.Dec.{ltb}
use borrow.Author.Tests.{lt-ltb, le-ltb, ltb-true, ltb-false}
use Rattle.blend.specs.Calls.{Call, Answer, next, answers, after}
use Rattle.blend.specs.Model.{Entry, entry, Entries, sum, total, model}
use Rattle.blend.specs.Claims.{Different, Route, left, adds, joins, besides, own_answers, refused_somewhere, model_answers, entries}
use Rattle.blend.proofs.Sums.{parts}
use Rattle.blend.proofs.Refusals.{Appends, add-appends, join-appends}
use Rattle.blend.proofs.Over.{over, over_none, over-one, over-without, different-without}
use Rattle.blend.proofs.Pages.{tally, Small, appended, tally-more, small-appended, next_small, beside-tally}

-- the rest of a route, calls cs, from some entries on; own takes the answers to its own calls from those to all
record Arrives (w : ℕ) (bs : List ℕ) (es : Entries) (cs : List Call) (own : List Answer → List Answer) (pages : ℕ → Entries) : Type 0 where
  refused : refused_somewhere (own (answers model pages cs)) ≡ ltb 1000000 (tally parts pages bs + total es)
  has : tally parts pages bs + total es ≤ 1000000 → (f : Entry → ℕ) → sum f (after model pages cs w) ≡ tally f pages bs + sum f es

-- one call more, its own
module _ (pages : ℕ → Entries) (small : Small pages) (c : Call) (i : ℕ) (r : Entries) (step : Appends pages c i r)
    {w : ℕ} {bs rest : List ℕ} {es fs : Entries} {cs : List Call} (m : Memᴰ i rest) (d : Different rest)
    (keeps : (f : Entry → ℕ) → tally f pages rest + sum f r + sum f fs ≡ tally f pages bs + sum f es)
    (own more : List Answer → List Answer) (first : (a : Answer) (rest : List Answer) → more (a ∷ rest) ≡ a ∷ own rest)
    (later : Small (appended pages i r) → Arrives w rest fs cs own (appended pages i r)) where
  one_more : Arrives w bs es (c ∷ cs) more pages
  unfolding answers after refused_somewhere
  one_more = go (ltb 1000000 (total (pages i) + total r)) refl
    where
      same : (f : Entry → ℕ) → tally f (appended pages i r) rest + sum f fs ≡ tally f pages bs + sum f es
      same f = omega (arith, tally-more pages i r f m d, keeps f)

      go : (b : Bool) → ltb 1000000 (total (pages i) + total r) ≡ b → Arrives w bs es (c ∷ cs) more pages
      go true e =
          let l = ltb-true 1000000 (total (pages i) + total r) e in
          let o = over-one (λ j. total (pages j)) m in
          let k = keeps parts in
          let h : 1000000 < tally parts pages bs + total es = omega arith in
          record { refused = rw (first, step.refuses, e) (sym (lt-ltb _ _ h)); has = λ g. absurd (omega arith) }
      go false e =
          let l = ltb-false 1000000 (total (pages i) + total r) e in
          let t = later (small-appended pages i r small l) in
          record {
            refused = rw (first, step.refuses, e, step.leaves l) (t.refused ∙ ap (ltb 1000000) (same parts));
            has = λ g f. rw (step.leaves l) (t.has (rw (same parts) g) f ∙ same f);
          }

-- one call more beside it
module _ (pages : ℕ → Entries) (c : Call) {w : ℕ} {bs : List ℕ} {es : Entries} {cs : List Call} {own : List Answer → List Answer}
    (keeps : (f : Entry → ℕ) → tally f (next model pages c) bs ≡ tally f pages bs) (later : Arrives w bs es cs own (next model pages c))
    (more : List Answer → List Answer) (others : (a : Answer) (rest : List Answer) → more (a ∷ rest) ≡ own rest) where
  one-beside : Arrives w bs es (c ∷ cs) more pages
  unfolding answers after
  one-beside =
      record {
        refused = rw others (later.refused ∙ ap (λ (n : ℕ). ltb 1000000 (n + total es)) (keeps parts));
        has = λ g f. later.has (omega (arith, keeps parts)) f ∙ ap (λ (n : ℕ). n + sum f es) (keeps f);
      }

arrives : {w : ℕ} {bs : List ℕ} {es : Entries} {cs : List Call} (r : Route w bs es cs) → Different bs →
    (pages : ℕ → Entries) → Small pages → Arrives w bs es cs (own_answers r) pages
unfolding answers after refused_somewhere own_answers over sum
arrives {w} left d pages s = record { refused = sym (le-ltb 1000000 (total (pages w) + 0 + 0) (omega (arith, s w))); has = λ g f. omega arith }
arrives (adds {i = i} {f = f} {a = a} {v = v} m e r) d pages s =
    one_more pages s _ i (entry a v ∷ []) (add-appends pages i f a v e) m d (λ g. omega arith) _ _ (λ x xs. refl)
    (λ l. arrives r d (appended pages i (entry a v ∷ [])) l)
arrives (joins {i = i} {j = j} o m r) d pages s =
    let d' = different-without d o in
    one_more pages s _ i (pages j) (join-appends pages i j) m d' (λ g. omega (arith, over-without (λ x. sum g (pages x)) o)) _ _ (λ x xs. refl)
    (λ l. arrives r d' (appended pages i (pages j)) l)
arrives (besides {c = c} {bs = bs} b r) d pages s =
    one-beside pages c (λ f. beside-tally pages f bs c b) (arrives r d (next model pages c) (next_small pages c s)) _ (λ x xs. refl)

-- from no entries
module _ {w : ℕ} {bs : List ℕ} {es : Entries} {cs : List Call} (r : Route w bs es cs) (d : Different bs) where
  all_left : (f : Entry → ℕ) → tally f (λ i. []) bs + sum f es ≡ sum f es
  unfolding sum
  all_left f = omega (arith, over_none (λ i. sum f []) (λ i. refl) bs)

  from-none : Arrives w bs es cs (own_answers r) (λ i. [])
  unfolding sum
  from-none = arrives r d (λ i. []) (λ i. omega arith)

  pub route-refused : refused_somewhere (own_answers r (model_answers cs)) ≡ ltb 1000000 (total es)
  route-refused = from-none.refused ∙ ap (ltb 1000000) (all_left parts)

  pub route-has : total es ≤ 1000000 → (f : Entry → ℕ) → sum f (entries cs w) ≡ sum f es
  route-has h f = from-none.has (rw (all_left parts) h) f ∙ all_left f
