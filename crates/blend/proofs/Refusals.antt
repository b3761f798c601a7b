-- When the model refuses an adding or a joining, and what it keeps of one that it does not refuse.
use mathlib.Core.Path.{◌≡◌, ◌∙◌}
use mathlib.Core.Bool.{not, ◌||◌}
use mathlib.Core.List.{[], ◌∷◌, ◌++◌}
use Prim.Native.Nat.{ℕ, ◌+◌, ◌≤◌}
use lib.Dec.{ltb}
use native.Mathlib.Omega.{arith}
use Rattle.std.proofs.lemmas.Bool.Decides.{nat_tests}
use borrow.Author.Tests.{le-ltb}
use Rattle.answer.specs.Outcome.{answered}
use Rattle.elements.specs.declared.Atoms.{Atoms}
use Rattle.blend.specs.Fuel.{Fuel, admitting}
use Rattle.blend.specs.Calls.{Call, add, join, put, answer_to, next}
use Rattle.blend.specs.Model.{entry, Entries, total, model_adds, model_joins, model}
use Rattle.blend.specs.Claims.{is_refused, admitted}
use Rattle.blend.proofs.Sums.{parts, sum_one}

module _ (pages : ℕ → Entries) where
  pub add-refused : (i : ℕ) (f : Fuel) (v : ℕ) → is_refused (answer_to model pages (add i f v)) ≡ (not (admitted f) || ltb 1000000 (total (pages i) + v))
  unfolding answer_to model_adds
  add-refused i f v = grind (arith, nat_tests)

  pub join-refused : (i j : ℕ) → is_refused (answer_to model pages (join i j)) ≡ ltb 1000000 (total (pages i) + total (pages j))
  unfolding answer_to model_joins
  join-refused i j = grind (arith, nat_tests)

  -- a call that appends entries to those of blend i where the total allows it, and else is refused
  pub record Appends (c : Call) (i : ℕ) (es : Entries) : Type 0 where
    pub refuses : is_refused (answer_to model pages c) ≡ ltb 1000000 (total (pages i) + total es)
    pub leaves : total (pages i) + total es ≤ 1000000 → next model pages c ≡ put pages i (pages i ++ es)

  pub add-appends : (i : ℕ) (f : Fuel) (a : Atoms) (v : ℕ) → admitting f ≡ answered a → Appends (add i f v) i (entry a v ∷ [])
  unfolding next model_adds
  add-appends i f a v e =
      let one = sum_one parts (entry a v) in
      record { refuses = rw one (add-refused i f v ∙ rw e); leaves = λ h. rw (e, le-ltb _ _ (rw one at h)) }

  pub join-appends : (i j : ℕ) → Appends (join i j) i (pages j)
  unfolding next model_joins
  join-appends i j = record { refuses = join-refused i j; leaves = λ h. rw (le-ltb _ _ h) }
