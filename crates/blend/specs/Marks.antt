-- Marks of blends (document 02, change request k), beside the claim of specs/Claims.antt: blends that took in the same entries are answered alike, marks too.
use Rattle.std.specs.Prelude.{◌≡◌, ℕ, ◌≤◌, ◌<◌}
use mathlib.Core.List.{List, Permᴰ}
use Rattle.blend.specs.Blend.{Question, asking_marked}
use Rattle.blend.specs.Calls.{Call}
use Rattle.blend.specs.Model.{Entries, total, model_asks_marked}
use Rattle.blend.specs.Claims.{blends, entries, scaled, Different, Route}

pub record MarksAlike (calls : List Call) : Type 0 where
  -- every question is answered, with its marks, by the exact fractions over all that the blend took in
  pub by_entries : (i : ℕ) (q : Question) → asking_marked (blends calls i) q ≡ model_asks_marked (entries calls i) q
  -- blends of one list or of two that took in the same entries, in any order, answer alike
  pub alike : (others : List Call) (i j : ℕ) → Permᴰ (entries calls i) (entries others j) →
      (q : Question) → asking_marked (blends calls i) q ≡ asking_marked (blends others j) q
  -- also when all parts of one are multiplied by a whole factor above zero
  pub multiplied : (others : List Call) (i j k : ℕ) → 0 < k → Permᴰ (entries calls i) (scaled k (entries others j)) →
      (q : Question) → asking_marked (blends calls i) q ≡ asking_marked (blends others j) q
  -- and the blend that is left of every route for some entries answers as all of them
  pub routes : (all : Entries) (bs : List ℕ) (es : Entries) (w : ℕ) → Different bs → Route w bs es calls → Permᴰ all es →
      total all ≤ 1000000 → (q : Question) → asking_marked (blends calls w) q ≡ model_asks_marked all q
