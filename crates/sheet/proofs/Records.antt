-- Laws of a sheet's records: the fields of one by their positions, and how records are added in order.
use mathlib.Core.Path.{◌≡◌, refl, sym, ◌∙◌}
use mathlib.Core.Bool.{true, ◌&&◌}
use mathlib.Core.List.{List, [], ◌∷◌}
use Prim.Native.Nat.{ℕ, suc, ◌+◌, ◌-◌, ◌≤◌}
use native.Mathlib.Omega.{arith}
use lib.ListN.{length, take, drop}
use Rattle.std.specs.Prelude.{None}
use Rattle.std.specs.List.{list_all}
use Rattle.std.specs.Iterator.Adapters.{enumerate_source, enumerate_count}
use Rattle.std.specs.declared.iter.Enumerate.{Enumerate}
use Rattle.std.proofs.lemmas.List.{length-take-le}
use Rattle.std.proofs.lemmas.List.Recursion.{and_from_places}
use Rattle.answer.specs.declared.Refusal.{Refusal}
use Rattle.answer.specs.Outcome.{Outcome, refused, answered}
use Rattle.answer.proofs.Tests.{both}
use Rattle.csv_form.specs.declared.Span.{Span}
use Rattle.csv_form.specs.declared.Lines.{Lines}
use Rattle.csv_form.specs.Lines.{comma, field_at, left}
use Rattle.csv_form.specs.Sheet.{records, first_bad_record}
use Rattle.csv_form.proofs.Spans.{span-order}
use Rattle.csv_form.proofs.Fields.{field-here, field-later}
use Rattle.csv_form.proofs.Sheets.{all-good}
use Rattle.blend.specs.declared.Blend.{Blend}
use Rattle.blend.specs.Fuel.{text}
use Rattle.blend.specs.Blend.{empty_blend, adding}
use Rattle.sheet.specs.Mixture.{good_mixture, record_formula, parts_field, record_parts, at_record, adding_all}

-- THE FIELDS: the first, and the second, which begins where the first says
module _ (l : List ℕ) (f p : Span) (e : f ≡ field_at l 0) (d : p ≡ field_at l f.next) where
  pub columns_order : (f.end ≤ length l) × (f.next ≤ p.end) × (p.end ≤ length l) × (f.next ≤ length l) × (f.end ≡ length (take f.end l))
  columns_order =
      let o = span-order comma l 0 1 (omega arith) f e in
      let q = span-order comma l f.next 1 o.2 p d in
      (o.1, q.0, q.1, o.2, sym (length-take-le f.end l o.1))

  pub formula_is : take f.end l ≡ record_formula l
  formula_is = let k : f.end - 0 ≡ f.end = omega arith in sym (rw k at (field-here l 0 (omega arith) f e))

  pub parts_is : take (p.end - f.next) (drop f.next l) ≡ parts_field l
  parts_is = sym (field-later l 0 (omega arith) f e 0 ∙ field-here l f.next columns_order.3 p d)

-- ADDING a record
abbrev adds : Blend → List ℕ → Outcome Blend
adds b l = adding b (text (record_formula l)) (record_parts l)

abbrev rows : Enumerate Lines → List (List ℕ)
rows it = left (enumerate_source it)

-- A LOOP over the records of s that has come to an iterator, with the blend b of those before
pub record Adding (s : List ℕ) (b : Blend) (it : Enumerate Lines) : Type 0 where
  pub good : list_all good_mixture (rows it) ≡ true
  pub same : adding_all empty_blend 1 (records s) ≡ adding_all b (1 + enumerate_count it) (rows it)

pub adding-starts : (s : List ℕ) (b : Blend) (it : Enumerate Lines) → first_bad_record good_mixture (records s) ≡ None → b ≡ empty_blend → rows it ≡ records s
    → enumerate_count it ≡ 0 → Adding s b it
adding-starts s b it e f g z = record {
  good = rw g (and_from_places (list_all good_mixture) good_mixture refl (λ _ _. refl) (records s) [] (all-good good_mixture (records s) e));
  same = rw (f, g, z);
}

pub adding-done : (s : List ℕ) (b : Blend) (it : Enumerate Lines) → Adding s b it → rows it ≡ [] → answered b ≡ adding_all empty_blend 1 (records s)
unfolding adding_all
adding-done s b it h e = sym (h.same ∙ rw e)

-- the turn at a row, the first of those that are left
module _ (s : List ℕ) (b : Blend) (it later : Enumerate Lines) (h : Adding s b it) (row : List ℕ) (e : rows it ≡ row ∷ rows later) where
  turned : (good_mixture row && list_all good_mixture (rows later)) ≡ true
  turned = rw e at h.good

  pub row-good : good_mixture row ≡ true
  row-good = (both (good_mixture row) (list_all good_mixture (rows later)) turned).0

  -- what adding it was answered with
  module _ (passed : ℕ) (z : passed ≡ enumerate_count it) where
    pub adding-more : (c : Blend) → answered c ≡ at_record (passed + 1) (adds b row) → enumerate_count later ≡ enumerate_count it + 1 → Adding s c later
    unfolding adding_all
    adding-more c f k =
        let here : 1 + enumerate_count it ≡ passed + 1 = omega arith in
        let next : suc (1 + enumerate_count it) ≡ 1 + enumerate_count later = omega arith in
        record {
          good = (both (good_mixture row) (list_all good_mixture (rows later)) turned).1;
          same = h.same ∙ rw (e, next) (rw (here, sym f));
        }

    pub adding-refused : (r : Refusal) → refused r ≡ at_record (passed + 1) (adds b row) → refused r ≡ adding_all empty_blend 1 (records s)
    unfolding adding_all
    adding-refused r f =
        let here : 1 + enumerate_count it ≡ passed + 1 = omega arith in
        sym (h.same ∙ rw e (rw (here, sym f)))
