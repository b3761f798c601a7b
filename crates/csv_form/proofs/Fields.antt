-- Laws of fields, by their positions in a line, and of tests on each byte.
use mathlib.Core.Path.{◌≡◌, refl, sym, ap, ◌∙◌}
use mathlib.Core.Bool.{Bool, true, false, cond}
use mathlib.Core.List.{List, [], ◌∷◌}
use Prim.Native.Nat.{ℕ, zero, suc, ◌+◌, ◌-◌, ◌≤◌, ◌<◌}
use native.Mathlib.Numerals.{add-one}
use native.Mathlib.Omega.{arith}
use lib.Dec.{eqb}
use lib.ListN.{length, get_or, take, drop, drop_of_length-le, length-drop}
use lib.Seq.{drop-drop, drop-cons}
use Rattle.std.specs.List.{count_by, position_from}
use Rattle.std.proofs.lemmas.List.Sums.{sum_by-cons}
use Rattle.text.specs.Bytes.{byte}
use Rattle.csv_form.specs.declared.Span.{Span}
use Rattle.csv_form.specs.Lines.{comma, push, before, first_from, field, fields, field_at}
use Rattle.csv_form.proofs.Spans.{sized, span-bytes, span-next}

-- the first comma, by each byte
pub comma-bytes : (n : ℕ) (l : List ℕ) → first_from comma n l ≡ position_from (λ b. eqb b (byte ",")) n l
unfolding first_from comma
comma-bytes n [] = refl
comma-bytes n (a ∷ l) = rw (comma-bytes (suc n) l, add-one n)

-- the fields behind the first, by what is left behind it: nothing, or a comma and more
abbrev later : List ℕ → List (List ℕ)
later [] = []
later (c ∷ l) = fields l

abbrev left : List ℕ → List ℕ
left l = drop (length (field l)) l

fields-step : (l : List ℕ) → fields l ≡ field l ∷ later (left l)
unfolding fields before
fields-step [] = refl
fields-step (a ∷ l) = go (comma (a ∷ l)) refl (fields-step l)
  where
    go : (b : Bool) → comma (a ∷ l) ≡ b → fields l ≡ field l ∷ later (left l) → fields (a ∷ l) ≡ field (a ∷ l) ∷ later (left (a ∷ l))
    go true e h = rw e
    go false e h = rw (e, h)

later-at : (l : List ℕ) (k : ℕ) → get_or (later l) k [] ≡ get_or (fields (drop 1 l)) k []
unfolding fields
later-at [] zero = refl
later-at [] (suc k) = refl
later-at (c ∷ l) k = refl

module _ (l : List ℕ) (at : ℕ) (h : at ≤ length l) (r : Span) (e : r ≡ field_at l at) where
  next-is : drop r.next l ≡ drop 1 (left (drop at l))
  next-is = span-next comma l at 1 h r e ∙ sym (drop-drop 1 (length (field (drop at l))) (drop at l))

  left-size : length (left (drop at l)) ≡ length l - r.end
  left-size = omega (arith, length-drop (length (field (drop at l))) (drop at l), length-drop at l, sized comma l at 1 h r e)

  -- each field
  pub field-here : get_or (fields (drop at l)) 0 [] ≡ take (r.end - at) (drop at l)
  field-here = rw (span-bytes comma l at 1 h r e) (ap (λ (fs : List (List ℕ)). get_or fs 0 []) (fields-step (drop at l)))

  pub field-later : (k : ℕ) → get_or (fields (drop at l)) (suc k) [] ≡ get_or (fields (drop r.next l)) k []
  field-later k = rw next-is (ap (λ (fs : List (List ℕ)). get_or fs (suc k) []) (fields-step (drop at l)) ∙ later-at (left (drop at l)) k)

-- how many, while a loop passes the bytes: one more for each comma
push-length : (a : ℕ) (fs : List (List ℕ)) → 0 < length fs → length (push a fs) ≡ length fs
push-length a [] h = absurd (omega arith)
push-length a (f ∷ fs) h = refl

pub count-more : (l : List ℕ) (i : ℕ) → i < length l → length (fields (drop i l)) ≡ cond (eqb (get_or l i 0) (byte ",")) 1 0 + length (fields (drop (i + 1) l))
unfolding fields comma
count-more l i h = rw (drop-cons l i 0 h, add-one i) (go (eqb (get_or l i 0) (byte ",")) refl)
  where
    rest : List (List ℕ)
    rest = fields (drop (suc i) l)

    go : (b : Bool) → eqb (get_or l i 0) (byte ",") ≡ b → length (cond b ([] ∷ rest) (push (get_or l i 0) rest)) ≡ cond b 1 0 + length rest
    go true e = omega arith
    go false e = push-length (get_or l i 0) rest (rw (fields-step (drop (suc i) l)) (omega arith)) ∙ omega arith

pub count-end : (l : List ℕ) (i : ℕ) → length l ≤ i → length (fields (drop i l)) ≡ 1
unfolding fields
count-end l i h = rw (drop_of_length-le l h)

-- how many in all: one more than there are commas
pub fields-count : (l : List ℕ) → length (fields l) ≡ count_by (λ b. eqb b (byte ",")) l + 1
fields-count [] = count-end [] 0 (omega arith)
fields-count (a ∷ l) = omega (arith, count-more (a ∷ l) 0 (omega arith), fields-count l, sum_by-cons (λ b. cond (eqb b (byte ",")) 1 0) a l)
