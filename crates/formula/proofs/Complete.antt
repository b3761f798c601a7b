-- The reader finds every formula of the grammar, with its totals.
use mathlib.Core.Path.{◌≡◌, refl, sym, ap, ◌∙◌}
use mathlib.Core.Bool.{true, false}
use mathlib.Core.List.{List, [], ◌∷◌, ◌++◌, append_assoc, append-nil}
use Prim.Native.Nat.{ℕ, zero, suc, ◌≤◌, ◌<◌}
use native.Mathlib.Omega.{arith}
use native.Mathlib.Decide.{dec_lt}
use lib.Dec.{eqb}
use lib.ListN.{length, length-append}
use lib.Seq.{drop-append_seam}
use borrow.Author.Tests.{eqb-true, ne_eqb}
use Rattle.text.specs.Decimal.{digit_from}
use Rattle.text.specs.Reader.{at, ok}
use Rattle.text.proofs.Decimals.{decimal-one, decimal-two, decimal-three, digit-below, digit-above}
use Rattle.elements.specs.declared.Element.{Element}
use Rattle.elements.specs.declared.Element.TheVariants.{Carbon, Hydrogen, Oxygen, Nitrogen, Sulfur, Phosphorus, Fluorine, Chlorine, Bromine, Silicon}
use Rattle.elements.specs.Elements.{symbol, one}
use Rattle.elements.proofs.Elements.{Letters, one as one-letter, two as two-letters, letters}
use Rattle.formula.specs.Grammar.{Count, unwritten, written, digits, Formula, last, next, Item, element, group, text, item_text, totals, item_totals}
use Rattle.formula.specs.declared.Symbol.TheVariants.{Named}
use Rattle.formula.specs.Reader.{symbol_of, symbol_at, counting, symbolic, ends, plus_read, then, items, closing, read_item, read_items}
use Rattle.formula.proofs.Counts.{Behind, behind, counting-is}
use Rattle.formula.proofs.Symbols.{symbol-long}
use Rattle.formula.proofs.Unfold.{item-other, item-open, then-ends, then-goes}

-- t goes on with neither a digit nor a small letter
pub record Next (t : List ℕ) : Type 0 where
  pub digitless : digit_from 0 (at t 0) ≡ false
  pub capital : at t 0 < 97

-- as it does at the end of the text or of a group
ends_next : (t : List ℕ) → ends t ≡ true → Next t
ends_next [] e = record { digitless = digit-below 0 0 (omega arith); capital = omega arith }
ends_next (b ∷ t) e = let q = eqb-true b 41 e in record { digitless = digit-below 0 b (omega arith); capital = omega arith }

-- and where a formula begins: with a capital letter or a bracket
pub record Begin (t : List ℕ) : Type 0 where
  pub next : Next t
  pub goes : ends t ≡ false

letter-begins : (a : ℕ) (t : List ℕ) → 65 ≤ a → a ≤ 90 → Begin (a ∷ t)
letter-begins a t l h = record { next = record { digitless = digit-above 0 a (omega arith); capital = omega arith }; goes = ne_eqb a 41 (λ q. omega arith) }

letters-begin : (w t : List ℕ) → Letters w → Begin (w ++ t)
letters-begin w t (one-letter a l h) = letter-begins a t l h
letters-begin w t (two-letters a b l h k) = letter-begins a (b ∷ t) l h

begin-item : {d : ℕ} (i : Item d) (r : List ℕ) → Begin (item_text i ++ r)
begin-item (element e n) r = rw append_assoc (letters-begin (symbol e) (digits n ++ r) (letters e))
begin-item (group f n) r = record { next = record { digitless = digit-below 0 40 (omega arith); capital = omega arith }; goes = refl }

begin : {d : ℕ} (f : Formula d) (r : List ℕ) → Begin (text f ++ r)
begin (last i) r = begin-item i r
begin (next i f) r = rw append_assoc (begin-item i (text f ++ r))

-- no item is empty
pub item-long : {d : ℕ} (i : Item d) → 0 < length (item_text i)
item-long (element e n) = omega (arith, length-append (symbol e) (digits n), symbol-long e)
item-long (group f n) = omega arith

-- R MAY STAND BEHIND AN ITEM: the reader reads the item and goes no further
abbrev pub Follows : {d : ℕ} → Item d → List ℕ → Type 0
Follows (element e n) r = (symbol_at (symbol e ++ (digits n ++ r)) ≡ Named e) × Behind n (at r 0)
Follows (group f n) r = Behind n (at r 0)

-- a count begins with no letter
count_low : (c : Count) (r : List ℕ) → at r 0 < 97 → at (digits c ++ r) 0 < 97
count_low unwritten r l = l
count_low (written n p q) r l = go (dec_lt n 10) (dec_lt n 100)
  where
    go : Dec (n < 10) → Dec (n < 100) → at (digits (written n p q) ++ r) 0 < 97
    go (yes h) d = rw (decimal-one n h) (omega arith)
    go (no h) (yes k) = rw (decimal-two n (omega arith) k) (omega arith)
    go (no h) (no k) = rw (decimal-three n (omega arith) (omega arith)) (omega arith)

alone : (e : Element) (t : List ℕ) → at t 0 < 97 → symbol_at (symbol e ++ t) ≡ Named e
unfolding symbol_of
alone Carbon t l = rw (ne_eqb (at t 0) 108 (λ q. omega arith))
alone Hydrogen t l = refl
alone Oxygen t l = refl
alone Nitrogen t l = refl
alone Sulfur t l = rw (ne_eqb (at t 0) 105 (λ q. omega arith))
alone Phosphorus t l = refl
alone Fluorine t l = refl
alone Chlorine t l = refl
alone Bromine t l = refl
alone Silicon t l = refl

next-follows : {d : ℕ} (i : Item d) (r : List ℕ) → Next r → Follows i r
next-follows (element e n) r k = (alone e (digits n ++ r) (count_low n r k.capital), behind n (at r 0) k.digitless)
next-follows (group f n) r k = behind n (at r 0) k.digitless

-- THE READER goes through an item, and through a formula that ends
not-open : (w t : List ℕ) → Letters w → eqb (at (w ++ t) 0) 40 ≡ false
not-open w t (one-letter a l h) = ne_eqb a 40 (λ q. omega arith)
not-open w t (two-letters a b l h k) = ne_eqb a 40 (λ q. omega arith)

mutual
  unfolding read_items

  read-formula : {d : ℕ} (f : Formula d) (r : List ℕ) → ends r ≡ true → (k : ℕ) → length (text f) ≤ k → items (read_item d) k (text f ++ r) ≡ ok (totals f) r
  read-formula (last i) r e zero l = absurd (omega (arith, item-long i))
  read-formula {d} (last i) r e (suc k) l = ap (then (items (read_item d) k)) (read-item i r (next-follows i r (ends_next r e))) ∙ then-ends (items (read_item d) k) (item_totals i) r e
  read-formula (next i f) r e zero l = absurd (omega (arith, item-long i, length-append (item_text i) (text f)))
  read-formula {d} (next i f) r e (suc k) l =
      ap (items (read_item d) (suc k)) (append_assoc (item_text i) (text f) r)
      ∙ ap (then (items (read_item d) k)) (read-item i (text f ++ r) (next-follows i (text f ++ r) (begin f r).next))
      ∙ then-goes (items (read_item d) k) (item_totals i) (text f ++ r) (begin f r).goes
      ∙ ap (plus_read (item_totals i)) (read-formula f r e k (omega (arith, item-long i, length-append (item_text i) (text f))))

  pub read-item : {d : ℕ} (i : Item d) (r : List ℕ) → Follows i r → read_item d (item_text i ++ r) ≡ ok (item_totals i) r
  read-item {d} (element e n) r (k, h) =
      ap (read_item d) (append_assoc (symbol e) (digits n) r)
      ∙ item-other d (symbol e ++ (digits n ++ r)) (not-open (symbol e) (digits n ++ r) (letters e))
      ∙ ap (symbolic (symbol e ++ (digits n ++ r))) k
      ∙ ap (counting (one e)) (drop-append_seam (symbol e) (digits n ++ r))
      ∙ counting-is (one e) n r h
  read-item (group {d = c} f n) r h =
      item-open c (40 ∷ ((text f ++ 41 ∷ digits n) ++ r)) refl
      ∙ ap (λ (w : List ℕ). closing (read_items c w)) (append_assoc (text f) (41 ∷ digits n) r)
      ∙ ap closing (read-formula f (41 ∷ (digits n ++ r)) refl (suc (length (text f ++ 41 ∷ (digits n ++ r)))) (omega (arith, length-append (text f) (41 ∷ (digits n ++ r)))))
      ∙ counting-is (totals f) n r h

pub read-items : {d : ℕ} (f : Formula d) (r : List ℕ) → ends r ≡ true → read_items d (text f ++ r) ≡ ok (totals f) r
unfolding read_items
read-items f r e = read-formula f r e (suc (length (text f ++ r))) (omega (arith, length-append (text f) r))

-- and through a whole one
pub complete : {d : ℕ} (f : Formula d) → read_items d (text f) ≡ ok (totals f) []
complete {d} f = ap (read_items d) (sym (append-nil (text f))) ∙ read-items f [] refl
