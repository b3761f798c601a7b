-- What stands at the beginning of a text: an item, or a formula; or what begins one, behind which the reader is stuck, as it is in front of whatever
-- it cannot tell from what stands there.
use mathlib.Core.Path.{◌≡◌, refl, sym, ap, ap₂, ◌∙◌, subst}
use mathlib.Core.Bool.{Bool, true, false}
use mathlib.Core.List.{List, [], ◌∷◌, ◌++◌, append_assoc, append-nil}
use Prim.Native.Nat.{ℕ, zero, suc, ◌<◌}
use native.Mathlib.Omega.{arith}
use lib.Dec.{eqb}
use lib.ListN.{length, drop, length-append}
use borrow.Author.Tests.{eqb-true}
use Rattle.answer.proofs.Tests.{never}
use Rattle.text.specs.Beginning.{Begins}
use Rattle.text.specs.Reader.{at, stuck}
use Rattle.elements.specs.declared.Element.TheVariants.{Carbon}
use Rattle.elements.specs.Elements.{symbol}
use Rattle.elements.proofs.Elements.{letters}
use Rattle.formula.specs.Grammar.{unwritten, digits, Formula, last, next, Item, element, group, text, item_text, item_totals}
use Rattle.formula.specs.declared.Symbol.{Symbol}
use Rattle.formula.specs.declared.Symbol.TheVariants.{Named, Half, Absent}
use Rattle.formula.specs.Reader.{symbol_of, symbol_at, symbolic, read_element, ends, plus_read, then, items, closing, read_item, read_items}
use Rattle.formula.proofs.Unfold.{item-other, item-open, then-goes}
use Rattle.formula.proofs.Symbols.{Headed, headed, first-letter, symbol-same, absent-any}
use Rattle.formula.proofs.Counts.{Behind, counts}
use Rattle.formula.proofs.Complete.{Follows, item-long, read-items, read-item}

-- two texts that a reader in front of them cannot tell apart
abbrev pub Same : List ℕ → List ℕ → Type 0
Same r u = (at r 0 ≡ at u 0) × (ends r ≡ ends u)

same-append : (p r u : List ℕ) → Same r u → Same (p ++ r) (p ++ u)
same-append [] r u s = s
same-append (b ∷ p) r u s = (refl, refl)

same-nil : (u : List ℕ) → Same [] u → u ≡ []
same-nil [] z = refl
same-nil (b ∷ u) z = never (eqb b 41) (sym z.1) (ap (λ (k : ℕ). eqb k 41) (sym z.0))

follows_same : {d : ℕ} (i : Item d) (r u : List ℕ) → Same r u → Follows i r → Follows i u
follows_same (element e n) r u z (k, h) = (symbol-same (symbol e) (digits n ++ u) (digits n ++ r) (letters e) (sym (same-append (digits n) r u z).0) ∙ k, subst (Behind n) z.0 h)
follows_same (group f n) r u z h = subst (Behind n) z.0 h

-- a reader that is stuck in t, by what it says of a text and of what is then left
pub record Halted (L : List ℕ → Type 0) (Stuck : List ℕ → List ℕ → Type 0) (t : List ℕ) : Type 0 where
  pub front : List ℕ
  pub rest : List ℕ
  pub split : t ≡ front ++ rest
  pub starts : Begins L front
  pub stays : (u : List ℕ) → Same rest u → Stuck (front ++ u) u

data ItemAt (d : ℕ) (t : List ℕ) : Type 0 where
  item : (i : Item d) (r : List ℕ) → t ≡ item_text i ++ r → Follows i r → ItemAt d t
  no_item : Halted (λ w. (i : Item d) × (item_text i ≡ w)) (λ w u. read_item d w ≡ stuck u) t → ItemAt d t

pub data FormulaAt (d : ℕ) (t : List ℕ) : Type 0 where
  formula : (f : Formula d) (r : List ℕ) → t ≡ text f ++ r → ends r ≡ true → FormulaAt d t
  no-formula : Halted (λ w. (f : Formula d) × (text f ≡ w)) (λ w u. (k : ℕ) → length w < k → items (read_item d) k w ≡ stuck u) t → FormulaAt d t

-- AN ELEMENT, where the reader of an item reads one
element-at : (d : ℕ) (t : List ℕ) → ((u : List ℕ) → at t 0 ≡ at u 0 → read_item d u ≡ read_element u) → ItemAt d t
element-at d t reads = go t reads (symbol_at t) refl (headed t)
  where
    go : (t : List ℕ) → ((u : List ℕ) → at t 0 ≡ at u 0 → read_item d u ≡ read_element u) → (x : Symbol) → symbol_at t ≡ x → Headed t x → ItemAt d t
    go t reads (Named e) q s =
        let k = counts (drop (length (symbol e)) t) in
        let split = s ∙ ap (λ (w : List ℕ). symbol e ++ w) k.split in
        item (element e k.count) k.rest (split ∙ sym (append_assoc (symbol e) (digits k.count) k.rest)) (ap symbol_at (sym split) ∙ q, k.ends)
    go [] reads Half q (e, x, p) = absurd (omega (arith, (first-letter (symbol e) (letters e)).0, ap (λ (w : List ℕ). at w 0) p))
    go (b ∷ t) reads Half q (e, x, p) = no_item (record {
      front = b ∷ [];
      rest = t;
      split = refl;
      starts = (x, (element e unwritten, append-nil (symbol e) ∙ p));
      stays = λ u z. reads (b ∷ u) refl ∙ ap (symbolic (b ∷ u)) (ap (symbol_of b) (sym z.0) ∙ q);
    })
    go t reads Absent q s = no_item (record {
      front = [];
      rest = t;
      split = refl;
      starts = (symbol Carbon, (element Carbon unwritten, refl));
      stays = λ u z. reads u z.0 ∙ ap (symbolic u) (absent-any (at u 0) (at t 1) (at u 1) (ap (λ (b : ℕ). symbol_of b (at t 1)) (sym z.0) ∙ q));
    })

-- A FORMULA, item by item, where items are found
module _ (d : ℕ) (item_in : (t : List ℕ) → ItemAt d t) where
  stuck-first : (w u : List ℕ) → read_item d w ≡ stuck u → (k : ℕ) → length w < k → items (read_item d) k w ≡ stuck u
  stuck-first w u e zero l = absurd (omega arith)
  stuck-first w u e (suc k) l = ap (then (items (read_item d) k)) e

  -- behind the item i, in front of r, which does not end
  module _ (t r : List ℕ) (i : Item d) (split : t ≡ item_text i ++ r) (follows : Follows i r) (goes : ends r ≡ false) where
    abbrev a : List ℕ
    a = item_text i

    regroup : (p v : List ℕ) → r ≡ p ++ v → t ≡ (a ++ p) ++ v
    regroup p v s = split ∙ ap (λ (w : List ℕ). a ++ w) s ∙ sym (append_assoc a p v)

    stuck-later : (p v u : List ℕ) → r ≡ p ++ v → Same v u → ((k : ℕ) → length (p ++ u) < k → items (read_item d) k (p ++ u) ≡ stuck u)
        → (k : ℕ) → length ((a ++ p) ++ u) < k → items (read_item d) k ((a ++ p) ++ u) ≡ stuck u
    stuck-later p v u s z f zero l = absurd (omega arith)
    stuck-later p v u s z f (suc k) l =
        let g : Same r (p ++ u) = rw s (same-append p v u z) in
        ap (items (read_item d) (suc k)) (append_assoc a p u)
        ∙ ap (then (items (read_item d) k)) (read-item i (p ++ u) (follows_same i r (p ++ u) g follows))
        ∙ then-goes (items (read_item d) k) (item_totals i) (p ++ u) (sym g.1 ∙ goes)
        ∙ ap (plus_read (item_totals i)) (f k (omega (arith, item-long i, ap length (append_assoc a p u), length-append a (p ++ u))))

    more : FormulaAt d r → FormulaAt d t
    more (formula f v s e) = formula (next i f) v (regroup (text f) v s) e
    more (no-formula h) = no-formula (record {
      front = a ++ h.front;
      rest = h.rest;
      split = regroup h.front h.rest h.split;
      starts = (
        h.starts.0,
        (next i h.starts.1.0, ap (λ (w : List ℕ). a ++ w) h.starts.1.1 ∙ sym (append_assoc a h.front h.starts.0)),
      );
      stays = λ u z. stuck-later h.front h.rest u h.split z (h.stays u z);
    })

  formula-by : (k : ℕ) (t : List ℕ) → length t < k → FormulaAt d t
  formula-by zero t l = absurd (omega arith)
  formula-by (suc k) t l = go (item_in t) (λ r h. formula-by k r (omega arith))
    where
      go : ItemAt d t → ((r : List ℕ) → length r < length t → FormulaAt d r) → FormulaAt d t
      go (no_item h) later = no-formula (record {
        front = h.front;
        rest = h.rest;
        split = h.split;
        starts = (h.starts.0, (last h.starts.1.0, h.starts.1.1));
        stays = λ u z. stuck-first (h.front ++ u) u (h.stays u z);
      })
      go (item i r s f) later = end (ends r) refl
        where
          end : (b : Bool) → ends r ≡ b → FormulaAt d t
          end true e = formula (last i) r s e
          end false e = more t r i s f e (later r (omega (arith, ap length s, length-append (item_text i) r, item-long i)))

-- A GROUP, of which t stands behind the bracket
group_at : (d : ℕ) (t : List ℕ) → FormulaAt d t → ItemAt (suc d) (40 ∷ t)
unfolding read_items
group_at d t (formula f [] s e) = no_item (record {
  front = 40 ∷ text f;
  rest = [];
  split = ap (λ (w : List ℕ). 40 ∷ w) s;
  starts = (41 ∷ [], (group f unwritten, refl));
  stays = λ u z. rw (same-nil u z) (item-open d (40 ∷ (text f ++ [])) refl ∙ ap closing (read-items f [] refl));
})
group_at d t (formula f (b ∷ r) s e) =
    let k = counts r in
    let split = s ∙ ap₂ (λ (c : ℕ) (w : List ℕ). text f ++ c ∷ w) (eqb-true b 41 e) k.split ∙ sym (append_assoc (text f) (41 ∷ digits k.count) k.rest) in
    item (group f k.count) k.rest (ap (λ (w : List ℕ). 40 ∷ w) split) k.ends
group_at d t (no-formula h) = no_item (record {
  front = 40 ∷ h.front;
  rest = h.rest;
  split = ap (λ (w : List ℕ). 40 ∷ w) h.split;
  starts = (
    h.starts.0 ++ 41 ∷ [],
    (group h.starts.1.0 unwritten, ap (λ (w : List ℕ). 40 ∷ (w ++ 41 ∷ [])) h.starts.1.1 ∙ ap (λ (w : List ℕ). 40 ∷ w) (append_assoc h.front h.starts.0 (41 ∷ []))),
  );
  stays = λ u z. item-open d (40 ∷ (h.front ++ u)) refl ∙ ap closing (h.stays u z (suc (length (h.front ++ u))) (omega arith));
})

item_in : (d : ℕ) (t : List ℕ) → ItemAt d t
unfolding read_item
item_in zero t = element-at zero t (λ u e. refl)
item_in (suc d) t = go t (eqb (at t 0) 40) refl (formula-by d (item_in d) (suc (length (drop 1 t))) (drop 1 t) (omega arith))
  where
    go : (t : List ℕ) (b : Bool) → eqb (at t 0) 40 ≡ b → FormulaAt d (drop 1 t) → ItemAt (suc d) t
    go t false e f = element-at (suc d) t (λ u q. item-other (suc d) u (ap (λ (k : ℕ). eqb k 40) (sym q) ∙ e))
    go [] true e f = never false e refl
    go (b ∷ t) true e f = rw (eqb-true b 40 e) (group_at d t f)

pub formula-in : (d : ℕ) (t : List ℕ) → FormulaAt d t
formula-in d t = formula-by d (item_in d) (suc (length t)) t (omega arith)
