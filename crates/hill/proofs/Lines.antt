-- The pieces of a Hill text: an item by its count, its length, and the line that holds the items so far.
use mathlib.Core.Path.{◌≡◌, refl, sym, ap, ◌∙◌}
use mathlib.Core.List.{List, [], ◌∷◌, ◌++◌, map, append_assoc, append-nil}
use Prim.Native.Nat.{ℕ, zero, suc, ◌+◌, ◌≤◌, ◌<◌}
use native.Mathlib.Numerals.{add-one}
use native.Mathlib.Omega.{arith}
use lib.Dec.{eqb}
use lib.ListN.{length, take, get_or, length-append}
use lib.Seq.{take-suc, take_all}
use Rattle.answer.proofs.Tests.{choose}
use Rattle.text.specs.Decimal.{decimal}
use Rattle.text.specs.Internal.{Appends}
use Rattle.text.proofs.Decimals.{decimal-short}
use Rattle.elements.specs.declared.Element.{Element}
use Rattle.elements.specs.declared.Element.TheVariants.{Carbon}
use Rattle.elements.specs.declared.Atoms.{Atoms}
use Rattle.elements.specs.Elements.{symbol, Totals, count}
use Rattle.elements.specs.Internal.{AtMost200}
use Rattle.hill.specs.Hill.{hill_order, hill_item, joined, hill_text}

order-ten : (a : Atoms) → length (hill_order a) ≡ 10
order-ten a = choose (λ (es : List Element). length es ≡ 10) (eqb (count a Carbon) 0) (λ _. refl) (λ _. refl)

-- an item by its count
pub item-one : (e : Element) (n : ℕ) → n ≡ 1 → hill_item e n ≡ symbol e
item-one e zero z = absurd (omega arith)
item-one e (suc zero) z = refl
item-one e (suc (suc n)) z = absurd (omega arith)

pub item-more : (e : Element) (n : ℕ) → 1 < n → hill_item e n ≡ symbol e ++ decimal n
item-more e zero l = absurd (omega arith)
item-more e (suc zero) l = absurd (omega arith)
item-more e (suc (suc n)) l = refl

-- its length: the symbol's, and at most 3 digits
item-short : (e : Element) (n : ℕ) → n ≤ 200 → length (hill_item e n) ≤ length (symbol e) + 3
item-short e zero l = omega arith
item-short e (suc zero) l = omega arith
item-short e (suc (suc n)) l = omega (arith, length-append (symbol e) (decimal (suc (suc n))), decimal-short (suc (suc n)) (omega arith))

-- THE LINE of some elements: their items, one after the other
abbrev pub line : Totals → List Element → List ℕ
line m es = joined (map (λ e. hill_item e (m e)) es)

-- at most so many bytes: of each element its symbol, and 3 digits
abbrev longest : List Element → ℕ
longest [] = 0
longest (e ∷ es) = length (symbol e) + 3 + longest es

-- also the line of the first i elements
line-short : (m : Totals) → ((x : Element) → m x ≤ 200) → (i : ℕ) (es : List Element) → length (line m (take i es)) ≤ longest es
line-short m most zero es = omega arith
line-short m most (suc i) [] = omega arith
line-short m most (suc i) (e ∷ es) = omega (arith, length-append (hill_item e (m e)) (line m (take i es)), item-short e (m e) (most e), line-short m most i es)

-- 13 bytes of symbols, and 3 digits for each of ten elements
first_short : (a : Atoms) → AtMost200 a → (i : ℕ) → length (line (count a) (take i (hill_order a))) ≤ 43
first_short a few i =
    let all : longest (hill_order a) ≡ 43 = choose (λ (es : List Element). longest es ≡ 43) (eqb (count a Carbon) 0) (λ _. refl) (λ _. refl) in
    omega (arith, line-short (count a) few.most i (hill_order a))

pub hill-short : (a : Atoms) → AtMost200 a → length (hill_text a) ≤ 43
unfolding hill_text
hill-short a few = omega (arith, first_short a few 10, ap (λ (es : List Element). length (line (count a) es)) (take_all 10 (hill_order a) (omega (arith, order-ten a))))

line-snoc : (m : Totals) (es : List Element) (e : Element) → line m (es ++ e ∷ []) ≡ line m es ++ hill_item e (m e)
line-snoc m [] e = append-nil (hill_item e (m e))
line-snoc m (f ∷ es) e = ap (λ (w : List ℕ). hill_item f (m f) ++ w) (line-snoc m es e) ∙ sym (append_assoc (hill_item f (m f)) (line m es) (hill_item e (m e)))

-- the line of the first i elements, and the item of the next one appended to it
module _ (a : Atoms) (few : AtMost200 a) (i : ℕ) {l new : List ℕ} (held : l ≡ line (count a) (take i (hill_order a))) where
  pub line-more : i < 10 → Appends 43 l (hill_item (get_or (hill_order a) i Carbon) (count a (get_or (hill_order a) i Carbon))) new
      → new ≡ line (count a) (take (i + 1) (hill_order a))
  line-more h g =
      let e = get_or (hill_order a) i Carbon in
      let item = hill_item e (count a e) in
      let next : line (count a) (take (i + 1) (hill_order a)) ≡ line (count a) (take i (hill_order a)) ++ item =
      rw (add-one i, take-suc (hill_order a) i Carbon (omega (arith, order-ten a))) (line-snoc (count a) (take i (hill_order a)) e) in
      let short : length (line (count a) (take i (hill_order a))) + length item ≤ 43 = omega (arith, first_short a few (i + 1), ap length next, length-append (line (count a) (take i (hill_order a))) item) in
      g.gives (rw held short) ∙ rw held (sym next)

pub line-done : (a : Atoms) (i : ℕ) {l : List ℕ} → l ≡ line (count a) (take i (hill_order a)) → 10 ≤ i → l ≡ hill_text a
unfolding hill_text
line-done a i held h = held ∙ ap (line (count a)) (take_all i (hill_order a) (omega (arith, order-ten a)))
