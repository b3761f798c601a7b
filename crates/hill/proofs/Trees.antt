-- The Hill text of counts is the text of a formula that counts them.
use mathlib.Core.Path.{◌≡◌, refl, sym, ap, ap₂, ◌∙◌}
use mathlib.Core.Bool.{Bool, true, false}
use mathlib.Core.List.{List, [], ◌∷◌, ◌++◌, append-nil}
use Prim.Native.Nat.{ℕ, zero, suc, ◌*◌, ◌≤◌}
use native.Mathlib.Omega.{arith}
use lib.Dec.{eqb}
use borrow.Author.Tests.{eqb-true}
use Rattle.answer.proofs.Tests.{choose}
use Rattle.elements.specs.declared.Element.{Element}
use Rattle.elements.specs.declared.Element.TheVariants.{Carbon}
use Rattle.elements.specs.declared.Atoms.{Atoms}
use Rattle.elements.specs.Elements.{number, symbol, Totals, nothing, one, plus, times, count, count_at, atoms, each}
use Rattle.formula.specs.Grammar.{Count, unwritten, written, digits, value, Formula, last, next, element, totals, Reads}
use Rattle.hill.specs.Hill.{hill_order, hill_item, hill_text}
use Rattle.hill.specs.RoundTrip.{Writable}
use Rattle.elements.proofs.Elements.{number-from, number-to, count-atoms, each_at}
use Rattle.hill.proofs.Lines.{line}

-- the atoms of a list of elements, m of each
abbrev gathered : Totals → List Element → Totals
gathered m [] = nothing
gathered m (e ∷ es) = plus (times (one e) (m e)) (gathered m es)

-- of each element m are counted as often as it stands in the list
gathered-often : (m : Totals) (es : List Element) (x : Element) → gathered m es x ≡ gathered (λ _. 1) es x * m x
gathered-often m [] x = omega arith
gathered-often m (e ∷ es) x = omega (arith, go (eqb (number x) (number e)) refl, gathered-often m es x)
  where
    go : (b : Bool) → eqb (number x) (number e) ≡ b → one e x * m e ≡ one e x * m x
    go true q = ap (λ (k : ℕ). one e x * k) (sym (count-atoms m e) ∙ ap (count_at (atoms m)) (sym (eqb-true (number x) (number e) q)) ∙ count-atoms m x)
    go false q = rw q (omega arith)

-- each element stands in the order once
gathered-order : (m : Totals) (a : Atoms) (x : Element) → gathered m (hill_order a) x ≡ m x
gathered-order m a x =
    let often : Totals = gathered (λ _. 1) (hill_order a) in
    let once : atoms often ≡ each 1 = choose (λ (es : List Element). atoms (gathered (λ _. 1) es) ≡ each 1) (eqb (count a Carbon) 0) (λ _. refl) (λ _. refl) in
    let here : often x ≡ 1 = sym (count-atoms often x) ∙ ap (λ (b : Atoms). count b x) once ∙ each_at 1 (number x) (number-from x) (number-to x) in
    gathered-often m (hill_order a) x ∙ rw here (omega arith)

-- an element with its count is an item of the grammar
item : (e : Element) (n : ℕ) → suc n ≤ 200 → (c : Count) × (symbol e ++ digits c ≡ hill_item e (suc n)) × (value c ≡ suc n)
item e zero l = (unwritten, append-nil (symbol e), refl)
item e (suc n) l = (written (suc (suc n)) (omega arith) (omega arith), refl, refl)

-- t is empty where no atom is counted, or the text of a formula that counts n
data Tree (t : List ℕ) (n : Totals) : Type 0 where
  bare : t ≡ [] → ((x : Element) → n x ≡ 0) → Tree t n
  grown : (f : Formula 8) → Reads t f → ((x : Element) → totals f x ≡ n x) → Tree t n

tree : (m : Totals) → ((x : Element) → m x ≤ 200) → (es : List Element) → Tree (line m es) (gathered m es)
tree m most [] = bare refl (λ x. refl)
tree m most (e ∷ es) = step (m e) (most e) (tree m most es)
  where
    step : (n : ℕ) → n ≤ 200 → Tree (line m es) (gathered m es) → Tree (hill_item e n ++ line m es) (plus (times (one e) n) (gathered m es))
    step zero l (bare is k) = bare is (λ x. omega (arith, k x))
    step zero l (grown f is k) = grown f is (λ x. omega (arith, k x))
    step (suc n) l (bare is k) =
        let c = item e n l in
        grown (last (element e c.0)) (c.1 ∙ sym (append-nil (hill_item e (suc n))) ∙ rw is) (λ x. omega (arith, ap (λ (v : ℕ). one e x * v) c.2, k x))
    step (suc n) l (grown f is k) =
        let c = item e n l in
        grown (next (element e c.0) f) (ap₂ (λ (v w : List ℕ). v ++ w) c.1 is) (λ x. omega (arith, ap (λ (v : ℕ). one e x * v) c.2, k x))

pub record HillTree (a : Atoms) : Type 0 where
  pub formula : Formula 8
  pub reads : Reads (hill_text a) formula
  pub counts : (x : Element) → totals formula x ≡ count a x

pub hill-tree : (a : Atoms) → Writable a → HillTree a
unfolding hill_text
hill-tree a w = go (tree (count a) w.most (hill_order a))
  where
    go : Tree (hill_text a) (gathered (count a) (hill_order a)) → HillTree a
    go (bare is k) = absurd (omega (arith, w.some.1, k w.some.0, gathered-order (count a) a w.some.0))
    go (grown f is k) = record { formula = f; reads = is; counts = λ x. k x ∙ gathered-order (count a) a x }
