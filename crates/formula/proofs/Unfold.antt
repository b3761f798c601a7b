-- The reader, one step at a time.
use mathlib.Core.Path.{◌≡◌, refl}
use mathlib.Core.Bool.{true, false}
use mathlib.Core.List.{List}
use Prim.Native.Nat.{ℕ, zero, suc}
use lib.Dec.{eqb}
use lib.ListN.{drop}
use Rattle.answer.proofs.Tests.{if-true, if-false}
use Rattle.text.specs.Reader.{at, Result, ok}
use Rattle.elements.specs.Elements.{Totals}
use Rattle.formula.specs.Reader.{ends, plus_read, then, closing, read_element, read_item, read_items}

-- an item that is no group, and a group
pub item-other : (d : ℕ) (t : List ℕ) → eqb (at t 0) 40 ≡ false → read_item d t ≡ read_element t
unfolding read_item read_items
item-other zero t e = refl
item-other (suc d) t e = if-false (eqb (at t 0) 40) (closing (read_items d (drop 1 t))) (read_element t) e

pub item-open : (d : ℕ) (t : List ℕ) → eqb (at t 0) 40 ≡ true → read_item (suc d) t ≡ closing (read_items d (drop 1 t))
unfolding read_item read_items
item-open d t e = if-true (eqb (at t 0) 40) (closing (read_items d (drop 1 t))) (read_element t) e

-- behind an item: the end, or more
module _ (rest : List ℕ → Result Totals) (m : Totals) (t : List ℕ) where
  pub then-ends : ends t ≡ true → then rest (ok m t) ≡ ok m t
  then-ends e = if-true (ends t) (ok m t) (plus_read m (rest t)) e

  pub then-goes : ends t ≡ false → then rest (ok m t) ≡ plus_read m (rest t)
  then-goes e = if-false (ends t) (ok m t) (plus_read m (rest t)) e
