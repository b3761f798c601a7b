-- The grammar of formula text: its syntax, the text of a formula and the atoms that it counts (document 01, "Formula text").
use Rattle.std.specs.Prelude.{◌≡◌, List, [], ◌++◌, ℕ, suc, ◌≤◌}
use Rattle.text.specs.Bytes.{bytes}
use Rattle.text.specs.Decimal.{decimal}
use Rattle.elements.specs.declared.Element.{Element}
use Rattle.elements.specs.Elements.{symbol, Totals, one, plus, times}

-- an optional count: 1 to 999 in decimal digits, which have no leading zero; without one it is 1
pub data Count : Type 0 where
  unwritten : Count
  written : (n : ℕ) → 1 ≤ n → n ≤ 999 → Count

abbrev pub digits : Count → List ℕ
digits unwritten = []
digits (written n _ _) = decimal n

abbrev pub value : Count → ℕ
value unwritten = 1
value (written n _ _) = n

-- a formula is one or more items; an item is an element or a group, with an optional count; a group holds a formula; groups are nested at most d deep
mutual
  pub data Formula : ℕ → Type 0 where
    last : {d : ℕ} → Item d → Formula d
    next : {d : ℕ} → Item d → Formula d → Formula d

  pub data Item : ℕ → Type 0 where
    element : {d : ℕ} → Element → Count → Item d
    group : {d : ℕ} → Formula d → Count → Item (suc d)

-- their texts
abbrev mutual
  pub text : {d : ℕ} → Formula d → List ℕ
  text (last i) = item_text i
  text (next i f) = item_text i ++ text f

  pub item_text : {d : ℕ} → Item d → List ℕ
  item_text (element e n) = symbol e ++ digits n
  item_text (group f n) = bytes "(" ++ (text f ++ (bytes ")" ++ digits n))

-- their atoms: counts multiply through groups
abbrev mutual
  pub totals : {d : ℕ} → Formula d → Totals
  totals (last i) = item_totals i
  totals (next i f) = plus (item_totals i) (totals f)

  pub item_totals : {d : ℕ} → Item d → Totals
  item_totals (element e n) = times (one e) (value n)
  item_totals (group f n) = times (totals f) (value n)

-- t is the text of the formula f, whose groups are nested at most 8 deep
abbrev pub Reads : List ℕ → Formula 8 → Type 0
Reads t f = text f ≡ t

-- the language
abbrev pub FormulaText : List ℕ → Type 0
FormulaText t = (f : Formula 8) × Reads t f
