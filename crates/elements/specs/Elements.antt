-- The elements 1 to 10, atom counts, and weighted sums of them (document 01, "Formula text").
use Rattle.std.specs.Prelude.{Bool, true, false, List, [], ◌∷◌, map, ℕ, zero, suc, ◌+◌, ◌*◌, ◌-◌, min, eqb, ltb, get_or, replicate, Option}
use Rattle.std.specs.Option.{is_none}
use Rattle.answer.specs.Lowest.{lowest}
use Rattle.text.specs.Bytes.{bytes}
use Rattle.elements.specs.declared.Element.{Element}
use Rattle.elements.specs.declared.Element.TheVariants.{Carbon, Hydrogen, Oxygen, Nitrogen, Sulfur, Phosphorus, Fluorine, Chlorine, Bromine, Silicon}
use Rattle.elements.specs.declared.Atoms.{Atoms}

-- in their order
abbrev pub elements : List Element
elements = Carbon ∷ Hydrogen ∷ Oxygen ∷ Nitrogen ∷ Sulfur ∷ Phosphorus ∷ Fluorine ∷ Chlorine ∷ Bromine ∷ Silicon ∷ []

abbrev pub number : Element → ℕ
number Carbon = 1
number Hydrogen = 2
number Oxygen = 3
number Nitrogen = 4
number Sulfur = 5
number Phosphorus = 6
number Fluorine = 7
number Chlorine = 8
number Bromine = 9
number Silicon = 10

abbrev pub symbol : Element → List ℕ
symbol Carbon = bytes "C"
symbol Hydrogen = bytes "H"
symbol Oxygen = bytes "O"
symbol Nitrogen = bytes "N"
symbol Sulfur = bytes "S"
symbol Phosphorus = bytes "P"
symbol Fluorine = bytes "F"
symbol Chlorine = bytes "Cl"
symbol Bromine = bytes "Br"
symbol Silicon = bytes "Si"

-- how many atoms of each element there are
abbrev pub Totals : Type 0
Totals = Element → ℕ

abbrev pub nothing : Totals
nothing x = 0

abbrev pub one : Element → Totals
one e x = same (eqb (number x) (number e))
  where
    same : Bool → ℕ
    same true = 1
    same false = 0

abbrev pub plus : Totals → Totals → Totals
plus m n x = m x + n x

abbrev pub times : Totals → ℕ → Totals
times m n x = m x * n

-- atom counts, the element with number k at index k − 1
abbrev pub count_at : Atoms → ℕ → ℕ
count_at a k = get_or a.count (k - 1) 0

abbrev pub count : Atoms → Totals
count a e = count_at a (number e)

abbrev pub atoms : Totals → Atoms
atoms m = record { count = map m elements }

-- n of each element
abbrev pub each : ℕ → Atoms
each n = record { count = replicate 10 n }

-- the number of the lowest element with more atoms than its bound
unfoldable pub first_above : Atoms → Atoms → Option ℕ
first_above bounds a = lowest (λ k. ltb (count_at bounds k) (count_at a k)) 1 10

-- no atoms of any element
unfoldable pub is_empty : Atoms → Bool
is_empty a = is_none (first_above (each 0) a)

-- WEIGHTED SUMS. f 0 + f 1 + .. (n of them)
unfoldable pub sum_below : (ℕ → ℕ) → ℕ → ℕ
sum_below f zero = 0
sum_below f (suc n) = sum_below f n + f n

-- a weight for each element, times its count; a count above 200, which no question admits, is taken as 200
unfoldable pub weighted_sum : List ℕ → Atoms → ℕ
weighted_sum weights a = sum_below (λ i. get_or weights i 0 * min (get_or a.count i 0) 200) 10
