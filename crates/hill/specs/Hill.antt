-- The Hill system: carbon, hydrogen, the rest by symbol; without carbon all by symbol; count 1 unwritten (document 01, "Formula text").
use Rattle.std.specs.Prelude.{◌≡◌, Bool, true, false, cond, ◌&&◌, ◌||◌, List, [], ◌∷◌, ◌++◌, map, ℕ, zero, suc, eqb, ltb}
use Rattle.text.specs.Decimal.{decimal}
use Rattle.elements.specs.declared.Element.{Element}
use Rattle.elements.specs.declared.Element.TheVariants.{Carbon, Hydrogen, Oxygen, Nitrogen, Sulfur, Phosphorus, Fluorine, Chlorine, Bromine, Silicon}
use Rattle.elements.specs.declared.Atoms.{Atoms}
use Rattle.elements.specs.Elements.{number, symbol, count}

-- all elements by symbol
abbrev pub by_symbol : List Element
by_symbol = Bromine ∷ Carbon ∷ Chlorine ∷ Fluorine ∷ Hydrogen ∷ Nitrogen ∷ Oxygen ∷ Phosphorus ∷ Sulfur ∷ Silicon ∷ []

-- those after carbon and hydrogen
abbrev pub others : List Element → List Element
others [] = []
others (e ∷ es) = cond (ltb 2 (number e)) (e ∷ others es) (others es)

abbrev pub carbon_first : List Element
carbon_first = Carbon ∷ Hydrogen ∷ others by_symbol

abbrev pub hill_order : Atoms → List Element
hill_order a = cond (eqb (count a Carbon) 0) by_symbol carbon_first

-- an element with its count: nothing where there is none of it, and 1 unwritten
abbrev pub hill_item : Element → ℕ → List ℕ
hill_item e zero = []
hill_item e (suc zero) = symbol e
hill_item e (suc (suc n)) = symbol e ++ decimal (suc (suc n))

abbrev pub joined : List (List ℕ) → List ℕ
joined [] = []
joined (t ∷ ts) = t ++ joined ts

unfoldable pub hill_text : Atoms → List ℕ
hill_text a = joined (map (λ e. hill_item e (count a e)) (hill_order a))

-- THE ORDER BY SYMBOL. A text is below another by the bytes where they first differ, and below each that it begins.
abbrev pub below : List ℕ → List ℕ → Bool
below s [] = false
below [] (b ∷ t) = true
below (a ∷ s) (b ∷ t) = ltb a b || (eqb a b && below s t)

-- each symbol is below the next
abbrev pub rising : List Element → Bool
rising [] = true
rising (e ∷ []) = true
rising (e ∷ f ∷ es) = below (symbol e) (symbol f) && rising (f ∷ es)

-- x is one of the elements
abbrev pub has : List Element → Element → Bool
has [] x = false
has (e ∷ es) x = eqb (number x) (number e) || has es x

-- what makes by_symbol the list of all elements by symbol
pub record BySymbol : Type 0 where
  pub rises : rising by_symbol ≡ true
  pub every : (x : Element) → has by_symbol x ≡ true
