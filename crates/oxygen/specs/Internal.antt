-- The terms of β that add and those that take away, in quarters. No public promise cites this file.
use Rattle.std.specs.Prelude.{List, [], ◌∷◌, ℕ, ◌+◌, ◌*◌}
use Rattle.elements.specs.declared.Element.TheVariants.{Carbon, Hydrogen, Oxygen, Sulfur, Phosphorus}
use Rattle.elements.specs.declared.Atoms.{Atoms}
use Rattle.elements.specs.Elements.{count}
use Rattle.oxygen.specs.Beta.{halogens}

unfoldable pub gain : Atoms → ℕ
gain a = 4 * (count a Carbon + count a Sulfur) + count a Hydrogen + 10 * count a Phosphorus

unfoldable pub loss : Atoms → ℕ
loss a = halogens a + 2 * count a Oxygen

-- the same by element, C H O N S P F Cl Br Si
abbrev pub added : List ℕ
added = 4 ∷ 1 ∷ 0 ∷ 0 ∷ 4 ∷ 10 ∷ 0 ∷ 0 ∷ 0 ∷ 0 ∷ []

abbrev pub taken : List ℕ
taken = 0 ∷ 0 ∷ 2 ∷ 0 ∷ 0 ∷ 0 ∷ 1 ∷ 1 ∷ 1 ∷ 0 ∷ []
