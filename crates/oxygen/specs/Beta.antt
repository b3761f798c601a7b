-- The oxygen coefficient β (document 01, formula (36)).
use Rattle.std.specs.Prelude.{ℕ, ◌+◌, ◌*◌, ℤ, pos, ◌+ℤ◌, ◌-ℤ◌}
use Rattle.elements.specs.declared.Element.TheVariants.{Carbon, Hydrogen, Oxygen, Sulfur, Phosphorus, Fluorine, Chlorine, Bromine}
use Rattle.elements.specs.declared.Atoms.{Atoms}
use Rattle.elements.specs.Elements.{count}

-- X: the sum of F, Cl, Br
abbrev pub halogens : Atoms → ℕ
halogens a = count a Fluorine + count a Chlorine + count a Bromine

-- β = C + S + (H − X)/4 − O/2 + 2.5 P, in quarters
unfoldable pub beta : Atoms → ℤ
beta a = pos (4 * (count a Carbon + count a Sulfur)) +ℤ (pos (count a Hydrogen) -ℤ pos (halogens a)) -ℤ pos (2 * count a Oxygen) +ℤ pos (10 * count a Phosphorus)
