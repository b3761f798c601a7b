-- Bond kinds 1 to 22 and their counts, what atoms and bonds have to agree in (document 01, "Bonds and classes" and refusals 2 and 5).
use Rattle.std.specs.Prelude.{Bool, not, ℕ, ◌+◌, ◌-◌, eqb, ltb, get_or, Option}
use Rattle.std.specs.Option.{option_or}
use Rattle.answer.specs.Lowest.{lowest}
use Rattle.elements.specs.declared.Element.TheVariants.{Hydrogen}
use Rattle.elements.specs.declared.Atoms.{Atoms}
use Rattle.elements.specs.Elements.{count, each, first_above}
use Rattle.bonds.specs.declared.Bonds.{Bonds}
use Rattle.bonds.specs.declared.HydrogenBond.{HydrogenBond}
use Rattle.bonds.specs.declared.HydrogenBond.TheVariants.{CH, SiH, NH, OH, SH}

-- the count of a kind, from 1
abbrev pub bonds_at : Bonds → ℕ → ℕ
bonds_at b k = get_or b.count (k - 1) 0

-- the lowest place with a count above 200: an element's number, else 10 + a bond's kind
unfoldable pub above_at : Atoms → Bonds → Option ℕ
above_at a b = option_or (first_above (each 200) a) (lowest (λ p. ltb 200 (bonds_at b (p - 10))) 11 22)

-- the kinds of the H bonds
abbrev pub kind_of : HydrogenBond → ℕ
kind_of CH = 4
kind_of SiH = 15
kind_of NH = 17
kind_of OH = 18
kind_of SH = 19

-- H bonds: C–H, Si–H, N–H, O–H, S–H
abbrev pub hydrogen_bonds : Bonds → ℕ
hydrogen_bonds b = bonds_at b 4 + bonds_at b 15 + bonds_at b 17 + bonds_at b 18 + bonds_at b 19

-- H atoms differ from H bonds
unfoldable pub hydrogen_unbalanced : Atoms → Bonds → Bool
hydrogen_unbalanced a b = not (eqb (count a Hydrogen) (hydrogen_bonds b))
