-- A fuel as it is given, by counts or by a formula text; whether it is admitted; its molar mass (document 01, "Oxygen and gas limits").
use Rattle.std.specs.Prelude.{◌≡◌, List, [], ◌∷◌, ℕ, ◌+◌, ◌*◌, nat_abs}
use Rattle.answer.specs.Outcome.{Outcome, answered, and_then}
use Rattle.rounding.specs.Fraction.{Fraction, ◌over◌}
use Rattle.elements.specs.declared.Element.TheVariants.{Carbon, Hydrogen, Oxygen, Nitrogen, Chlorine}
use Rattle.elements.specs.declared.Atoms.{Atoms}
use Rattle.elements.specs.Elements.{count}
use Rattle.formula.specs.Reading.{reading}
use Rattle.oxygen.specs.declared.Purpose.TheVariants.{GasLimits}
use Rattle.oxygen.specs.Beta.{beta}
use Rattle.oxygen.specs.Admission.{admission}

pub data Fuel : Type 0 where
  counts : Atoms → Fuel
  text : List ℕ → Fuel

abbrev pub fuel_atoms : Fuel → Outcome Atoms
fuel_atoms (counts a) = answered a
fuel_atoms (text t) = reading t

-- the atoms of a fuel that is admitted, or the first of refusals 1 to 4
unfoldable pub admitting : Fuel → Outcome Atoms
admitting f = and_then (fuel_atoms f) (λ a. and_then (admission GasLimits a) (λ q. answered a))

-- β of such a fuel, in quarters
abbrev pub quarters : Atoms → ℕ
quarters a = nat_abs (beta a)

-- M from C 12, H 1, O 16, N 14, Cl 35.5, in tenths
unfoldable pub molar_mass : Atoms → Fraction
molar_mass a = (120 * count a Carbon + 10 * count a Hydrogen + 160 * count a Oxygen + 140 * count a Nitrogen + 355 * count a Chlorine) over 10

-- the same by element, C H O N S P F Cl Br Si, in halves; an element without a mass here is not admitted
abbrev pub masses : List ℕ
masses = 24 ∷ 2 ∷ 32 ∷ 28 ∷ 0 ∷ 0 ∷ 0 ∷ 71 ∷ 0 ∷ 0 ∷ []

-- n halves are the fraction f
abbrev pub InHalves : Fraction → ℕ → Type 0
InHalves f n = f.num * 2 ≡ n * f.den
