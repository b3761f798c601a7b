-- Which fuels are admitted to what (document 01, "Oxygen and gas limits" and refusals 2, 3 and 4).
use Rattle.std.specs.Prelude.{cond, Option, Some, [], ◌∷◌, ℕ, eqb, pos, nat_abs}
use Rattle.std.specs.Int.Signed.{lt_z}
use Rattle.answer.specs.Numbers.{count_too_large, element_not_admitted, oxygen_too_low}
use Rattle.answer.specs.Outcome.{Outcome, answered, refuse, refuse_at}
use Rattle.elements.specs.declared.Element.TheVariants.{Carbon}
use Rattle.elements.specs.declared.Atoms.{Atoms}
use Rattle.elements.specs.Elements.{number, count, each, first_above}
use Rattle.oxygen.specs.declared.Purpose.{Purpose}
use Rattle.oxygen.specs.declared.Purpose.TheVariants.{OxygenCoefficient, GasLimits, FirePoint}
use Rattle.oxygen.specs.Beta.{beta}

-- the most atoms that are admitted of C H O N S P F Cl Br Si: no Si; only C, H, O, N and at most one Cl; only C, H, O, N
abbrev pub most : Purpose → Atoms
most OxygenCoefficient = record { count = 200 ∷ 200 ∷ 200 ∷ 200 ∷ 200 ∷ 200 ∷ 200 ∷ 200 ∷ 200 ∷ 0 ∷ [] }
most GasLimits = record { count = 200 ∷ 200 ∷ 200 ∷ 200 ∷ 0 ∷ 0 ∷ 0 ∷ 1 ∷ 0 ∷ 0 ∷ [] }
most FirePoint = record { count = 200 ∷ 200 ∷ 200 ∷ 200 ∷ 0 ∷ 0 ∷ 0 ∷ 0 ∷ 0 ∷ 0 ∷ [] }

-- the lowest element at fault: carbon, element 1, where it is missing, else the lowest that is not admitted
unfoldable pub not_admitted : Purpose → Atoms → Option ℕ
not_admitted p a = cond (eqb (count a Carbon) 0) (Some (number Carbon)) (first_above (most p) a)

-- β of an admitted fuel in quarters, which is at least 1/2
unfoldable pub admission : Purpose → Atoms → Outcome ℕ
admission p a =
    refuse_at count_too_large (first_above (each 200) a)
    (refuse_at element_not_admitted (not_admitted p a)
    (refuse oxygen_too_low 0 (lt_z (beta a) (pos 2))
    (answered (nat_abs (beta a)))))

-- β in quarters
abbrev pub oxygen_coefficient : Atoms → Outcome ℕ
oxygen_coefficient a = admission OxygenCoefficient a
