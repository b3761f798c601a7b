-- A refusal of an adding has a number above 0.
use mathlib.Core.Bool.{not}
use Prim.Native.Nat.{ℕ, ◌+◌}
use native.Mathlib.Omega.{arith}
use lib.Dec.{ltb}
use Rattle.answer.specs.Numbers.{blend_out_of_bounds, total_too_large}
use Rattle.answer.specs.Outcome.{Outcome, answered, refuse, and_then}
use Rattle.answer.specs.Internal.{Numbered}
use Rattle.answer.proofs.Outcomes.{refuse-numbered, and_then-numbered}
use Rattle.elements.specs.declared.Atoms.{Atoms}
use Rattle.formula.proofs.Numbered.{reading-numbered}
use Rattle.oxygen.specs.declared.Purpose.TheVariants.{GasLimits}
use Rattle.oxygen.specs.Admission.{admission}
use Rattle.oxygen.proofs.Numbered.{admission-numbered}
use Rattle.blend.specs.declared.Blend.{Blend}
use Rattle.blend.specs.Fuel.{Fuel, counts, text, fuel_atoms, admitting, quarters}
use Rattle.blend.specs.Blend.{within, with_fuel, taking, adding}

pub admitting-numbered : (f : Fuel) → Numbered (admitting f)
unfolding admitting
admitting-numbered f = and_then-numbered (fuel_atoms f) _ (atoms-numbered f) (λ a. and_then-numbered (admission GasLimits a) _ (admission-numbered GasLimits a) (λ q. tt))
  where
    atoms-numbered : (f : Fuel) → Numbered (fuel_atoms f)
    atoms-numbered (counts a) = tt
    atoms-numbered (text t) = reading-numbered t

pub adding-numbered : (b : Blend) (f : Fuel) (v : ℕ) → Numbered (adding b f v)
unfolding adding taking
adding-numbered b f v =
    let rest : Atoms → Outcome Blend = λ a. refuse total_too_large 0 (ltb 1000000 (b.total + v)) (answered (with_fuel b (quarters a) v)) in
    refuse-numbered blend_out_of_bounds 0 (not (within b)) (and_then (admitting f) rest) (omega arith)
    (and_then-numbered (admitting f) rest (admitting-numbered f)
    (λ a. refuse-numbered total_too_large 0 (ltb 1000000 (b.total + v)) (answered (with_fuel b (quarters a) v)) (omega arith) tt))
