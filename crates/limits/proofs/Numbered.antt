-- A refusal of a fuel's limits has a number above 0.
use native.Mathlib.Omega.{arith}
use lib.IntN.{ℤ}
use Rattle.std.specs.Prelude.{Option}
use Rattle.answer.specs.Numbers.{gas_temperature_outside}
use Rattle.answer.specs.Internal.{Numbered}
use Rattle.answer.proofs.Outcomes.{refuse-numbered, and_then-numbered}
use Rattle.elements.specs.declared.Atoms.{Atoms}
use Rattle.oxygen.specs.declared.Purpose.TheVariants.{GasLimits}
use Rattle.oxygen.specs.Admission.{admission}
use Rattle.oxygen.proofs.Numbered.{admission-numbered}
use Rattle.blend.specs.Temperature.{meant, gas_outside}
use Rattle.limits.specs.FuelLimits.{fuel_limits}

pub fuel-numbered : (t : Option ℤ) (a : Atoms) → Numbered (fuel_limits t a)
unfolding fuel_limits
fuel-numbered t a =
    and_then-numbered (admission GasLimits a) _ (admission-numbered GasLimits a)
    (λ q. refuse-numbered gas_temperature_outside 0 (gas_outside (meant t)) _ (omega arith) tt)
