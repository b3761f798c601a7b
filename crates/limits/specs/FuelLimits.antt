-- The limits of one fuel: the paper's formula, corrected to the temperature (document 01, "Oxygen and gas limits").
use Rattle.std.specs.Prelude.{◌≡◌, [], ℕ, ℤ, nat_abs, Option}
use Rattle.answer.specs.Numbers.{gas_temperature_outside}
use Rattle.answer.specs.Outcome.{Outcome, answered, refuse, and_then}
use Rattle.answer.specs.declared.Rounded.{Rounded}
use Rattle.rounding.specs.Fraction.{whole, ◌⊠◌, rounded}
use Rattle.elements.specs.declared.Atoms.{Atoms}
use Rattle.oxygen.specs.declared.Purpose.TheVariants.{GasLimits}
use Rattle.oxygen.specs.Admission.{admission}
use Rattle.blend.specs.Limit.{Side, lower, upper, limit_of}
use Rattle.blend.specs.Temperature.{meant, gas_outside, correction}
use Rattle.blend.specs.Fuel.{Fuel, fuel_atoms}
use Rattle.blend.specs.declared.LimitPair.{LimitPair}
use Rattle.blend.specs.Blend.{limits, empty_blend, adding, asking_marked}
use Rattle.blend.specs.Model.{model_adds, model_asks_marked}

-- 100 / (aβ + b) %, the limit at the temperature of the fit, times the correction for t, of β in quarters; in hundredths of a percent, rounded once
unfoldable pub rounded_fuel_limit : Side → ℕ → ℕ → Rounded ℕ
rounded_fuel_limit s q t = rounded (whole 100 ⊠ (limit_of s q ⊠ correction s t))

abbrev pub rounded_fuel_limits : ℕ → ℕ → LimitPair (Rounded ℕ)
rounded_fuel_limits q t = record { lower = rounded_fuel_limit lower q t; upper = rounded_fuel_limit upper q t }

-- refusals 2, 3 and 4 of the fuel, then 10
unfoldable pub fuel_limits : Option ℤ → Atoms → Outcome (LimitPair (Rounded ℕ))
fuel_limits t a = and_then (admission GasLimits a) (λ q. refuse gas_temperature_outside 0 (gas_outside (meant t)) (answered (rounded_fuel_limits q (nat_abs (meant t)))))

-- a fuel alone is a blend of it at 1 part, and in the reference model entries with that fuel at 1 part
pub record AsBlend (f : Fuel) (t : Option ℤ) : Type 0 where
  pub of_blend : and_then (fuel_atoms f) (fuel_limits t) ≡ and_then (adding empty_blend f 1) (λ b. asking_marked b (limits t))
  pub of_model : and_then (fuel_atoms f) (fuel_limits t) ≡ and_then (model_adds [] f 1) (λ es. model_asks_marked es (limits t))
