-- A refusal of a question of a curve has a number above 0, before the curve is looked at.
use Prim.Native.Nat.{ℕ}
use native.Mathlib.Omega.{arith}
use lib.IntN.{pos}
use Rattle.std.specs.Prelude.{Some}
use Rattle.answer.specs.Numbers.{unknown_method, diffusion_outside}
use Rattle.answer.specs.Outside.{outside}
use Rattle.answer.specs.Methods.{method_named}
use Rattle.answer.specs.Internal.{Numbered}
use Rattle.answer.proofs.Outcomes.{refuse-numbered, and_then-numbered}
use Rattle.elements.specs.declared.Atoms.{Atoms}
use Rattle.oxygen.specs.Admission.{admission}
use Rattle.oxygen.proofs.Numbered.{admission-numbered}
use Rattle.blend.specs.Limit.{fit_temperature}
use Rattle.limits.specs.FuelLimits.{fuel_limits}
use Rattle.limits.proofs.Numbered.{fuel-numbered}
use Rattle.ignition.specs.Questions.{purpose_of, with_limit, with_oxygen}
use Rattle.ignition.specs.Conditions.{limit_condition, flash_condition}

pub limit-numbered : (a : Atoms) → Numbered (limit_condition a)
unfolding with_limit
limit-numbered a = and_then-numbered (fuel_limits (Some fit_temperature) a) _ (fuel-numbered _ a) (λ l. tt)

method-numbered : (m : ℕ) → Numbered (method_named m)
unfolding method_named
method-numbered m = refuse-numbered unknown_method 0 (outside (pos 1) (pos 3) (pos m)) _ (omega arith) tt

pub flash-numbered : (m : ℕ) (a : Atoms) (diffusion : ℕ) → Numbered (flash_condition m a diffusion)
unfolding with_oxygen
flash-numbered m a diffusion =
    and_then-numbered (method_named m) _ (method-numbered m)
    (λ k. and_then-numbered (admission (purpose_of k) a) _ (admission-numbered (purpose_of k) a)
    (λ q. refuse-numbered diffusion_outside 0 (outside (pos 1) (pos 20000) (pos diffusion)) _ (omega arith) tt))
