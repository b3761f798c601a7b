-- A mass concentration as one quotient, and what is known where limits were answered.
use mathlib.Core.Path.{◌≡◌, sym}
use Rattle.std.specs.Prelude.{Some}
use mathlib.Core.Bool.{false}
use Prim.Native.Nat.{ℕ, ◌+◌, ◌*◌, ◌≤◌}
use native.Mathlib.Omega.{arith}
use Rattle.std.proofs.lemmas.Bool.Decides.{nat_tests}
use lib.IntN.{ℤ, nat_abs}
use Rattle.answer.specs.Outcome.{answered}
use Rattle.answer.specs.declared.Rounded.{Rounded}
use Rattle.rounding.proofs.Fractions.{Is, is-over, is_whole, is-times, is-by, is_same, rounded-is}
use Rattle.elements.specs.declared.Atoms.{Atoms}
use Rattle.elements.specs.Elements.{weighted_sum}
use Rattle.elements.specs.Internal.{AtMost200}
use Rattle.oxygen.specs.declared.Purpose.TheVariants.{GasLimits}
use Rattle.oxygen.specs.Admission.{admission}
use Rattle.blend.specs.Temperature.{gas_outside}
use Rattle.blend.specs.declared.LimitPair.{LimitPair}
use Rattle.blend.specs.Fuel.{masses, quarters}
use Rattle.blend.proofs.Admitted.{admission-facts, quarters_of}
use Rattle.blend.proofs.Figures.{inside_small}
use Rattle.blend.proofs.Masses.{mass-is}
use Rattle.limits.specs.FuelLimits.{fuel_limits}
use Rattle.limits.specs.Concentration.{molar_volume, concentration}
use Rattle.limits.specs.Internal.{rate}

volume-is : (t : ℕ) → Is (molar_volume t) (22414 * (t + 27315)) (1000 * 27315)
unfolding molar_volume
volume-is t = is-times (is-over 22414 1000 (omega arith)) (is-over (t + 27315) 27315 (omega arith))

pub concentration-is : (a : Atoms) → AtMost200 a → (t limit : ℕ) → rate (weighted_sum masses a) t limit ≡ concentration a t limit
unfolding concentration rate
concentration-is a few t limit =
    let top = is-times (is-times (is_whole 10) (mass-is a few)) (is-over limit 100 (omega arith)) in
    sym (rounded-is (is_same (is-times (is_whole 100) (is-by top (volume-is t) (omega arith))) (omega arith) (omega arith)))

-- where limits were answered
passed : (a : Atoms) (z : ℤ) (l : LimitPair (Rounded ℕ)) → fuel_limits (Some z) a ≡ answered l →
    (admission GasLimits a ≡ answered (quarters a)) × (gas_outside z ≡ false)
unfolding fuel_limits
passed a z l h = grind (arith, nat_tests, quarters_of)

pub asked-facts : (a : Atoms) (z : ℤ) (l : LimitPair (Rounded ℕ)) → fuel_limits (Some z) a ≡ answered l → AtMost200 a × (nat_abs z ≤ 20000)
asked-facts a z l h =
    let k = passed a z l h in
    ((admission-facts a (quarters a) k.0).1.few, inside_small z k.1)
