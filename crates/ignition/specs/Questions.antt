-- The two questions of a vapour pressure: the lower temperature limit, and formula (35) (document 01, "The vapour curve").
-- Each is a test of a temperature and a pressure, or a refusal; put to a curve, it is answered by the smallest hundredth at which the test holds.
use Rattle.std.specs.Prelude.{ℕ, ℤ, pos, Some}
use Rattle.answer.specs.declared.PointMethod.{PointMethod}
use Rattle.answer.specs.declared.PointMethod.TheVariants.{ClosedCup, OpenCup, FirePoint}
use Rattle.answer.specs.Methods.{method_named}
use Rattle.answer.specs.Numbers.{diffusion_outside}
use Rattle.answer.specs.Outcome.{Outcome, answered, refuse, and_then}
use Rattle.answer.specs.Outside.{outside}
use Rattle.rounding.specs.Fraction.{Fraction, ◌over◌, whole, ◌⊠◌, at_most}
use Rattle.elements.specs.declared.Atoms.{Atoms}
use Rattle.oxygen.specs.declared.Purpose.{Purpose}
use Rattle.oxygen.specs.declared.Purpose.TheVariants as admitted_to
use Rattle.oxygen.specs.Admission.{admission}
use Rattle.blend.specs.Limit.{fit_temperature}
use Rattle.limits.specs.FuelLimits.{fuel_limits}
use Rattle.curve.specs.Smallest.{Test}
use Rattle.curve.specs.Curve.{Curve, on_curve}

-- LOWER TEMPERATURE LIMIT: pressure ≥ φ/100 of 101,300 Pa, φ in percent the lower limit as answered at the temperature of the fit
unfoldable pub part_of_pressure : ℕ → Fraction
part_of_pressure limit = (limit over 100) ⊠ (1 over 100) ⊠ whole 101300

unfoldable pub reaches : ℕ → Test
reaches limit t p = at_most (part_of_pressure limit) (whole p)

-- the fuel's refusals, then what is made of φ
unfoldable pub with_limit : {A : Type 0} → Atoms → (ℕ → A) → Outcome A
with_limit a made = and_then (fuel_limits (Some fit_temperature) a) (λ l. answered (made l.lower.value))

abbrev pub limit_test : Atoms → Outcome Test
limit_test a = with_limit a reaches

unfoldable pub lower_temperature_limit : Atoms → Curve → Outcome ℤ
lower_temperature_limit a c = and_then (limit_test a) (λ test. on_curve test c)

-- FORMULA (35): (t + 273)·p·D0·β ≥ 280 closed cup, 427 open cup, 453 fire point; p in kPa, D0 in cm²/s, handed in as units of 0.0001 cm²/s, β in quarters
unfoldable pub threshold : PointMethod → ℕ
threshold ClosedCup = 280
threshold OpenCup = 427
threshold FirePoint = 453

unfoldable pub product : ℕ → ℕ → ℕ → ℕ → Fraction
product diffusion q t p = (t over 100) ⊠ (p over 1000) ⊠ (diffusion over 10000) ⊠ (q over 4)

unfoldable pub ignites : PointMethod → ℕ → ℕ → Test
ignites m diffusion q t p = at_most (whole (threshold m)) (product diffusion q t p)

-- the fire point is for C, H, O, N only; the others for what β admits
abbrev pub purpose_of : PointMethod → Purpose
purpose_of ClosedCup = admitted_to.OxygenCoefficient
purpose_of OpenCup = admitted_to.OxygenCoefficient
purpose_of FirePoint = admitted_to.FirePoint

-- refusals 16, 2, 3, 4 and 18, then what is made of the method and β
unfoldable pub with_oxygen : {A : Type 0} → ℕ → Atoms → ℕ → (PointMethod → ℕ → A) → Outcome A
with_oxygen m a diffusion made =
    and_then (method_named m) (λ k.
    and_then (admission (purpose_of k) a) (λ q.
    refuse diffusion_outside 0 (outside (pos 1) (pos 20000) (pos diffusion))
    (answered (made k q))))

abbrev pub flash_test : ℕ → Atoms → ℕ → Outcome Test
flash_test m a diffusion = with_oxygen m a diffusion (λ k. ignites k diffusion)

unfoldable pub flash_by_curve : ℕ → Atoms → ℕ → Curve → Outcome ℤ
flash_by_curve m a diffusion c = and_then (flash_test m a diffusion) (λ test. on_curve test c)
