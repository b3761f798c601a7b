-- Both questions as conditions: that a condition's test is the question as printed, and what a condition says on a curve.
use mathlib.Core.Path.{◌≡◌, refl, sym, ap, ◌∙◌}
use mathlib.Core.Bool.{Bool, true, false}
use Rattle.std.specs.Prelude.{Some}
use Prim.Native.Nat.{ℕ, ◌+◌, ◌*◌, ◌≤◌, ◌<◌}
use native.Mathlib.Decide.{dec_lt}
use native.Mathlib.Nat.{mul-le-mul}
use native.Mathlib.Omega.{arith}
use borrow.Author.Tests.{le-leb, lt-leb}
use lib.Dec.{leb}
use lib.IntN.{pos}
use Rattle.answer.specs.declared.PointMethod.{PointMethod}
use Rattle.answer.specs.declared.Rounded.{Rounded}
use Rattle.answer.specs.Methods.{method_named}
use Rattle.answer.specs.Numbers.{diffusion_outside}
use Rattle.answer.specs.Outcome.{Outcome, refused, answered, refuse, and_then}
use Rattle.answer.specs.Outside.{outside}
use Rattle.answer.proofs.Outside.{inside}
use Rattle.rounding.specs.Fraction.{Fraction, ◌over◌, whole, ◌⊠◌, at_most}
use Rattle.elements.specs.declared.Atoms.{Atoms}
use Rattle.oxygen.specs.Admission.{admission}
use Rattle.oxygen.proofs.Admissions.{admitted-facts}
use Rattle.blend.specs.Limit.{fit_temperature}
use Rattle.blend.specs.declared.LimitPair.{LimitPair}
use Rattle.limits.specs.FuelLimits.{fuel_limits}
use Rattle.curve.specs.declared.Condition.{Condition}
use Rattle.curve.specs.Smallest.{Test}
use Rattle.curve.specs.Curve.{Curve, on_curve}
use Rattle.curve.specs.Condition.{holds, test_of}
use Rattle.curve.proofs.Conditions.{test-is}
use Rattle.ignition.specs.Questions.{part_of_pressure, reaches, with_limit, limit_test, threshold, product, ignites, purpose_of, with_oxygen, flash_test}
use Rattle.ignition.specs.Conditions.{by_pressure, by_product, limit_condition, flash_condition, tested_by}

-- a condition that agrees with a comparison of fractions
at-most-same : (a b : ℕ) (f g : Fraction) → (a ≤ b → f.num * g.den ≤ g.num * f.den) → (f.num * g.den ≤ g.num * f.den → a ≤ b) → leb a b ≡ at_most f g
unfolding at_most
at-most-same a b f g h k = go (dec_lt b a) (dec_lt (g.num * f.den) (f.num * g.den))
  where
    go : Dec (b < a) → Dec (g.num * f.den < f.num * g.den) → leb a b ≡ leb (f.num * g.den) (g.num * f.den)
    go (yes l) (yes m) = lt-leb _ _ l ∙ sym (lt-leb _ _ m)
    go (yes l) (no m) = absurd (let n = k (omega arith) in omega arith)
    go (no l) d = le-leb a b (omega arith) ∙ sym (le-leb _ _ (h (omega arith)))

-- THE LOWER TEMPERATURE LIMIT
reaches-is : (limit : ℕ) → test_of (by_pressure limit) ≡ reaches limit
unfolding holds reaches part_of_pressure ◌over◌ whole ◌⊠◌
reaches-is limit =
    test-is (by_pressure limit) (reaches limit) (omega arith)
    (λ t p. at-most-same (1013 * limit) ((0 * t + 100) * p) (part_of_pressure limit) (whole p) (λ h. omega arith) (λ h. omega arith))

pub limit_tested : (a : Atoms) → tested_by (limit_condition a) ≡ limit_test a
unfolding with_limit
limit_tested a = go (fuel_limits (Some fit_temperature) a)
  where
    go : (o : Outcome (LimitPair (Rounded ℕ))) → tested_by (and_then o (λ l. answered (by_pressure l.lower.value))) ≡ and_then o (λ l. answered (reaches l.lower.value))
    go (refused r) = refl
    go (answered l) = ap answered (reaches-is l.lower.value)

-- FORMULA (35): the largest slope is 20,000 · 3,800
ignites-is : (m : PointMethod) (diffusion q : ℕ) → diffusion ≤ 20000 → q ≤ 3800 → test_of (by_product (threshold m) diffusion q) ≡ ignites m diffusion q
unfolding holds ignites product ◌over◌ whole ◌⊠◌
ignites-is m diffusion q h l =
    test-is (by_product (threshold m) diffusion q) (ignites m diffusion q) (omega (arith, mul-le-mul h l))
    (λ t p. at-most-same (threshold m * 4000000000) ((diffusion * q * t + 0) * p) (whole (threshold m)) (product diffusion q t p) (λ h. omega arith) (λ h. omega arith))

pub slope_most : (diffusion q : ℕ) → false ≡ outside (pos 1) (pos 20000) (pos diffusion) → q ≤ 3800 → diffusion * q ≤ 76000000
slope_most diffusion q e h = mul-le-mul (inside 1 20000 diffusion (sym e)).1 h

pub flash_tested : (m : ℕ) (a : Atoms) (diffusion : ℕ) → tested_by (flash_condition m a diffusion) ≡ flash_test m a diffusion
unfolding with_oxygen
flash_tested m a diffusion = by_method (method_named m)
  where
    by_beta : (k : PointMethod) (o : Outcome ℕ) → admission (purpose_of k) a ≡ o → (y : Bool) → outside (pos 1) (pos 20000) (pos diffusion) ≡ y
        → tested_by (and_then o (λ q. refuse diffusion_outside 0 y (answered (by_product (threshold k) diffusion q))))
        ≡ and_then o (λ q. refuse diffusion_outside 0 y (answered (ignites k diffusion q)))
    by_beta k (refused r) e y f = refl
    by_beta k (answered q) e true f = refl
    by_beta k (answered q) e false f = ap answered (ignites-is k diffusion q (inside 1 20000 diffusion f).1 (admitted-facts (purpose_of k) a q e).most)

    by_method : (o : Outcome PointMethod)
        → tested_by (and_then o (λ k. and_then (admission (purpose_of k) a) (λ q. refuse diffusion_outside 0 (outside (pos 1) (pos 20000) (pos diffusion)) (answered (by_product (threshold k) diffusion q)))))
        ≡ and_then o (λ k. and_then (admission (purpose_of k) a) (λ q. refuse diffusion_outside 0 (outside (pos 1) (pos 20000) (pos diffusion)) (answered (ignites k diffusion q))))
    by_method (refused r) = refl
    by_method (answered k) = by_beta k (admission (purpose_of k) a) refl (outside (pos 1) (pos 20000) (pos diffusion)) refl

-- ON A CURVE a condition is the question that it is the test of
pub put_to_curve : (o : Outcome Condition) (c : Curve) (t : Outcome Test) → tested_by o ≡ t → and_then o (λ x. on_curve (test_of x) c) ≡ and_then t (λ test. on_curve test c)
put_to_curve (refused r) c t e = rw (← e) refl
put_to_curve (answered x) c t e = rw (← e) refl
