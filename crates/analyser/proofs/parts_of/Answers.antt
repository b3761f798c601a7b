-- Each arm is the definition's clause for its variant, with 100.0 and 1000000.0 the whole numbers.
use Rattle.std.proofs.Common.{rules, ◌≡◌, refl, ap, ◌∙◌, Err, arith}
use lib.Ieee.{of_bits}
use Rattle.rounding.specs.Fraction.{Fraction}
use Rattle.analyser.specs.Reading.{measured, overloaded, parts_of}
use Rattle.analyser.proofs.Admitted.{hundred-is, million-is, passed, declined}
use Rattle.analyser.proofs.parts_of.Goals as goal

pub invariant_of-measure : goal.invariant_of-measure
unfolding of_bits
invariant_of-measure c = record {
  small = record { positive = omega arith; small = omega arith; small_twos = omega arith };
  million = record { is_an_amount = tt; million = refl };
}

pub invariant_of-measure-in-Ppm : goal.invariant_of-measure-in-Ppm
unfolding of_bits
invariant_of-measure-in-Ppm c = record {
  small = record { positive = omega arith; small = omega arith; small_twos = omega arith };
  million = record { is_an_amount = tt; million = refl };
}

pub check_method-requires : goal.check_method-requires
unfolding of_bits
check_method-requires c = tt

pub returns-in-Percent-clause-value : goal.returns-in-Percent-clause-value
unfolding parts_of
returns-in-Percent-clause-value c =
    rw c.in-Percent.is (c.measure.ensures.value ∙ ap (λ (top : Fraction). measured top 10000 c.args.method c.in-Percent.x) hundred-is)

pub returns-in-Ppm-clause-value : goal.returns-in-Ppm-clause-value
unfolding parts_of
returns-in-Ppm-clause-value c =
    rw c.in-Ppm.is (c.measure-in-Ppm.ensures.value ∙ ap (λ (top : Fraction). measured top 1 c.args.method c.in-Ppm.x) million-is)

pub returns-in_err-check_method-in-Overload-clause-value : goal.returns-in_err-check_method-in-Overload-clause-value
unfolding parts_of overloaded
returns-in_err-check_method-in-Overload-clause-value c =
    let r : c.from_residual.result ≡ Err c.in_err-check_method-in-Overload.field-0.0 = search rules in
    rw (c.in-Overload.is, r) (declined _ _ _ (rw million-is at c.in_err-check_method-in-Overload.ensures))

pub returns-in_ok-check_method-in-Overload-clause-value : goal.returns-in_ok-check_method-in-Overload-clause-value
unfolding parts_of overloaded
returns-in_ok-check_method-in-Overload-clause-value c =
    let good = passed _ (rw million-is at c.in_ok-check_method-in-Overload.ensures) in
    rw (c.in-Overload.is, good, c.at.ensures)
