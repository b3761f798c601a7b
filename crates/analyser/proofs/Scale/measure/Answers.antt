-- The tests of the definition, one after the other.
use Rattle.std.proofs.Common.{rules, ◌≡◌, ap, sym, ◌∙◌, Err, true}
use lib.Ieee.{Float, le}
use Rattle.answer.specs.Outcome.{answered}
use Rattle.rounding.specs.Fraction.{at_most}
use Rattle.analyser.specs.declared.Method.{Method}
use Rattle.analyser.specs.Reading.{amount, up_to, good_method, converted, measured}
use Rattle.analyser.proofs.Order.{le_is}
use Rattle.analyser.proofs.Admitted.{up-to-amount, ceiling-is, limit_is, most-parts, rounded-most, passed, declined}
use Rattle.analyser.proofs.Scale.measure.Goals as goal

-- the floats' test of the limit is that of the exact values
limit : (top : Float) (m : Method) (x : Float) → good_method (amount top) m ≡ true → up_to x (amount m.ceiling) ≡ true
    → at_most (amount m.limit) (amount x) ≡ le m.limit x
limit top m x good within = sym (le_is _ _ (limit_is top m good) (up-to-amount _ _ within))

pub returns-in_err-check_method-clause-value : goal.returns-in_err-check_method-clause-value
unfolding measured
returns-in_err-check_method-clause-value c =
    let r : c.from_residual.result ≡ Err c.in_err-check_method.field-0.0 = search rules in
    rw r (declined _ _ _ c.in_err-check_method.ensures)

pub is_up_to-requires : goal.is_up_to-requires
is_up_to-requires c = ceiling-is c.args.self.top c.args.method (passed _ c.in_ok-check_method.ensures)

pub returns-then-not-is_up_to-clause-value : goal.returns-then-not-is_up_to-clause-value
unfolding measured
returns-then-not-is_up_to-clause-value c = rw (passed _ c.in_ok-check_method.ensures, sym c.if-not-is_up_to.ensures, c.at.ensures)

pub whole_parts-requires : goal.whole_parts-requires
whole_parts-requires c =
    let within : up_to c.args.x (amount c.args.method.ceiling) ≡ true = sym c.if-not-is_up_to.ensures in
    record {
      is_an_amount = up-to-amount _ _ within;
      most = most-parts c.args.self.top c.args.method (passed _ c.in_ok-check_method.ensures) _ _ c.args.self.million within;
    }

pub returns-then-method-x-clause-value : goal.returns-then-method-x-clause-value
unfolding measured converted
returns-then-method-x-clause-value c =
    let good = passed _ c.in_ok-check_method.ensures in
    let within : up_to c.args.x (amount c.args.method.ceiling) ≡ true = sym c.if-not-is_up_to.ensures in
    rw (good, within, limit c.args.self.top _ _ good within ∙ c.if-method-x.true) (ap answered c.whole_parts.ensures)

pub returns-then-method-x-clause-at_most : goal.returns-then-method-x-clause-at_most
returns-then-method-x-clause-at_most c = rw c.whole_parts.ensures (rounded-most _ (whole_parts-requires c.before).most)

pub returns-clause-value : goal.returns-clause-value
unfolding measured converted
returns-clause-value c =
    let good = passed _ c.in_ok-check_method.ensures in
    let within : up_to c.args.x (amount c.args.method.ceiling) ≡ true = sym c.if-not-is_up_to.ensures in
    rw (good, within, limit c.args.self.top _ _ good within ∙ c.if-method-x.false)
