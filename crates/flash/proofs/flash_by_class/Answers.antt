-- The steps of the definition, one after the other.
use Rattle.std.proofs.Common.{rules, ◌≡◌, ap, ◌∙◌, Err, ℤ, w32, w64}
use Rattle.std.proofs.lemmas.Int.{to_z-of_z}
use mir.Val.{SFits}
use Rattle.answer.specs.Outcome.{answered}
use Rattle.rounding.specs.Round.{round_div_ℤ}
use Rattle.flash.specs.Points.{by_class, class_terms}
use Rattle.flash.proofs.Steps.{class-inside, boiling-refused, boiling-admitted}
use Rattle.flash.proofs.flash_by_class.Goals as goal

pub returns-in_err-class : goal.returns-in_err-class
unfolding by_class
returns-in_err-class c =
    let r : c.from_residual.result ≡ Err c.in_err-class.field-0.0 = search rules in
    rw (r, c.in_err-class.ensures.1, c.in_err-class.ensures.0)

pub returns-in_err-boiling_point : goal.returns-in_err-boiling_point
unfolding by_class
returns-in_err-boiling_point c =
    let r : c.from_residual-in_err-boiling_point.result ≡ Err c.in_err-boiling_point.field-0.0 = search rules in
    rw (r, c.in_ok-class.ensures, class-inside c.in_ok-class.class)
    (boiling-refused c.args.boiling _ _ (rw (to_z-of_z _ _ c.ranges.boiling) at c.in_err-boiling_point.ensures))

pub returns : goal.returns
unfolding by_class class_terms
returns c =
    let t = boiling-admitted c.args.boiling _ (rw (to_z-of_z _ _ c.ranges.boiling) at c.in_ok-boiling_point.ensures) in
    let f : SFits w32 c.in_ok-boiling_point.field-0 = search rules in
    let sum = rw (c.of_class.ensures, to_z-of_z _ _ f, t.1) at c.at-sum.ensures.value in
    rw (c.in_ok-class.ensures, class-inside c.in_ok-class.class, t.0)
    (ap answered (c.round_div_signed.ensures.value ∙ ap (λ (s : ℤ). round_div_ℤ s 1000) (to_z-of_z w64 c.at-sum.result (search rules) ∙ sum)))
