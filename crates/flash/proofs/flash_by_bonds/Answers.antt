-- The steps of the definition, one after the other.
use Rattle.std.proofs.Common.{rules, ◌≡◌, ap, sym, ◌∙◌, Err, None, ℕ, ℤ, w32, w64}
use mir.Val.{SFits}
use Rattle.std.proofs.lemmas.Int.{to_z-of_z}
use Rattle.answer.specs.Outcome.{answered}
use Rattle.answer.specs.Methods.{method_number}
use Rattle.answer.proofs.Methods.{method-known, method-number, method-refused}
use Rattle.bonds.specs.Kinds.{above_at}
use Rattle.bonds.proofs.Places.{few}
use Rattle.rounding.specs.Round.{round_div_ℤ}
use Rattle.flash.specs.Points.{sum_from, by_bonds}
use Rattle.flash.specs.Internal.{bond_terms}
use Rattle.flash.proofs.Steps.{boiling-refused, boiling-admitted, to-boiling}
use Rattle.flash.proofs.Sums.{sum-all}
use Rattle.flash.proofs.flash_by_bonds.Goals as goal

pub returns-in_err-method : goal.returns-in_err-method
unfolding by_bonds
returns-in_err-method c =
    let r : c.from_residual.result ≡ Err c.in_err-method.field-0.0 = search rules in
    rw r (method-refused c.args.method _ _ c.in_err-method.ensures)

pub returns-in-Some : goal.returns-in-Some
unfolding by_bonds
returns-in-Some c = rw (method-known c.args.method _ c.in_ok-method.ensures, sym c.in-Some.ensures, c.at.ensures)

pub returns-then-hydrogen_is_unbalanced : goal.returns-then-hydrogen_is_unbalanced
unfolding by_bonds
returns-then-hydrogen_is_unbalanced c =
    let none : above_at c.args.atoms c.args.bonds ≡ None = sym c.first_above_200.ensures ∙ c.in_default.is in
    rw (method-known c.args.method _ c.in_ok-method.ensures, none, sym c.if-hydrogen_is_unbalanced.ensures, c.at-then-hydrogen_is_unbalanced.ensures)

pub returns-in-Some-first_missing : goal.returns-in-Some-first_missing
unfolding by_bonds
returns-in-Some-first_missing c =
    let none : above_at c.args.atoms c.args.bonds ≡ None = sym c.first_above_200.ensures ∙ c.in_default.is in
    let number = method-number c.args.method _ c.in_ok-method.ensures in
    rw (method-known c.args.method _ c.in_ok-method.ensures, none, sym c.if-hydrogen_is_unbalanced.ensures, number)
    (rw (sym c.in-Some-first_missing.ensures, c.at-in-Some-first_missing.ensures))

pub returns-in_err-boiling_point : goal.returns-in_err-boiling_point
returns-in_err-boiling_point c =
    let none = sym c.first_above_200.ensures ∙ c.in_default.is in
    let filled = sym c.first_missing.ensures ∙ c.in_default-first_missing.is in
    let r : c.from_residual-in_err-boiling_point.result ≡ Err c.in_err-boiling_point.field-0.0 = search rules in
    rw (r, to-boiling c.args.method _ _ _ c.args.boiling c.in_ok-method.ensures none c.if-hydrogen_is_unbalanced.ensures filled)
    (boiling-refused c.args.boiling _ _ (rw (to_z-of_z _ _ c.ranges.boiling) at c.in_err-boiling_point.ensures))

pub bond_sum-requires-clause-few : goal.bond_sum-requires-clause-few
bond_sum-requires-clause-few c = record { most = few c.args.bonds c.args.atoms (sym c.first_above_200.ensures ∙ c.in_default.is) }

pub returns : goal.returns
returns c =
    let none = sym c.first_above_200.ensures ∙ c.in_default.is in
    let filled = sym c.first_missing.ensures ∙ c.in_default-first_missing.is in
    let t = boiling-admitted c.args.boiling _ (rw (to_z-of_z _ _ c.ranges.boiling) at c.in_ok-boiling_point.ensures) in
    let f : SFits w32 c.in_ok-boiling_point.field-0 = search rules in
    let line = to_z-of_z w64 c.at-start.result (search rules) ∙ rw (c.of_method.ensures, to_z-of_z _ _ f, t.1) at c.at-start.ensures.value in
    let m : ℕ = method_number c.in_ok-method.method in
    let bonds = c.bond_sum.ensures ∙ ap (λ (s : ℤ). sum_from s (bond_terms m c.args.bonds 0)) line ∙ sum-all m c.args.bonds c.args.boiling in
    let rounded = c.round_div_signed.ensures.value ∙ ap (λ (s : ℤ). round_div_ℤ s 1000) (to_z-of_z w64 c.bond_sum.result (search rules) ∙ bonds) in
    rw (to-boiling c.args.method _ _ _ c.args.boiling c.in_ok-method.ensures none c.if-hydrogen_is_unbalanced.ensures filled, t.0) (ap answered rounded)
