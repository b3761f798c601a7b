-- `admit` meets its contract: where no test before it refuses, the sums are the terms of β.
use Rattle.std.proofs.Common.{sym, ◌∙◌, arith}
use Rattle.oxygen.specs.Admission.{admission}
use Rattle.oxygen.proofs.Admissions.{no_fault}
use Rattle.oxygen.proofs.Betas.{sums-most, sums-low, sums-high}
use Rattle.oxygen.proofs.admit.Goals as goal

pub overflow_add-taken : goal.overflow_add-taken
overflow_add-taken c = omega (arith, (sums-most _ (rw c.each.ensures at (sym c.in_default.ensures)) c.weighted_sum-added.ensures c.weighted_sum-taken.ensures).1)

pub returns-then-added-taken-clause-value : goal.returns-then-added-taken-clause-value
unfolding admission
returns-then-added-taken-clause-value c =
    let few = rw c.each.ensures at (sym c.in_default.ensures) in
    let fit = rw c.most_atoms.ensures at (sym c.in_default-first_above.ensures) in
    let fault = no_fault _ _ (λ e. c.if-of-eq0.false (c.of.ensures ∙ e)) fit in
    rw (few, fault, sums-low _ few c.weighted_sum-added.ensures c.weighted_sum-taken.ensures c.if-added-taken.true, c.at-then-added-taken.ensures)

pub returns-clause-value : goal.returns-clause-value
unfolding admission
returns-clause-value c =
    let few = rw c.each.ensures at (sym c.in_default.ensures) in
    let beta = sums-high _ few c.weighted_sum-added.ensures c.weighted_sum-taken.ensures c.if-added-taken.false in
    let fit = rw c.most_atoms.ensures at (sym c.in_default-first_above.ensures) in
    let fault = no_fault _ _ (λ e. c.if-of-eq0.false (c.of.ensures ∙ e)) fit in
    rw (few, fault, beta.0, beta.1)

pub returns-clause-bounded : goal.returns-clause-bounded
returns-clause-bounded c = omega (arith, (sums-most _ (rw c.each.ensures at (sym c.in_default.ensures)) c.weighted_sum-added.ensures c.weighted_sum-taken.ensures).0)
