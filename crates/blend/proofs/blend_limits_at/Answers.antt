-- `blend_limits_at` meets its contract: no correction is applied at the temperature of the fit.
use Rattle.blend.proofs.LeChatelier.{one-at-fit}
use Rattle.blend.proofs.blend_limits_at.Goals as goal

pub returns-in_err-bounded-clause-at_fit : goal.returns-in_err-bounded-clause-at_fit
returns-in_err-bounded-clause-at_fit c = one-at-fit

pub returns-then-b-eq0-clause-at_fit : goal.returns-then-b-eq0-clause-at_fit
returns-then-b-eq0-clause-at_fit c = one-at-fit

pub returns-then-is_outside-clause-at_fit : goal.returns-then-is_outside-clause-at_fit
returns-then-is_outside-clause-at_fit c = one-at-fit

pub returns-clause-at_fit : goal.returns-clause-at_fit
returns-clause-at_fit c = one-at-fit
