-- The points of an accepted curve are within a condition's bounds.
use Rattle.std.proofs.Common.{◌∙◌}
use Rattle.curve.specs.Internal.{curve_of}
use Rattle.curve.proofs.Conditions.{met-within}
use Rattle.curve.proofs.Acceptance.{range}
use Rattle.curve.proofs.AcceptedCurve.is_met_at.Goals as goal

pub returns : goal.returns
returns c =
    let r = range (curve_of c.args.self.now.curve) c.args.self.now.accepted c.args.i c.requires in
    rw c.temperature_at.ensures at c.is_met.ensures ∙ met-within c.args.c _ _ r.0 r.1
