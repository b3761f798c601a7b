-- Segments of an accepted curve rise, in its bounds.
use Rattle.curve.specs.Internal.{curve_of}
use Rattle.curve.proofs.Acceptance.{sloped}
use Rattle.curve.proofs.AcceptedCurve.segment_at.Goals as goal

pub invariant_of-result : goal.invariant_of-result
invariant_of-result c = rw c.segment_at.ensures (record { sloped = sloped (curve_of c.args.self.now.curve) c.args.self.now.accepted c.args.i c.requires.0 c.requires.1 })
