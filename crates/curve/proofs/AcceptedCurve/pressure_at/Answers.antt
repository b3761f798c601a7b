-- The pressure on the segment that has the temperature brought to the curve.
use Rattle.std.proofs.Common.{ap, ◌∙◌, arith}
use Rattle.curve.specs.declared.Segment.{Segment}
use Rattle.curve.specs.Curve.{between, pressure_at}
use Rattle.curve.specs.Internal.{curve_of}
use Rattle.curve.proofs.Acceptance.{spans}
use Rattle.curve.proofs.Curves.{locate, brought}
use Rattle.curve.proofs.AcceptedCurve.pressure_at.Goals as goal

pub clamp-t-requires : goal.clamp-t-requires
clamp-t-requires c = omega (arith, spans (curve_of c.args.self.now.curve) c.args.self.now.accepted)

pub segment_of-requires : goal.segment_of-requires
segment_of-requires c = (brought (curve_of c.args.self.now.curve) c.args.self.now.accepted _ _ _ _ c.first.ensures c.last.ensures c.clamp-t.ensures).1

pub pressure_at-requires : goal.pressure_at-requires
pressure_at-requires c =
    let k = curve_of c.args.self.now.curve in
    let ok = c.args.self.now.accepted in
    let h = brought k ok _ _ _ _ c.first.ensures c.last.ensures c.clamp-t.ensures in
    let o = locate k ok _ h.0 h.1 in
    rw c.segment_of.ensures (o.from, o.to)

pub returns : goal.returns
unfolding pressure_at
returns c =
    let k = curve_of c.args.self.now.curve in
    let h = brought k c.args.self.now.accepted _ _ _ _ c.first.ensures c.last.ensures c.clamp-t.ensures in
    c.pressure_at.ensures.0 ∙ ap (λ (x : Segment). between x c.clamp-t.result) c.segment_of.ensures ∙ ap (pressure_at k) h.2
