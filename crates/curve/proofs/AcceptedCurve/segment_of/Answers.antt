-- An accepted curve has two points, and its temperatures rise.
use Rattle.std.proofs.Common.{rules, ap, ◌∙◌}
use Rattle.curve.specs.Curve.{segment, segment_of}
use Rattle.curve.specs.Smallest.{smallest}
use Rattle.curve.specs.Internal.{curve_of}
use Rattle.curve.proofs.Curves.{not_below, warms}
use Rattle.curve.proofs.AcceptedCurve.segment_of.Goals as goal

pub returns : goal.returns
unfolding segment_of
returns c =
    let k = curve_of c.args.self.now.curve in
    let w = warms k c.args.self.now.accepted c.args.t c.requires c.last_point.result c.last_point.ensures in
    let found = c.bisect-end.ensures.smallest (not_below k c.args.t) (λ n b l h e. search rules) w in
    c.segment_at.ensures ∙ ap (segment k) (found ∙ ap (smallest (not_below k c.args.t) 1) c.last_point.ensures)
