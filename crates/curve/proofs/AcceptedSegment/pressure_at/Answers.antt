-- The product is at most 250,000 times 87,300, and the sum at most the segment's higher pressure.
use Rattle.std.proofs.Common.{◌≡◌, ◌+◌, ap, arith}
use Rattle.rounding.specs.declared.Quotient.{Quotient}
use Rattle.curve.specs.Curve.{between}
use Rattle.curve.proofs.Rising.{under}
use Rattle.curve.proofs.AcceptedSegment.pressure_at.Goals as goal

pub returns : goal.returns
unfolding between
returns c =
    let e : c.args.self.segment.low + c.divide-rise.result.quotient ≡ between c.args.self.segment c.args.t = ap (λ (q : Quotient). c.args.self.segment.low + q.quotient) c.divide-rise.ensures in
    (e, omega (arith, e, under c.args.self.segment c.args.self.sloped c.args.t c.requires.1))
