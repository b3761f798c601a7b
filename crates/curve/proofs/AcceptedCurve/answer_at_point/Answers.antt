-- Where the condition holds at point i and not at the one before, the answer lies on the segment that ends there.
use Rattle.std.proofs.Common.{◌-◌, sym, refl, ◌∙◌, arith}
use Rattle.std.proofs.Math.Facts.{to_z-of_z}
use Rattle.curve.specs.Smallest.{searched}
use Rattle.curve.specs.Internal.{curve_of}
use Rattle.curve.proofs.Signed.{lowered-fits, clamp-is}
use Rattle.curve.proofs.Searches.{Crossed, met_at, starts-unmet, ends-met, search-in}
use Rattle.curve.proofs.AcceptedCurve.answer_at_point.Goals as goal

pub returns-then-i-eq0 : goal.returns-then-i-eq0
unfolding searched
returns-then-i-eq0 c =
    let k = curve_of c.args.self.now.curve in
    let first = met_at c.args.c k c.args.self.now.accepted 0 (omega (arith, c.requires.point)) ∙ rw c.if-i-eq0.true at c.requires.holds in
    rw (first, c.at.ensures) refl

pub hundredth-requires-clause-fails : goal.hundredth-requires-clause-fails
hundredth-requires-clause-fails c =
    let k = curve_of c.args.self.now.curve in
    let x : Crossed c.args.c k c.args.i = record { second = omega arith; point = c.requires.point; fails = c.requires.fails (c.args.i - 1) (omega arith); passes = c.requires.holds } in
    rw c.segment_at.ensures (starts-unmet c.args.c k c.args.self.now.accepted _ x)

pub hundredth-requires-clause-holds : goal.hundredth-requires-clause-holds
hundredth-requires-clause-holds c =
    let k = curve_of c.args.self.now.curve in
    let x : Crossed c.args.c k c.args.i = record { second = omega arith; point = c.requires.point; fails = c.requires.fails (c.args.i - 1) (omega arith); passes = c.requires.holds } in
    rw c.segment_at.ensures (ends-met c.args.c k c.args.self.now.accepted _ x)

pub returns : goal.returns
returns c =
    let k = curve_of c.args.self.now.curve in
    let x : Crossed c.args.c k c.args.i = record { second = omega arith; point = c.requires.point; fails = c.requires.fails (c.args.i - 1) (omega arith); passes = c.requires.holds } in
    let s = search-in c.args.c k c.args.self.now.accepted _ x in
    let at = rw (rw c.segment_at.ensures at c.hundredth.ensures, clamp-is 87300 _ s.0) at c.answer_at.ensures in
    rw (at, to_z-of_z (lowered-fits _ s.0)) (sym s.1)
