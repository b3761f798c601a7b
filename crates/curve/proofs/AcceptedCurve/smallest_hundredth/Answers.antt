-- Where no point passes, the condition fails at the last.
use Rattle.std.proofs.Common.{◌-◌, refl, ◌∙◌, arith}
use Rattle.curve.specs.Smallest.{searched}
use Rattle.curve.specs.Curve.{points}
use Rattle.curve.specs.Internal.{curve_of}
use Rattle.curve.proofs.Acceptance.{many}
use Rattle.curve.proofs.Searches.{met_at, fails-throughout}
use Rattle.curve.proofs.AcceptedCurve.smallest_hundredth.Goals as goal

pub returns-after-loop-i : goal.returns-after-loop-i
unfolding searched
returns-after-loop-i c =
    let k = curve_of c.args.self.now.curve in
    let ok = c.args.self.now.accepted in
    let n = many k ok in
    let last = met_at c.args.c k ok (points k - 1) (omega arith) ∙ c.loop-i.invariant.1 (points k - 1) (omega arith) in
    rw (c.loop-i.invariant.0, fails-throughout c.args.c k ok last, last) refl
