-- The condition fails at every point passed.
use Rattle.std.proofs.Common.{◌≡◌, Err, false, ℕ, ◌<◌}
use Rattle.answer.specs.declared.Reason.TheVariants.{FalseAtLast}
use Rattle.answer.specs.Outcome.{refused_at}
use Rattle.curve.specs.Curve.{temperature, pressure}
use Rattle.curve.specs.Condition.{test_of}
use Rattle.curve.specs.Internal.{curve_of}
use Rattle.curve.proofs.AcceptedCurve.smallest_hundredth.Given as goal

abbrev pub invariant-loop-i : goal.invariant-loop-i
invariant-loop-i l =
    let k = curve_of l.self.curve in
    (l.found ≡ Err (refused_at FalseAtLast 0)) × ((j : ℕ) → j < l.i → test_of l.c (temperature k j) (pressure k j) ≡ false)
