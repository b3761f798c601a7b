-- The test fails at `below`, or that is the lower end, and passes at `found`.
use Rattle.std.proofs.Common.{Bool, ℕ, ◌+◌, ◌-◌, ◌≤◌, ◌<◌}
use Rattle.curve.specs.Internal.{Tells, Lasts}
use Rattle.curve.proofs.Smallest.{Bracket}
use Rattle.curve.proofs.bisect.Given as goal

abbrev pub invariant-loop-found : goal.invariant-loop-found
invariant-loop-found g l = record {
  above : l.low ≤ l.below;
  apart : l.below < l.found;
  within : l.found ≤ l.high;
  bracket : (f : ℕ → Bool) → Tells (goal.F-post g l.passes) f l.low l.high → Lasts f l.low l.high → Bracket f (l.low + 1) l.high l.below l.found;
}

abbrev pub decreases-loop-found : goal.decreases-loop-found
decreases-loop-found g l = l.found - l.below
