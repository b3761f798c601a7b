-- The loop has raised the count at every index passed, and no other.
use Rattle.std.proofs.Common.{◌≡◌, ℕ, ◌+◌, ◌*◌, ◌≤◌, ◌<◌, length, get_or}
use Rattle.formula.specs.Internal.{cap}
use Rattle.formula.proofs.Tally.add_group.Given as goal

abbrev pub invariant-loop-i : goal.invariant-loop-i
invariant-loop-i l = record {
  size : length l.total-items ≡ length l.fn.self.count;
  raised : (k : ℕ) → k < l.i → get_or l.total-items k 0 ≡ cap (get_or l.fn.self.count k 0 + get_or l.group.count k 0 * l.n);
  later : (k : ℕ) → l.i ≤ k → get_or l.total-items k 0 ≡ get_or l.fn.self.count k 0;
}
