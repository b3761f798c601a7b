-- At each turn the sum is that of the elements so far.
use Rattle.std.proofs.Common.{◌≡◌, List, ℕ, ◌*◌, ◌≤◌, min, get_or}
use Rattle.elements.specs.declared.Atoms.{Atoms}
use Rattle.elements.specs.Elements.{sum_below}
use Rattle.elements.proofs.weighted_sum.Given as goal

abbrev pub term : List ℕ → Atoms → ℕ → ℕ
term weights a i = get_or weights i 0 * min (get_or a.count i 0) 200

abbrev pub invariant-loop-i : goal.invariant-loop-i
invariant-loop-i l = (l.sum ≤ l.i * 51000) × (l.sum ≡ sum_below (term l.fn.weights l.atoms) l.i)
