-- At each turn the line holds the items so far.
use Rattle.std.proofs.Common.{◌≡◌, take}
use Rattle.elements.specs.Elements.{count}
use Rattle.hill.specs.Hill.{hill_order}
use Rattle.hill.proofs.Lines.{line}
use Rattle.hill.proofs.put_formula.Given as goal

abbrev pub invariant-loop-e : goal.invariant-loop-e
invariant-loop-e l = l.line.items ≡ line (count l.fn.atoms) (take l.e-index (hill_order l.fn.atoms))
