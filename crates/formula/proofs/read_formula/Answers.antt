-- `read_formula` meets its contract: by where the reader stops, and the grammar's clause from the reader's.
use Rattle.std.proofs.Common.{refl}
use Rattle.formula.proofs.Right.{long-reading, short-reading, by-grammar}
use Rattle.formula.proofs.Judging.{left-stuck, left-before, left-none}
use Rattle.formula.proofs.read_formula.Goals as goal
use Rattle.formula.proofs.read_formula.Goals.{in-Ok-2-2, in-Ok-2}

pub returns-then-text-gt256-clause-value : goal.returns-then-text-gt256-clause-value
returns-then-text-gt256-clause-value c = rw (long-reading _ c.if-text-gt256.true, c.at.ensures)

pub returns-then-text-gt256-clause-grammar : goal.returns-then-text-gt256-clause-grammar
returns-then-text-gt256-clause-grammar c = by-grammar _ _ (returns-then-text-gt256-clause-value c)

pub returns-in-Ok-clause-value : goal.returns-in-Ok-clause-value
returns-in-Ok-clause-value c =
    let whole = left-none c.new-tally.ensures c.if-is_empty.ensures c.in-Ok.ensures in
    rw (short-reading _ c.if-text-gt256.false _ refl, whole.0) (c.checked.ensures _ whole.1)

pub returns-in-Ok-clause-grammar : goal.returns-in-Ok-clause-grammar
returns-in-Ok-clause-grammar c = by-grammar _ _ (returns-in-Ok-clause-value c)

pub returns-in-Ok-2-clause-value : goal.returns-in-Ok-2-clause-value
returns-in-Ok-2-clause-value c =
    let short = short-reading _ c.if-text-gt256.false _ refl in
    elim c.in-Ok-2-1.branch [
      | in-Ok-2-2 w ↦ rw (short, left-before w.if-is_empty.ensures w.in-Ok.ensures, c.at-in-Ok-2.ensures, w.left-is)
      | in-Ok-2 w ↦ rw (short, left-stuck w.in-Ok-2.ensures, c.at-in-Ok-2.ensures, w.left-is)
    ]

pub returns-in-Ok-2-clause-grammar : goal.returns-in-Ok-2-clause-grammar
returns-in-Ok-2-clause-grammar c = by-grammar _ _ (returns-in-Ok-2-clause-value c)
