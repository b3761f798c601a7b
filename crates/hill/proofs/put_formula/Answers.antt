-- A turn appends the item of its element; after ten of them the line is the whole text.
use Rattle.std.proofs.Common.{arith}
use Rattle.hill.proofs.Lines.{line-more, line-done}
use Rattle.hill.proofs.put_formula.Goals as goal

pub loop-e-preserved : goal.loop-e-preserved
loop-e-preserved c = line-more _ c.requires.few _ c.loop-e.invariant (omega arith) (rw (c.of.ensures, c.hill_order-e-items.ensures) at c.put_item.ensures)

pub returns : goal.returns
returns c = line-done _ c.loop-e.e-index c.loop-e.invariant (omega arith)
