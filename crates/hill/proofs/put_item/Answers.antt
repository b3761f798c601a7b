-- The symbol, and the count behind it where that is above 1.
use Rattle.std.proofs.Common.{arith}
use Rattle.text.proofs.Lines.{appends_one, appends_then}
use Rattle.hill.proofs.Lines.{item-one, item-more}
use Rattle.hill.proofs.put_item.Goals as goal

pub returns-then-n-gt1 : goal.returns-then-n-gt1
returns-then-n-gt1 c = rw (item-more c.args.e c.args.n (omega arith)) (appends_then (appends_one c.put_symbol.ensures) (appends_one c.put_decimal.ensures))

pub returns-else-n-gt1 : goal.returns-else-n-gt1
returns-else-n-gt1 c = rw (item-one c.args.e c.args.n (omega arith)) (appends_one c.put_symbol.ensures)
