-- `element` meets its contract: by the symbol at the beginning.
use Rattle.std.proofs.Common.{refl}
use Rattle.formula.proofs.Steps.{element-count}
use Rattle.formula.proofs.element.Goals as goal

pub returns : goal.returns
returns c = element-count c.symbol.result.now _ c.symbol.ensures c.in-Named.ensures refl c.multiple_at-n.ensures c.add_element.ensures refl
