-- The floats' order of amounts is that of their exact values.
use Rattle.std.proofs.Common.{◌∙◌, true, false}
use Rattle.analyser.proofs.Order.{up-to-is}
use Rattle.analyser.proofs.is_up_to.Goals as goal

pub returns-then-x : goal.returns-then-x
returns-then-x c = up-to-is true _ _ c.requires c.if-x.true

pub returns-else-x : goal.returns-else-x
returns-else-x c = c.if-x.false ∙ up-to-is false _ c.args.high c.requires c.if-x.false
