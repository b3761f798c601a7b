-- `spelled` meets its contract: a digit behind those that were passed.
use Rattle.std.proofs.Common.{arith}
use Rattle.sheet.proofs.Parts.{spelling_more}
use Rattle.sheet.proofs.spelled.Goals as goal

pub loop-digit-preserved : goal.loop-digit-preserved
loop-digit-preserved c = spelling_more _ _ _ c.loop-digit.invariant c.requires (omega arith)
