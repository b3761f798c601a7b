-- `fuel_limits` meets its contract: a fuel alone is a blend of it.
use Rattle.limits.proofs.Alone.{as-blend}
use Rattle.limits.proofs.fuel_limits.Goals as goal

pub returns-clause-as_blend : goal.returns-clause-as_blend
returns-clause-as_blend c = as-blend _ _
