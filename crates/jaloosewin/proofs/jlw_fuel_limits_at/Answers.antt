-- A fuel alone is answered as a blend of it.
use Rattle.std.proofs.Common.{Some}
use Rattle.blend.specs.Fuel.{text}
use Rattle.limits.proofs.Alone.{as-blend}
use Rattle.jaloosewin.proofs.jlw_fuel_limits_at.Goals as goal

pub returns-clause-as_blend : goal.returns-clause-as_blend
returns-clause-as_blend c = as-blend (text _) (Some _)
