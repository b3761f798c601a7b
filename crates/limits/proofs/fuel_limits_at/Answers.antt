-- `fuel_limits_at` meets its contract: a fuel alone is a blend of it.
use Rattle.std.proofs.Math.Facts.{to_z-of_z}
use Rattle.limits.proofs.Alone.{as-blend, by_adding}
use Rattle.limits.proofs.fuel_limits_at.Goals as goal

pub returns-in_err-add_fuel-clause-as_blend : goal.returns-in_err-add_fuel-clause-as_blend
returns-in_err-add_fuel-clause-as_blend c = as-blend _ _

pub returns-clause-as_blend : goal.returns-clause-as_blend
returns-clause-as_blend c = as-blend _ _

pub returns-clause-value : goal.returns-clause-value
returns-clause-value c =
    by_adding _ _ c.empty_blend.ensures.value c.in_ok-add_fuel.ensures (rw (to_z-of_z c.ranges.temperature) at c.blend_limits_at.ensures.value)
