-- What is known of a blend whose sums are in their bounds.
-- No public promise cites this file.
use Rattle.std.specs.Prelude.{◌*◌, ◌≤◌}
use Rattle.blend.specs.declared.Blend.{Blend}
use Rattle.blend.specs.Limit.{Side, lower, upper}
use Rattle.blend.specs.Blend.{sum_of, least, greatest}

-- a blend that is not out of bounds, as facts
pub record SumIn (s : Side) (b : Blend) : Type 0 where
  pub from : least s * b.total ≤ sum_of s b
  pub to : sum_of s b ≤ greatest s * b.total

pub record Within (b : Blend) : Type 0 where
  pub total_most : b.total ≤ 1000000
  pub lower_in : SumIn lower b
  pub upper_in : SumIn upper b
