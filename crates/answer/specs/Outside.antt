-- Numbers outside a range: boiling points (refusal 7), gas temperatures (10), the points of a curve (11), numbers of methods and classes (16) and
-- diffusion coefficients (18).
use Rattle.std.specs.Prelude.{Bool, ◌||◌, ℤ}
use Rattle.std.specs.Int.Signed.{lt_z}

-- outside low to high
unfoldable pub outside : ℤ → ℤ → ℤ → Bool
outside low high n = lt_z n low || lt_z high n
