-- The bounds of a blend as a test.
use mathlib.Core.Path.{◌≡◌}
use mathlib.Core.Bool.{true}
use native.Mathlib.Omega.{arith}
use Rattle.std.proofs.lemmas.Bool.Decides.{nat_tests}
use Rattle.blend.specs.declared.Blend.{Blend}
use Rattle.blend.specs.Blend.{sum_within, within}
use Rattle.blend.specs.Internal.{Within}

pub within-test : (b : Blend) → Within b → within b ≡ true
unfolding within sum_within
within-test b w = grind (arith, nat_tests)
