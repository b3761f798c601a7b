-- A condition on a temperature and a pressure as whole numbers: level ≤ (slope · t + base) · p, t in hundredths of a degree above −273 °C.
use Rattle.std.specs.Prelude.{Bool, false, ◌&&◌, cond, ◌+◌, ◌*◌, leb, ltb}
use Rattle.curve.specs.declared.Condition.{Condition}
use Rattle.curve.specs.Smallest.{Test}

unfoldable pub holds : Condition → Test
holds c t p = leb c.level ((c.slope * t + c.base) * p)

-- up to 600.00 °C, 873.00 above −273 °C, and 250,000 Pa the product is below 2 ^ 64
unfoldable pub bounded : Condition → Bool
bounded c = ltb ((c.slope * 87300 + c.base) * 250000) 18446744073709551616

-- the test that a condition is; one that is not bounded so is never true, which the papers leave free
unfoldable pub test_of : Condition → Test
test_of c = cond (bounded c) (holds c) (λ t p. false)

-- the same at any t and p; beyond 600.00 °C or 250,000 Pa it is not met, which the papers leave free
unfoldable pub met_within : Condition → Test
met_within c t p = (leb t 87300 && leb p 250000) && test_of c t p
