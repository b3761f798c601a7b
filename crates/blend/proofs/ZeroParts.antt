-- Parts 0 change nothing.
use mathlib.Core.Path.{◌≡◌}
use mathlib.Core.List.{List}
use Prim.Native.Nat.{ℕ}
use native.Mathlib.Omega.{arith}
use Rattle.std.proofs.lemmas.Bool.Decides.{nat_tests}
use Rattle.answer.specs.Outcome.{value_of}
use Rattle.blend.specs.declared.Blend.{Blend}
use Rattle.blend.specs.Fuel.{Fuel}
use Rattle.blend.specs.Blend.{taking, adding}
use Rattle.blend.specs.Calls.{Call, add, put, next}
use Rattle.blend.specs.Claims.{keeper, blends}

-- a state put where it already is
put_same : {S : Type 0} (states : ℕ → S) (i : ℕ) (x : S) → x ≡ states i → (j : ℕ) → put states i x j ≡ states j
unfolding put
put_same states i x e j = grind (arith, nat_tests)

zero-added : (b : Blend) (f : Fuel) → value_of b (adding b f 0) ≡ b
unfolding adding taking
zero-added b f = grind (arith, nat_tests)

pub zero-changes : (calls : List Call) (i : ℕ) (f : Fuel) (j : ℕ) → next keeper (blends calls) (add i f 0) j ≡ blends calls j
unfolding next
zero-changes calls i f j = put_same (blends calls) i _ (zero-added (blends calls i) f) j
