-- What a good method and an admitted reading say: amounts, at most 1,000,000 parts. The code's constants 100.0 and 1000000.0.
use mathlib.Core.Path.{◌≡◌, refl, sym, ap, ◌∙◌}
use mathlib.Core.Bool.{Bool, true, false, not}
use Prim.Native.Nat.{ℕ, ◌*◌, ◌≤◌}
use native.Mathlib.Nat.{mul-le-mul_left, le_of_mul-le-mul_right}
use native.Mathlib.Omega.{arith}
use lib.Dec.{T}
use lib.Ieee.{Float, binary64, of_bits}
use lib.Ieee.Positive.{num, den, den_pos}
use borrow.Author.Tests.{leb-true}
use Rattle.std.specs.Bool.{passes}
use Rattle.answer.specs.declared.Refusal.{Refusal}
use Rattle.answer.specs.Numbers.{bad_reading}
use Rattle.answer.specs.Outcome.{Outcome, refused, answered, refuse, and_then}
use Rattle.answer.proofs.Outcomes.{refuse-then, refuse-passed}
use Rattle.answer.proofs.Tests.{both}
use Rattle.rounding.specs.Round.{rounded_value, round_div}
use Rattle.rounding.specs.Fraction.{Fraction, ◌over◌, whole, ◌⊠◌, ◌⊑◌, at_most, rounded}
use Rattle.rounding.proofs.Fractions.{Is, is-over, is_whole, is-times, at-most-is, at-most-values, at-most-trans, rounded-mono}
use Rattle.analyser.specs.declared.Method.{Method}
use Rattle.analyser.specs.Reading.{is_amount, amount, up_to, good_method}
use Rattle.analyser.specs.Internal.{Top}

pub amount-is : (x : Float) → Is (amount x) (num x) (den x)
amount-is x = is-over (num x) (den x) (den_pos x)

pub up-to-amount : (x : Float) (f : Fraction) → up_to x f ≡ true → T (is_amount x)
unfolding up_to
up-to-amount x f e = passes (is_amount x) (both (is_amount x) (at_most (amount x) f) e).0

up-to-most : (x y : Float) → up_to x (amount y) ≡ true → amount x ⊑ amount y
unfolding up_to at_most ◌over◌
up-to-most x y e = record { left_over = den_pos x; right_over = den_pos y; cross = leb-true _ _ (both (is_amount x) (at_most (amount x) (amount y)) e).1 }

module _ (top : Float) (m : Method) (good : good_method (amount top) m ≡ true) where
  tests : (up_to m.ceiling (amount top) ≡ true) × (up_to m.limit (amount m.ceiling) ≡ true)
  unfolding good_method
  tests = both (up_to m.ceiling (amount top)) (up_to m.limit (amount m.ceiling)) good

  pub ceiling-is : T (is_amount m.ceiling)
  ceiling-is = up-to-amount m.ceiling (amount top) tests.0

  pub limit_is : T (is_amount m.limit)
  limit_is = up-to-amount m.limit (amount m.ceiling) tests.1

  -- a reading up to the ceiling, in a unit of which `top` are 1,000,000 parts
  pub most-parts : (x : Float) (scale : ℕ) → Top top scale → up_to x (amount m.ceiling) ≡ true → whole scale ⊠ amount x ⊑ whole 1000000
  most-parts x scale t e =
      let n = num top in
      let d = den top in
      let le : num x * d ≤ n * den x = at-most-values (amount-is x) (amount-is top) (at-most-trans (up-to-most x m.ceiling e) (up-to-most m.ceiling top tests.0)) in
      let l : scale * num x * d ≤ 1000000 * den x * d = omega (arith, mul-le-mul_left scale le, ap (λ (z : ℕ). z * den x) t.million) in
      at-most-is (is-times (is_whole scale) (amount-is x)) (is_whole 1000000) (omega (arith, le_of_mul-le-mul_right l (den_pos top)))

pub rounded-most : (f : Fraction) → f ⊑ whole 1000000 → (rounded f).value ≤ 1000000
unfolding rounded round_div rounded_value whole
rounded-most f h = rounded-mono h

-- A METHOD THAT WAS TESTED: it is good, or what refuses it refuses whatever comes next
module _ (b : Bool) where
  abbrev pub unless-good : {A : Type 0} → Outcome A → Outcome A
  unless-good next = refuse bad_reading 0 (not b) next

  pub passed : ◌≡◌ {A = Outcome (Unit {0})} (answered tt) (unless-good (answered tt)) → b ≡ true
  passed e = go b (refuse-passed bad_reading 0 (not b) (answered tt) tt (sym e)).0
    where
      go : (b : Bool) → not b ≡ false → b ≡ true
      go true q = refl
      go false q = sym q

  pub declined : {A : Type 0} (r : Refusal) (next : Outcome A) → ◌≡◌ {A = Outcome (Unit {0})} (refused r) (unless-good (answered tt))
      → refused r ≡ unless-good next
  declined r next e = ap (λ (o : Outcome (Unit {0})). and_then o (λ z. next)) e ∙ refuse-then bad_reading 0 (not b) (answered tt) (λ z. next)

-- THE CODE'S CONSTANTS, by their bits
pub hundred-is : amount (of_bits binary64 0x4059_0000_0000_0000) ≡ whole 100
unfolding of_bits ◌over◌ whole
hundred-is = refl

pub million-is : amount (of_bits binary64 0x412e_8480_0000_0000) ≡ whole 1000000
unfolding of_bits ◌over◌ whole
million-is = refl
