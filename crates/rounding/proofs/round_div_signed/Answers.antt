-- The size of n is rounded, so it is at most 2 ^ 63 after as before; the sign is put back.
use Rattle.std.proofs.Common.{◌≡◌, ℕ, ℤ, nat_abs, w64, ap, ◌∙◌, rules, arith}
use Rattle.std.specs.Prelude.{Option, Some, None}
use Rattle.std.specs.Option.{SomeIff, IsSome}
use Rattle.std.proofs.Math.Facts.{to_z-of_z, to_z_pos}
use lib.Signed.{mag, nat_abs-le}
use Rattle.answer.specs.declared.Rounded.{Rounded}
use Rattle.rounding.specs.Round.{round_div}
use Rattle.rounding.proofs.Signed.{size-pos, zero-less, less-fits}
use Rattle.rounding.proofs.Rounding.{div-le, div-neg, div-pos, rounds_ℤ}
use Rattle.rounding.proofs.round_div_signed.Goals as goal

-- the quotient of the size as it was read
quotient_is : (n z : ℤ) (d s : ℕ) (q : Rounded ℕ) → z ≡ n → s ≡ nat_abs z → q ≡ round_div s d → q ≡ round_div (nat_abs n) d
quotient_is n z d s q e f g = g ∙ ap (λ (m : ℕ). round_div m d) (f ∙ ap nat_abs e)

is_some : {A P : Type 0} (v : A) (o : Option A) → SomeIff o P v → P → IsSome o
is_some v (Some x) h p = search rules
is_some v None h p = absurd (h p)

pub unwrap-requires : goal.unwrap-requires
unwrap-requires c =
    let q = quotient_is _ _ _ _ _ (to_z-of_z c.ranges.n) c.size.ensures c.round_div-value.ensures.value in
    is_some _ _ c.checked_sub_unsigned.ensures (less-fits c.round_div-value.result.value (omega (arith, div-le _ _ _ q, nat_abs-le c.args.n c.ranges.n.sfits)))

pub returns-then-n-lt0-clause-value : goal.returns-then-n-lt0-clause-value
returns-then-n-lt0-clause-value c =
    let q = quotient_is _ _ _ _ _ (to_z-of_z c.ranges.n) c.size.ensures c.round_div-value.ensures.value in
    let v = rw c.unwrap.ensures at c.checked_sub_unsigned.ensures in
    div-neg _ _ _ q _ (rw (to_z-of_z c.ranges.n) at c.if-n-lt0.true) (to_z-of_z {w = w64} {z = c.unwrap.result} (search rules) ∙ v.1 ∙ zero-less _)

pub returns-then-n-lt0-clause-rounds : goal.returns-then-n-lt0-clause-rounds
returns-then-n-lt0-clause-rounds c = rounds_ℤ _ _ _ (returns-then-n-lt0-clause-value c)

pub overflow_cast-result : goal.overflow_cast-result
overflow_cast-result c =
    let q = quotient_is _ _ _ _ _ (to_z-of_z c.ranges.n) c.size.ensures c.round_div-value.ensures.value in
    let p = size-pos c.args.n (rw (to_z-of_z c.ranges.n) at c.if-n-lt0.false) in
    record { sfits = omega (arith, div-le _ _ _ q, ap mag p) }

pub returns-clause-value : goal.returns-clause-value
returns-clause-value c =
    let q = quotient_is _ _ _ _ _ (to_z-of_z c.ranges.n) c.size.ensures c.round_div-value.ensures.value in
    div-pos _ _ _ q _ (rw (to_z-of_z c.ranges.n) at c.if-n-lt0.false) (to_z_pos w64 (overflow_cast-result c).sfits)

pub returns-clause-rounds : goal.returns-clause-rounds
returns-clause-rounds c = rounds_ℤ _ _ _ (returns-clause-value c)
