-- Rounding once: `roundDiv n d` is the one number nearest to n / d with its mark, and goes by that value alone; `roundDivℤ` keeps the sign.
use mathlib.Core.Path.{◌≡◌, refl, sym, ap, ap₂, ◌∙◌}
use mathlib.Core.Bool.{true, false}
use Prim.Native.Nat.{ℕ, zero, suc, ◌+◌, ◌*◌, ◌/◌, ◌≤◌, ◌<◌}
use native.Mathlib.Nat.{mul-pos, mul-le-mul_left, mul-le-mul_right, le_of_mul-le-mul_right, le_antisymm, le_of_eq}
use native.Mathlib.Nat.{div-zero, div-mul-le_self, lt-div-mul-add, div-eq_of_lt-le, le-div_iff_mul-le}
use native.Mathlib.Omega.{arith}
use lib.IntN.{ℤ, pos, negsuc, neg_ℤ, neg_ℤ-neg_ℤ, nat_abs, ◌-ℤ◌, ◌*ℤ◌}
use lib.Signed.{lt_z}
use borrow.Author.Tests.{ltb-true}
use Rattle.answer.specs.declared.Rounded.{Rounded}
use Rattle.answer.specs.declared.Mark.{Mark}
use Rattle.answer.specs.declared.Mark.TheVariants.{Exact, Lowered}
use Rattle.rounding.specs.Round.{rounded_value, mark_of, round_div, round_div_ℤ}
use Rattle.rounding.specs.Rounds.{Nearest, Marked, is-exact, is-lowered, Rounds, Rounds_ℤ}
use Rattle.rounding.proofs.Marks.{marked, marked-only, mark-alike}
use Rattle.rounding.proofs.Signed.{size-neg-is, pos-not-neg, neg-times, size-diff, size-diff-neg}

-- the nearest number, and the only one
nearest : (n d : ℕ) → 0 < d → Nearest n d (rounded_value n d)
unfolding rounded_value
nearest n d h =
    let p : 0 < 2 * d = omega arith in
    record {
      low = omega (arith, div-mul-le_self (2 * n + d) (2 * d));
      high = omega (arith, lt-div-mul-add {a = 2 * n + d} p);
    }

nearest-is : (n d r : ℕ) → Nearest n d r → r ≡ rounded_value n d
unfolding rounded_value
nearest-is n d r t = sym (div-eq_of_lt-le (2 * d) (omega arith) (omega arith))

round-by-zero : (n : ℕ) → rounded_value n 0 ≡ 0
unfolding rounded_value
round-by-zero n = div-zero (2 * n + 0)

-- a smaller fraction rounds to no larger number, an equal one to the same
pub round_mono : (a b c d : ℕ) → 0 < b → 0 < d → a * d ≤ c * b → rounded_value a b ≤ rounded_value c d
unfolding rounded_value
round_mono a b c d hb hd h =
    let x = (2 * a + b) / (2 * b) in
    let p = mul-le-mul_right d (div-mul-le_self (2 * a + b) (2 * b)) in
    let q : x * (2 * d) * b ≤ (2 * c + d) * b = omega arith in
    let k : 0 < 2 * d = omega arith in
    (le-div_iff_mul-le k).1 (le_of_mul-le-mul_right q hb)

round_same : (a b c d : ℕ) → 0 < b → 0 < d → a * d ≡ c * b → rounded_value a b ≡ rounded_value c d
round_same a b c d hb hd h = le_antisymm (round_mono a b c d hb hd (le_of_eq h)) (round_mono c d a b hd hb (le_of_eq (sym h)))

-- it makes no number larger
round-le : (n d : ℕ) → rounded_value n d ≤ n
unfolding rounded_value
round-le n zero = omega (arith, round-by-zero n)
round-le n (suc d) = omega (arith, round_mono n (suc d) n 1 (omega arith) (omega arith) (mul-le-mul_left n (omega arith)))

-- VALUE AND MARK
abbrev with-mark : ℕ → Mark → Rounded ℕ
with-mark r m = record { value = r; mark = m }

pub round-only : (n d r : ℕ) (m : Mark) → 0 < d → Nearest n d r → Marked n d r m → with-mark r m ≡ round_div n d
unfolding round_div
round-only n d r m h t k = let e = nearest-is n d r t in ap₂ with-mark e (rw e at (marked-only n d r h m k))

-- below a half it is 0, exactly or lowered; so all that is below a half and not 0 is rounded alike
round-none : (n d : ℕ) (m : Mark) → 2 * n < d → Marked n d 0 m → with-mark 0 m ≡ round_div n d
round-none n d m h k = round-only n d 0 m (omega arith) (record { low = omega arith; high = omega arith }) k

pub none_alike : (a b c d : ℕ) → 2 * a < b → 2 * c < d → (a ≡ 0 → c ≡ 0) → (0 < a → 0 < c) → round_div a b ≡ round_div c d
none_alike zero b c d h k z p = sym (round-none 0 b Exact h (is-exact (omega arith))) ∙ round-none c d Exact k (is-exact (omega (arith, z refl)))
none_alike (suc a) b c d h k z p = sym (round-none (suc a) b Lowered h (is-lowered (omega arith))) ∙ round-none c d Lowered k (is-lowered (omega (arith, p (omega arith))))

pub div-by-zero : (n : ℕ) → with-mark 0 Exact ≡ round_div n 0
unfolding round_div mark_of
div-by-zero n = ap₂ with-mark (sym (round-by-zero n)) refl

pub div-le : (n d : ℕ) (r : Rounded ℕ) → r ≡ round_div n d → r.value ≤ n
unfolding round_div
div-le n d r e = rw e (round-le n d)

pub div_same : (a b c d : ℕ) → 0 < b → 0 < d → a * d ≡ c * b → round_div a b ≡ round_div c d
unfolding round_div
div_same a b c d hb hd h =
    let e = round_same a b c d hb hd h in
    ap₂ with-mark e (rw e (mark-alike a b c d (rounded_value c d) hb hd h))

pub rounds : (n d : ℕ) (r : Rounded ℕ) → r ≡ round_div n d → Rounds n d r
unfolding round_div
rounds n d r e =
    rw e
    (record {
      nearest = nearest n d;
      only = nearest-is n d;
      marked = marked n d (rounded_value n d);
      alike = λ m e hd he h. sym (div_same n d m e hd he h);
      monotone = λ m e. round_mono n d m e;
      by_zero = λ z. rw z (sym (div-by-zero n));
    })

-- SIGNED NUMBERS. −z is rounded as z, with the same mark.
signed_odd : (z : ℤ) (d : ℕ) → round_div_ℤ (neg_ℤ z) d ≡ record { value = neg_ℤ (round_div_ℤ z d).value; mark = (round_div_ℤ z d).mark }
unfolding round_div_ℤ round_div
signed_odd (pos zero) d = rw nothing
  where
    nothing : rounded_value zero d ≡ zero
    nothing = omega (arith, round-le zero d)
signed_odd (pos (suc n)) d = refl
signed_odd (negsuc n) d = rw (neg_ℤ-neg_ℤ (pos (rounded_value (suc n) d)))

-- the size is that of z rounded, and so is the mark
signed-size : (z : ℤ) (d : ℕ) → nat_abs (round_div_ℤ z d).value ≡ (round_div (nat_abs z) d).value
unfolding round_div_ℤ round_div
signed-size (pos n) d = refl
signed-size (negsuc n) d = size-neg-is (rounded_value (suc n) d)

signed-marked : (z : ℤ) (d : ℕ) → 0 < d → Marked (nat_abs z) d (nat_abs (round_div_ℤ z d).value) (round_div_ℤ z d).mark
unfolding round_div_ℤ round_div
signed-marked (pos n) d h = marked n d (rounded_value n d) h
signed-marked (negsuc n) d h = rw (size-neg-is (rounded_value (suc n) d)) (marked (suc n) d (rounded_value (suc n) d) h)

-- at most 1/2 away
signed-near : (z : ℤ) (d : ℕ) → 0 < d → 2 * nat_abs (z -ℤ (round_div_ℤ z d).value *ℤ pos d) ≤ d
unfolding round_div_ℤ round_div
signed-near (pos n) d h = omega (arith, size-diff n (rounded_value n d * d), nearest n d h)
signed-near (negsuc n) d h =
    rw (neg-times (rounded_value (suc n) d) d)
    (omega (arith, size-diff-neg (suc n) (rounded_value (suc n) d * d), nearest (suc n) d h))

-- equal fractions
abbrev with-sign : (ℕ → ℤ) → Rounded ℕ → Rounded ℤ
with-sign sign r = record { value = sign r.value; mark = r.mark }

signed-alike : (z : ℤ) (d : ℕ) (y : ℤ) (e : ℕ) → 0 < d → 0 < e → z *ℤ pos e ≡ y *ℤ pos d → round_div_ℤ y e ≡ round_div_ℤ z d
unfolding round_div_ℤ round_div
signed-alike (pos n) d (pos m) e h k same = ap (with-sign pos) (div_same m e n d k h (sym (ap nat_abs same)))
signed-alike (pos n) d (negsuc m) e h k same = absurd (pos-not-neg (n * e) (suc m * d) (omega (arith, mul-pos {m = suc m} (omega arith) h)) same)
signed-alike (negsuc n) d (pos m) e h k same = absurd (pos-not-neg (m * d) (suc n * e) (omega (arith, mul-pos {m = suc n} (omega arith) k)) (sym same))
signed-alike (negsuc n) d (negsuc m) e h k same =
    ap (with-sign (λ r. neg_ℤ (pos r))) (div_same (suc m) e (suc n) d k h (sym (size-neg-is (suc m * d)) ∙ sym (ap nat_abs same) ∙ size-neg-is (suc n * e)))

signed-by-zero : (z : ℤ) → round_div_ℤ z 0 ≡ record { value = pos 0; mark = Exact }
unfolding round_div_ℤ round_div mark_of
signed-by-zero (pos n) = rw (round-by-zero n)
signed-by-zero (negsuc n) = rw (round-by-zero (suc n))

pub rounds_ℤ : (z : ℤ) (d : ℕ) (r : Rounded ℤ) → r ≡ round_div_ℤ z d → Rounds_ℤ z d r
rounds_ℤ z d r e =
    rw e
    (record {
      near = signed-near z d;
      size = signed-size z d;
      marked = signed-marked z d;
      odd = signed_odd z d;
      alike = signed-alike z d;
      by_zero = λ h. rw h (signed-by-zero z);
    })

-- a size that was rounded, with its mark, and the sign put back
pub div-neg : (z : ℤ) (d : ℕ) (r : Rounded ℕ) → r ≡ round_div (nat_abs z) d → (v : ℤ) → lt_z z (pos 0) ≡ true → v ≡ neg_ℤ (pos r.value) →
    record { value = v; mark = r.mark } ≡ round_div_ℤ z d
unfolding round_div_ℤ round_div
div-neg (pos n) d r e v h p = absurd (omega (arith, ltb-true n 0 h))
div-neg (negsuc n) d r e v h p = rw (p, e)

pub div-pos : (z : ℤ) (d : ℕ) (r : Rounded ℕ) → r ≡ round_div (nat_abs z) d → (v : ℤ) → lt_z z (pos 0) ≡ false → v ≡ pos r.value →
    record { value = v; mark = r.mark } ≡ round_div_ℤ z d
unfolding round_div_ℤ round_div
div-pos (pos n) d r e v h p = rw (p, e)
div-pos (negsuc n) d r e v h p = cc
