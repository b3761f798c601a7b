-- The exact value of an amount by its bits, and what `whole_parts` makes of them: the significand times the factor, over a power of two, rounded once.
use mathlib.Core.Path.{◌≡◌, refl, sym, ap, ◌∙◌, subst}
use mathlib.Core.Bool.{Bool, true, false, not, cond}
use Prim.Native.Nat.{ℕ, zero, suc, ◌+◌, ◌-◌, ◌*◌, ◌/◌, ◌%◌, ◌^◌, ◌≤◌, ◌<◌}
use native.Mathlib.Nat.{mul_comm, mul_assoc, mul_left_comm, one-mul, mul-one, mul-le-mul_left, mul-le-mul_right, le_of_lt, le_of_eq, le_trans, lt_of_lt_of_le, lt_of_le_of_lt, lt_of_not-le, lt_irrefl, mod-lt, mul-pos}
use native.Mathlib.Decide.{dec_lt}
use native.Mathlib.Omega.{arith}
use lib.Dec.{T, leb, eqb, lit<}
use lib.Pow.{pow-add, pow_pos, pow_mono, shl_lt, shl_exact, mod-mod-pow}
use lib.Ieee.{Float, nan, inf, fin, binary64, odd, fits, is_nan, of_fields, of_bits, to_bits}
use lib.Ieee.Bits.{of_bits-to_bits}
use lib.Ieee.Digits.{Equals, odd_val}
use lib.Ieee.Positive.{num, den, den_pos}
use Rattle.answer.specs.declared.Rounded.{Rounded}
use Rattle.rounding.specs.Round.{round_div}
use Rattle.rounding.specs.Fraction.{whole, ◌⊠◌, rounded}
use Rattle.rounding.proofs.Rounding.{none_alike}
use Rattle.rounding.proofs.Fractions.{Is, is-over, is_whole, is-times, is_same, at-most-values, rounded-is}
use Rattle.analyser.specs.Reading.{is_amount, amount}
use Rattle.analyser.specs.Internal.{Small, AtMostMillion}

-- what the fields f of the exponent and t of the significand say of x: it is q · 2 ^ j units of 2 ^ −1074
record Read (f t : ℕ) (x : Float) : Type 0 where
  q : ℕ
  j : ℕ
  value : num x * 2 ^ 1074 ≡ q * 2 ^ j * den x
  q_lt : q < 2 ^ 53
  j_is : j ≡ f - 1
  bare : f ≡ 0 → q ≡ t
  lead : 0 < f → q ≡ t + 2 ^ 52

units : (x : Float) (a : ℕ) → Equals x a (2 ^ 1074) → num x * 2 ^ 1074 ≡ a * den x
units nan a h = absurd h
units (inf s) a h = absurd h
units (fin s m e) a h = h

-- a field of all ones is an infinity's or a NaN's
finite : (a b s : Bool) (v : Float) → T (is_amount (cond a (cond b (inf s) nan) v)) → cond a (cond b (inf s) nan) v ≡ v
finite true true s v p = absurd p
finite true false s v p = absurd p
finite false b s v p = refl

of-fields : (s : Bool) (f t : ℕ) → t < 2 ^ 52 → T (is_amount (of_fields binary64 s f t)) → Read f t (of_fields binary64 s f t)
unfolding of_fields
of-fields s zero t h p = record {
  q = t;
  j = 0;
  value = units (odd 53 s t 0 1074) (t * 2 ^ 0) (odd_val 53 s t 0 1074);
  q_lt = omega arith;
  j_is = omega arith;
  bare = λ z. refl;
  lead = λ z. absurd (lt_irrefl 0 z);
}
of-fields s (suc f) t h p =
    let v = odd 53 s (2 ^ 52 + t) f 1074 in
    subst (Read (suc f) t) (sym (finite (eqb (suc f) 2047) (eqb t 0) s v p))
    (record {
      q = 2 ^ 52 + t;
      j = f;
      value = units v ((2 ^ 52 + t) * 2 ^ f) (odd_val 53 s (2 ^ 52 + t) f 1074);
      q_lt = omega arith;
      j_is = omega arith;
      bare = λ (z : suc f ≡ 0). absurd (omega arith);
      lead = λ z. omega arith;
    })

-- the two fields, as the code takes them from the bits
abbrev pub exponent : ℕ → ℕ
exponent b = b % 2 ^ 63 / 2 ^ 52

abbrev pub fraction : ℕ → ℕ
fraction b = b % 2 ^ 63 % 2 ^ 52

of-bits : (b : ℕ) → T (is_amount (of_bits binary64 b)) → Read (exponent b) (fraction b) (of_bits binary64 b)
unfolding of_bits
of-bits b p = rw (mod-mod-pow b 11 52) (of-fields (leb (2 ^ 63) b) (exponent b) (b % 2 ^ 52) (mod-lt b (pow_pos 52)) p)

read : (x : Float) → T (fits binary64 x) → T (is_amount x) → Read (exponent (to_bits binary64 x)) (fraction (to_bits binary64 x)) x
read x h p =
    let b = to_bits binary64 x in
    let e = of_bits-to_bits binary64 x h in
    subst (Read (exponent b) (fraction b)) e (of-bits b (subst (λ (v : Float). T (is_amount v)) (sym e) p))

pub no_nan : (x : Float) → T (is_amount x) → T (not (is_nan x))
unfolding is_nan
no_nan nan p = absurd p
no_nan (inf s) p = tt
no_nan (fin s m e) p = tt

-- what the code computes from the fields, and its answer
pub record Shifted (f t factor twos : ℕ) (parts : Rounded ℕ) : Type 0 where
  pub under : f + twos < 1043
  pub product : (t + 2 ^ 52) * factor < 2 ^ 63
  pub is : (p k : ℕ) → p ≡ (t + 2 ^ 52) * factor → k ≡ 1075 - f - twos → round_div p (1 * 2 ^ k % 2 ^ 64) ≡ parts

module _ (x : Float) (factor twos : ℕ) (held : T (fits binary64 x)) (scale : Small factor twos) (pre : AtMostMillion x (factor * 2 ^ twos)) where
  abbrev f : ℕ
  f = exponent (to_bits binary64 x)

  abbrev t : ℕ
  t = fraction (to_bits binary64 x)

  abbrev parts : Rounded ℕ
  parts = rounded (whole (factor * 2 ^ twos) ⊠ amount x)

  r : Read f t x
  r = read x held pre.is_an_amount

  abbrev n : ℕ
  n = r.q * factor

  abbrev e : ℕ
  e = twos + r.j

  n-lt : n < 2 ^ 63
  n-lt = omega (arith, r.q_lt, mul-le-mul_left r.q (le_of_lt scale.small))

  -- the parts, in units
  in-units : Is (whole (factor * 2 ^ twos) ⊠ amount x) (n * 2 ^ e) (2 ^ 1074)
  in-units =
      is_same (is-times (is_whole (factor * 2 ^ twos)) (is-over (num x) (den x) (den_pos x))) (pow_pos 1074)
      (mul_assoc (factor * 2 ^ twos) (num x) (2 ^ 1074)
      ∙ ap (λ (z : ℕ). factor * 2 ^ twos * z) r.value
      ∙ simp (pow-add, one-mul, mul_assoc, mul_comm, mul_left_comm))

  -- the bits behind the sign's, which are 0 for zero alone
  abbrev size : ℕ
  size = to_bits binary64 x % 2 ^ 63

  q-zero : size ≡ 0 → r.q ≡ 0
  q-zero z = omega (arith, r.bare (omega (arith, z)))

  q-positive : 0 < size → 0 < r.q
  q-positive h = go (dec_lt 0 f)
    where
      go : Dec (0 < f) → 0 < r.q
      go (yes l) = omega (arith, r.lead l)
      go (no l) = omega (arith, h, r.bare (omega arith))

  -- then the parts are rounded as any a / b below a half that is 0 where the bits are
  pub below_half : f + twos < 1012 → (a b : ℕ) → 2 * a < b → (a ≡ 0 → size ≡ 0) → (0 < a → 0 < size) → round_div a b ≡ parts
  below_half h a b half zero-only positive =
      let le : 64 + e ≤ 1074 = omega (arith, r.j_is, scale.small_twos) in
      let lt : 2 * n * 2 ^ e < 2 ^ 1074 = lt_of_lt_of_le (shl_lt 64 e (omega (arith, n-lt))) (pow_mono le) in
      none_alike a b (n * 2 ^ e) (2 ^ 1074) half (subst (λ (z : ℕ). z < 2 ^ 1074) (mul_assoc 2 n (2 ^ e)) lt)
      (λ z. ap (λ (q : ℕ). q * factor * 2 ^ e) (q-zero (zero-only z)) ∙ none)
      (λ l. mul-pos (mul-pos (q-positive (positive l)) scale.positive) (pow_pos e))
      ∙ sym (rounded-is in-units)
    where
      none : 0 * factor * 2 ^ e ≡ 0
      none = omega arith

  -- from there on the leading bit is there
  module _ (big : 1012 ≤ f + twos) where
    lead : r.q ≡ t + 2 ^ 52
    lead = r.lead (omega (arith, scale.small_twos))

    under : f + twos < 1043
    under =
        let least : 2 ^ 52 ≤ n = omega (arith, lead, mul-le-mul_left r.q scale.positive) in
        let most : n * 2 ^ e ≤ 1000000 * 2 ^ 1074 = rw (mul-one (n * 2 ^ e)) at (at-most-values in-units (is_whole 1000000) pre.most) in
        let l : 2 ^ (52 + e) < 2 ^ 1094 = lt_of_le_of_lt (le_trans (le_of_eq (pow-add 2 52 e)) (le_trans (mul-le-mul_right (2 ^ e) least) most)) (lit< tt) in
        let g : 52 + e < 1094 = lt_of_not-le (λ (g : 1094 ≤ 52 + e). lt_irrefl (2 ^ 1094) (lt_of_le_of_lt (pow_mono g) l)) in
        omega (arith, r.j_is)

    abbrev s : ℕ
    s = 1075 - f - twos

    -- the common power of two is taken out
    shifted : parts ≡ round_div n (2 ^ s)
    shifted =
        let all : e + s ≡ 1074 = omega (arith, under, r.j_is) in
        rounded-is (is_same in-units (pow_pos s) (mul_assoc n (2 ^ e) (2 ^ s) ∙ ap (λ (z : ℕ). n * z) (sym (pow-add 2 e s) ∙ ap (λ (z : ℕ). 2 ^ z) all)))

    pub facts : Shifted f t factor twos parts
    facts = record {
      under = under;
      product = subst (λ (z : ℕ). z * factor < 2 ^ 63) lead n-lt;
      is = λ (p k : ℕ) (product : p ≡ (t + 2 ^ 52) * factor) (shift : k ≡ s).
          rw (product, shift, shl_exact 1 s 64 (lit< tt) (omega arith), one-mul (2 ^ s))
          (ap (λ (z : ℕ). round_div (z * factor) (2 ^ s)) (sym lead) ∙ sym shifted);
    }
