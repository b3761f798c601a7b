-- Quotient and remainder; how they are found: d doubled as often as it stays at most n, then halved back, for each halving a bit of the quotient.
use mathlib.Core.Path.{◌≡◌, refl, sym, ap, ap₂, ◌∙◌}
use mathlib.Core.Bool.{Bool, true, false, cond}
use lib.Dec.{leb}
use borrow.Author.Tests.{leb-true, leb-false}
use Prim.Native.Nat.{ℕ, zero, suc, ◌+◌, ◌*◌, ◌-◌, ◌/◌, ◌%◌, ◌^◌, ◌≤◌, ◌<◌}
use native.Mathlib.Nat.{div-zero, mod-zero, div-eq_of_lt-le, div-add-mod', mod-lt, mod-eq_of_lt, le-div_iff_mul-le, div-lt_iff_lt-mul}
use native.Mathlib.Nat.{add-mul, mul-one, mul_assoc, le-mul_of_pos_right, mul-le-mul_right, pow-suc}
use native.Mathlib.Omega.{arith}
use lib.Pow.{pow-add, pow_pos}
use Rattle.rounding.specs.declared.Quotient.{Quotient}
use Rattle.rounding.specs.Round.{divided}
use Rattle.rounding.specs.Internal.{Doublings, Doubled}

-- n = q d + r with r below d, and no other quotient and remainder are so
pub divided-parts : (n d : ℕ) (p : Quotient) → p ≡ divided n d → 0 < d → (p.quotient * d + p.remainder ≡ n) × (p.remainder < d)
divided-parts n d p e h = rw e (div-add-mod' n d, mod-lt n h)

divided-is : (n d q r : ℕ) → q ≡ n / d → r ≡ n % d → record { quotient = q; remainder = r } ≡ divided n d
divided-is n d q r e f = ap₂ (λ (q r : ℕ). record { quotient = q; remainder = r }) e f

pub divided-only : (n d q r : ℕ) → q * d + r ≡ n → r < d → record { quotient = q; remainder = r } ≡ divided n d
divided-only n d q r e h =
    let p : q ≡ n / d = sym (div-eq_of_lt-le d (omega arith) (omega (arith, add-mul q 1 d))) in
    let s : n / d * d + r ≡ n = rw (← p) e in
    divided-is n d q r p (omega (arith, div-add-mod' n d))

pub divided-by-zero : (n : ℕ) → record { quotient = 0; remainder = n } ≡ divided n 0
divided-by-zero n = divided-is n 0 0 n (sym (div-zero n)) (sym (mod-zero n))

-- doubled k times more, and a doubling taken back
doublings-grown : (d k m : ℕ) → Doublings d m → Doublings d (m * 2 ^ k)
doublings-grown d k m p =
    record {
      times = p.times + k;
      is = ap (λ (z : ℕ). z * 2 ^ k) p.is ∙ mul_assoc d (2 ^ p.times) (2 ^ k) ∙ ap (λ (z : ℕ). d * z) (sym (pow-add 2 p.times k));
    }

doublings-halved : (d m : ℕ) → Doublings d m → d < m → Doublings d (m / 2) × (m ≡ m / 2 * 2)
doublings-halved d m p h = from p.times p.is
  where
    from : (t : ℕ) → m ≡ d * 2 ^ t → Doublings d (m / 2) × (m ≡ m / 2 * 2)
    from zero e = absurd (omega (arith, mul-one d))
    from (suc t) e =
        let f : m ≡ d * 2 ^ t * 2 = e ∙ rw pow-suc (sym (mul_assoc d (2 ^ t) 2)) in
        (record { times = t; is = omega arith }, omega arith)

-- w doublings are too many for a number of w bits
pub doubled-none : (w n d : ℕ) → n < 2 ^ w → 0 < d → d ≤ n → Doubled n d w d
doubled-none w n d f h k =
    record { doublings = record { times = 0; is = sym (mul-one d) }; at_most = k; above = omega (arith, mul-le-mul_right (2 ^ w) h) }

-- doubled k times more where that is at most n, which loses no bit below a bound above n; else kept
pub doubled-grown : (bound n d k m r : ℕ) → n < bound → Doubled n d (k + k) m → r ≡ cond (leb m (n / 2 ^ k)) (m * 2 ^ k % bound) m → Doubled n d k r
doubled-grown bound n d k m r f p e = rw e (cases (leb m (n / 2 ^ k)) refl)
  where
    cases : (b : Bool) → leb m (n / 2 ^ k) ≡ b → Doubled n d k (cond b (m * 2 ^ k % bound) m)
    cases true t =
        let l : m * 2 ^ k ≤ n = (le-div_iff_mul-le (pow_pos k)).0 (leb-true m (n / 2 ^ k) t) in
        let g : m * 2 ^ k % bound ≡ m * 2 ^ k = mod-eq_of_lt (omega (arith, l)) in
        rw g (record { doublings = doublings-grown d k m p.doublings; at_most = l; above = rw (mul_assoc, ← pow-add 2 k k) p.above })
    cases false t = record { doublings = p.doublings; at_most = p.at_most; above = (div-lt_iff_lt-mul (pow_pos k)).0 (leb-false m (n / 2 ^ k) t) }

-- n is q m + r with r below m, and m is d doubled some times
pub record Held (n d m q r : ℕ) : Type 0 where
  pub doublings : Doublings d m
  pub sum : q * m + r ≡ n
  pub below : r < m

pub held_first : (n d m : ℕ) → Doubled n d 1 m → Held n d m 1 (n - m)
held_first n d m p = record { doublings = p.doublings; sum = omega arith; below = omega arith }

pub held-last : (n d m q r : ℕ) → Held n d m q r → m ≤ d → record { quotient = q; remainder = r } ≡ divided n d
held-last n d m q r p h =
    let e : m ≡ d = omega (arith, le-mul_of_pos_right d (pow_pos p.doublings.times), p.doublings.is) in
    divided-only n d q r (rw e at p.sum) (rw e at p.below)

-- the next bit is 1 where the halved m is at most the remainder, else 0; the quotient loses no bit below a bound above n
module _ (n d m q r : ℕ) (p : Held n d m q r) (h : d < m) where
  back : Doublings d (m / 2) × (m ≡ m / 2 * 2)
  back = doublings-halved d m p.doublings h

  twice : q * 2 * (m / 2) + r ≡ n
  twice = omega (arith, ap (λ (z : ℕ). q * z) back.1, p.sum)

  pub held_small : q * 2 ≤ n
  held_small = let k : 0 < m / 2 = omega (arith, back.1) in omega (arith, twice, le-mul_of_pos_right (q * 2) k)

  kept : (bound : ℕ) → n < bound → q * 2 % bound ≡ q * 2
  kept bound f = mod-eq_of_lt (omega (arith, held_small))

  pub held_one : (bound : ℕ) → n < bound → m / 2 ≤ r → Held n d (m / 2) (q * 2 % bound + 1) (r - m / 2)
  held_one bound f k =
      rw (kept bound f) (record { doublings = back.0; sum = omega (arith, twice, add-mul (q * 2) 1 (m / 2)); below = omega (arith, back.1, p.below) })

  pub held-zero : (bound : ℕ) → n < bound → r < m / 2 → Held n d (m / 2) (q * 2 % bound) r
  held-zero bound f k = rw (kept bound f) (record { doublings = back.0; sum = twice; below = k })
