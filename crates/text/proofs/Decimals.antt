-- Laws of decimal digits: the last digit and those before it, and the digits of numbers below 1000.
use mathlib.Core.Path.{◌≡◌, refl, sym, ap, ap₂, ◌∙◌}
use mathlib.Core.Bool.{Bool, true, false, and-false}
use mathlib.Core.List.{List, [], ◌∷◌, ◌++◌, append_assoc}
use Prim.Native.Nat.{ℕ, zero, suc, ◌+◌, ◌*◌, ◌-◌, ◌≤◌, ◌<◌, ◌/◌, ◌%◌, ◌^◌}
use native.Mathlib.Nat.{pow-suc, div-lt_iff_lt-mul}
use native.Mathlib.Decide.{dec_lt}
use native.Mathlib.Omega.{arith}
use lib.ListN.{length, length-append}
use lib.Dec.{leb, ltb}
use borrow.Author.Tests.{lt-ltb, le-ltb, ltb-false, le-leb, lt-leb, leb-true}
use Rattle.text.specs.Decimal.{decimal, decimal_by, digit_from}
use Rattle.answer.proofs.Tests.{if-true, if-false, both}

by_one : (k n : ℕ) → n < 10 → decimal_by (suc k) n ≡ (48 + n) ∷ []
by_one k n l = if-true (ltb n 10) ((48 + n) ∷ []) (decimal_by k (n / 10) ++ (48 + n % 10) ∷ []) (lt-ltb n 10 l)

by-more : (k n : ℕ) → 10 ≤ n → decimal_by (suc k) n ≡ decimal_by k (n / 10) ++ (48 + n % 10) ∷ []
by-more k n l = if-false (ltb n 10) ((48 + n) ∷ []) (decimal_by k (n / 10) ++ (48 + n % 10) ∷ []) (le-ltb n 10 l)

-- any bound above n serves
enough : (k j n : ℕ) → n < k → n < j → decimal_by k n ≡ decimal_by j n
enough zero j n l h = absurd (omega arith)
enough (suc k) zero n l h = absurd (omega arith)
enough (suc k) (suc j) n l h = go (ltb n 10) refl (λ p. enough k j (n / 10) (omega arith) (omega arith))
  where
    go : (b : Bool) → ltb n 10 ≡ b → (10 ≤ n → decimal_by k (n / 10) ≡ decimal_by j (n / 10)) → decimal_by (suc k) n ≡ decimal_by (suc j) n
    go true e f = if-true (ltb n 10) ((48 + n) ∷ []) (decimal_by k (n / 10) ++ (48 + n % 10) ∷ []) e ∙ sym (if-true (ltb n 10) ((48 + n) ∷ []) (decimal_by j (n / 10) ++ (48 + n % 10) ∷ []) e)
    go false e f =
        let l = ltb-false n 10 e in
        by-more k n l ∙ ap (λ (w : List ℕ). w ++ (48 + n % 10) ∷ []) (f l) ∙ sym (by-more j n l)

pub decimal-one : (n : ℕ) → n < 10 → decimal n ≡ (48 + n) ∷ []
unfolding decimal
decimal-one n l = by_one n n l

pub decimal-more : (n : ℕ) → 10 ≤ n → decimal n ≡ decimal (n / 10) ++ (48 + n % 10) ∷ []
unfolding decimal
decimal-more n l = by-more n n l ∙ ap (λ (w : List ℕ). w ++ (48 + n % 10) ∷ []) (enough n (suc (n / 10)) (n / 10) (omega arith) (omega arith))

-- a digit's byte behind those of n
pub decimal-next : (n b : ℕ) → 1 ≤ n → 48 ≤ b → b ≤ 57 → decimal (n * 10 + (b - 48)) ≡ decimal n ++ b ∷ []
decimal-next n b l h k =
    let m = n * 10 + (b - 48) in
    let front : m / 10 ≡ n = omega arith in
    let last : 48 + m % 10 ≡ b = omega arith in
    decimal-more m (omega arith) ∙ ap₂ (λ (x y : ℕ). decimal x ++ y ∷ []) front last

pub decimal-two : (n : ℕ) → 10 ≤ n → n < 100 → decimal n ≡ (48 + n / 10) ∷ (48 + n % 10) ∷ []
decimal-two n l h = decimal-more n l ∙ ap (λ (w : List ℕ). w ++ (48 + n % 10) ∷ []) (decimal-one (n / 10) (omega arith))

pub decimal-three : (n : ℕ) → 100 ≤ n → n < 1000 → decimal n ≡ (48 + n / 10 / 10) ∷ (48 + n / 10 % 10) ∷ (48 + n % 10) ∷ []
decimal-three n l h = decimal-more n (omega arith) ∙ ap (λ (w : List ℕ). w ++ (48 + n % 10) ∷ []) (decimal-two (n / 10) (omega arith) (omega arith))

pub decimal-short : (n : ℕ) → n < 1000 → length (decimal n) ≤ 3
decimal-short n l = go (dec_lt n 10) (dec_lt n 100)
  where
    go : Dec (n < 10) → Dec (n < 100) → length (decimal n) ≤ 3
    go (yes p) d = rw (decimal-one n p) (omega arith)
    go (no p) (yes q) = rw (decimal-two n (omega arith) q) (omega arith)
    go (no p) (no q) = rw (decimal-three n (omega arith) l) (omega arith)

-- a number below 10 to the k has at most k digits
pub decimal-length : (k n : ℕ) → n < 10 ^ suc k → length (decimal n) ≤ suc k
decimal-length zero n l = rw (decimal-one n l) (omega arith)
decimal-length (suc k) n l = go (dec_lt n 10) (decimal-length k (n / 10))
  where
    go : Dec (n < 10) → (n / 10 < 10 ^ suc k → length (decimal (n / 10)) ≤ suc k) → length (decimal n) ≤ suc (suc k)
    go (yes h) f = rw (decimal-one n h) (omega arith)
    go (no h) f =
        let ten : 0 < 10 = omega arith in
        let shorter = f ((div-lt_iff_lt-mul ten).1 (omega (arith, pow-suc 10 (suc k)))) in
        rw (decimal-more n (omega arith)) (omega (arith, length-append (decimal (n / 10)) ((48 + n % 10) ∷ [])))

-- BYTES OF DIGITS, as a test and as facts
pub digit-in : (k b : ℕ) → 48 + k ≤ b → b ≤ 57 → digit_from k b ≡ true
unfolding digit_from
digit-in k b l h = rw (le-leb (48 + k) b l, le-leb b 57 h)

pub digit-below : (k b : ℕ) → b < 48 + k → digit_from k b ≡ false
unfolding digit_from
digit-below k b l = rw (lt-leb (48 + k) b l)

pub digit-above : (k b : ℕ) → 57 < b → digit_from k b ≡ false
unfolding digit_from
digit-above k b l = rw (lt-leb b 57 l, and-false (leb (48 + k) b))

pub digit-bounds : (k b : ℕ) → digit_from k b ≡ true → (48 + k ≤ b) × (b ≤ 57)
unfolding digit_from
digit-bounds k b e = let h = both (leb (48 + k) b) (leb b 57) e in (leb-true (48 + k) b h.0, leb-true b 57 h.1)

-- a number of 64 bits has at most 20 digits
pub digits_most : (n : ℕ) → n < 2 ^ 64 → length (decimal n) ≤ 20
digits_most n l = decimal-length 19 n (omega arith)

-- what a recursion on the digits before the last asks: there are at most 19 of them in 64 bits
pub before_last : (n : ℕ) → n < 2 ^ 64 → length (decimal (n / 10)) < 20
before_last n l = omega (arith, decimal-length 18 (n / 10) (omega arith))

pub ruleset by_last_digit = (decimal-one, decimal-more, before_last)

-- the last two digits of a number of three or more
pub decimal-pair : (n : ℕ) → 100 ≤ n → decimal n ≡ decimal (n / 100) ++ (48 + n % 100 / 10) ∷ (48 + n % 100 % 10) ∷ []
decimal-pair n l =
    let front : n / 10 / 10 ≡ n / 100 = omega arith in
    let tens : n / 10 % 10 ≡ n % 100 / 10 = omega arith in
    let ones : n % 10 ≡ n % 100 % 10 = omega arith in
    decimal-more n (omega arith)
    ∙ ap (λ (w : List ℕ). w ++ (48 + n % 10) ∷ []) (decimal-more (n / 10) (omega arith))
    ∙ append_assoc (decimal (n / 10 / 10)) ((48 + n / 10 % 10) ∷ []) ((48 + n % 10) ∷ [])
    ∙ rw (front, tens, ones) refl

-- both behind those before them, in a line that has room for all of them
module _ (line new : List ℕ) (n : ℕ) (e : new ≡ line ++ decimal (n / 100)) (l : 100 ≤ n) where
  pub digits_next : new ++ (48 + n % 100 / 10) ∷ (48 + n % 100 % 10) ∷ [] ≡ line ++ decimal n
  digits_next = rw (e, decimal-pair n l) (append_assoc line (decimal (n / 100)) ((48 + n % 100 / 10) ∷ (48 + n % 100 % 10) ∷ []))

  pub digits_fit : length line + length (decimal n) ≤ 20 → length new ≤ 18
  digits_fit h =
      let whole = ap length (decimal-pair n l) ∙ length-append (decimal (n / 100)) ((48 + n % 100 / 10) ∷ (48 + n % 100 % 10) ∷ []) in
      rw e (omega (arith, length-append line (decimal (n / 100)), whole))

pub two-length : (n : ℕ) → 10 ≤ n → n < 100 → length (decimal n) ≡ 2
two-length n l h = rw (decimal-two n l h) refl

pub pair-length : (n : ℕ) → 100 ≤ n → length (decimal n) ≡ length (decimal (n / 100)) + 2
pair-length n l = rw (decimal-pair n l) (length-append (decimal (n / 100)) ((48 + n % 100 / 10) ∷ (48 + n % 100 % 10) ∷ []))

pub one-length : (n : ℕ) → n < 10 → length (decimal n) ≡ 1
one-length n l = rw (decimal-one n l) refl

pub ruleset by_two_digits = (decimal-one, decimal-two, one-length, two-length, pair-length, digits_next, digits_fit)

pub ruleset by_three_digits = (decimal-one, decimal-two, decimal-three)
