-- The floats' own order, of amounts, is that of their exact values.
use mathlib.Core.Path.{◌≡◌, refl, sym, ap, ◌∙◌, subst}
use mathlib.Core.Bool.{Bool, true, false, not, ◌&&◌, ◌||◌}
use Prim.Native.Nat.{ℕ, zero, suc, ◌*◌, ◌<◌}
use native.Mathlib.Nat.{zero-mul, zero-add, mul-one, mul-pos, zero-lt-suc}
use native.Mathlib.Omega.{arith}
use lib.IntN.{ℤ, pos}
use lib.Dec.{T, leb, ltb, eqb, eqb→eq, leb-zero, leb-suc-zero, leb-suc-suc, eqb-suc-zero, eqb-suc-suc}
use lib.Ieee.{Float, nan, inf, fin, binary64, up, down, lt, eq, le, of_bits, level}
use lib.Ieee as Ieee
use lib.Ieee.Fits.{eq→eqb, up_pos}
use borrow.Author.Tests.{lt-ltb, le-ltb, ne_eqb}
use Rattle.rounding.specs.Fraction.{◌over◌, at_most}
use Rattle.analyser.specs.Reading.{is_amount, amount, up_to}

-- TWO NUMBERS WITH SIGNS, a minus only at 0
abbrev Signed : Bool → ℕ → Type 0
Signed s a = T (not s || eqb a 0)

le-plain : (a b : ℕ) → (ltb a b || (eqb a b && true)) ≡ leb a b
le-plain zero zero = refl
le-plain zero (suc b) = simp (lt-ltb 0 (suc b) (omega arith), leb-zero)
le-plain (suc a) zero = simp (le-ltb (suc a) 0 (omega arith), leb-suc-zero, eqb-suc-zero)
le-plain (suc a) (suc b) = let next : ltb (suc a) (suc b) ≡ ltb a b = leb-suc-suc (suc a) b in simp (next, leb-suc-suc, eqb-suc-suc) (le-plain a b)

le-minus : (a : ℕ) → (eqb a 0 && (false || eqb a 0)) ≡ leb a 0
le-minus zero = refl
le-minus (suc a) = simp (eqb-suc-zero, leb-suc-zero)

le-signed : (s : Bool) (a : ℕ) (t : Bool) (b : ℕ) → Signed s a → Signed t b → (Ieee.below s a t b || level s a t b) ≡ leb a b
le-signed false a false b p q = le-plain a b
le-signed false a true b p q = rw (eqb→eq b 0 q) (le-minus a)
le-signed true a false b p q = rw (eqb→eq a 0 p, zero-add b) (le-plain 0 b)
le-signed true a true b p q = rw (eqb→eq a 0 p, eqb→eq b 0 q) refl

-- TWO AMOUNTS
signed : (s : Bool) (m u d : ℕ) → Signed s m → Signed s (m * u * d)
signed false m u d p = tt
signed true m u d p = eq→eqb {a = m * u * d} {b = 0} (rw (eqb→eq m 0 p, zero-mul) (zero-mul d))

pub le_is : (x y : Float) → T (is_amount x) → T (is_amount y) → le x y ≡ at_most (amount x) (amount y)
unfolding le lt eq at_most ◌over◌
le_is nan y p q = absurd p
le_is (inf s) y p q = absurd p
le_is (fin s m e) nan p q = absurd q
le_is (fin s m e) (inf t) p q = absurd q
le_is (fin s m e) (fin t n d) p q = le-signed s (m * up e * down d) t (n * up d * down e) (signed s m (up e) (down d) p) (signed t n (up d) (down e) q)

-- FROM ZERO, which the code has as 0.0, by its bits
zero_is : of_bits binary64 0 ≡ fin false 0 (pos 0)
unfolding of_bits
zero_is = refl

minus-from-zero : (m u : ℕ) → 0 < u → (eqb 0 (m * u) && (false || eqb 0 0)) ≡ eqb m 0
minus-from-zero zero u h = rw zero-mul refl
minus-from-zero (suc m) u h = simp (eqb-suc-zero, ne_eqb 0 (suc m * u) (λ (e : 0 ≡ suc m * u). omega (arith, mul-pos (zero-lt-suc m) h)))

from_zero : (s : Bool) (m : ℕ) (e : ℤ) → le (fin false 0 (pos 0)) (fin s m e) ≡ is_amount (fin s m e)
unfolding le lt eq
from_zero false m e = simp (zero-mul, mul-one) (le-plain 0 (m * up e) ∙ leb-zero (m * up e))
from_zero true m e = simp (zero-mul, mul-one) (minus-from-zero m (up e) (up_pos e))

both : (b : Bool) (x y : Float) → is_amount x ≡ b → T (is_amount y) → (b && le x y) ≡ (b && at_most (amount x) (amount y))
both false x y p q = refl
both true x y p q = le_is x y (subst T (sym p) tt) q

from-zero-to : (x y : Float) → T (is_amount y) → (le (fin false 0 (pos 0)) x && le x y) ≡ up_to x (amount y)
unfolding le lt eq up_to
from-zero-to nan y q = refl
from-zero-to (inf s) nan q = absurd q
from-zero-to (inf s) (inf t) q = absurd q
from-zero-to (inf true) (fin t n d) q = refl
from-zero-to (inf false) (fin t n d) q = refl
from-zero-to (fin s m e) y q = ap (λ (b : Bool). b && le (fin s m e) y) (from_zero s m e) ∙ both (is_amount (fin s m e)) (fin s m e) y refl q

-- the two comparisons that the code makes, the first with the value b
pub up-to-is : (b : Bool) (x y : Float) → T (is_amount y) → le (of_bits binary64 0) x ≡ b → (b && le x y) ≡ up_to x (amount y)
up-to-is b x y q e = ap (λ (b : Bool). b && le x y) (sym e ∙ ap (λ (z : Float). le z x) zero_is) ∙ from-zero-to x y q
