-- Tallies: the counts as the reader holds them, all from 201 up as 201, which changes no sum.
use mathlib.Core.Path.{◌≡◌, ap, ◌∙◌}
use Prim.Native.Nat.{ℕ, zero, suc, ◌+◌, ◌*◌, ◌-◌, ◌≤◌, ◌<◌}
use native.Mathlib.Nat.{zero-add, add_assoc, mul-le-mul_left, min-eq_left, min-eq_right}
use native.Mathlib.Decide.{dec_le, dec_lt}
use native.Mathlib.Omega.{arith}
use borrow.Author.Tests.{lt-ltb, le-ltb}
use lib.ListN.{length, get_or}
use lib.Dec.{ltb}
use Rattle.elements.specs.Elements.{Totals, number, nothing, plus, times}
use Rattle.formula.specs.declared.Tally.{Tally}
use Rattle.formula.specs.Internal.{cap, Counted, Adds}
use Rattle.elements.proofs.Elements.{number-from, number-to}

cap-factor : (a b n : ℕ) → cap (a + cap b * n) ≡ cap (a + b * n)
cap-factor a b zero = omega arith
cap-factor a b (suc n) = go (dec_le b 201)
  where
    go : Dec (b ≤ 201) → cap (a + cap b * suc n) ≡ cap (a + b * suc n)
    go (yes h) = rw (min-eq_left h)
    go (no h) =
        let l : 201 ≤ b = omega arith in
        let m : b * 1 ≤ b * suc n = mul-le-mul_left b (omega arith) in
        rw (min-eq_right l) (omega arith)

-- a capped total exceeds 200 where the total does
pub over-cap : (n : ℕ) → ltb 200 (cap n) ≡ ltb 200 n
over-cap n = go (dec_lt 200 n)
  where
    go : Dec (200 < n) → ltb 200 (cap n) ≡ ltb 200 n
    go (yes l) = rw (lt-ltb 200 n l) (lt-ltb 200 (cap n) (omega arith))
    go (no l) = rw (le-ltb 200 n (omega arith)) (le-ltb 200 (cap n) (omega arith))

-- WHAT IS ADDED to a tally: from no atoms on, and after something else
pub from-nothing : (m : Totals) {g a : Tally} → Counted g nothing → Adds g m a → Counted a m
from-nothing m c f = let k = f nothing c in record { ten = k.ten; each = λ e. k.each e ∙ ap cap (zero-add (m e)) }

pub adds-more : (m n : Totals) {a b c : Tally} → Adds a m b → Adds b n c → Adds a (plus m n) c
adds-more m n f g h ha = let k = g (plus h m) (f h ha) in record { ten = k.ten; each = λ e. k.each e ∙ ap cap (add_assoc (h e) (m e) (n e)) }

-- each count of a raised by n times that of b
pub adds-group : (a b c : Tally) (n : ℕ) → length c.count ≡ length a.count
    → ((k : ℕ) → k < 10 → get_or c.count k 0 ≡ cap (get_or a.count k 0 + get_or b.count k 0 * n)) → (m : Totals) → Counted b m → Adds a (times m n) c
adds-group a b c n size raised m hb h ha = record {
  ten = size ∙ ha.ten;
  each = λ e. raised (number e - 1) (omega (arith, number-from e, number-to e)) ∙ rw (ha.each, hb.each) (omega (arith, cap-factor (h e) (m e) n));
}
