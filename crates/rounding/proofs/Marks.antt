-- Marks: what the mark of a number in the place of a fraction says, that no other mark says it, and that it goes by the fraction's value alone.
use mathlib.Core.Path.{◌≡◌, refl, ap}
use mathlib.Core.Bool.{Bool, true, false, cond}
use Prim.Native.Nat.{ℕ, ◌*◌, ◌<◌}
use native.Mathlib.Nat.{eq_of_mul-eq-mul_right, mul-lt-mul_of_pos_right, lt_of_mul-lt-mul_right}
use native.Mathlib.Omega.{arith}
use lib.Dec.{ltb}
use borrow.Author.Tests.{lt-ltb, le-ltb, ltb-true, ltb-false, ne_eqb}
use Rattle.answer.specs.declared.Mark.{Mark}
use Rattle.answer.specs.declared.Mark.TheVariants.{Exact, Raised, Lowered}
use Rattle.rounding.specs.Round.{mark_of}
use Rattle.rounding.specs.Rounds.{Marked, is-exact, is-raised, is-lowered}

module _ (n d r : ℕ) (h : 0 < d) where
  pub marked : Marked n d r (mark_of n d r)
  unfolding mark_of
  marked = rw (ne_eqb d 0 (λ z. omega arith)) (go (ltb n (r * d)) refl (ltb (r * d) n) refl)
    where
      go : (a : Bool) → ltb n (r * d) ≡ a → (b : Bool) → ltb (r * d) n ≡ b → Marked n d r (cond a Raised (cond b Lowered Exact))
      go true e b g = is-raised (ltb-true n (r * d) e)
      go false e true g = is-lowered (ltb-true (r * d) n g)
      go false e false g = is-exact (omega (arith, ltb-false n (r * d) e, ltb-false (r * d) n g))

  pub marked-only : (m : Mark) → Marked n d r m → m ≡ mark_of n d r
  unfolding mark_of
  marked-only _ (is-exact e) = rw (ne_eqb d 0 (λ z. omega arith), le-ltb n (r * d) (omega arith), le-ltb (r * d) n (omega arith))
  marked-only _ (is-raised l) = rw (ne_eqb d 0 (λ z. omega arith), lt-ltb n (r * d) l)
  marked-only _ (is-lowered l) = rw (ne_eqb d 0 (λ z. omega arith), le-ltb n (r * d) (omega arith), lt-ltb (r * d) n l)

-- equal fractions
module _ (n d m e r : ℕ) (h : 0 < d) (k : 0 < e) (same : n * e ≡ m * d) where
  moved : {mark : Mark} → Marked n d r mark → Marked m e r mark
  moved (is-exact p) = let q = ap (λ (z : ℕ). z * e) p in is-exact (eq_of_mul-eq-mul_right d h (r * e) m (omega arith))
  moved (is-raised l) =
      let p : n * e < r * d * e = mul-lt-mul_of_pos_right l k in
      let q : m * d < r * e * d = omega arith in
      is-raised (lt_of_mul-lt-mul_right d q)
  moved (is-lowered l) =
      let p : r * d * e < n * e = mul-lt-mul_of_pos_right l k in
      let q : r * e * d < m * d = omega arith in
      is-lowered (lt_of_mul-lt-mul_right d q)

  pub mark-alike : mark_of n d r ≡ mark_of m e r
  mark-alike = marked-only m e r k (mark_of n d r) (moved (marked n d r h))
