-- Exact fractions: which value one has, how two compare, and that a figure and its mark go by the value alone, and the figure never falls as it rises.
use mathlib.Core.Path.{◌≡◌, refl, sym, ap, ap₂}
use Prim.Native.Nat.{ℕ, ◌+◌, ◌*◌, ◌≤◌, ◌<◌}
use native.Mathlib.Nat.{mul-pos, mul-le-mul_right, le_of_mul-le-mul_right, eq_of_mul-eq-mul_right, lt_of_mul-lt-mul_right}
use native.Mathlib.Omega.{arith}
use Rattle.rounding.specs.Round.{round_div}
use Rattle.rounding.specs.Fraction.{Fraction, ◌over◌, whole, ◌⊞◌, ◌⊠◌, ◌⊘◌, ◌⊑◌, rounded}
use Rattle.rounding.proofs.Rounding.{round_mono, div_same}

-- f has the value n / d
pub record Is (f : Fraction) (n d : ℕ) : Type 0 where
  pub den_pos : 0 < f.den
  pub pos : 0 < d
  pub cross : f.num * d ≡ n * f.den

pub is-over : (n d : ℕ) → 0 < d → Is (n over d) n d
unfolding ◌over◌
is-over n d h = record { den_pos = h; pos = h; cross = refl }

pub is_whole : (n : ℕ) → Is (whole n) n 1
unfolding whole
is_whole n = record { den_pos = omega arith; pos = omega arith; cross = refl }

pub is-plus : {f g : Fraction} {n m d : ℕ} → Is f n d → Is g m d → Is (f ⊞ g) (n + m) d
unfolding ◌⊞◌
is-plus {f} {g} {n} {m} {d} i j =
    let a = ap (λ (x : ℕ). x * g.den) i.cross in
    let b = ap (λ (x : ℕ). x * f.den) j.cross in
    record { den_pos = mul-pos i.den_pos j.den_pos; pos = i.pos; cross = omega arith }

pub is-times : {f g : Fraction} {n m d e : ℕ} → Is f n d → Is g m e → Is (f ⊠ g) (n * m) (d * e)
unfolding ◌⊠◌
is-times {f} {g} {n} {m} {d} {e} i j =
    let a = ap₂ ◌*◌ i.cross j.cross in
    record { den_pos = mul-pos i.den_pos j.den_pos; pos = mul-pos i.pos j.pos; cross = omega arith }

pub is-by : {f g : Fraction} {n m d e : ℕ} → Is f n d → Is g m e → 0 < m → Is (f ⊘ g) (n * e) (d * m)
unfolding ◌⊘◌
is-by {f} {g} {n} {m} {d} {e} i j h =
    let a = ap₂ ◌*◌ i.cross (sym j.cross) in
    let k = mul-pos h j.den_pos in
    let z : 0 * e < g.num * e = omega arith in
    record { den_pos = mul-pos i.den_pos (lt_of_mul-lt-mul_right e z); pos = mul-pos i.pos h; cross = omega arith }

-- the same value by other numbers
pub is_same : {f : Fraction} {n d m e : ℕ} → Is f n d → 0 < e → n * e ≡ m * d → Is f m e
is_same {f} {n} {d} {m} {e} i h q =
    let a = ap (λ (x : ℕ). x * e) i.cross in
    let b = ap (λ (x : ℕ). x * f.den) q in
    let c : f.num * e * d ≡ m * f.den * d = omega arith in
    record { den_pos = i.den_pos; pos = h; cross = eq_of_mul-eq-mul_right d i.pos _ _ c }

-- THE ORDER is that of the values
pub at-most-trans : {f g h : Fraction} → f ⊑ g → g ⊑ h → f ⊑ h
at-most-trans {f} {g} {h} a b =
    let x = mul-le-mul_right h.den a.cross in
    let y = mul-le-mul_right f.den b.cross in
    let z : f.num * h.den * g.den ≤ h.num * f.den * g.den = omega arith in
    record { left_over = a.left_over; right_over = b.right_over; cross = le_of_mul-le-mul_right z a.right_over }

module _ {f g : Fraction} {n d m e : ℕ} (i : Is f n d) (j : Is g m e) where
  pub at-most-is : n * e ≤ m * d → f ⊑ g
  at-most-is h =
      let a = ap (λ (x : ℕ). x * (g.den * e)) i.cross in
      let b = ap (λ (x : ℕ). x * (f.den * d)) j.cross in
      let k = mul-le-mul_right (f.den * g.den) h in
      let z : f.num * g.den * (d * e) ≤ g.num * f.den * (d * e) = omega arith in
      record { left_over = i.den_pos; right_over = j.den_pos; cross = le_of_mul-le-mul_right z (mul-pos i.pos j.pos) }

  pub at-most-values : f ⊑ g → n * e ≤ m * d
  at-most-values h =
      let a = ap (λ (x : ℕ). x * (g.den * e)) i.cross in
      let b = ap (λ (x : ℕ). x * (f.den * d)) j.cross in
      let k = mul-le-mul_right (d * e) h.cross in
      let z : n * e * (f.den * g.den) ≤ m * d * (f.den * g.den) = omega arith in
      le_of_mul-le-mul_right z (mul-pos i.den_pos j.den_pos)

-- a factor keeps it, on either side
module _ {f g : Fraction} (h : Fraction) (p : 0 < h.den) (l : f ⊑ g) where
  pub at-most-times : f ⊠ h ⊑ g ⊠ h
  unfolding ◌⊠◌
  at-most-times =
      let k = mul-le-mul_right (h.num * h.den) l.cross in
      record { left_over = mul-pos l.left_over p; right_over = mul-pos l.right_over p; cross = omega arith }

  pub times-at-most : h ⊠ f ⊑ h ⊠ g
  unfolding ◌⊠◌
  times-at-most =
      let k = mul-le-mul_right (h.num * h.den) l.cross in
      record { left_over = mul-pos p l.left_over; right_over = mul-pos p l.right_over; cross = omega arith }

-- FIGURES, and their marks
pub rounded-is : {f : Fraction} {n d : ℕ} → Is f n d → rounded f ≡ round_div n d
unfolding rounded
rounded-is {f} {n} {d} i = div_same f.num f.den n d i.den_pos i.pos i.cross

pub rounded-mono : {f g : Fraction} → f ⊑ g → (rounded f).value ≤ (rounded g).value
unfolding rounded round_div
rounded-mono {f} {g} h = round_mono f.num f.den g.num g.den h.left_over h.right_over h.cross
