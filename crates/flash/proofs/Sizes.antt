-- Signed numbers as the code has them: what an expression of bits stands for, and its size.
use mathlib.Core.Path.{◌≡◌, refl, ap₂, ◌∙◌}
use Prim.Native.Nat.{ℕ, ◌+◌, ◌*◌, ◌^◌, ◌<◌, ◌≤◌}
use native.Mathlib.Nat.{mul-le-mul}
use native.Mathlib.Omega.{arith}
use lib.IntN.{ℤ, pos, negsuc, nat_abs, ◌+ℤ◌, ◌*ℤ◌}
use mir.Facts.{to_z-of_z, to_z_pos}
use mir.Syntax.{w32, w64}
use mir.Val.{SFits, to_z, of_z}
use Rattle.rounding.proofs.Signed.{size-add, size-mul, fits-size, read_back}

-- a number read back from its bits
abbrev pub bits : ℤ → ℤ
bits z = to_z w64 (of_z w64 z)

-- y stands for z, whose size is at most n
pub record Sized (n : ℕ) (y z : ℤ) : Type 0 where
  pub is : y ≡ z
  pub most : nat_abs z ≤ n

pub sized : (n : ℕ) (z : ℤ) → nat_abs z ≤ n → Sized n z z
sized n z h = record { is = refl; most = h }

size-32 : (z : ℤ) → SFits w32 z → nat_abs z ≤ 2 ^ 31
size-32 (pos n) f = omega (arith, f.sfits)
size-32 (negsuc n) f = omega (arith, f.sfits)

-- as an i64 is made from a u64
pub whole : (n m : ℕ) → m ≤ n → n < 2 ^ 63 → Sized n (to_z w64 m) (pos m)
whole n m h l = record { is = to_z_pos w64 {n = m} (omega arith); most = h }

-- as an i64 is made from an i32
pub widened : {y z : ℤ} → SFits w32 z → y ≡ to_z w32 (of_z w32 z) → Sized (2 ^ 31) y z
widened {y} {z} f e = record { is = e ∙ to_z-of_z f; most = size-32 z f }

module _ {n : ℕ} {y z : ℤ} (l : n < 2 ^ 63) (s : Sized n y z) where
  pub sized-fits : SFits w64 y
  sized-fits = rw s.is (fits-size z (omega (arith, s.most)))

  pub read : Sized n (bits y) z
  read = record { is = read_back {w = w64} (fits-size z (omega (arith, s.most))) s.is; most = s.most }

module _ {n m : ℕ} {x y a b : ℤ} (s : Sized n x a) (t : Sized m y b) where
  pub times : Sized (n * m) (x *ℤ y) (a *ℤ b)
  times = record { is = ap₂ ◌*ℤ◌ s.is t.is; most = rw (size-mul a b) (mul-le-mul s.most t.most) }

  pub plus : Sized (n + m) (x +ℤ y) (a +ℤ b)
  plus = record { is = ap₂ ◌+ℤ◌ s.is t.is; most = omega (arith, size-add a b, s.most, t.most) }
