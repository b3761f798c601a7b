-- The sum of the bonds' terms: a turn of the loop over the kinds, and its end.
use mathlib.Core.Path.{◌≡◌, refl}
use Prim.Native.Nat.{ℕ, suc, ◌+◌, ◌-◌, ◌*◌, ◌^◌, ◌<◌, ◌≤◌}
use native.Mathlib.Omega.{arith}
use lib.IntN.{ℤ, pos, nat_abs, ◌+ℤ◌, ◌*ℤ◌}
use lib.ListN.{get_or}
use Rattle.std.specs.Prelude.{Option, None, unwrap_or}
use Rattle.bonds.specs.declared.Bonds.{Bonds}
use Rattle.flash.specs.Tables.{methods}
use Rattle.flash.specs.Points.{row, line_terms, bond_term, terms, sum_from}
use Rattle.flash.specs.Internal.{column, bond_terms}
use Rattle.flash.proofs.Columns.{entry}
use Rattle.flash.proofs.Sizes.{bits, Sized, sized, read, plus}

-- the sum so far and the next term
pub next : (k : ℕ) (s x : ℤ) → k < 22 → nat_abs s ≤ 2 ^ 38 + 2 ^ 62 + k * 2 ^ 46 → nat_abs x ≤ 2 ^ 46
    → Sized (2 ^ 38 + 2 ^ 62 + k * 2 ^ 46 + 2 ^ 46) (s +ℤ bits x) (s +ℤ x)
next k s x l h m = plus (sized _ s h) (read (omega arith) (sized (2 ^ 46) x m))

-- the line's terms, and then the bonds'
pub sum-all : (m : ℕ) (b : Bonds) (t : ℤ) → sum_from (sum_from (pos 0) (line_terms (row methods m) t)) (bond_terms m b 0) ≡ sum_from (pos 0) (terms m b t)
unfolding sum_from line_terms terms bond_terms
sum-all m b t = refl

module _ (m : ℕ) (b : Bonds) (s : ℤ) (k : ℕ) where
  -- by the count and the entry of the column at the index k
  pub sum-next : (n : ℕ) (a : Option ℤ) (x : ℤ) → k < 22 → n ≡ get_or b.count k 0 → a ≡ get_or (column m) k None
      → x ≡ pos 100 *ℤ unwrap_or a (pos 0) *ℤ pos n → sum_from s (bond_terms m b k) ≡ sum_from (s +ℤ x) (bond_terms m b (k + 1))
  unfolding sum_from bond_terms bond_term
  sum-next n a x l e f g =
      let left : 22 - k ≡ suc (22 - (k + 1)) = omega arith in
      let later : suc (1 + k) ≡ 1 + (k + 1) = omega arith in
      let index : 1 + k - 1 ≡ k = omega arith in
      rw (left, later, g, f, e, entry m k, index)

  pub sum-end : 22 ≤ k → sum_from s (bond_terms m b k) ≡ s
  unfolding sum_from bond_terms
  sum-end l = let left : 22 - k ≡ 0 = omega arith in rw left
