-- A method's column in the place of the table.
use mathlib.Core.Path.{◌≡◌, refl}
use mathlib.Core.List.{List, []}
use Prim.Native.Nat.{ℕ, ◌+◌, ◌-◌}
use native.Mathlib.Omega.{arith}
use lib.IntN.{ℤ}
use lib.ListN.{length, get_or, get_or-map}
use Rattle.std.specs.Prelude.{Option, None}
use Rattle.flash.specs.Tables.{coefficients}
use Rattle.flash.specs.Points.{coefficient}
use Rattle.flash.specs.Internal.{column}

pub length_column : (m : ℕ) → length (column m) ≡ 22
unfolding coefficients
length_column m = refl

-- the entry at index k is the coefficient of the kind 1 + k
pub entry : (m k : ℕ) → get_or (column m) k None ≡ coefficient m (1 + k)
entry m k = let i : 1 + k - 1 ≡ k = omega arith in rw i (get_or-map (λ (row : List (Option ℤ)). get_or row (m - 1) None) coefficients k [])
