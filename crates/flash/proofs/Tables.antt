-- What holds of each entry of the tables, in thousandths: how large it can be, and that none is 0; and the sum of a line's terms.
use mathlib.Core.Bool.{Bool, true, ◌&&◌}
use mathlib.Core.List.{List, [], ◌∷◌}
use mathlib.Core.Path.{◌≡◌, refl}
use Prim.Native.Nat.{ℕ, zero, suc, ◌-◌, ◌≤◌}
use lib.Dec.{T, leb, leb→le, ltb}
use lib.IntN.{ℤ, pos, nat_abs, ◌+ℤ◌, +ℤ_idl, ◌*ℤ◌}
use lib.ListN.{get_or}
use mir.Facts.{and_yes}
use Rattle.std.specs.Option.{is_none}
use Rattle.std.specs.Prelude.{Option, None, unwrap_or}
use Rattle.answer.specs.Lowest.{lowest}
use Rattle.bonds.specs.declared.Bonds.{Bonds}
use Rattle.bonds.specs.Kinds.{bonds_at}
use Rattle.flash.specs.declared.Linear.{Linear}
use Rattle.flash.specs.Tables.{coefficients, methods, classes, nowhere}
use Rattle.flash.specs.Points.{row, coefficient, missing, no_coefficient_at, line_terms, sum_from}
use Rattle.flash.specs.Internal.{column}

-- a test that passes at each entry passes wherever a table is entered, and past its end where it passes the default
module _ {A : Type 0} (test : A → Bool) (d : A) (h : T (test d)) where
  abbrev all : List A → Bool
  all [] = true
  all (x ∷ xs) = test x && all xs

  at : (xs : List A) → T (all xs) → (i : ℕ) → T (test (get_or xs i d))
  at [] t i = h
  at (x ∷ xs) t zero = (and_yes (test x) (all xs) t).0
  at (x ∷ xs) t (suc i) = at xs (and_yes (test x) (all xs) t).1 i

-- LINES
pub record SmallLine (l : Linear) : Type 0 where
  pub constant : nat_abs l.constant ≤ 100000
  pub slope : nat_abs l.slope ≤ 1000

abbrev small_line : Linear → Bool
small_line l = leb (nat_abs l.constant) 100000 && leb (nat_abs l.slope) 1000

of-small : (l : Linear) → T (small_line l) → SmallLine l
of-small l t =
    let h = and_yes (leb (nat_abs l.constant) 100000) (leb (nat_abs l.slope) 1000) t in
    record { constant = leb→le _ _ h.0; slope = leb→le _ _ h.1 }

pub method-small : (m : ℕ) → SmallLine (row methods m)
unfolding methods
method-small m = of-small (row methods m) (at small_line nowhere tt methods tt (m - 1))

pub class-small : (k : ℕ) → SmallLine (row classes k)
unfolding classes
class-small k = of-small (row classes k) (at small_line nowhere tt classes tt (k - 1))

-- COEFFICIENTS, a blank as 0
abbrev small : Option ℤ → Bool
small a = leb (nat_abs (unwrap_or a (pos 0))) 50490

abbrev small_row : List (Option ℤ) → Bool
small_row = all small None tt

pub coefficient-small : (m j : ℕ) → nat_abs (unwrap_or (coefficient m j) (pos 0)) ≤ 50490
unfolding coefficients
coefficient-small m j =
    let entries = at small_row [] tt coefficients tt (j - 1) in
    leb→le _ _ (at small None tt (get_or coefficients (j - 1) []) entries (m - 1))

-- no coefficient is 0, so that one of 0 could stand for a blank
abbrev nonzero : Option ℤ → Bool
nonzero a = leb 1 (nat_abs (unwrap_or a (pos 1)))

pub coefficient-nonzero : (m j : ℕ) → 1 ≤ nat_abs (unwrap_or (coefficient m j) (pos 1))
unfolding coefficients
coefficient-nonzero m j =
    let entries = at (all nonzero None tt) [] tt coefficients tt (j - 1) in
    leb→le _ _ (at nonzero None tt (get_or coefficients (j - 1) []) entries (m - 1))

-- the first kind that has bonds and is a blank of the method's column has no coefficient
pub missing-is : (b : Bonds) (m : ℕ) → lowest (λ j. ltb 0 (bonds_at b j) && is_none (get_or (column m) (j - 1) None)) 1 22 ≡ no_coefficient_at m b
unfolding no_coefficient_at missing coefficients lowest
missing-is b m = refl

-- SUMS
pub sum-line : (l : Linear) (t : ℤ) → sum_from (pos 0) (line_terms l t) ≡ (pos 100 *ℤ l.constant) +ℤ (l.slope *ℤ t)
unfolding sum_from line_terms
sum-line l t = rw (+ℤ_idl (pos 100 *ℤ l.constant))
