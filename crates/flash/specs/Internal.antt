-- What the functions below the promises ask and say: the number of a class, few bonds, a method's column of the table, and what the bonds add.
-- No public promise cites this file.
use Rattle.std.specs.Prelude.{◌≡◌, true, List, map, ℕ, ◌+◌, ◌-◌, ◌<◌, ◌≤◌, ℤ, pos, get_or, Option, None, Result}
use Rattle.std.specs.Result.{MatchResult}
use Rattle.answer.specs.declared.Refused.{Refused}
use Rattle.answer.specs.declared.Reason.TheVariants.{UnknownMethod}
use Rattle.answer.specs.Outcome.{refused_at}
use Rattle.answer.specs.Outside.{outside}
use Rattle.bonds.specs.declared.Bonds.{Bonds}
use Rattle.flash.specs.declared.Class.{Class}
use Rattle.flash.specs.declared.Class.TheVariants.{Alkanes, Alcohols, Alkylanilines, CarboxylicAcids, Alkylphenols, AromaticHydrocarbons, Aldehydes, Bromoalkanes, Ketones, Chloroalkanes}
use Rattle.flash.specs.Tables.{coefficients}
use Rattle.flash.specs.Points.{from, bond_term}

abbrev pub class_number : Class → ℕ
class_number Alkanes = 1
class_number Alcohols = 2
class_number Alkylanilines = 3
class_number CarboxylicAcids = 4
class_number Alkylphenols = 5
class_number AromaticHydrocarbons = 6
class_number Aldehydes = 7
class_number Bromoalkanes = 8
class_number Ketones = 9
class_number Chloroalkanes = 10

-- a number that is read as a class is that class's; one that is not is outside
abbrev pub Read : ℕ → Result Class Refused → Type 0
Read n r = MatchResult r (λ k. n ≡ class_number k) (λ e. (outside (pos 1) (pos 10) (pos n) ≡ true) × (e ≡ refused_at UnknownMethod 0))

pub record FewBonds (b : Bonds) : Type 0 where
  pub most : (i : ℕ) → i < 22 → get_or b.count i 0 ≤ 200

-- a method's coefficients, kind after kind
abbrev pub column : ℕ → List (Option ℤ)
column m = map (λ (row : List (Option ℤ)). get_or row (m - 1) None) coefficients

-- what the kinds from index k on add
unfoldable pub bond_terms : ℕ → Bonds → ℕ → List ℤ
bond_terms m b k = map (bond_term m b) (from (1 + k) (22 - k))
