-- Flash and fire points from bonds, formula (33), and from a class, formula (34) (document 01, "Bonds and classes").
use Rattle.std.specs.Prelude.{Bool, ◌&&◌, List, [], ◌∷◌, ◌++◌, map, ℕ, zero, suc, ◌-◌, ltb, ℤ, pos, neg_ℤ, ◌+ℤ◌, ◌*ℤ◌, get_or, Option, None, unwrap_or}
use Rattle.std.specs.Option.{is_none}
use Rattle.answer.specs.Numbers.{count_too_large, hydrogen_differs, no_coefficient, boiling_point_outside, unknown_method}
use Rattle.answer.specs.Lowest.{lowest}
use Rattle.answer.specs.Outcome.{Outcome, answered, refuse, refuse_at}
use Rattle.answer.specs.Outside.{outside}
use Rattle.answer.specs.declared.Rounded.{Rounded}
use Rattle.rounding.specs.Round.{round_div_ℤ}
use Rattle.elements.specs.declared.Atoms.{Atoms}
use Rattle.bonds.specs.declared.Bonds.{Bonds}
use Rattle.bonds.specs.Kinds.{bonds_at, above_at, hydrogen_unbalanced}
use Rattle.flash.specs.declared.Linear.{Linear}
use Rattle.flash.specs.Tables.{coefficients, methods, classes, nowhere}

-- row k of a table, from 1
abbrev pub row : List Linear → ℕ → Linear
row table k = get_or table (k - 1) nowhere

-- the coefficient of bond kind j for a method, in thousandths
abbrev pub coefficient : ℕ → ℕ → Option ℤ
coefficient m j = get_or (get_or coefficients (j - 1) []) (m - 1) None

-- REFUSALS. A kind has a count above 0 and no coefficient; the lowest such kind.
unfoldable pub missing : ℕ → Bonds → ℕ → Bool
missing m b j = ltb 0 (bonds_at b j) && is_none (coefficient m j)

unfoldable pub no_coefficient_at : ℕ → Bonds → Option ℕ
no_coefficient_at m b = lowest (missing m b) 1 22

-- outside −200.00 to 600.00
abbrev pub boiling_outside : ℤ → Bool
boiling_outside t = outside (neg_ℤ (pos 20000)) (pos 60000) t

-- THE FIGURES, in hundred-thousandths of a degree: temperatures are hundredths, coefficients thousandths.
-- what a line says: constant + slope · boiling point
unfoldable pub line_terms : Linear → ℤ → List ℤ
line_terms l t = (pos 100 *ℤ l.constant) ∷ (l.slope *ℤ t) ∷ []

-- what the bonds of a kind add
unfoldable pub bond_term : ℕ → Bonds → ℕ → ℤ
bond_term m b j = pos 100 *ℤ unwrap_or (coefficient m j) (pos 0) *ℤ pos (bonds_at b j)

-- j, j + 1, .. (n of them)
abbrev pub from : ℕ → ℕ → List ℕ
from j zero = []
from j (suc n) = j ∷ from (suc j) n

-- the terms of formulas (33) and (34), and their sum
unfoldable pub terms : ℕ → Bonds → ℤ → List ℤ
terms m b t = line_terms (row methods m) t ++ map (bond_term m b) (from 1 22)

unfoldable pub class_terms : ℕ → ℤ → List ℤ
class_terms k t = line_terms (row classes k) t

unfoldable pub sum_from : ℤ → List ℤ → ℤ
sum_from s [] = s
sum_from s (x ∷ xs) = sum_from (s +ℤ x) xs

-- rounded once to hundredths, with the mark
abbrev pub rounded_sum : List ℤ → Rounded ℤ
rounded_sum xs = round_div_ℤ (sum_from (pos 0) xs) 1000

-- formula (33), with its refusals in their order
unfoldable pub by_bonds : ℕ → Atoms → Bonds → ℤ → Outcome (Rounded ℤ)
by_bonds m a b t =
    refuse unknown_method 0 (outside (pos 1) (pos 3) (pos m))
    (refuse_at count_too_large (above_at a b)
    (refuse hydrogen_differs 0 (hydrogen_unbalanced a b)
    (refuse_at no_coefficient (no_coefficient_at m b)
    (refuse boiling_point_outside 0 (boiling_outside t)
    (answered (rounded_sum (terms m b t)))))))

-- formula (34)
unfoldable pub by_class : ℕ → ℤ → Outcome (Rounded ℤ)
by_class k t =
    refuse unknown_method 0 (outside (pos 1) (pos 10) (pos k))
    (refuse boiling_point_outside 0 (boiling_outside t)
    (answered (rounded_sum (class_terms k t))))
