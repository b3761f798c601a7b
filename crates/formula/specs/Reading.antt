-- The answer to a formula text: by the reader, and by the grammar (document 01, "Formula text" and refusals 1 and 2).
use Rattle.std.specs.Prelude.{◌≡◌, List, ℕ, ◌≤◌, ◌<◌, ltb, length}
use Rattle.answer.specs.Numbers.{no_formula, count_too_large}
use Rattle.answer.specs.Outcome.{Outcome, refused, answered, refusal, refuse, refuse_at, refusal_of, value_of, and_then}
use Rattle.text.specs.Beginning.{LongestBeginning}
use Rattle.text.specs.Reader.{Result, left_at, value_read}
use Rattle.elements.specs.declared.Element.{Element}
use Rattle.elements.specs.declared.Atoms.{Atoms}
use Rattle.formula.specs.declared.FormulaRead.{FormulaRead}
use Rattle.elements.specs.Elements.{Totals, number, nothing, atoms, each, first_above}
use Rattle.formula.specs.Grammar.{Formula, totals, Reads, FormulaText}
use Rattle.formula.specs.Reader.{read_items}

-- an outcome as it is answered: with a refusal all counts are 0
abbrev pub shown_formula : Outcome Atoms → FormulaRead
shown_formula o = record { refusal = refusal_of o; atoms = value_of (each 0) o }

-- at most 200 atoms of each element
abbrev pub at_most200 : Atoms → Outcome Atoms
at_most200 a = refuse_at count_too_large (first_above (each 200) a) (answered a)

-- what a text of n bytes in which r was read comes to
abbrev pub judged : ℕ → Result Totals → Outcome Atoms
judged n r = refuse_at no_formula (left_at n r) (at_most200 (atoms (value_read nothing r)))

-- at most 256 bytes
unfoldable pub reading : List ℕ → Outcome Atoms
reading t = refuse no_formula 256 (ltb 256 (length t)) (judged (length t) (read_items 8 t))

unfoldable pub formula_read : List ℕ → FormulaRead
formula_read t = shown_formula (reading t)

-- a question about counts, asked of a formula text: the reader's refusals first
abbrev pub of_text : {B : Type 0} → (Atoms → Outcome B) → List ℕ → Outcome B
of_text question t = and_then (reading t) question

-- BY THE GRAMMAR: o is the outcome of reading t
pub data Outcomes (t : List ℕ) : Outcome Atoms → Type 0 where
  -- more than 256 bytes
  long : 256 < length t → Outcomes t (refused (refusal no_formula 256))
  -- no formula: the place is the length of the longest beginning that begins some formula of any length
  other : length t ≤ 256 → ¬ (FormulaText t) → (p : ℕ) → LongestBeginning FormulaText t p → Outcomes t (refused (refusal no_formula p))
  -- a formula in which e is the lowest element with more than 200 atoms
  large : length t ≤ 256 → (f : Formula 8) → Reads t f → (e : Element) → 200 < totals f e → ((x : Element) → number x < number e → totals f x ≤ 200)
      → Outcomes t (refused (refusal count_too_large (number e)))
  -- a formula with at most 200 atoms of each element
  counted : length t ≤ 256 → (f : Formula 8) → Reads t f → ((x : Element) → totals f x ≤ 200) → Outcomes t (answered (atoms (totals f)))

-- o is the outcome of reading t, and the only one
pub record OnlyOutcome (t : List ℕ) (o : Outcome Atoms) : Type 0 where
  pub right : Outcomes t o
  pub only : (u : Outcome Atoms) → Outcomes t u → u ≡ o

-- r shows the outcome of reading t, which is the only one
pub record ByGrammar (t : List ℕ) (r : FormulaRead) : Type 0 where
  pub outcome : Outcome Atoms
  pub right : Outcomes t outcome
  pub only : (o : Outcome Atoms) → Outcomes t o → o ≡ outcome
  pub answer : r ≡ shown_formula outcome
