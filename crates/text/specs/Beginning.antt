-- Where a text leaves a language: the longest beginning of the text that begins some text of the language.
use Rattle.std.specs.Prelude.{List, ◌++◌, ℕ, ◌≤◌, ◌<◌, length, take}

-- t begins some text of the language L, of any length
abbrev pub Begins : (List ℕ → Type 0) → List ℕ → Type 0
Begins L t = (u : List ℕ) × L (t ++ u)

-- p is the length of the longest beginning of t that begins some text of L
pub record LongestBeginning (L : List ℕ → Type 0) (t : List ℕ) (p : ℕ) : Type 0 where
  pub within : p ≤ length t
  pub begins : Begins L (take p t)
  pub longest : (q : ℕ) → p < q → q ≤ length t → Begins L (take q t) → ⊥
