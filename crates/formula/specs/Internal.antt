-- What the reader's own functions hold and say: counts up to 201, and what is left of a text. No public promise cites this file.
use Rattle.std.specs.Prelude.{◌≡◌, cond, List, ℕ, ◌-◌, ◌≤◌, ◌<◌, min, length, get_or, Option, Some, None, Result, Ok, Err}
use Rattle.std.specs.Borrow.{Bor}
use Rattle.text.specs.Decimal.{digit_from}
use Rattle.text.specs.Reader as reader
use Rattle.text.specs.Reader.{ok, stuck}
use Rattle.elements.specs.declared.Element.{Element}
use Rattle.elements.specs.Elements.{number, symbol, Totals, plus}
use Rattle.formula.specs.declared.Tally.{Tally}
use Rattle.formula.specs.declared.Symbol.{Symbol}
use Rattle.formula.specs.declared.Symbol.TheVariants.{Named, Half, Absent}
use Rattle.formula.specs.Reader.{digit, closing}

-- how many bytes stand there of a symbol
abbrev pub begun : Symbol → ℕ
begun (Named e) = length (symbol e)
begun Half = 1
begun Absent = 0

-- the value of the byte b, where it is a digit that is not below k
abbrev pub digit_value : ℕ → ℕ → Option ℕ
digit_value k b = cond (digit_from k b) (Some (digit b)) None

-- a total as the reader holds it: all from 201 up are 201
abbrev pub cap : ℕ → ℕ
cap n = min n 201

-- the tally a holds the totals m
pub record Counted (a : Tally) (m : Totals) : Type 0 where
  pub ten : length a.count ≡ 10
  pub each : (e : Element) → get_or a.count (number e - 1) 0 ≡ cap (m e)

-- the tally b holds m more than a
abbrev pub Adds : Tally → Totals → Tally → Type 0
Adds a m b = (h : Totals) → Counted a h → Counted b (plus h m)

-- m was read of t, with u left, and added to the tally a, which then is b
pub record Advanced (t : List ℕ) (a : Tally) (u : List ℕ) (b : Tally) (m : Totals) (v : List ℕ) : Type 0 where
  pub further : length u < length t
  pub left : v ≡ u
  pub adds : Adds a m b

-- the reader is stuck, with u left of t
pub record Stopped (t u v : List ℕ) : Type 0 where
  pub within : length u ≤ length t
  pub left : v ≡ u

-- what is left of a text where it was read, else where reading is stuck
abbrev pub Left : Type 0
Left = Result (Bor (List ℕ)) (Bor (List ℕ))

-- r and b say what the reader on texts finds
abbrev pub Finds : List ℕ → Tally → Left → Tally → reader.Result Totals → Type 0
Finds t a (Ok u) b (ok m v) = Advanced t a u.now b m v
Finds t a (Err u) b (stuck v) = Stopped t u.now v
Finds t a (Ok u) b (stuck v) = ⊥
Finds t a (Err u) b (ok m v) = ⊥

pub record Says (t : List ℕ) (a : Tally) (r : Left) (b : Tally) (x : reader.Result Totals) : Type 0 where
  pub found : Finds t a r b x

-- r and b say what is found behind the formula of a group, of which g holds the totals and t is left
pub record Closes (t : List ℕ) (g a : Tally) (r : Left) (b : Tally) : Type 0 where
  pub closes : (m : Totals) → Counted g m → Says t a r b (closing (ok m t))
