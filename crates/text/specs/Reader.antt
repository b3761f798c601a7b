-- A reader takes the beginning of a text: what it has read, and what is left of the text.
use Rattle.std.specs.Prelude.{List, [], ◌∷◌, ℕ, ◌-◌, length, get_or, Option, Some, None}

-- the byte at i, 0 past the end
abbrev pub at : List ℕ → ℕ → ℕ
at t i = get_or t i 0

-- what was read and what is left; or what is left where the reader is stuck, since no text of its language goes on as this one does
pub data Result (A : Type 0) : Type 0 where
  ok : A → List ℕ → Result A
  stuck : List ℕ → Result A

module _ {A : Type 0} where
  -- where a text of n bytes is left before its end, if it is
  abbrev pub left_at : ℕ → Result A → Option ℕ
  left_at n (ok a []) = None
  left_at n (ok a (b ∷ t)) = Some (n - length (b ∷ t))
  left_at n (stuck t) = Some (n - length t)

  -- what was read, `otherwise` where the reader is stuck
  abbrev pub value_read : A → Result A → A
  value_read otherwise (ok a t) = a
  value_read otherwise (stuck t) = otherwise
