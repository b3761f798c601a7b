-- The answer to atom counts to be written, and the lent room afterwards (document 01, "Formula text" and refusals 1, 2 and 17).
use Rattle.std.specs.Prelude.{List, ℕ, length}
use Rattle.answer.specs.Numbers.{no_formula, count_too_large}
use Rattle.answer.specs.Outcome.{Outcome, refuse, refuse_at}
use Rattle.text.specs.declared.Written.{Written}
use Rattle.text.specs.Writing.{placed, shown_length, holding}
use Rattle.elements.specs.declared.Atoms.{Atoms}
use Rattle.elements.specs.Elements.{each, first_above, is_empty}
use Rattle.hill.specs.Hill.{hill_text}

-- the text to be written into a room of n bytes; 17 where it is longer
unfoldable pub writing : Atoms → ℕ → Outcome (List ℕ)
writing a n =
    refuse no_formula 0 (is_empty a)
    (refuse_at count_too_large (first_above (each 200) a)
    (placed n (hill_text a)))

unfoldable pub formula_written : Atoms → List ℕ → Written
formula_written a room = shown_length (writing a (length room))

unfoldable pub room_after : Atoms → List ℕ → List ℕ
room_after a room = holding room (writing a (length room))
