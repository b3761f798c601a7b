-- A sheet's answer as text: a header line, then the two limits or the refusal; CRLF after each line.
use Rattle.std.specs.Prelude.{cond, List, ◌++◌, ℕ, ◌/◌, ◌%◌, eqb, length}
use Rattle.answer.specs.declared.Refusal.{Refusal}
use Rattle.answer.specs.Outcome.{Outcome}
use Rattle.text.specs.declared.Written.{Written}
use Rattle.text.specs.Bytes.{bytes}
use Rattle.text.specs.Decimal.{decimal}
use Rattle.text.specs.Writing.{placed, shown_length, holding}
use Rattle.blend.specs.declared.Limits.{Limits}

-- an answer by its numbers; the text has no marks
abbrev pub answer_of : Refusal → ℕ → ℕ → Limits
answer_of r lower upper = record { refusal = r; lower = lower; upper = upper; lower_mark = 0; upper_mark = 0 }

-- hundredths of a percent as percent with two decimals
unfoldable pub percent : ℕ → List ℕ
percent n = ((decimal (n / 100) ++ bytes ".") ++ decimal (n % 100 / 10)) ++ decimal (n % 100 % 10)

-- `0,0,` and the two limits
unfoldable pub limits_line : ℕ → ℕ → List ℕ
limits_line lower upper = ((bytes "0,0," ++ percent lower) ++ bytes ",") ++ percent upper

-- a refusal's number, its record, and two empty fields
unfoldable pub refusal_line : Refusal → List ℕ
refusal_line r = ((decimal r.number ++ bytes ",") ++ decimal r.place) ++ bytes ",,"

-- number 0 is no refusal
unfoldable pub answer_line : Limits → List ℕ
answer_line a = cond (eqb a.refusal.number 0) (limits_line a.lower a.upper) (refusal_line a.refusal)

unfoldable pub answer_text : Limits → List ℕ
answer_text a = (bytes "answer,record,lower,upper\r\n" ++ answer_line a) ++ bytes "\r\n"

-- written whole at the start of a room, or refusal 17 and the room as it was
abbrev pub answer_placed : Limits → ℕ → Outcome (List ℕ)
answer_placed a room = placed room (answer_text a)

abbrev pub answer_written : Limits → List ℕ → Written
answer_written a room = shown_length (answer_placed a (length room))

abbrev pub answer_room : Limits → List ℕ → List ℕ
answer_room a room = holding room (answer_placed a (length room))
