-- The lines of RFC 4180 text, and the fields of a line. No field is quoted: a sheet with a quote mark is bad.
use Rattle.std.specs.Prelude.{Bool, cond, not, ◌&&◌, Option, Some, None, List, [], ◌∷◌, ℕ, suc, ◌+◌, min, eqb, length, get_or, drop}
use Rattle.std.specs.List.{list_all}
use Rattle.text.specs.Bytes.{byte}
use Rattle.csv_form.specs.declared.Span.{Span}
use Rattle.csv_form.specs.declared.Lines.{Lines}

-- a text begins with CRLF, and with a comma
unfoldable pub crlf : List ℕ → Bool
crlf s = eqb (get_or s 0 0) (byte "\r") && eqb (get_or s 1 0) (byte "\n")

unfoldable pub comma : List ℕ → Bool
comma s = eqb (get_or s 0 0) (byte ",")

-- a byte in front of the first of some texts
abbrev pub push : ℕ → List (List ℕ) → List (List ℕ)
push a [] = (a ∷ []) ∷ []
push a (l ∷ ls) = (a ∷ l) ∷ ls

-- the lines of a text: each ends in CRLF, which the last may lack
unfoldable pub lines : List ℕ → List (List ℕ)
lines [] = []
lines (a ∷ []) = (a ∷ []) ∷ []
lines (a ∷ b ∷ s) = cond (crlf (a ∷ b ∷ s)) ([] ∷ lines s) (push a (lines (b ∷ s)))

-- the lines that an iterator has left
abbrev pub left : Lines → List (List ℕ)
left s = lines s.rest.now

-- the fields of a line, between its commas: one more than there are commas
unfoldable pub fields : List ℕ → List (List ℕ)
fields [] = [] ∷ []
fields (a ∷ s) = cond (comma (a ∷ s)) ([] ∷ fields s) (push a (fields s))

-- the bytes of a text before the first place where the rest of it passes a test; all where there is no such place
unfoldable pub before : (List ℕ → Bool) → List ℕ → List ℕ
before test [] = []
before test (a ∷ s) = cond (test (a ∷ s)) [] (a ∷ before test s)

-- the first place, counted from n, where the rest of a text passes a test
unfoldable pub first_from : (List ℕ → Bool) → ℕ → List ℕ → Option ℕ
first_from test n [] = None
first_from test n (a ∷ s) = cond (test (a ∷ s)) (Some n) (first_from test (suc n) s)

abbrev pub first : (List ℕ → Bool) → List ℕ → Option ℕ
first test s = first_from test 0 s

-- the first line of a text, and the first field of a line
abbrev pub line : List ℕ → List ℕ
line s = before crlf s

abbrev pub field : List ℕ → List ℕ
field l = before comma l

-- by positions: where those that begin at a position of a text end, and where the next begin, a gap further on; both at most the text's length
unfoldable pub span_at : (List ℕ → Bool) → ℕ → List ℕ → ℕ → Span
span_at test gap s at =
    let end = at + length (before test (drop at s)) in
    record { end = min end (length s); next = min (end + gap) (length s) }

-- the line that begins at a position of a text, and the field that begins at one of a line; behind the last they are empty and stand at the end
abbrev pub line_at : List ℕ → ℕ → Span
line_at s at = span_at crlf 2 s at

abbrev pub field_at : List ℕ → ℕ → Span
field_at l at = span_at comma 1 l at

-- each byte of a text passes a test
abbrev pub all : (ℕ → Bool) → List ℕ → Bool
all test s = list_all test s

-- no quote mark, CR or LF
unfoldable pub plain : ℕ → Bool
plain b = not (eqb b (byte "\"")) && (not (eqb b (byte "\r")) && not (eqb b (byte "\n")))
