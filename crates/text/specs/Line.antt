-- Text appended to a line that holds at most n bytes.
use Rattle.std.specs.Prelude.{cond, List, ◌++◌, ℕ, ◌+◌, leb, length}

-- the line with a text behind it; the same line where the text does not fit
unfoldable pub appended : ℕ → List ℕ → List ℕ → List ℕ
appended n line s = cond (leb (length line + length s) n) (line ++ s) line
