-- The form of a sheet: RFC 4180 text of at most 64 KiB, a header and then records. Header, number of fields and the test of a record are whatever a
-- sheet of its kind has.
use Rattle.std.specs.Prelude.{Bool, not, ◌&&◌, List, [], ℕ, ◌-◌, leb, eqb, length, get_or, drop, Option}
use Rattle.answer.specs.Lowest.{lowest}
use Rattle.text.specs.Bytes.{same}
use Rattle.csv_form.specs.Lines.{lines, line, fields, all, plain}

-- at most 64 KiB, and the first line is the header
unfoldable pub headed : List ℕ → List ℕ → Bool
headed header s = leb (length s) 65536 && same (line s) header

-- the records: the lines behind the first
unfoldable pub records : List ℕ → List (List ℕ)
records s = drop 1 (lines s)

-- a record's form: no quote mark, no bare CR or LF, exactly n fields
unfoldable pub formed : ℕ → List ℕ → Bool
formed n l = all plain l && eqb (length (fields l)) n

-- a good record: of that form, and its fields pass a test
unfoldable pub good_record : ℕ → (List (List ℕ) → Bool) → List ℕ → Bool
good_record n test l = formed n l && test (fields l)

-- record k, counted from 1, is not good; and the first such
abbrev pub bad_at : (List ℕ → Bool) → List (List ℕ) → ℕ → Bool
bad_at good rs k = not (good (get_or rs (k - 1) []))

abbrev pub first_bad_record : (List ℕ → Bool) → List (List ℕ) → Option ℕ
first_bad_record good rs = lowest (bad_at good rs) 1 (length rs)
