-- The mixture sheet: its form, its records, and its answer (document 01, "The mixture sheet").
use Rattle.std.specs.Prelude.{Bool, not, ◌&&◌, ◌||◌, List, [], ◌∷◌, ℕ, suc, ◌+◌, ◌*◌, ◌-◌, leb, eqb, length, get_or, None}
use Rattle.answer.specs.Numbers.{bad_sheet}
use Rattle.answer.specs.declared.Rounded.{Rounded}
use Rattle.answer.specs.Outcome.{Outcome, refused, answered, refusal, refuse, refuse_at, and_then}
use Rattle.text.specs.Bytes.{byte, bytes}
use Rattle.text.specs.Decimal.{digit_from}
use Rattle.csv_form.specs.Lines.{fields, all}
use Rattle.csv_form.specs.Sheet.{headed, records, good_record, first_bad_record}
use Rattle.blend.specs.declared.Blend.{Blend}
use Rattle.blend.specs.Fuel.{text}
use Rattle.blend.specs.declared.LimitPair.{LimitPair}
use Rattle.blend.specs.Blend.{empty_blend, adding, limits, asking_marked}

-- FORM
abbrev pub header : List ℕ
header = bytes "formula,parts"

-- parts: 1 to 7 digits without leading zero, or `0`
unfoldable pub is_parts : List ℕ → Bool
is_parts p = all (digit_from 0) p && ((leb 1 (length p) && leb (length p) 7) && (eqb (length p) 1 || not (eqb (get_or p 0 0) (byte "0"))))

-- a record: exactly two fields, the second of them parts
abbrev pub good_mixture : List ℕ → Bool
good_mixture l = good_record 2 (λ fs. is_parts (get_or fs 1 [])) l

-- RECORDS. The formula of one, its parts, and the number that their digits spell.
abbrev pub record_formula : List ℕ → List ℕ
record_formula l = get_or (fields l) 0 []

abbrev pub parts_field : List ℕ → List ℕ
parts_field l = get_or (fields l) 1 []

-- digits behind others that spell n
unfoldable pub spelled_from : ℕ → List ℕ → ℕ
spelled_from n [] = n
spelled_from n (d ∷ s) = spelled_from (10 * n + (d - byte "0")) s

abbrev pub record_parts : List ℕ → ℕ
record_parts l = spelled_from 0 (parts_field l)

-- a refusal at record k
abbrev pub at_record : {A : Type 0} → ℕ → Outcome A → Outcome A
at_record k (refused r) = refused (refusal r.number k)
at_record k (answered a) = answered a

-- the records, numbered from k, added to a blend in order: the first refusal, with its record
unfoldable pub adding_all : Blend → ℕ → List (List ℕ) → Outcome Blend
adding_all b k [] = answered b
adding_all b k (l ∷ ls) = and_then (at_record k (adding b (text (record_formula l)) (record_parts l))) (λ c. adding_all c (suc k) ls)

-- THE ANSWER: form for the whole sheet first, then the records in order, then the limits of them all without a named temperature
unfoldable pub sheet_answer : List ℕ → Outcome (LimitPair (Rounded ℕ))
sheet_answer s =
    refuse bad_sheet 0 (not (headed header s))
    (refuse_at bad_sheet (first_bad_record good_mixture (records s))
    (and_then (adding_all empty_blend 1 (records s)) (λ b. asking_marked b (limits None))))
