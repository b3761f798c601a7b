-- A sheet's answer by the reference model of the blends: its records are a list of addings to one blend.
use Rattle.std.specs.Prelude.{◌≡◌, not, List, [], ◌∷◌, map, ℕ, suc, Option, Some, None}
use Rattle.answer.specs.declared.Refusal.{Refusal}
use Rattle.answer.specs.Numbers.{bad_sheet}
use Rattle.answer.specs.Outcome.{Outcome, refused, refusal, refuse, refuse_at}
use Rattle.csv_form.specs.Sheet.{headed, records, first_bad_record}
use Rattle.blend.specs.Fuel.{text}
use Rattle.blend.specs.Blend.{limits}
use Rattle.blend.specs.Calls.{Call, add, Answer, done, told, declined}
use Rattle.blend.specs.Model.{model_asks_marked}
use Rattle.blend.specs.Claims.{entries, model_answers}
use Rattle.sheet.specs.Mixture.{header, good_mixture, record_formula, record_parts, sheet_answer}

-- the addings that records are, all to blend 0
abbrev pub addings : List (List ℕ) → List Call
addings ls = map (λ (l : List ℕ). add 0 (text (record_formula l)) (record_parts l)) ls

-- the first refusal among answers that are numbered from k, with its number in the list as its place
unfoldable pub first_refusal : ℕ → List Answer → Option Refusal
first_refusal k [] = None
first_refusal k (done ∷ rest) = first_refusal (suc k) rest
first_refusal k (told q x ∷ rest) = first_refusal (suc k) rest
first_refusal k (declined r ∷ rest) = Some (refusal r.number k)

abbrev pub unless_refused : {A : Type 0} → Option Refusal → Outcome A → Outcome A
unless_refused (Some r) next = refused r
unless_refused None next = next

-- for a sheet of good form, the model's first refusal with its record, else its answer to the question without a temperature
abbrev pub ByModel : List ℕ → Type 0
ByModel s =
    sheet_answer s
    ≡ refuse bad_sheet 0 (not (headed header s))
    (refuse_at bad_sheet (first_bad_record good_mixture (records s))
    (unless_refused (first_refusal 1 (model_answers (addings (records s)))) (model_asks_marked (entries (addings (records s)) 0) (limits None))))
