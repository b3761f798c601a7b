-- A sheet's answer is the reference model's.
use mathlib.Core.Path.{◌≡◌, refl, ap, ◌∙◌}
use mathlib.Core.Bool.{not}
use mathlib.Core.List.{List, [], ◌∷◌}
use Rattle.std.specs.Prelude.{Option, Some, None}
use Prim.Native.Nat.{ℕ, suc}
use Rattle.answer.specs.declared.Refusal.{Refusal}
use Rattle.answer.specs.declared.Rounded.{Rounded}
use Rattle.answer.specs.Numbers.{bad_sheet}
use Rattle.answer.specs.Outcome.{Outcome, refused, answered, refuse, refuse_at, value_of, and_then}
use Rattle.csv_form.specs.Sheet.{headed, records, first_bad_record}
use Rattle.blend.specs.declared.Blend.{Blend}
use Rattle.blend.specs.declared.LimitPair.{LimitPair}
use Rattle.blend.specs.Fuel.{text}
use Rattle.blend.specs.Calls.{changed, put, next, answers, answer_to, after}
use Rattle.blend.specs.Blend.{empty_blend, adding, limits, asking_marked}
use Rattle.blend.specs.Claims.{keeper, blends, blend_answers}
use Rattle.blend.proofs.Theorem.{claims, marks-alike}
use Rattle.sheet.specs.Mixture.{header, good_mixture, record_formula, record_parts, at_record, adding_all, sheet_answer}
use Rattle.sheet.specs.ByModel.{addings, first_refusal, unless_refused, ByModel}

put-here : (states : ℕ → Blend) (c : Blend) → put states 0 c 0 ≡ c
unfolding put
put-here states c = refl

-- the records added one by one are the list of addings, from any blends
all-added : (states : ℕ → Blend) (k : ℕ) (ls : List (List ℕ))
    → adding_all (states 0) k ls ≡ unless_refused (first_refusal k (answers keeper states (addings ls))) (answered (after keeper states (addings ls) 0))
unfolding adding_all first_refusal answers after answer_to next
all-added states k [] = refl
all-added states k (l ∷ ls) = go (adding (states 0) (text (record_formula l)) (record_parts l)) (λ c. all-added (put states 0 c) (suc k) ls)
  where
    go : (o : Outcome Blend)
        → ((c : Blend) → adding_all (put states 0 c 0) (suc k) ls ≡ unless_refused (first_refusal (suc k) (answers keeper (put states 0 c) (addings ls))) (answered (after keeper (put states 0 c) (addings ls) 0)))
        → and_then (at_record k o) (λ c. adding_all c (suc k) ls)
        ≡ unless_refused (first_refusal k (changed o ∷ answers keeper (put states 0 (value_of (states 0) o)) (addings ls))) (answered (after keeper (put states 0 (value_of (states 0) o)) (addings ls) 0))
    go (refused r) later = refl
    go (answered c) later = rw (put-here states c) at (later c)

unless-then : {A B : Type 0} (o : Option Refusal) (a : A) (f : A → Outcome B) → and_then (unless_refused o (answered a)) f ≡ unless_refused o (f a)
unless-then (Some r) a f = refl
unless-then None a f = refl

pub by-model : (s : List ℕ) → ByModel s
unfolding sheet_answer
by-model s =
    let cs = addings (records s) in
    ap (λ (o : Outcome (LimitPair (Rounded ℕ))). refuse bad_sheet 0 (not (headed header s)) (refuse_at bad_sheet (first_bad_record good_mixture (records s)) o))
    (ap (λ (o : Outcome Blend). and_then o (λ b. asking_marked b (limits None))) (all-added (λ i. empty_blend) 1 (records s))
    ∙ unless-then (first_refusal 1 (blend_answers cs)) (blends cs 0) (λ b. asking_marked b (limits None))
    ∙ rw ((claims cs).answered, (marks-alike cs).by_entries 0 (limits None)))
