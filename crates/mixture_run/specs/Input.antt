-- What the program answers to its input (document 01, "The mixture sheet").
use Rattle.std.specs.Prelude.{◌≡◌, List, ℕ, take, IfSome, Option, Some, None}
use Rattle.std.specs.Io.KnownBytes.{Appends}
use Rattle.answer.specs.Numbers.{bad_sheet}
use Rattle.answer.specs.declared.Rounded.{Rounded}
use Rattle.answer.specs.Outcome.{Outcome, refused, refusal}
use Rattle.blend.specs.declared.LimitPair.{LimitPair}
use Rattle.blend.specs.declared.Limits.{Limits}
use Rattle.blend.specs.Blend.{shown_limits}
use Rattle.sheet.specs.Mixture.{sheet_answer}
use Rattle.sheet.specs.Answer.{answer_text}

-- an input, none where a read failed: an input that could not be read to its end is a bad sheet, whatever was read of it
abbrev pub input_answer : Option (List ℕ) → Outcome (LimitPair (Rounded ℕ))
input_answer (Some input) = sheet_answer input
input_answer None = refused (refusal bad_sheet 0)

abbrev pub shown_answer : Option (List ℕ) → Limits
shown_answer input = shown_limits (input_answer input)

-- an input is what a reader had left, where that is known: its first 65,537 bytes
abbrev pub IsReadFrom : Option (List ℕ) → List ℕ → Type 0
IsReadFrom known input = IfSome known (λ xs. input ≡ take 65537 xs)

-- of a reader's bytes that were left, and a writer's before and after: the answer's text was written, of what was read or of a failed read (that a read failed
-- where none is answered is not said: std's readers say nothing of it)
pub record WritesAnswer (known before after : Option (List ℕ)) : Type 0 where
  pub input : Option (List ℕ)
  pub read : IfSome input (IsReadFrom known)
  pub written : Appends before after (answer_text (shown_answer input))
