-- A refusal or an answer, and the chain that document 01's table reads as: one line a refusal, in its order.
use Rattle.std.specs.Prelude.{Bool, true, false, cond, ℕ, ltb, ℤ, pos, Result, Ok, Err, Option, Some, None}
use Rattle.answer.specs.declared.Reason.{Reason}
use Rattle.answer.specs.declared.Refused.{Refused}
use Rattle.answer.specs.declared.Refusal.{Refusal}
use Rattle.answer.specs.declared.Figure.{Figure}
use Rattle.answer.specs.declared.Temperature.{Temperature}
use Rattle.answer.specs.declared.Rounded.{Rounded}
use Rattle.answer.specs.declared.RoundedFigure.{RoundedFigure}
use Rattle.answer.specs.declared.RoundedTemperature.{RoundedTemperature}
use Rattle.answer.specs.declared.Mark.TheVariants.{Exact}
use Rattle.answer.specs.Numbers.{number_of}
use Rattle.answer.specs.Marks.{mark_number}

pub data Outcome (A : Type 0) : Type 0 where
  refused : Refusal → Outcome A
  answered : A → Outcome A

abbrev pub refusal : ℕ → ℕ → Refusal
refusal n p = record { number = n; place = p }

-- a function's refusal for a reason, its number, and what a function's result tells: every promise is an equation of it
abbrev pub refused_at : Reason → ℕ → Refused
refused_at why p = record { reason = why; place = p }

abbrev pub shown_refusal : Refused → Refusal
shown_refusal r = refusal (number_of r.reason) r.place

abbrev pub told : {A : Type 0} → Result A Refused → Outcome A
told (Ok a) = answered a
told (Err r) = refused (shown_refusal r)

module _ {A : Type 0} where
  -- refuse with the number n at the place p where the test holds, else go on
  abbrev pub refuse : ℕ → ℕ → Bool → Outcome A → Outcome A
  refuse n p true next = refused (refusal n p)
  refuse n p false next = next

  -- refuse with the number n at the place that was found, if one was, else go on
  abbrev pub refuse_at : ℕ → Option ℕ → Outcome A → Outcome A
  refuse_at n (Some p) next = refused (refusal n p)
  refuse_at n None next = next

  -- an answer's two parts: its refusal, number 0 and place 0 where there is none; and its value, which a refusal leaves at `otherwise`
  abbrev pub refusal_of : Outcome A → Refusal
  refusal_of (refused r) = r
  refusal_of (answered a) = refusal 0 0

  abbrev pub value_of : A → Outcome A → A
  value_of otherwise (refused r) = otherwise
  value_of otherwise (answered a) = a

-- an answer that is asked further; a refusal stays
abbrev pub and_then : {A B : Type 0} → Outcome A → (A → Outcome B) → Outcome B
and_then (refused r) f = refused r
and_then (answered a) f = f a

-- what is shown of a refusal where there is one, its number above 0, else what is shown of the rest
abbrev pub unless : {A : Type 0} → Refusal → A → A → A
unless r declined rest = cond (ltb 0 r.number) declined rest

-- a figure as it is answered: with a refusal its value is 0
abbrev pub shown_figure : Outcome ℕ → Figure
shown_figure o = record { refusal = refusal_of o; value = value_of 0 o }

abbrev pub shown_temperature : Outcome ℤ → Temperature
shown_temperature o = record { refusal = refusal_of o; value = value_of (pos 0) o }

-- a rounded figure, and a rounded temperature: with a refusal value and mark are 0
abbrev pub no_figure : Rounded ℕ
no_figure = record { value = 0; mark = Exact }

abbrev pub shown_rounded : Outcome (Rounded ℕ) → RoundedFigure
shown_rounded o = record { refusal = refusal_of o; value = (value_of no_figure o).value; mark = mark_number (value_of no_figure o).mark }

abbrev pub no_temperature : Rounded ℤ
no_temperature = record { value = pos 0; mark = Exact }

abbrev pub shown_rounded_temperature : Outcome (Rounded ℤ) → RoundedTemperature
shown_rounded_temperature o = record { refusal = refusal_of o; value = (value_of no_temperature o).value; mark = mark_number (value_of no_temperature o).mark }
