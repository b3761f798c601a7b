-- Lists of calls on any number of blends, and what a keeper of their states answers to them.
use Rattle.std.specs.Prelude.{cond, List, [], ◌∷◌, ℕ, eqb}
use Rattle.answer.specs.declared.Refusal.{Refusal}
use Rattle.answer.specs.Outcome.{Outcome, refused, answered, value_of}
use Rattle.blend.specs.Fuel.{Fuel}
use Rattle.blend.specs.Blend.{Question, Told}

pub data Call : Type 0 where
  -- to a blend, parts of a fuel
  add : ℕ → Fuel → ℕ → Call
  -- into the first blend, the second
  join : ℕ → ℕ → Call
  -- a question of a blend
  ask : ℕ → Question → Call

-- what is compared: whether the call is refused, the refusal's number and place, and the figures
pub data Answer : Type 0 where
  done : Answer
  told : (q : Question) → Told q → Answer
  declined : Refusal → Answer

-- a keeper of states, one for each blend: what it makes of an adding, a joining and a question
pub record Keeper (S : Type 0) : Type 0 where
  pub adds : S → Fuel → ℕ → Outcome S
  pub joins : S → S → Outcome S
  pub asks : S → (q : Question) → Outcome (Told q)

abbrev pub changed : {S : Type 0} → Outcome S → Answer
changed (refused r) = declined r
changed (answered s) = done

abbrev pub told_of : (q : Question) → Outcome (Told q) → Answer
told_of q (refused r) = declined r
told_of q (answered x) = told q x

-- the states with x for blend i
unfoldable pub put : {S : Type 0} → (ℕ → S) → ℕ → S → ℕ → S
put states i x j = cond (eqb j i) x (states j)

module _ {S : Type 0} (k : Keeper S) where
  unfoldable pub answer_to : (ℕ → S) → Call → Answer
  answer_to states (add i f v) = changed (k.adds (states i) f v)
  answer_to states (join i j) = changed (k.joins (states i) (states j))
  answer_to states (ask i q) = told_of q (k.asks (states i) q)

  -- what an adding or a joining gives replaces the state, in a joining the first; a refused call and a question change nothing
  unfoldable pub next : (ℕ → S) → Call → ℕ → S
  next states (add i f v) = put states i (value_of (states i) (k.adds (states i) f v))
  next states (join i j) = put states i (value_of (states i) (k.joins (states i) (states j)))
  next states (ask i q) = states

  -- the answers to a list of calls, and the states after it
  unfoldable pub answers : (ℕ → S) → List Call → List Answer
  answers states [] = []
  answers states (c ∷ cs) = answer_to states c ∷ answers (next states c) cs

  unfoldable pub after : (ℕ → S) → List Call → ℕ → S
  after states [] = states
  after states (c ∷ cs) = after (next states c) cs
