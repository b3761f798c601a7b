-- A whole text written at the start of a lent buffer, its room: the answer, and what the room holds afterwards (document 01, refusal 17).
use Rattle.std.specs.Prelude.{◌≡◌, List, [], ℕ, ◌≤◌, ltb, length}
use Rattle.answer.specs.Numbers.{no_room}
use Rattle.answer.specs.Outcome.{Outcome, refused, answered, refuse, refusal_of, value_of}
use Rattle.text.specs.declared.Written.{Written}
use Rattle.text.specs.Room.{put_at}

-- a text to be written into a room of n bytes
unfoldable pub placed : ℕ → List ℕ → Outcome (List ℕ)
placed n t = refuse no_room 0 (ltb n (length t)) (answered t)

-- the answer: the text's length
abbrev pub length_of : Outcome (List ℕ) → Outcome ℕ
length_of (refused r) = refused r
length_of (answered t) = answered (length t)

-- a length as C is shown it, 0 with a refusal; and the length of a text so
abbrev pub shown_written : Outcome ℕ → Written
shown_written o = record { refusal = refusal_of o; length = value_of 0 o }

abbrev pub shown_length : Outcome (List ℕ) → Written
shown_length o = record { refusal = refusal_of o; length = length (value_of [] o) }

-- the room: the text at its start and the rest as it was; with a refusal all as it was
abbrev pub holding : List ℕ → Outcome (List ℕ) → List ℕ
holding room (refused r) = room
holding room (answered t) = put_at room 0 t

-- what a caller sizes a room by: the text has at most n bytes, and a room of n bytes is never too short for it
pub record Longest (n : ℕ) (room : List ℕ) (r : Written) : Type 0 where
  pub most : r.length ≤ n
  pub holds : n ≤ length room → r.refusal.number ≡ no_room → ⊥
