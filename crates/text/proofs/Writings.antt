-- Laws of a whole text written at the start of a room: by the test of its length, and how long the answer is.
use mathlib.Core.Path.{◌≡◌, refl}
use mathlib.Core.List.{List}
use Prim.Native.Nat.{ℕ, ◌≤◌, ◌<◌}
use native.Mathlib.Decide.{dec_lt}
use native.Mathlib.Omega.{arith}
use borrow.Author.Tests.{lt-ltb, le-ltb}
use lib.ListN.{length}
use Rattle.answer.specs.Numbers.{no_room}
use Rattle.answer.specs.Outcome.{Outcome, refused, answered, refusal}
use Rattle.text.specs.Writing.{placed, length_of, shown_written, shown_length, holding, Longest}
use Rattle.text.proofs.Rooms.{put-length}

-- a length as C is shown it
pub length_shown : (o : Outcome (List ℕ)) → shown_written (length_of o) ≡ shown_length o
length_shown (refused r) = refl
length_shown (answered t) = refl

module _ (room t : List ℕ) where
  pub placed-no : length room < length t → placed (length room) t ≡ refused (refusal 17 0)
  unfolding placed
  placed-no l = rw (lt-ltb (length room) (length t) l)

  pub placed-yes : length t ≤ length room → placed (length room) t ≡ answered t
  unfolding placed
  placed-yes l = rw (le-ltb (length room) (length t) l)

  -- the room keeps its size, and no answer is longer
  pub holding-length : (o : Outcome (List ℕ)) → length (holding room o) ≡ length room
  holding-length (refused r) = refl
  holding-length (answered u) = put-length room 0 u

  pub placed-within : (shown_length (placed (length room) t)).length ≤ length room
  placed-within = go (dec_lt (length room) (length t))
    where
      go : Dec (length room < length t) → (shown_length (placed (length room) t)).length ≤ length room
      go (yes l) = rw (placed-no l) (omega arith)
      go (no l) = rw (placed-yes (omega arith)) (omega arith)

-- how long the text can be: one that is placed, and none where there is another refusal
module _ (n : ℕ) (room : List ℕ) where
  pub placed-longest : (t : List ℕ) → length t ≤ n → Longest n room (shown_written (length_of (placed (length room) t)))
  placed-longest t l = go (dec_lt (length room) (length t))
    where
      go : Dec (length room < length t) → Longest n room (shown_written (length_of (placed (length room) t)))
      go (yes h) = rw (placed-no room t h) (record { most = omega arith; holds = λ k e. omega arith })
      go (no h) = rw (placed-yes room t (omega arith)) (record { most = l; holds = λ k e. omega arith })

  pub refused-longest : (k p : ℕ) → (k ≡ no_room → ⊥) → Longest n room (shown_written (refused (refusal k p)))
  refused-longest k p other = record { most = omega arith; holds = λ l e. other e }
