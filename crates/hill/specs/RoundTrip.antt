-- The round trip: what is written reads back to the same counts (demand 2).
use Rattle.std.specs.Prelude.{◌≡◌, List, ℕ, ◌≤◌, ◌<◌, length, take}
use Rattle.answer.specs.Outcome.{answered}
use Rattle.elements.specs.declared.Element.{Element}
use Rattle.elements.specs.declared.Atoms.{Atoms}
use Rattle.elements.specs.Elements.{count}
use Rattle.hill.specs.Hill.{hill_text}
use Rattle.formula.specs.Reading.{reading}
use Rattle.hill.specs.Writing.{writing, room_after}

-- counts from 0 to 200, not all 0
pub record Writable (a : Atoms) : Type 0 where
  pub ten : length a.count ≡ 10
  pub most : (e : Element) → count a e ≤ 200
  pub some : (e : Element) × (0 < count a e)

pub record RoundTrip : Type 0 where
  -- the Hill text of such counts reads back to them
  pub back : (a : Atoms) → Writable a → reading (hill_text a) ≡ answered a
  -- so does whatever was written into a room
  pub kept : (a : Atoms) (room t : List ℕ) → length a.count ≡ 10 → writing a (length room) ≡ answered t → reading (take (length t) (room_after a room)) ≡ answered a
  -- every text that is read is written in any room that holds it, and reads back to the same counts
  pub again : (t : List ℕ) (a : Atoms) (room : List ℕ) → reading t ≡ answered a → length (hill_text a) ≤ length room
      → (writing a (length room) ≡ answered (hill_text a)) × (reading (take (length (hill_text a)) (room_after a room)) ≡ answered a)
