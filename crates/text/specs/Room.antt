-- Text put into a lent buffer, its room.
use Rattle.std.specs.Prelude.{Bool, cond, List, ◌++◌, ℕ, ◌+◌, leb, length, take, drop}

-- the room holds a text of n bytes at a place
abbrev pub fits : List ℕ → ℕ → ℕ → Bool
fits room at n = leb (at + n) (length room)

-- the room with a text at a place and the rest as it was; the same room where the text does not fit
unfoldable pub put_at : List ℕ → ℕ → List ℕ → List ℕ
put_at room at s = cond (fits room at (length s)) (take at room ++ (s ++ drop (at + length s) room)) room

-- the place behind the text; the given place where it does not fit
unfoldable pub behind : List ℕ → ℕ → List ℕ → ℕ
behind room at s = cond (fits room at (length s)) (at + length s) at
