-- What functions say that append text to a line piece by piece. No public promise cites this file.
use Rattle.std.specs.Prelude.{◌≡◌, List, ◌++◌, ℕ, ◌+◌, ◌≤◌, length}

-- where s fits behind the line, into n bytes, `new` is the line with it
pub record Appends (n : ℕ) (line s new : List ℕ) : Type 0 where
  pub gives : length line + length s ≤ n → new ≡ line ++ s
