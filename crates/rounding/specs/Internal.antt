-- What the steps of a division hand on. No public promise cites this file.
use Rattle.std.specs.Prelude.{◌≡◌, ℕ, ◌*◌, ◌^◌, ◌≤◌, ◌<◌}

-- m is d doubled some times
pub record Doublings (d m : ℕ) : Type 0 where
  pub times : ℕ
  pub is : m ≡ d * 2 ^ times

-- m is d doubled some times, at most n, and above n where it is doubled `more` times more
pub record Doubled (n d more m : ℕ) : Type 0 where
  pub doublings : Doublings d m
  pub at_most : m ≤ n
  pub above : n < m * 2 ^ more
