-- The first number that passes a test: every "lowest", "first" and "smallest" of document 01.
use Rattle.std.specs.Prelude.{◌≡◌, Bool, true, false, cond, ℕ, zero, suc, ◌+◌, ◌≤◌, ◌<◌, Option, Some, None}

-- the first of k, k + 1, .., k + (n − 1) that passes the test
unfoldable pub lowest : (ℕ → Bool) → ℕ → ℕ → Option ℕ
lowest test k zero = None
lowest test k (suc n) = let later = lowest test (suc k) n in cond (test k) (Some k) later

-- what that says: one that passes where none before it does; or that none of them passes
pub record Passes (test : ℕ → Bool) (k n r : ℕ) : Type 0 where
  pub from : k ≤ r
  pub to : r < k + n
  pub passes : test r ≡ true
  pub before : (j : ℕ) → k ≤ j → j < r → test j ≡ false

abbrev pub IsLowest : (ℕ → Bool) → ℕ → ℕ → Option ℕ → Type 0
IsLowest test k n (Some r) = Passes test k n r
IsLowest test k n None = (j : ℕ) → k ≤ j → j < k + n → test j ≡ false
