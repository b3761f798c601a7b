-- Whole numbers in decimal digits.
use Rattle.std.specs.Prelude.{Bool, true, false, ◌&&◌, List, [], ◌∷◌, ◌++◌, ℕ, zero, suc, ◌+◌, ◌/◌, ◌%◌, leb, ltb}
use Rattle.text.specs.Bytes.{byte}

-- the digits of n, at most k of them
abbrev pub decimal_by : ℕ → ℕ → List ℕ
decimal_by zero n = []
decimal_by (suc k) n = elim (ltb n 10) [ true ↦ (byte "0" + n) ∷ [] | false ↦ decimal_by k (n / 10) ++ (byte "0" + n % 10) ∷ [] ]

-- the digits of n, without leading zero: n has no more than n + 1 of them
unfoldable pub decimal : ℕ → List ℕ
decimal n = decimal_by (suc n) n

-- b is the byte of a digit that is not below k: with 0 of any digit, with 1 of one that is not 0
unfoldable pub digit_from : ℕ → ℕ → Bool
digit_from k b = leb (byte "0" + k) b && leb b (byte "9")
