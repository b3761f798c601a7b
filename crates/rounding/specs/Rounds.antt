-- What rounding and its mark mean, apart from how they are computed.
use Rattle.std.specs.Prelude.{◌≡◌, ℕ, ◌+◌, ◌*◌, ◌≤◌, ◌<◌, ℤ, pos, neg_ℤ, nat_abs, ◌-ℤ◌, ◌*ℤ◌}
use Rattle.answer.specs.declared.Rounded.{Rounded}
use Rattle.answer.specs.declared.Mark.{Mark}
use Rattle.answer.specs.declared.Mark.TheVariants.{Exact, Raised, Lowered}
use Rattle.rounding.specs.Round.{round_div, round_div_ℤ}

-- (r − 1/2) d ≤ n < (r + 1/2) d
pub record Nearest (n d r : ℕ) : Type 0 where
  pub low : 2 * (r * d) ≤ 2 * n + d
  pub high : 2 * n < 2 * (r * d) + d

-- what the mark of r in the place of n / d says: r d is n, exceeds it, or is below it
pub data Marked (n d r : ℕ) : Mark → Type 0 where
  is-exact : r * d ≡ n → Marked n d r Exact
  is-raised : n < r * d → Marked n d r Raised
  is-lowered : r * d < n → Marked n d r Lowered

-- r is n / d rounded: nearest, halves up, and the only such number, with its mark; equal fractions have the same value and mark; a larger one has no
-- smaller value
pub record Rounds (n d : ℕ) (r : Rounded ℕ) : Type 0 where
  pub nearest : 0 < d → Nearest n d r.value
  pub only : (s : ℕ) → Nearest n d s → s ≡ r.value
  pub marked : 0 < d → Marked n d r.value r.mark
  pub alike : (m e : ℕ) → 0 < d → 0 < e → n * e ≡ m * d → round_div m e ≡ r
  pub monotone : (m e : ℕ) → 0 < d → 0 < e → n * e ≤ m * d → r.value ≤ (round_div m e).value
  pub by_zero : d ≡ 0 → r ≡ record { value = 0; mark = Exact }

-- r is z / d rounded: at most 1/2 away, its size that of z rounded, so that halves go away from zero on both sides; the mark speaks of the sizes, so that −z
-- has the same; equal fractions have the same value and mark
pub record Rounds_ℤ (z : ℤ) (d : ℕ) (r : Rounded ℤ) : Type 0 where
  pub near : 0 < d → 2 * nat_abs (z -ℤ r.value *ℤ pos d) ≤ d
  pub size : nat_abs r.value ≡ (round_div (nat_abs z) d).value
  pub marked : 0 < d → Marked (nat_abs z) d (nat_abs r.value) r.mark
  pub odd : round_div_ℤ (neg_ℤ z) d ≡ record { value = neg_ℤ r.value; mark = r.mark }
  pub alike : (y : ℤ) (e : ℕ) → 0 < d → 0 < e → z *ℤ pos e ≡ y *ℤ pos d → round_div_ℤ y e ≡ r
  pub by_zero : d ≡ 0 → r ≡ record { value = pos 0; mark = Exact }
