-- Rounding once, halves away from zero (document 01, "Rounded"), and the mark of a rounded figure (document 02, change request k).
use Rattle.std.specs.Prelude.{cond, ℕ, suc, ◌+◌, ◌*◌, ◌/◌, ◌%◌, eqb, ltb, ℤ, pos, negsuc, neg_ℤ}
use Rattle.answer.specs.declared.Rounded.{Rounded}
use Rattle.answer.specs.declared.Mark.{Mark}
use Rattle.answer.specs.declared.Mark.TheVariants.{Exact, Raised, Lowered}
use Rattle.rounding.specs.declared.Quotient.{Quotient}

-- quotient and remainder; by 0 the quotient is 0 and the remainder n
abbrev pub divided : ℕ → ℕ → Quotient
divided n d = record { quotient = n / d; remainder = n % d }

-- n / d rounded; by 0, where the papers leave it free, it is 0
unfoldable pub rounded_value : ℕ → ℕ → ℕ
rounded_value n d = (2 * n + d) / (2 * d)

-- the mark of r in the place of n / d: r d against n; by 0, left free too, it is exact
unfoldable pub mark_of : ℕ → ℕ → ℕ → Mark
mark_of n d r = cond (eqb d 0) Exact (cond (ltb n (r * d)) Raised (cond (ltb (r * d) n) Lowered Exact))

-- value and mark
unfoldable pub round_div : ℕ → ℕ → Rounded ℕ
round_div n d = record { value = rounded_value n d; mark = mark_of n d (rounded_value n d) }

-- the same of a signed number: its size is rounded, its sign is kept, and the mark is that of its size
unfoldable pub round_div_ℤ : ℤ → ℕ → Rounded ℤ
round_div_ℤ (pos n) d = let r = round_div n d in record { value = pos r.value; mark = r.mark }
round_div_ℤ (negsuc n) d = let r = round_div (suc n) d in record { value = neg_ℤ (pos r.value); mark = r.mark }
