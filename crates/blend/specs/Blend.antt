-- Blends, document 01's pools: what the functions on one answer.
use Rattle.std.specs.Prelude.{Bool, not, ◌&&◌, cond, ℕ, ◌+◌, ◌*◌, ◌≤◌, leb, ltb, eqb, ℤ, nat_abs, Option}
use Rattle.answer.specs.Numbers.{total_too_large, blend_empty, gas_temperature_outside, blend_out_of_bounds}
use Rattle.answer.specs.Outcome.{Outcome, refused, answered, refuse, refusal_of, value_of, and_then, unless, no_figure}
use Rattle.answer.specs.Marks.{mark_number}
use Rattle.answer.specs.declared.Rounded.{Rounded}
use Rattle.rounding.specs.Fraction.{Fraction, ◌over◌, whole, ◌⊠◌, ◌⊘◌, rounded}
use Rattle.elements.specs.declared.Atoms.{Atoms}
use Rattle.blend.specs.declared.Blend.{Blend}
use Rattle.blend.specs.declared.LimitPair.{LimitPair}
use Rattle.blend.specs.declared.Blended.{Blended}
use Rattle.blend.specs.declared.Limits.{Limits}
use Rattle.blend.specs.Limit.{Side, lower, upper}
use Rattle.blend.specs.Temperature.{meant, gas_outside, correction}
use Rattle.blend.specs.Fuel.{Fuel, admitting, quarters}

-- a blend by its numbers
abbrev pub blend : ℕ → ℕ → ℕ → Blend
blend total lowers uppers = record { total = total; lower = lowers; upper = uppers }

abbrev pub empty_blend : Blend
empty_blend = blend 0 0 0

-- THE SUMS. Σ v (aβ + b) over all that a blend took in, which it holds in units that keep it whole: lower in thousandths, upper in two-thousandths.
abbrev pub sum_of : Side → Blend → ℕ
sum_of lower b = b.lower
sum_of upper b = b.upper

abbrev pub unit : Side → ℕ
unit lower = 1000
unit upper = 2000

unfoldable pub held : Side → Blend → Fraction
held s b = sum_of s b over unit s

-- aβ + b in that unit, of β in quarters: 8.684 β + 4.679, with 8684 / 4 = 2171; 1.550 β + 0.560 where β ≤ 7.5 and 0.768 β + 6.554 where not, with
-- 2 · 1550 / 4 = 775 and 2 · 768 / 4 = 384
unfoldable pub weight : Side → ℕ → ℕ
weight lower q = 2171 * q + 4679
weight upper q = cond (leb q 30) (775 * q + 1120) (384 * q + 13108)

-- THE BOUNDS. The extremes of aβ + b over admitted fuels in that unit: 9.021 to 2175.679 and 1.335 to 198.554.
abbrev pub least : Side → ℕ
least lower = 9021
least upper = 2 * 1335

abbrev pub greatest : Side → ℕ
greatest lower = 2175679
greatest upper = 2 * 198554

unfoldable pub sum_within : Side → Blend → Bool
sum_within s b = leb (least s * b.total) (sum_of s b) && leb (sum_of s b) (greatest s * b.total)

-- not out of bounds
unfoldable pub within : Blend → Bool
within b = leb b.total 1000000 && (sum_within lower b && sum_within upper b)

-- ADDING v parts of a fuel
abbrev pub with_fuel : Blend → ℕ → ℕ → Blend
with_fuel b q v = record { total = b.total + v; lower = b.lower + v * weight lower q; upper = b.upper + v * weight upper q }

-- of a fuel that is admitted, or refused
unfoldable pub taking : Blend → Outcome Atoms → ℕ → Outcome Blend
taking b fuel v = and_then fuel (λ a. refuse total_too_large 0 (ltb 1000000 (b.total + v)) (answered (with_fuel b (quarters a) v)))

unfoldable pub adding : Blend → Fuel → ℕ → Outcome Blend
adding b f v = refuse blend_out_of_bounds 0 (not (within b)) (taking b (admitting f) v)

-- JOINING the second into the first
abbrev pub together : Blend → Blend → Blend
together b c = record { total = b.total + c.total; lower = b.lower + c.lower; upper = b.upper + c.upper }

unfoldable pub joining : Blend → Blend → Outcome Blend
joining b c =
    refuse blend_out_of_bounds 0 (not (within b))
    (refuse blend_out_of_bounds 1 (not (within c))
    (refuse total_too_large 0 (ltb 1000000 (b.total + c.total))
    (answered (together b c))))

-- the blend that comes back: with a refusal the given one
abbrev pub shown_blend : Blend → Outcome Blend → Blended
shown_blend b o = record { refusal = refusal_of o; blend = value_of b o }

-- ASKING
pub data Question : Type 0 where
  -- both limits at a temperature in hundredths of a degree, or with none named
  limits : Option ℤ → Question

-- what a question is answered with, with an A for each figure: rounded figures with their marks; and figures alone, which the claim speaks of
abbrev pub ToldAs : Type 0 → Question → Type 0
ToldAs A (limits t) = LimitPair A

abbrev pub ToldMarked : Question → Type 0
ToldMarked q = ToldAs (Rounded ℕ) q

abbrev pub Told : Question → Type 0
Told q = ToldAs ℕ q

-- V / Σ (v / limit) at t, where v / limit is v (aβ + b) / 100; in hundredths of a percent
unfoldable pub rounded_blend_limit : Side → Blend → ℕ → Rounded ℕ
rounded_blend_limit s b t = rounded (whole 100 ⊠ ((whole b.total ⊘ (held s b ⊘ whole 100)) ⊠ correction s t))

abbrev pub rounded_blend_limits : Blend → ℕ → LimitPair (Rounded ℕ)
rounded_blend_limits b t = record { lower = rounded_blend_limit lower b t; upper = rounded_blend_limit upper b t }

-- at most 100.00 %
abbrev pub AtMost100 : LimitPair (Rounded ℕ) → Type 0
AtMost100 l = (l.lower.value ≤ 10000) × (l.upper.value ≤ 10000)

-- of a blend that is not empty
unfoldable pub telling : Blend → (q : Question) → Outcome (ToldMarked q)
telling b (limits t) = refuse gas_temperature_outside 0 (gas_outside (meant t)) (answered (rounded_blend_limits b (nat_abs (meant t))))

unfoldable pub asking_marked : Blend → (q : Question) → Outcome (ToldMarked q)
asking_marked b q =
    refuse blend_out_of_bounds 0 (not (within b))
    (refuse blend_empty 0 (eqb b.total 0)
    (telling b q))

-- the same without the marks
abbrev pub figures_in : (q : Question) → ToldMarked q → Told q
figures_in (limits t) l = record { lower = l.lower.value; upper = l.upper.value }

abbrev pub without_marks : (q : Question) → Outcome (ToldMarked q) → Outcome (Told q)
without_marks q o = and_then o (λ x. answered (figures_in q x))

abbrev pub asking : Blend → (q : Question) → Outcome (Told q)
asking b q = without_marks q (asking_marked b q)

-- BOTH LIMITS as they are answered: with a refusal all is 0
abbrev pub no_limits : LimitPair (Rounded ℕ)
no_limits = record { lower = no_figure; upper = no_figure }

abbrev pub shown_limits : Outcome (LimitPair (Rounded ℕ)) → Limits
shown_limits o =
    let l = value_of no_limits o in
    record {
      refusal = refusal_of o;
      lower = l.lower.value;
      upper = l.upper.value;
      lower_mark = mark_number l.lower.mark;
      upper_mark = mark_number l.upper.mark;
    }

-- what such an answer tells but for the marks: its refusal, or its two limits
abbrev pub limits_told : Limits → Outcome (LimitPair ℕ)
limits_told r = unless r.refusal (refused r.refusal) (answered (record { lower = r.lower; upper = r.upper }))
