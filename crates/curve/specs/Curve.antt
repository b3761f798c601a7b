-- The vapour curve: which curves are accepted, and the pressure at a temperature (document 01, "The vapour curve" and refusal 11).
use Rattle.std.specs.Prelude.{◌≡◌, Bool, not, ◌&&◌, ◌||◌, List, ℕ, ◌+◌, ◌-◌, ◌*◌, ◌/◌, ◌≤◌, leb, ltb, eqb, ℤ, pos, neg_ℤ, length, get_or, Option}
use Rattle.answer.specs.Numbers.{bad_curve}
use Rattle.answer.specs.Lowest.{lowest}
use Rattle.answer.specs.Outcome.{Outcome, answered, refuse, refuse_at, and_then}
use Rattle.answer.specs.Outside.{outside}
use Rattle.curve.specs.declared.Segment.{Segment}
use Rattle.curve.specs.Smallest.{kelvin, celsius, clamp, Test, met, smallest, searched, Least}

-- two lists: temperatures in hundredths of °C and pressures in Pa
pub record Curve : Type 0 where
  pub temperatures : List ℤ
  pub pressures : List ℕ

abbrev pub curve : List ℤ → List ℕ → Curve
curve ts ps = record { temperatures = ts; pressures = ps }

abbrev pub points : Curve → ℕ
points c = length c.temperatures

-- the temperature of point i, and the same counted from −273 °C
abbrev pub degrees : Curve → ℕ → ℤ
degrees c i = get_or c.temperatures i (pos 0)

abbrev pub temperature : Curve → ℕ → ℕ
temperature c i = kelvin (degrees c i)

abbrev pub pressure : Curve → ℕ → ℕ
pressure c i = get_or c.pressures i 0

abbrev pub first : Curve → ℕ
first c = temperature c 0

abbrev pub last : Curve → ℕ
last c = temperature c (points c - 1)

-- the segment that ends at point i
abbrev pub segment : Curve → ℕ → Segment
segment c i = record { from = temperature c (i - 1); to = temperature c i; low = pressure c (i - 1); high = pressure c i }

-- ACCEPTED CURVES. Two lists of equal length, 2 to 4,096 points.
unfoldable pub sizes : ℕ → ℕ → Bool
sizes n m = eqb n m && (leb 2 n && leb n 4096)

abbrev pub sized : Curve → Bool
sized c = sizes (length c.temperatures) (length c.pressures)

-- out of range: temperature outside −200.00 to 600.00, or pressure outside 1 to 250,000
unfoldable pub out_of_range : ℤ → ℕ → Bool
out_of_range t p = outside (neg_ℤ (pos 20000)) (pos 60000) t || outside (pos 1) (pos 250000) (pos p)

-- both strictly rising
unfoldable pub rising : Segment → Bool
rising s = ltb s.from s.to && ltb s.low s.high

-- a point is bad if out of range or not above the one before
unfoldable pub bad_point : Curve → ℕ → Bool
bad_point c i = out_of_range (degrees c i) (pressure c i) || (ltb 0 i && not (rising (segment c i)))

unfoldable pub first_bad_point : Curve → Option ℕ
first_bad_point c = lowest (bad_point c) 0 (points c)

unfoldable pub accepting : Curve → Outcome Curve
accepting c =
    refuse bad_curve 0 (not (sized c))
    (refuse_at bad_curve (first_bad_point c)
    (answered c))

abbrev pub Accepted : Curve → Type 0
Accepted c = accepting c ≡ answered c

-- PRESSURE. Linear from a segment's first point to its last, rounded down to Pa.
unfoldable pub between : Segment → ℕ → ℕ
between s t = s.low + (s.high - s.low) * (t - s.from) / (s.to - s.from)

-- at t: on the segment that ends at the first point, from the second on, that is not below t; the last segment where none is
unfoldable pub segment_of : Curve → ℕ → ℕ
segment_of c t = smallest (λ i. leb t (temperature c i)) 1 (points c - 1)

unfoldable pub pressure_at : Curve → ℕ → ℕ
pressure_at c t = between (segment c (segment_of c t)) t

-- as it is asked for. The papers leave it free where the curve does not reach: below its first temperature it is that of the first point, above its last
-- that of the last point.
unfoldable pub pressure_asked : ℤ → Curve → Outcome ℕ
pressure_asked t c = and_then (accepting c) (λ k. answered (pressure_at k (clamp (first k) (last k) (kelvin t))))

-- THE ANSWER. The smallest hundredth at which a test holds along a curve.
abbrev pub searched_on : Test → Curve → Outcome ℤ
searched_on test c = searched test (pressure_at c) (first c) (last c)

unfoldable pub on_curve : Test → Curve → Outcome ℤ
on_curve test c = and_then (accepting c) (searched_on test)

-- what follows: an answer is the smallest, and pressure never falls along an accepted curve
pub record Sound (c : Curve) : Type 0 where
  pub least : (test : Test) (z : ℤ) → on_curve test c ≡ answered z → (r : ℕ) × (z ≡ celsius r) × Least (met test (pressure_at c)) (first c) (last c) r
  pub never_falls : Accepted c → (t u : ℕ) → first c ≤ t → t ≤ u → u ≤ last c → pressure_at c t ≤ pressure_at c u
