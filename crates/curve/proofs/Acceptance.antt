-- Accepted curves: how the check's number tells them, and what is known of their points and segments.
use mathlib.Core.Path.{◌≡◌, refl, sym}
use mathlib.Core.Bool.{Bool, true, false, not, ◌&&◌}
use Rattle.std.specs.Prelude.{Option, Some, None, MatchOption}
use Prim.Native.Nat.{ℕ, suc, ◌-◌, ◌≤◌, ◌<◌}
use native.Mathlib.Nat.{le_of_lt}
use native.Mathlib.Omega.{arith}
use borrow.Author.Tests.{lt-ltb, eqb-true, leb-true, ltb-true, not-false}
use lib.Dec.{leb, ltb, eqb}
use lib.IntN.{ℤ, pos, negsuc, neg_ℤ, nat_abs}
use lib.ListN.{length}
use Rattle.answer.specs.Numbers.{bad_curve}
use Rattle.answer.specs.Lowest.{lowest, IsLowest}
use Rattle.answer.specs.Outcome.{Outcome, refused, answered, refusal, refuse, refuse_at}
use Rattle.answer.specs.Outside.{outside}
use Rattle.answer.proofs.Lowest.{is-lowest, only-lowest}
use Rattle.answer.proofs.Outcomes.{refuse-passed, refuse_at-passed}
use Rattle.answer.proofs.Outside.{inside, inside-size}
use Rattle.answer.proofs.Tests.{both, neither}
use Rattle.curve.specs.declared.Segment.{Segment}
use Rattle.curve.specs.Smallest.{kelvin}
use Rattle.curve.specs.Curve.{Curve, points, degrees, temperature, pressure, first, last, segment, sizes, sized, out_of_range, rising, bad_point, first_bad_point, accepting, Accepted}
use Rattle.curve.specs.Internal.{Sloped}
use Rattle.curve.proofs.Rising.{rises}

-- a curve is refused with number 11, or is accepted
pub by-acceptance : (k : Curve) (P : Outcome Curve → Type 0) → ((p : ℕ) → P (refused (refusal bad_curve p))) → P (answered k) → P (accepting k)
unfolding accepting
by-acceptance k P bad good = go (sized k) (first_bad_point k)
  where
    go : (b : Bool) (o : Option ℕ) → P (refuse bad_curve 0 (not b) (refuse_at bad_curve o (answered k)))
    go false o = bad 0
    go true (Some p) = bad p
    go true None = good

pub sized-facts : (n m : ℕ) → sizes n m ≡ true → (2 ≤ n) × (n ≤ 4096) × (n ≡ m)
unfolding sizes
sized-facts n m e =
    let h = both (eqb n m) (leb 2 n && leb n 4096) e in
    let g = both (leb 2 n) (leb n 4096) h.1 in
    (leb-true 2 n g.0, leb-true n 4096 g.1, eqb-true n m h.0)

pub sized_two : (n m : ℕ) → true ≡ sizes n m → 2 ≤ n
sized_two n m e = (sized-facts n m (sym e)).0

pub sized_paired : (n m : ℕ) → true ≡ sizes n m → n ≡ m
sized_paired n m e = (sized-facts n m (sym e)).2

pub accepts : (k : Curve) → true ≡ sized k → None ≡ first_bad_point k → Accepted k
unfolding accepting
accepts k e f = rw (sym e, sym f) refl

-- the number that `find` finds in a range from 0 is the lowest
pub lowest-found : (test : ℕ → Bool) (n : ℕ) (r : Option ℕ) → MatchOption r ((i : ℕ) → 0 ≤ i → i < n → test i ≡ false) (λ i. (0 ≤ i) × (i < n) × (test i ≡ true) × ((j : ℕ) → 0 ≤ j → j < i → test j ≡ false)) → r ≡ lowest test 0 n
lowest-found test n (Some r) h = sym (only-lowest test 0 n (Some r) (record { from = h.0; to = omega arith; passes = h.2; before = h.3 }))
lowest-found test n None h = sym (only-lowest test 0 n None (λ j p q. h j p (omega arith)))

kelvin-most : (z : ℤ) → nat_abs z ≤ 60000 → kelvin z ≤ 87300
kelvin-most (pos n) h = omega arith
kelvin-most (negsuc n) h = omega arith

in-range : (z : ℤ) (p : ℕ) → out_of_range z p ≡ false → (kelvin z ≤ 87300) × (p ≤ 250000)
unfolding out_of_range
in-range z p e =
    let h = neither (outside (neg_ℤ (pos 20000)) (pos 60000) z) (outside (pos 1) (pos 250000) (pos p)) e in
    (kelvin-most z (inside-size 20000 60000 z (omega arith) h.0), (inside 1 250000 p h.1).1)

goes-up : (s : Segment) → rising s ≡ true → (s.from < s.to) × (s.low < s.high)
unfolding rising
goes-up s e = let h = both (ltb s.from s.to) (ltb s.low s.high) e in (ltb-true _ _ h.0, ltb-true _ _ h.1)

module _ (k : Curve) (ok : Accepted k) where
  passed : (sized k ≡ true) × (first_bad_point k ≡ None)
  unfolding accepting
  passed =
      let size = refuse-passed bad_curve 0 (not (sized k)) (refuse_at bad_curve (first_bad_point k) (answered k)) k ok in
      (not-false _ size.0, (refuse_at-passed bad_curve (first_bad_point k) (answered k) k size.1).0)

  pub many : (2 ≤ points k) × (points k ≤ 4096) × (points k ≡ length k.pressures)
  many = sized-facts _ _ passed.0

  good : (i : ℕ) → i < points k → bad_point k i ≡ false
  unfolding first_bad_point
  good i h = go _ passed.1 (is-lowest (bad_point k) 0 (points k))
    where
      go : (o : Option ℕ) → o ≡ None → IsLowest (bad_point k) 0 (points k) o → bad_point k i ≡ false
      go None e l = l i (omega arith) (omega arith)
      go (Some r) e l = absurd (let z : ◌≡◌ {A = ℕ} 0 1 = cc in omega arith)

  pub range : (i : ℕ) → i < points k → (temperature k i ≤ 87300) × (pressure k i ≤ 250000)
  unfolding bad_point
  range i h = in-range (degrees k i) (pressure k i) (neither _ _ (good i h)).0

  above : (i : ℕ) → 0 < i → i < points k → (temperature k (i - 1) < temperature k i) × (pressure k (i - 1) < pressure k i)
  unfolding bad_point
  above i l h = goes-up (segment k i) (not-false _ (rw (lt-ltb 0 i l) at (neither (out_of_range (degrees k i) (pressure k i)) (ltb 0 i && not (rising (segment k i))) (good i h)).1))

  step : (i : ℕ) → suc i < points k → (temperature k i < temperature k (suc i)) × (pressure k i < pressure k (suc i))
  step i h = let before : suc i - 1 ≡ i = omega arith in rw before at (above (suc i) (omega arith) h)

  pub warm : (i j : ℕ) → i ≤ j → j < points k → temperature k i ≤ temperature k j
  warm = rises (temperature k) (points k) (λ i h. (step i h).0)

  pub high : (i j : ℕ) → i ≤ j → j < points k → pressure k i ≤ pressure k j
  high = rises (pressure k) (points k) (λ i h. (step i h).1)

  pub spans : first k ≤ last k
  spans = warm 0 (points k - 1) (omega arith) (omega (arith, many))

  pub sloped : (i : ℕ) → 1 ≤ i → i < points k → Sloped (segment k i)
  sloped i l h = record { warmer = (above i l h).0; higher = le_of_lt (above i l h).1; hot = (range i h).0; most = (range i h).1 }
