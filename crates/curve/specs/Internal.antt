-- What the functions below the promises ask and say. No public promise cites this file.
use Rattle.std.specs.Prelude.{◌≡◌, Bool, true, ℕ, ◌≤◌, ◌<◌}
use Rattle.curve.specs.declared.Curve as rust
use Rattle.curve.specs.declared.Segment.{Segment}
use Rattle.curve.specs.Curve.{Curve, curve}

-- the two lists of a curve
abbrev pub curve_of : rust.Curve → Curve
curve_of c = curve c.temperatures.now c.pressures.now

-- a segment of an accepted curve
pub record Sloped (s : Segment) : Type 0 where
  pub warmer : s.from < s.to
  pub higher : s.low ≤ s.high
  pub hot : s.to ≤ 87300
  pub most : s.high ≤ 250000

-- what halving asks of a test: above low it keeps passing once it passes, and it passes at high
abbrev pub Lasts : (ℕ → Bool) → ℕ → ℕ → Type 0
Lasts f low high = ((n m : ℕ) → low < n → n ≤ m → m ≤ high → f n ≡ true → f m ≡ true) × (f high ≡ true)

-- between the ends, what a closure says is the test
abbrev pub Tells : (ℕ → Bool → Type 0) → (ℕ → Bool) → ℕ → ℕ → Type 0
Tells said f low high = (n : ℕ) (b : Bool) → low < n → n < high → said n b → b ≡ f n
