-- Of a pressure that never falls: what one hundredth that fails and the next that passes say of the search; and that an answer is the least.
use mathlib.Core.Path.{◌≡◌, sym}
use mathlib.Core.Bool.{true, false}
use Prim.Native.Nat.{ℕ, ◌-◌, ◌≤◌, ◌<◌}
use native.Mathlib.Nat.{le_refl}
use native.Mathlib.Omega.{arith}
use borrow.Author.Tests.{not-false}
use lib.IntN.{ℤ}
use Rattle.answer.specs.Outcome.{Outcome, answered}
use Rattle.answer.proofs.Tests.{fails_by}
use Rattle.answer.proofs.Outcomes.{refuse-passed}
use Rattle.curve.specs.Smallest.{Test, met, celsius, smallest, searched, Least}
use Rattle.curve.proofs.Smallest.{Keeps, smallest-least, bracketed}

-- a hotter and higher point meets what a colder and lower one does
abbrev pub Grows : Test → Type 0
Grows test = (t u p q : ℕ) → t ≤ u → p ≤ q → test t p ≡ true → test u q ≡ true

-- the pressure never falls from a to b
abbrev pub Rises : (ℕ → ℕ) → ℕ → ℕ → Type 0
Rises p a b = (t u : ℕ) → a ≤ t → t ≤ u → u ≤ b → p t ≤ p u

module _ (test : Test) (p : ℕ → ℕ) (a b : ℕ) where
  module _ (grows : Grows test) (rising : Rises p a b) where
    pub keeps : Keeps (met test p) a b
    keeps t u l h m = grows t u (p t) (p u) h (rising t u l h m)

    pub unmet : (t u : ℕ) → a ≤ t → t ≤ u → u ≤ b → met test p u ≡ false → met test p t ≡ false
    unmet t u l h m = fails_by _ _ (keeps t u l h m)

    pub answers_at : (r : ℕ) → a < r → r ≤ b → met test p (r - 1) ≡ false → met test p r ≡ true → searched test p a b ≡ answered (celsius r)
    unfolding searched
    answers_at r l h e f =
        let low = unmet a (r - 1) (le_refl a) (omega arith) (omega arith) e in
        let high = keeps r b (omega arith) h (le_refl b) f in
        let at = bracketed (met test p) a b (r - 1) r (record { from = omega arith; apart = omega arith; to = h; fails = λ _. e; passes = f }) keeps (omega arith) in
        rw (low, high, sym at)

  -- an answer is the least: the test holds there, and fails at every hundredth before, from the first temperature on
  pub answers-least : (z : ℤ) → a ≤ b → searched test p a b ≡ answered z → (r : ℕ) × (z ≡ celsius r) × Least (met test p) a b r
  unfolding searched
  answers-least z l e =
      let first = refuse-passed _ _ _ _ z e in
      let last = refuse-passed _ _ _ _ z first.1 in
      (smallest (met test p) a b, value last.1, smallest-least (met test p) a b l first.0 (not-false _ last.0))
    where
      value : {x y : ℤ} → ◌≡◌ {A = Outcome ℤ} (answered x) (answered y) → y ≡ x
      value e = cc
