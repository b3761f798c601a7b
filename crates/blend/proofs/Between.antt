-- Each figure of an answer lies between those that two of the fuels have alone.
use mathlib.Core.Path.{◌≡◌, refl, ◌∙◌}
use mathlib.Core.Bool.{false}
use mathlib.Core.List.{Memᴰ}
use native.Mathlib.Omega.{arith}
use Rattle.std.proofs.lemmas.Bool.Decides.{nat_tests}
use Prim.Native.Nat.{ℕ, ◌≤◌, ◌<◌}
use lib.IntN.{nat_abs}
use Rattle.answer.specs.Outcome.{answered}
use Rattle.rounding.specs.Fraction.{Fraction, whole, ◌⊑◌}
use Rattle.rounding.proofs.Fractions.{is_whole, times-at-most, rounded-mono}
use Rattle.blend.specs.Limit.{Side, lower, upper}
use Rattle.blend.specs.Temperature.{meant, gas_outside}
use Rattle.blend.specs.declared.LimitPair.{LimitPair}
use Rattle.blend.specs.Blend.{Question, limits, Told, without_marks}
use Rattle.blend.specs.Model.{Entry, Entries, sum, total, limit_at, rounded_limit, limit_figure, model_tells, model_asks_marked, model_asks}
use Rattle.blend.specs.Claims.{alone, AnswersAlone, Between, BetweenAlone}
use Rattle.blend.proofs.Admitted.{AllAdmitted}
use Rattle.blend.proofs.Bracket.{Bracket, bracketed}

-- a question that all entries are told an answer to, in which a figure rises with a quantity
record Shows (q : Question) (quantity : Entries → Fraction) (figure_in : Told q → ℕ) (tell : Entries → Told q) : Type 0 where
  tells : (es : Entries) → without_marks q (model_tells es q) ≡ answered (tell es)
  rises : (es fs : Entries) → quantity es ⊑ quantity fs → figure_in (tell es) ≤ figure_in (tell fs)

-- ANY QUESTION
alone-asks : (e : Entry) (q : Question) → model_asks (alone e) q ≡ without_marks q (model_tells (alone e) q)
unfolding model_asks_marked sum
alone-asks e q = refl

module _ {q : Question} {quantity : Entries → Fraction} {figure_in : Told q → ℕ} (tell : Entries → Told q) (shows : Shows q quantity figure_in tell)
    (es : Entries) (known : AllAdmitted es) (b : Bracket quantity es) where
  answers-alone : (e : Entry) → Memᴰ e es → 0 < e.parts → AnswersAlone es q e (tell (alone e))
  answers-alone e m v = record { taken = m; present = v; fuel_admitted = known e m; answers = alone-asks e q ∙ shows.tells (alone e) }

  shown-between : Between q quantity figure_in es (tell es)
  shown-between =
      record {
        low = b.low;
        low_told = tell (alone b.low);
        low_alone = answers-alone b.low b.low_taken b.low_present;
        above_exact = b.above;
        above = shows.rises (alone b.low) es b.above;
        high = b.high;
        high_told = tell (alone b.high);
        high_alone = answers-alone b.high b.high_taken b.high_present;
        below_exact = b.below;
        below = shows.rises es (alone b.high) b.below;
      }

-- LIMITS
limit-rises : (s : Side) (t : ℕ) (es fs : Entries) → limit_at s es t ⊑ limit_at s fs t → limit_figure s es t ≤ limit_figure s fs t
unfolding rounded_limit
limit-rises s t es fs l = rounded-mono (times-at-most (whole 100) (is_whole 100).den_pos l)

-- the figures of both
abbrev limit_figures : Entries → ℕ → LimitPair ℕ
limit_figures es t = record { lower = limit_figure lower es t; upper = limit_figure upper es t }

-- what a question is answered with over entries whose total is above zero
tells-between : (es : Entries) → AllAdmitted es → 0 < total es → (q : Question) (x : Told q) → without_marks q (model_tells es q) ≡ answered x → BetweenAlone q es x
unfolding model_tells
tells-between es known v (limits t) l h =
    let k = nat_abs (meant t) in
    let passed : gas_outside (meant t) ≡ false = grind (arith, nat_tests) in
    let same : limit_figures es k ≡ l = grind (arith, nat_tests) in
    rw (← same) (
      shown-between (λ fs. limit_figures fs k) (record { tells = λ fs. rw passed; rises = limit-rises lower k }) es known (bracketed lower k es v),
      shown-between (λ fs. limit_figures fs k) (record { tells = λ fs. rw passed; rises = limit-rises upper k }) es known (bracketed upper k es v),
    )

pub asks-between : (es : Entries) → AllAdmitted es → (q : Question) (x : Told q) → model_asks es q ≡ answered x → BetweenAlone q es x
unfolding model_asks_marked
asks-between es known q x h =
    let some : 0 < total es = grind (arith, nat_tests) in
    let told : without_marks q (model_tells es q) ≡ answered x = grind (arith, nat_tests) in
    tells-between es known some q x told
