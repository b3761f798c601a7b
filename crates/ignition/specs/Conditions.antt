-- Both questions as a condition in whole numbers, level ≤ (slope · (t + 273) + base) · p with t in hundredths of a degree.
use Rattle.std.specs.Prelude.{ℕ, ◌*◌}
use Rattle.answer.specs.Outcome.{Outcome, answered, and_then}
use Rattle.elements.specs.declared.Atoms.{Atoms}
use Rattle.curve.specs.declared.Condition.{Condition}
use Rattle.curve.specs.Smallest.{Test}
use Rattle.curve.specs.Condition.{test_of}
use Rattle.ignition.specs.Questions.{threshold, with_limit, with_oxygen}

-- 1013 φ ≤ 100 p, φ in hundredths of a percent
abbrev pub by_pressure : ℕ → Condition
by_pressure limit = record { slope = 0; base = 100; level = 1013 * limit }

abbrev pub limit_condition : Atoms → Outcome Condition
limit_condition a = with_limit a by_pressure

-- 4,000,000,000 times the threshold ≤ D0·β·t·p, β in quarters
abbrev pub by_product : ℕ → ℕ → ℕ → Condition
by_product n diffusion q = record { slope = diffusion * q; base = 0; level = n * 4000000000 }

abbrev pub flash_condition : ℕ → Atoms → ℕ → Outcome Condition
flash_condition m a diffusion = with_oxygen m a diffusion (λ k. by_product (threshold k) diffusion)

-- the test that it is
abbrev pub tested_by : Outcome Condition → Outcome Test
tested_by o = and_then o (λ c. answered (test_of c))
