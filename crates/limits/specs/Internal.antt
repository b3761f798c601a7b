-- What the functions below the promises hold: a mass concentration as one quotient. No public promise cites this file.
use Rattle.std.specs.Prelude.{ℕ, ◌+◌, ◌*◌}
use Rattle.answer.specs.declared.Rounded.{Rounded}
use Rattle.rounding.specs.Round.{round_div}

-- of a molar mass in halves. 5000 is 10 / 2 · 1000: the 10 of 10 M φ / Vm, M in halves, 22.414 in thousandths; the hundredths of φ and of the answer cancel.
unfoldable pub rate : ℕ → ℕ → ℕ → Rounded ℕ
rate mass t limit = round_div (mass * limit * 5000 * 27315) (22414 * (t + 27315))
