-- What laws say of outcomes. No public promise cites this file.
use Rattle.std.specs.Prelude.{◌<◌}
use Rattle.answer.specs.Outcome.{Outcome, refused, answered}

-- a refusal has a number above 0
abbrev pub Numbered : {A : Type 0} → Outcome A → Type 0
Numbered (refused r) = 0 < r.number
Numbered (answered a) = Unit {0}
