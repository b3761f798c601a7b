-- Gas temperatures, and the correction of the limits for them (document 01, "At t °C the lower limit is multiplied by ..").
use Rattle.std.specs.Prelude.{Bool, ℕ, ◌+◌, ◌*◌, ◌-◌, ℤ, pos, nat_abs, Option}
use Rattle.std.specs.Option.{unwrap_or}
use Rattle.answer.specs.Outside.{outside}
use Rattle.rounding.specs.Fraction.{Fraction, ◌over◌, whole, ◌≃◌}
use Rattle.blend.specs.Limit.{Side, lower, upper, fit_temperature}

-- 20 °C, in hundredths: the temperature that is meant where none is named (change request i)
abbrev pub usual_temperature : ℤ
usual_temperature = pos 2000

abbrev pub meant : Option ℤ → ℤ
meant t = unwrap_or t usual_temperature

-- outside 0.00 to 200.00
abbrev pub gas_outside : ℤ → Bool
gas_outside t = outside (pos 0) (pos 20000) t

-- (1277 − t) / 1252 and (t + 787) / 812, t in hundredths of a degree
unfoldable pub correction : Side → ℕ → Fraction
correction lower t = (1277 * 100 - t) over (1252 * 100)
correction upper t = (t + 787 * 100) over (812 * 100)

-- it is exactly 1 at the temperature of the fit
abbrev pub OneAtFit : Type 0
OneAtFit = (s : Side) → correction s (nat_abs fit_temperature) ≃ whole 1
