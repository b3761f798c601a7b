-- Mass concentration of one fuel at its limits (document 01, "Mass concentration of one fuel").
use Rattle.std.specs.Prelude.{ℕ, ◌+◌, ℤ, nat_abs, Some}
use Rattle.answer.specs.Outcome.{Outcome, answered, and_then}
use Rattle.answer.specs.declared.Rounded.{Rounded}
use Rattle.rounding.specs.Fraction.{Fraction, ◌over◌, whole, ◌⊠◌, ◌⊘◌, rounded}
use Rattle.elements.specs.declared.Atoms.{Atoms}
use Rattle.blend.specs.Fuel.{molar_mass}
use Rattle.blend.specs.declared.LimitPair.{LimitPair}
use Rattle.limits.specs.FuelLimits.{fuel_limits}

-- Vm = 22.414 (t + 273.15) / 273.15 m³/kmol, by change request g); t and 273.15 in hundredths of a degree
unfoldable pub molar_volume : ℕ → Fraction
molar_volume t = (22414 over 1000) ⊠ ((t + 27315) over 27315)

-- 10 M φ / Vm g/m³, φ the limit as answered, in hundredths of a percent; in 0.01 g/m³, rounded once: the mark is that of this rounding alone
unfoldable pub concentration : Atoms → ℕ → ℕ → Rounded ℕ
concentration a t limit = rounded (whole 100 ⊠ (whole 10 ⊠ molar_mass a ⊠ (limit over 100) ⊘ molar_volume t))

-- of both limits at t
unfoldable pub mass_concentration : ℤ → Atoms → Outcome (LimitPair (Rounded ℕ))
mass_concentration t a =
    and_then (fuel_limits (Some t) a) (λ l.
    answered (record { lower = concentration a (nat_abs t) l.lower.value; upper = concentration a (nat_abs t) l.upper.value }))
