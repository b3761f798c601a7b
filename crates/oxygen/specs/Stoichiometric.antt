-- The stoichiometric fraction, document 01's stoichiometric share (source document 000, 1.8).
use Rattle.std.specs.Prelude.{ℕ}
use Rattle.answer.specs.Outcome.{Outcome, answered, and_then}
use Rattle.answer.specs.declared.Rounded.{Rounded}
use Rattle.rounding.specs.Fraction.{Fraction, ◌over◌, whole, ◌⊞◌, ◌⊠◌, ◌⊘◌, rounded}
use Rattle.elements.specs.declared.Atoms.{Atoms}
use Rattle.oxygen.specs.Admission.{oxygen_coefficient}

-- 100 / (4.84 β + 1) %, of β in quarters
unfoldable pub stoichiometric : ℕ → Fraction
stoichiometric q = whole 100 ⊘ ((484 over 100) ⊠ (q over 4) ⊞ whole 1)

-- in hundredths of a percent
unfoldable pub stoichiometric_fraction : Atoms → Outcome (Rounded ℕ)
stoichiometric_fraction a = and_then (oxygen_coefficient a) (λ q. answered (rounded (whole 100 ⊠ stoichiometric q)))
