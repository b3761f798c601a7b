-- What is known of a fuel that is admitted to the gas limits.
use mathlib.Core.Path.{◌≡◌, sym}
use mathlib.Core.Logic.{⊎_elim}
use mathlib.Core.List.Memᴰ
use mathlib.Core.List.{[], ◌∷◌, ◌++◌, Memᴰ}
use Prim.Native.Nat.{ℕ, ◌≤◌}
use native.Mathlib.Omega.{arith}
use Rattle.std.proofs.lemmas.Bool.Decides.{nat_tests}
use Rattle.answer.specs.Outcome.{answered}
use Rattle.elements.specs.declared.Atoms.{Atoms}
use Rattle.elements.specs.Internal.{AtMost200}
use Rattle.oxygen.specs.declared.Purpose.TheVariants.{GasLimits}
use Rattle.oxygen.specs.Admission.{admission}
use Rattle.oxygen.proofs.Admissions.{admitted-facts, limits-most}
use Rattle.blend.specs.Fuel.{Fuel, counts, admitting, quarters}
use Rattle.blend.specs.Model.{Entry, entry, Entries}

-- β lies from 1/2 to 250
pub record AdmittedFuel (a : Atoms) : Type 0 where
  pub few : AtMost200 a
  pub least : 2 ≤ quarters a
  pub most : quarters a ≤ 1000

pub admission-facts : (a : Atoms) (q : ℕ) → admission GasLimits a ≡ answered q → (q ≡ quarters a) × AdmittedFuel a
admission-facts a q e =
    let h = admitted-facts GasLimits a q e in
    (h.is, record { few = h.few; least = omega (arith, h.is, h.least); most = omega (arith, h.is, limits-most a q e) })

pub quarters_of : (a : Atoms) (q : ℕ) → admission GasLimits a ≡ answered q → quarters a ≡ q
quarters_of a q e = sym (admission-facts a q e).0

-- the atoms of an admitted fuel are one by themselves
pub admitted-atoms : (f : Fuel) (a : Atoms) → admitting f ≡ answered a → admitting (counts a) ≡ answered a
unfolding admitting
admitted-atoms f a h = grind (arith, nat_tests)

admitted-by : (f : Fuel) (a : Atoms) → admitting f ≡ answered a → admission GasLimits a ≡ answered (quarters a)
unfolding admitting
admitted-by f a h = grind (arith, nat_tests, quarters_of)

pub admitted-fuel : (f : Fuel) (a : Atoms) → admitting f ≡ answered a → AdmittedFuel a
admitted-fuel f a h = (admission-facts a (quarters a) (admitted-by f a h)).1

-- ENTRIES, each of an admitted fuel
abbrev pub AllAdmitted : Entries → Type 0
AllAdmitted es = (e : Entry) → Memᴰ e es → admitting (counts e.fuel) ≡ answered e.fuel

pub none-admitted : AllAdmitted []
none-admitted e m = absurd (Memᴰ.not-nil m)

pub one-admitted : (f : Fuel) (a : Atoms) (v : ℕ) → admitting f ≡ answered a → AllAdmitted (entry a v ∷ [])
one-admitted f a v h e m = rw (Memᴰ.eq_of_singleton m) (admitted-atoms f a h)

pub append-admitted : (es fs : Entries) → AllAdmitted es → AllAdmitted fs → AllAdmitted (es ++ fs)
append-admitted es fs h k e m = ⊎_elim (h e) (k e) (Memᴰ.append_cases es m)
