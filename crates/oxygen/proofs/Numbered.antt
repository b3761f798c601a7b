-- A refusal of a fuel has a number above 0.
use native.Mathlib.Omega.{arith}
use Prim.Native.Nat.{ℕ}
use lib.IntN.{pos, nat_abs}
use Rattle.std.specs.Int.Signed.{lt_z}
use Rattle.answer.specs.Numbers.{count_too_large, element_not_admitted, oxygen_too_low}
use Rattle.answer.specs.Outcome.{Outcome, answered, refuse, refuse_at}
use Rattle.answer.specs.Internal.{Numbered}
use Rattle.answer.proofs.Outcomes.{refuse-numbered, refuse_at-numbered}
use Rattle.elements.specs.declared.Atoms.{Atoms}
use Rattle.elements.specs.Elements.{each, first_above}
use Rattle.oxygen.specs.declared.Purpose.{Purpose}
use Rattle.oxygen.specs.Beta.{beta}
use Rattle.oxygen.specs.Admission.{not_admitted, admission}

pub admission-numbered : (p : Purpose) (a : Atoms) → Numbered (admission p a)
unfolding admission
admission-numbered p a =
    let low : Outcome ℕ = refuse oxygen_too_low 0 (lt_z (beta a) (pos 2)) (answered (nat_abs (beta a))) in
    refuse_at-numbered count_too_large (first_above (each 200) a) (refuse_at element_not_admitted (not_admitted p a) low) (omega arith)
    (refuse_at-numbered element_not_admitted (not_admitted p a) low (omega arith)
    (refuse-numbered oxygen_too_low 0 (lt_z (beta a) (pos 2)) (answered (nat_abs (beta a))) (omega arith) tt))
