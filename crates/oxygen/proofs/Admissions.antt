-- Which element is at fault, and what is known of an admitted fuel.
use mathlib.Core.Path.{◌≡◌, sym, ap, ◌∙◌}
use mathlib.Core.Bool.{Bool, true, false, cond}
use Rattle.std.specs.Prelude.{Some, None}
use Prim.Native.Nat.{ℕ, ◌+◌, ◌-◌, ◌≤◌}
use native.Mathlib.Omega.{arith}
use borrow.Author.Tests.{ne_eqb}
use lib.Dec.{eqb}
use lib.IntN.{nat_abs}
use Rattle.answer.specs.Numbers.{count_too_large, element_not_admitted, oxygen_too_low}
use Rattle.answer.specs.Outcome.{answered, value_of}
use Rattle.answer.proofs.Outcomes.{refuse-passed, refuse_at-passed}
use Rattle.elements.specs.declared.Element.{Element}
use Rattle.elements.specs.declared.Element.TheVariants.{Carbon, Hydrogen, Sulfur, Phosphorus}
use Rattle.elements.specs.declared.Atoms.{Atoms}
use Rattle.elements.specs.Elements.{number, count, first_above}
use Rattle.elements.specs.Internal.{AtMost200}
use Rattle.elements.proofs.Elements.{number-from, number-to}
use Rattle.elements.proofs.Above.{none_above, above-none}
use Rattle.oxygen.specs.declared.Purpose.{Purpose}
use Rattle.oxygen.specs.declared.Purpose.TheVariants.{GasLimits}
use Rattle.oxygen.specs.Beta.{beta}
use Rattle.oxygen.specs.Admission.{most, not_admitted, admission}
use Rattle.oxygen.specs.Internal.{gain, loss}
use Rattle.oxygen.proofs.Betas.{gain-most, beta-high, beta-back}

-- with no element at fault no count is above its bound
module _ (p : Purpose) (a : Atoms) where
  pub no_fault : (count a Carbon ≡ 0 → ⊥) → first_above (most p) a ≡ None → not_admitted p a ≡ None
  unfolding not_admitted
  no_fault c f = rw (ne_eqb (count a Carbon) 0 c) f

  pub within-most : not_admitted p a ≡ None → (x : Element) → count a x ≤ count (most p) x
  unfolding not_admitted
  within-most n x = go (eqb (count a Carbon) 0) n
    where
      go : (b : Bool) → cond b (Some 1) (first_above (most p) a) ≡ None → count a x ≤ count (most p) x
      go true e = cc
      go false e = none_above (most p) a e (number x) (number-from x) (number-to x)

-- a fuel that is admitted, with β of q quarters
pub record Admitted (p : Purpose) (a : Atoms) (q : ℕ) : Type 0 where
  pub few : AtMost200 a
  pub no_fault : not_admitted p a ≡ None
  pub is : q ≡ nat_abs (beta a)
  pub terms : q ≡ gain a - loss a
  pub least : 2 ≤ q
  pub most : q ≤ 3800

pub admitted-facts : (p : Purpose) (a : Atoms) (q : ℕ) → admission p a ≡ answered q → Admitted p a q
unfolding admission
admitted-facts p a q e =
    let x = refuse_at-passed count_too_large _ _ q e in
    let y = refuse_at-passed element_not_admitted _ _ q x.1 in
    let z = refuse-passed oxygen_too_low 0 _ _ q y.1 in
    let few : AtMost200 a = record { most = above-none 200 a x.0 } in
    let high : loss a + 2 ≤ gain a = beta-back a z.0 in
    let is : q ≡ nat_abs (beta a) = ap (value_of 0) (sym z.1) in
    let terms : q ≡ gain a - loss a = is ∙ (beta-high a high).1 in
    record { few = few; no_fault = y.0; is = is; terms = terms; least = omega arith; most = omega (arith, gain-most a few) }

-- without S and P β is at most 250
pub limits-most : (a : Atoms) (q : ℕ) → admission GasLimits a ≡ answered q → q ≤ 1000
unfolding gain
limits-most a q e =
    let h = admitted-facts GasLimits a q e in
    let most = within-most GasLimits a h.no_fault in
    omega (arith, h.terms, most Carbon, most Hydrogen, most Sulfur, most Phosphorus)
