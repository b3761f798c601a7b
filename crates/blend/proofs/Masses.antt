-- The molar mass of a fuel as the sum of its elements' masses, in halves.
use Prim.Native.Nat.{◌≤◌}
use native.Mathlib.Omega.{arith}
use Rattle.rounding.proofs.Fractions.{Is, is-over, is_same}
use Rattle.elements.specs.declared.Element.TheVariants.{Carbon, Hydrogen, Oxygen, Nitrogen, Chlorine}
use Rattle.elements.specs.declared.Atoms.{Atoms}
use Rattle.elements.specs.Elements.{sum_below, weighted_sum}
use Rattle.elements.specs.Internal.{AtMost200}
use Rattle.elements.proofs.Weights.{weighted-few}
use Rattle.blend.specs.Fuel.{molar_mass, masses}

module _ (a : Atoms) (few : AtMost200 a) where
  pub mass-is : Is (molar_mass a) (weighted_sum masses a) 2
  unfolding molar_mass sum_below
  mass-is = rw (weighted-few masses a few) (is_same (is-over _ 10 (omega arith)) (omega arith) (omega arith))

  pub mass-most : weighted_sum masses a ≤ 31400
  unfolding sum_below
  mass-most =
      rw (weighted-few masses a few)
      (omega (arith, few.most Carbon, few.most Hydrogen, few.most Oxygen, few.most Nitrogen, few.most Chlorine))
