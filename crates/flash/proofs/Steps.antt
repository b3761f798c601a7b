-- What each step of a flash point tells of the next: a class's number is inside; a boiling point is refused, or admitted as it is; the tests of the bonds.
use mathlib.Core.Path.{◌≡◌, refl, sym, ap, ◌∙◌}
use mathlib.Core.Bool.{false}
use Prim.Native.Nat.{ℕ}
use lib.IntN.{ℤ, pos}
use Rattle.std.specs.Prelude.{None}
use Rattle.answer.specs.declared.Refusal.{Refusal}
use Rattle.answer.specs.Numbers.{boiling_point_outside}
use Rattle.answer.specs.Outcome.{Outcome, refused, answered, refuse, and_then}
use Rattle.answer.specs.Outside.{outside}
use Rattle.answer.specs.declared.PointMethod.{PointMethod}
use Rattle.answer.specs.Methods.{method_number, method_named}
use Rattle.answer.proofs.Methods.{method-known, method-number}
use Rattle.answer.proofs.Outcomes.{refuse-then, refuse-passed}
use Rattle.flash.specs.declared.Class.{Class}
use Rattle.flash.specs.declared.Class.TheVariants.{Alkanes, Alcohols, Alkylanilines, CarboxylicAcids, Alkylphenols, AromaticHydrocarbons, Aldehydes, Bromoalkanes, Ketones, Chloroalkanes}
use Rattle.elements.specs.declared.Atoms.{Atoms}
use Rattle.bonds.specs.declared.Bonds.{Bonds}
use Rattle.bonds.specs.Kinds.{above_at, hydrogen_unbalanced}
use Rattle.flash.specs.Points.{boiling_outside, no_coefficient_at, terms, rounded_sum, by_bonds}
use Rattle.flash.specs.Internal.{class_number}

pub class-inside : (k : Class) → outside (pos 1) (pos 10) (pos (class_number k)) ≡ false
unfolding outside
class-inside Alkanes = refl
class-inside Alcohols = refl
class-inside Alkylanilines = refl
class-inside CarboxylicAcids = refl
class-inside Alkylphenols = refl
class-inside AromaticHydrocarbons = refl
class-inside Aldehydes = refl
class-inside Bromoalkanes = refl
class-inside Ketones = refl
class-inside Chloroalkanes = refl

module _ (t : ℤ) where
  abbrev pub boiling : {A : Type 0} → Outcome A → Outcome A
  boiling next = refuse boiling_point_outside 0 (boiling_outside t) next

  pub boiling-refused : {A : Type 0} (r : Refusal) (next : Outcome A) → refused r ≡ boiling (answered t) → refused r ≡ boiling next
  boiling-refused r next e =
      ap (λ (o : Outcome ℤ). and_then o (λ z. next)) e ∙ refuse-then boiling_point_outside 0 (boiling_outside t) (answered t) (λ z. next)

  pub boiling-admitted : (x : ℤ) → answered x ≡ boiling (answered t) → (boiling_outside t ≡ false) × (x ≡ t)
  boiling-admitted x e = let p = refuse-passed boiling_point_outside 0 (boiling_outside t) (answered t) x (sym e) in (p.0, cc p.1)

-- what is left of formula (33) past the tests before the boiling point's
pub to-boiling : (n : ℕ) (p : PointMethod) (a : Atoms) (b : Bonds) (t : ℤ) → answered p ≡ method_named n → above_at a b ≡ None → false ≡ hydrogen_unbalanced a b →
    no_coefficient_at (method_number p) b ≡ None → by_bonds n a b t ≡ boiling t (answered (rounded_sum (terms (method_number p) b t)))
unfolding by_bonds
to-boiling n p a b t e f g h = rw (method-known n p e, f, ← g, method-number n p e, h)
