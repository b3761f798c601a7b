-- What is known of the bonds where no place has a count above 200.
use mathlib.Core.Path.{◌≡◌, sym}
use mathlib.Core.Bool.{Bool}
use Prim.Native.Nat.{ℕ, ◌+◌, ◌-◌, ◌≤◌, ◌<◌}
use native.Mathlib.Omega.{arith}
use lib.Dec.{ltb}
use lib.ListN.{get_or}
use borrow.Author.Tests.{ltb-false}
use Rattle.std.specs.Prelude.{Option, Some, None}
use Rattle.std.specs.Option.{option_or}
use Rattle.std.proofs.lemmas.Option.{none-some}
use Rattle.answer.specs.Lowest.{IsLowest}
use Rattle.answer.proofs.Lowest.{is-lowest}
use Rattle.elements.specs.declared.Atoms.{Atoms}
use Rattle.elements.specs.Elements.{each, first_above}
use Rattle.bonds.specs.declared.Bonds.{Bonds}
use Rattle.bonds.specs.Kinds.{bonds_at, above_at}

module _ (b : Bonds) where
  abbrev test : ℕ → Bool
  test p = ltb 200 (bonds_at b (p - 10))

  neither : (o u : Option ℕ) → option_or o u ≡ None → u ≡ None
  neither None u e = e
  neither (Some p) u e = absurd (none-some p (sym e))

  at-most : (o : Option ℕ) → o ≡ None → IsLowest test 11 22 o → (i : ℕ) → i < 22 → get_or b.count i 0 ≤ 200
  at-most (Some p) e h i l = absurd (none-some p (sym e))
  at-most None e h i l =
      let index : 11 + i - 10 - 1 ≡ i = omega arith in
      rw index at (ltb-false 200 (bonds_at b (11 + i - 10)) (h (11 + i) (omega arith) (omega arith)))

  pub few : (a : Atoms) → above_at a b ≡ None → (i : ℕ) → i < 22 → get_or b.count i 0 ≤ 200
  unfolding above_at
  few a e = at-most _ (neither (first_above (each 200) a) _ e) (is-lowest test 11 22)
