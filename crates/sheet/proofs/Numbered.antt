-- A refusal of a sheet's records has a number above 0.
use mathlib.Core.List.{List, [], ◌∷◌}
use Prim.Native.Nat.{ℕ, suc}
use Rattle.answer.specs.Outcome.{Outcome, refused, answered, and_then}
use Rattle.answer.specs.Internal.{Numbered}
use Rattle.blend.specs.declared.Blend.{Blend}
use Rattle.blend.specs.Fuel.{text}
use Rattle.blend.specs.Blend.{adding}
use Rattle.blend.proofs.Numbered.{adding-numbered}
use Rattle.sheet.specs.Mixture.{record_formula, record_parts, at_record, adding_all}

pub all-numbered : (b : Blend) (k : ℕ) (ls : List (List ℕ)) → Numbered (adding_all b k ls)
unfolding adding_all
all-numbered b k [] = tt
all-numbered b k (l ∷ ls) =
    go (adding b (text (record_formula l)) (record_parts l)) (adding-numbered b (text (record_formula l)) (record_parts l)) (λ c. all-numbered c (suc k) ls)
  where
    go : (o : Outcome Blend) → Numbered o → ((c : Blend) → Numbered (adding_all c (suc k) ls)) → Numbered (and_then (at_record k o) (λ c. adding_all c (suc k) ls))
    go (refused r) h later = h
    go (answered c) h later = later c
