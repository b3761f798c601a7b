-- The library's search in the counts is the search for the lowest place, from 11 on.
use Rattle.std.proofs.Common.{rules, ◌≡◌, ap, ◌∙◌, ℕ, ◌+◌, ◌-◌, List, length, get_or, Bool, ltb, Option, option_map, arith}
use Rattle.std.specs.List.{position}
use Rattle.std.proofs.lemmas.Iterator.{YieldsList-from_slice}
use Rattle.std.proofs.lemmas.Iterator.Search.{position_from_yields_List}
use borrow.Author.Tests.{tests}
use Rattle.answer.specs.Lowest.{lowest}
use Rattle.answer.proofs.Lowest.{position-lowest}
use Rattle.bonds.proofs.Bonds.first_above.Goals as goal

abbrev test : ℕ → List ℕ → ℕ → Bool
test bound xs p = ltb bound (get_or xs (p - 10 - 1) 0)

found : (bound : ℕ) (xs : List ℕ) → length xs ≡ 22 → option_map (λ i. i + 11) (position (λ n. ltb bound n) xs) ≡ lowest (test bound xs) 11 22
found bound xs e =
    position-lowest (λ n. ltb bound n) 0 (test bound xs) 11 xs (λ j l. ap (λ (i : ℕ). ltb bound (get_or xs i 0)) (omega arith))
    ∙ ap (λ (n : ℕ). lowest (test bound xs) 11 n) e

pub returns : goal.returns
returns c =
    let f : c.position.result ≡ position (λ n. ltb c.args.bound n) c.args.self.count =
    position_from_yields_List (λ n. ltb c.args.bound n) _ _ c.position.result c.position.ensures.ran
    (YieldsList-from_slice c.args.self.count cc) (λ x b q k. search (rules, tests))
    in
    let g : c.map.result ≡ option_map (λ i. i + 11) c.position.result = search rules in
    g ∙ ap (λ (o : Option ℕ). option_map (λ i. i + 11) o) f ∙ found _ _ (omega arith)
