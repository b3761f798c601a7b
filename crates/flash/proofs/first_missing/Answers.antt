-- The kinds' counts and coefficients side by side, and the first that has bonds and a blank.
use Rattle.std.proofs.Common.{rules, ◌≡◌, ap, ◌∙◌, ℕ, ◌+◌, ◌-◌, ◌<◌, Bool, ◌&&◌, ltb, length, get_or, ℤ, Option, None, option_map, arith}
use Rattle.std.specs.Option.{is_none}
use Rattle.std.specs.List.{position, zip}
use Rattle.std.proofs.lemmas.Iterator.{YieldsList-from_slice, YieldsList-from_zip}
use Rattle.std.proofs.lemmas.Iterator.Search.{position_from_yields_List}
use Rattle.std.proofs.lemmas.Slice.Zip.{length-zip, get_or-zip}
use borrow.Author.Tests.{tests}
use Rattle.answer.specs.Lowest.{lowest}
use Rattle.answer.specs.Methods.{method_number}
use Rattle.answer.proofs.Lowest.{position-lowest}
use Rattle.bonds.specs.declared.Bonds.{Bonds}
use Rattle.flash.specs.Points.{missing, no_coefficient_at}
use Rattle.flash.specs.Internal.{column}
use Rattle.flash.proofs.Columns.{length_column, entry}
use Rattle.flash.proofs.first_missing.Goals as goal

abbrev blank : (ℕ × Option ℤ) → Bool
blank p = ltb 0 p.0 && is_none p.1

found : (m : ℕ) (b : Bonds) → length b.count ≡ 22 → option_map (λ i. i + 1) (position blank (zip b.count (column m))) ≡ no_coefficient_at m b
unfolding no_coefficient_at missing
found m b e =
    let columns : length (column m) ≡ 22 = length_column m in
    let n : length (zip b.count (column m)) ≡ 22 = rw length-zip (omega arith) in
    let same : (j : ℕ) → j < length (zip b.count (column m)) → missing m b (1 + j) ≡ blank (get_or (zip b.count (column m)) j (0, None)) =
    λ j l.
    let i : 1 + j - 1 ≡ j = omega arith in
    rw (get_or-zip b.count (column m) j (0, None) (omega arith) (omega arith), entry m j, i) in
    position-lowest blank (0, None) (missing m b) 1 (zip b.count (column m)) same ∙ ap (λ (k : ℕ). lowest (missing m b) 1 k) n

pub returns : goal.returns
returns c =
    let f : c.position.result ≡ position blank (zip c.args.bonds.count c.column_of.result) =
    position_from_yields_List {s = c.zip.result} blank c.position.new.self _ c.position.result c.position.ensures.ran
    (YieldsList-from_zip (YieldsList-from_slice c.args.bonds.count cc) (YieldsList-from_slice c.column_of.result cc)) (λ x b q k. search (rules, tests)) in
    let g : c.map.result ≡ option_map (λ i. i + 1) c.position.result = search rules in
    g
    ∙ ap (λ (o : Option ℕ). option_map (λ i. i + 1) o) (rw c.column_of.ensures at f)
    ∙ found (method_number c.args.method) c.args.bonds (omega arith)
