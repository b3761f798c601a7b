-- `first_bad_record` meets its contract: the first record that the iterator gives and that is not good.
use Rattle.std.proofs.Common.{◌≡◌, rules, tests, ap, ◌∙◌, List, ℕ, ◌+◌, not}
use Rattle.std.proofs.lemmas.Iterator.Search.{position_from_yields_List}
use Rattle.std.specs.Option.{option_map}
use Rattle.csv_form.specs.Sheet.{records}
use Rattle.csv_form.proofs.LineLaws.{YieldsList-from_left}
use Rattle.csv_form.proofs.Sheets.{first-bad}
use Rattle.sheet.specs.Mixture.{good_mixture}
use Rattle.sheet.proofs.first_bad_record.Goals as goal

pub returns : goal.returns
returns c =
    let rs = records c.args.s.now in
    let numbered : c.map.result ≡ option_map (λ i. i + 1) c.position.result = search rules in
    let first =
    position_from_yields_List (λ (l : List ℕ). not (good_mixture l)) c.position.new.self _ c.position.result c.position.ensures.ran
    (YieldsList-from_left rs c.records.ensures) (λ x b q k. search (rules, tests)) in
    numbered ∙ ap (option_map (λ i. i + 1)) first ∙ first-bad good_mixture rs
