-- `find_comma` meets its contract: the first byte that is a comma.
use Rattle.std.proofs.Common.{rules, tests, sym, ◌∙◌}
use Rattle.std.specs.Prelude.{◌==◌}
use Rattle.std.proofs.lemmas.Iterator.{YieldsList-from_slice}
use Rattle.std.proofs.lemmas.Iterator.Adapters.{position_from-zero}
use Rattle.std.proofs.lemmas.Iterator.Search.{position_from_yields_List}
use Rattle.csv_form.proofs.Fields.{comma-bytes}
use Rattle.csv_form.proofs.find_comma.Goals as goal

pub returns-clause-value : goal.returns-clause-value
returns-clause-value c =
    let l = c.args.l.now in
    position_from_yields_List (λ b. b == 44) _ _ c.position.result c.position.ensures.ran (YieldsList-from_slice l cc) (λ x b q k. search (rules, tests))
    ∙ position_from-zero (λ b. b == 44) l ∙ sym (comma-bytes 0 l)
