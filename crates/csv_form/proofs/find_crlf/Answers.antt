-- `find_crlf` meets its contract: the first pair of neighbours that is CRLF.
use Rattle.std.proofs.Common.{rules, tests, sym, ◌∙◌}
use Rattle.std.proofs.lemmas.Iterator.Adapters.{position_from-zero}
use Rattle.std.proofs.lemmas.Iterator.Search.{position_from_yields_List}
use Rattle.csv_form.specs.Lines.{crlf}
use Rattle.csv_form.proofs.LineLaws.{pairs, crlf-pairs, YieldsList-from_pairs}
use Rattle.csv_form.proofs.find_crlf.Goals as goal

pub returns-clause-value : goal.returns-clause-value
returns-clause-value c =
    let s = c.args.s.now in
    position_from_yields_List crlf _ _ c.position.result c.position.ensures.ran (YieldsList-from_pairs s c.windows.ensures.rest c.windows.ensures.size) (λ x b q k. search (rules, tests))
    ∙ position_from-zero crlf (pairs s) ∙ sym (crlf-pairs 0 s)
