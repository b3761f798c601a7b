-- `is_formed` meets its contract: by whether each byte is plain.
use Rattle.std.proofs.Common.{rules, tests, sym, ◌∙◌}
use Rattle.std.proofs.lemmas.Iterator.{YieldsList-from_slice}
use Rattle.std.proofs.lemmas.Iterator.Search.{all_from_yields_List}
use Rattle.csv_form.specs.Lines.{plain}
use Rattle.csv_form.specs.Sheet.{formed}
use Rattle.csv_form.proofs.is_formed.Goals as goal

pub returns-then-all : goal.returns-then-all
unfolding formed
returns-then-all c =
    let each = all_from_yields_List plain _ _ c.all.result c.all.ensures.ran (YieldsList-from_slice c.args.l.now cc) (λ x b q k. search (rules, tests)) in
    rw (sym each ∙ c.if-all.true, c.field_count.ensures)
