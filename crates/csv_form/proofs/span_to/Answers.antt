-- `span_to` meets its contract: by whether there is such a place.
use Rattle.std.proofs.Common.{sym, ◌∙◌}
use Rattle.csv_form.proofs.Spans.{span-some, span-none}
use Rattle.csv_form.proofs.span_to.Goals as goal

pub returns-in-Some : goal.returns-in-Some
returns-in-Some c = λ test z e. span-some test c.args.s.now c.args.at c.args.gap z c.in-Some.size (sym c.in-Some.is ∙ e) (c.requires _ c.in-Some.is)

pub returns-in-None : goal.returns-in-None
returns-in-None c = λ test z e. span-none test c.args.s.now c.args.at c.args.gap (sym c.in-None.is ∙ e)
