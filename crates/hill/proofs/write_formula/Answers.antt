-- What the tests leave open: counts that pass them are at most 200, and how long the text then is.
use Rattle.std.proofs.Common.{sym, ◌∙◌}
use Rattle.text.proofs.Writings.{placed-longest}
use Rattle.elements.proofs.Above.{at-most-200}
use Rattle.hill.proofs.Lines.{hill-short}
use Rattle.hill.proofs.write_formula.Goals as goal

pub put_formula-requires-clause-few : goal.put_formula-requires-clause-few
put_formula-requires-clause-few c = at-most-200 _ (rw c.each.ensures at (sym c.first_above.ensures ∙ c.in_default.is))

pub returns-clause-longest : goal.returns-clause-longest
returns-clause-longest c =
    let few = at-most-200 _ (rw c.each.ensures at (sym c.first_above.ensures ∙ c.in_default.is)) in
    rw (c.write_whole.ensures.value, c.deref.ensures.0, c.put_formula.ensures) (placed-longest 43 _ _ (hill-short _ few))
