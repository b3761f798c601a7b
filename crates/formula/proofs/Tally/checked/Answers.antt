-- `checked` meets its contract: by the first count above 200, which is there or is not.
use Rattle.std.proofs.Common.{sym, ap}
use Rattle.answer.specs.Outcome.{answered}
use Rattle.formula.proofs.Judging.{above-alike, counts_whole}
use Rattle.formula.proofs.Tally.checked.Goals as goal

pub returns-in-Some : goal.returns-in-Some
returns-in-Some c m h = rw (above-alike _ m h, rw c.each.ensures at (sym c.in-Some.ensures), c.at.ensures)

pub returns : goal.returns
returns c m h =
    let few = rw c.each.ensures at (sym c.in_default.ensures) in
    rw (above-alike _ m h, few) (ap answered (counts_whole _ m h few))
