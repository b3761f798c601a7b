-- `put_percent` meets its contract: four pieces, one behind the other.
use Rattle.text.proofs.Lines.{appends_one, appends_then}
use Rattle.sheet.specs.Answer.{percent}
use Rattle.sheet.proofs.report.put_percent.Goals as goal

pub returns : goal.returns
unfolding percent
returns c =
    let whole = appends_one (rw c.divide-percents.ensures at c.put_decimal.ensures) in
    let tenths = appends_one (rw (c.divide-tenths.ensures, c.divide-percents.ensures) at c.put_decimal-2.ensures) in
    let hundredths = appends_one (rw (c.divide-tenths.ensures, c.divide-percents.ensures) at c.put_decimal-3.ensures) in
    appends_then (appends_then (appends_then whole (appends_one c.put.ensures)) tenths) hundredths
