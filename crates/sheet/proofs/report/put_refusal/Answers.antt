-- `put_refusal` meets its contract: four pieces, one behind the other.
use Rattle.text.proofs.Lines.{appends_one, appends_then}
use Rattle.sheet.specs.Answer.{refusal_line}
use Rattle.sheet.proofs.report.put_refusal.Goals as goal

pub returns : goal.returns
unfolding refusal_line
returns c =
    let number = appends_then (appends_one c.put_decimal.ensures) (appends_one c.put.ensures) in
    appends_then (appends_then number (appends_one c.put_decimal-2.ensures)) (appends_one c.put-2.ensures)
