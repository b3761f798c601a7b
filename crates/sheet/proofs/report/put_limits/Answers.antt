-- `put_limits` meets its contract: four pieces, one behind the other.
use Rattle.text.proofs.Lines.{appends_one, appends_then}
use Rattle.sheet.specs.Answer.{limits_line}
use Rattle.sheet.proofs.report.put_limits.Goals as goal

pub returns : goal.returns
unfolding limits_line
returns c = appends_then (appends_then (appends_then (appends_one c.put.ensures) c.put_percent.ensures) (appends_one c.put-2.ensures)) c.put_percent-2.ensures
