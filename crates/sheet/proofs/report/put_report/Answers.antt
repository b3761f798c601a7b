-- `put_report` meets its contract: the heading, the answer's line and its CRLF, one behind the other, in a line that holds all of the text.
use Rattle.std.proofs.Common.{arith}
use Rattle.text.proofs.Lines.{appends_one, appends_then}
use Rattle.sheet.specs.Answer.{answer_text}
use Rattle.sheet.proofs.Lengths.{text-short}
use Rattle.sheet.proofs.report.put_report.Goals as goal

pub returns : goal.returns
unfolding answer_text
returns c =
    let pieces = appends_then (appends_then (appends_one c.put.ensures) c.put_answer.ensures) (appends_one c.put-2.ensures) in
    let whole = rw c.requires at pieces in
    whole.gives (omega (arith, text-short c.args.answer (omega arith) (omega arith) (omega arith) (omega arith)))
