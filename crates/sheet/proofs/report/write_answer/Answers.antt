-- `write_answer` meets its contract: what is lent to `write_whole` is the answer's text.
use Rattle.std.proofs.Common.{arith}
use Rattle.text.proofs.Writings.{placed-longest}
use Rattle.sheet.proofs.Lengths.{text-short}
use Rattle.sheet.proofs.report.write_answer.Goals as goal

pub returns-clause-longest : goal.returns-clause-longest
returns-clause-longest c =
    let short = text-short c.args.answer (omega arith) (omega arith) (omega arith) (omega arith) in
    rw (c.write_whole.ensures.value, c.deref.ensures.0, c.put_report.ensures) (placed-longest 76 _ _ short)
