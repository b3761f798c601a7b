-- `write_answer` meets its contract: what is lent to the writer is the answer's text.
use Rattle.std.proofs.Common.{arith}
use Rattle.mixture_run.proofs.Streams.{written-text}
use Rattle.mixture_run.proofs.write_answer.Goals as goal

pub returns : goal.returns
returns g c =
    let answered = c.respond.ensures in
    let text = written-text 76 _ _ c.respond.new.out c.respond.result (omega arith) answered.value answered.room answered.longest in
    rw text at (rw c.unwrap_or-end.ensures at c.write_all.ensures.bytes)
