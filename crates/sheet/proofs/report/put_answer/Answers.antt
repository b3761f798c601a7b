-- `put_answer` meets its contract: number 0 is no refusal.
use Rattle.std.proofs.Common.{eq-eqb, ne_eqb}
use Rattle.sheet.specs.Answer.{answer_line}
use Rattle.sheet.proofs.report.put_answer.Goals as goal

pub returns-then-answer-eq0 : goal.returns-then-answer-eq0
unfolding answer_line
returns-then-answer-eq0 c = rw (eq-eqb _ _ c.if-answer-eq0.true) c.put_limits.ensures

pub returns-else-answer-eq0 : goal.returns-else-answer-eq0
unfolding answer_line
returns-else-answer-eq0 c = rw (ne_eqb _ _ c.if-answer-eq0.false) c.put_refusal.ensures
