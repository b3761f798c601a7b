-- The ceiling is tested before it bounds the limit.
use Rattle.std.proofs.Common.{sym}
use Rattle.analyser.specs.Reading.{good_method}
use Rattle.analyser.proofs.Admitted.{up-to-amount}
use Rattle.analyser.proofs.check_method.Goals as goal
use Rattle.analyser.proofs.check_method.Goals.{else-is_up_to-via-then-is_up_to+else-is_up_to-2, else-is_up_to-via-else-is_up_to}

pub is_up_to-requires-then-is_up_to : goal.is_up_to-requires-then-is_up_to
is_up_to-requires-then-is_up_to c = up-to-amount _ _ (sym c.if-is_up_to.ensures)

pub returns-then-is_up_to-2 : goal.returns-then-is_up_to-2
unfolding good_method
returns-then-is_up_to-2 c = rw (sym c.if-is_up_to.ensures, sym c.if-is_up_to-2.ensures)

pub returns : goal.returns
unfolding good_method
returns c = elim c.else-is_up_to.branch [
  | else-is_up_to-via-then-is_up_to+else-is_up_to-2 w ↦ rw (sym w.if-is_up_to.ensures, sym w.if-is_up_to-2.ensures, c.at.ensures)
  | else-is_up_to-via-else-is_up_to w ↦ rw (sym w.if-is_up_to.ensures, c.at.ensures)
]
