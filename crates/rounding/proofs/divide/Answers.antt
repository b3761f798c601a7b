-- By 0, and of n below d, the quotient is 0 and the remainder n.
use Rattle.std.proofs.Common.{arith}
use Rattle.rounding.proofs.Division.{divided-only, divided-by-zero}
use Rattle.rounding.proofs.divide.Goals as goal
use Rattle.rounding.proofs.divide.Goals.{then-d-eq0-via-then-d-eq0, then-d-eq0-via-else-d-eq0+then-n-d}

pub returns-then-d-eq0 : goal.returns-then-d-eq0
returns-then-d-eq0 c =
    elim c.then-d-eq0.branch [
      | then-d-eq0-via-then-d-eq0 w ↦ rw w.if-d-eq0.true (divided-by-zero _)
      | then-d-eq0-via-else-d-eq0+then-n-d w ↦ divided-only _ _ 0 c.args.n (omega arith) w.if-n-d.true
    ]
