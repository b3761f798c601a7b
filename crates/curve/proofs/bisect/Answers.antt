-- A number between the ends takes the place of one of them; when none is left, the upper end is the smallest.
use Rattle.std.proofs.Common.{sym, arith}
use Rattle.curve.proofs.Smallest.{lowered, raised, bracketed}
use Rattle.curve.proofs.bisect.Goals as goal

pub loop-found-preserved-then-passes : goal.loop-found-preserved-then-passes
loop-found-preserved-then-passes g c = record {
  above = omega arith;
  apart = omega arith;
  within = omega arith;
  bracket = λ f t l. lowered _ _ _ _ _ (c.loop-found.invariant.bracket f t l) _ (omega arith) (omega arith) (sym (t _ _ (omega arith) (omega arith) c.if-passes.ensures));
}

pub loop-found-preserved : goal.loop-found-preserved
loop-found-preserved g c = record {
  above = omega arith;
  apart = omega arith;
  within = omega arith;
  bracket = λ f t l. raised _ _ _ _ _ (c.loop-found.invariant.bracket f t l) _ (omega arith) (omega arith) (sym (t _ _ (omega arith) (omega arith) c.if-passes.ensures));
}

pub returns-clause-smallest : goal.returns-clause-smallest
returns-clause-smallest g c = λ f t l. bracketed _ _ _ _ _ (c.loop-found.invariant.bracket f t l) (λ n m p. l.0 n m (omega arith)) (omega arith)
