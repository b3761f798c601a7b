-- All records added are those that are left, all good, added to the blend so far.
use Rattle.sheet.proofs.Records.{Adding}
use Rattle.sheet.proofs.add_records.Given as goal

abbrev pub invariant-loop-passed : goal.invariant-loop-passed
invariant-loop-passed l = (goal.iterator-loop-passed).can_next l.passed-iterator × (goal.iterator-loop-passed).is_finite l.passed-iterator × Adding l.s l.blend l.passed-iterator
