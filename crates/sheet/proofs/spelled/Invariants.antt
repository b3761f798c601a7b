-- n is the number that the digits so far spell.
use Rattle.sheet.proofs.Parts.{Spelling}
use Rattle.sheet.proofs.spelled.Given as goal

abbrev pub invariant-loop-digit : goal.invariant-loop-digit
invariant-loop-digit l = Spelling l.s l.digit-index l.n
