-- With n = q d + r and r below d, n / d is q exactly where r is 0, the nearest number to it is q + 1 where d − r ≤ r, and q where not.
use Rattle.std.proofs.Common.{arith}
use Rattle.rounding.specs.Rounds.{is-exact, is-raised, is-lowered}
use Rattle.rounding.proofs.Division.{divided-parts}
use Rattle.rounding.proofs.Rounding.{round-only, div-by-zero, rounds}
use Rattle.rounding.proofs.round_div.Goals as goal

pub returns-then-d-eq0-clause-value : goal.returns-then-d-eq0-clause-value
returns-then-d-eq0-clause-value c = rw c.if-d-eq0.true (div-by-zero _)

pub returns-then-rest-eq0-clause-value : goal.returns-then-rest-eq0-clause-value
returns-then-rest-eq0-clause-value c =
    let p = divided-parts _ _ _ c.divide-divided.ensures (omega arith) in
    round-only _ _ _ _ (omega arith) (record { low = omega arith; high = omega arith }) (is-exact (omega arith))

pub returns-then-rest-eq0-clause-rounds : goal.returns-then-rest-eq0-clause-rounds
returns-then-rest-eq0-clause-rounds c = rounds _ _ _ (returns-then-rest-eq0-clause-value c)

pub returns-then-missing-rest-clause-value : goal.returns-then-missing-rest-clause-value
returns-then-missing-rest-clause-value c =
    let p = divided-parts _ _ _ c.divide-divided.ensures (omega arith) in
    round-only _ _ _ _ (omega arith) (record { low = omega arith; high = omega arith }) (is-raised (omega arith))

pub returns-then-missing-rest-clause-rounds : goal.returns-then-missing-rest-clause-rounds
returns-then-missing-rest-clause-rounds c = rounds _ _ _ (returns-then-missing-rest-clause-value c)

pub returns-clause-value : goal.returns-clause-value
returns-clause-value c =
    let p = divided-parts _ _ _ c.divide-divided.ensures (omega arith) in
    round-only _ _ _ _ (omega arith) (record { low = omega arith; high = omega arith }) (is-lowered (omega arith))

pub returns-clause-rounds : goal.returns-clause-rounds
returns-clause-rounds c = rounds _ _ _ (returns-clause-value c)
