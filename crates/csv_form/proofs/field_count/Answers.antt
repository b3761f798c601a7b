-- `field_count` meets its contract: a byte is one comma more or none.
use Rattle.std.proofs.Common.{◌≡◌, length, arith}
use Rattle.std.proofs.lemmas.Bool.Decides.{nat_tests}
use Rattle.csv_form.specs.Lines.{fields}
use Rattle.csv_form.proofs.Fields.{count-more, count-end}
use Rattle.csv_form.proofs.field_count.Goals as goal

pub loop-b-preserved : goal.loop-b-preserved
loop-b-preserved c =
    let more = count-more c.args.l.now c.loop-b.b-index (omega arith) in
    let one = c.from-count.ensures in
    grind (arith, nat_tests, more, one)

pub returns : goal.returns
returns c = omega (arith, count-end c.args.l.now c.loop-b.b-index (omega arith))
