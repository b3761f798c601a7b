-- `is_headed` meets its contract: the length, then the bytes of the first line.
use Rattle.std.proofs.Common.{take, arith, length-take}
use Rattle.std.proofs.lemmas.Bool.Decides.{Decides-eqb}
use Rattle.std.proofs.lemmas.Slice.Eq.{slice_eq-Decides}
use Rattle.csv_form.proofs.LineLaws.{line_order}
use Rattle.csv_form.proofs.Sheets.{headed-test}
use Rattle.csv_form.proofs.is_headed.Goals as goal

pub slice_bounds-eq-end : goal.slice_bounds-eq-end
slice_bounds-eq-end c = simp length-take (omega (arith, line_order c.args.s.now _ c.line_at.ensures))

pub returns-then-s-le65536 : goal.returns-then-s-le65536
returns-then-s-le65536 c =
    let equal = slice_eq-Decides Decides-eqb (take c.line_at.result.end c.args.s.now) c.args.header.now _ c.eq.ensures in
    headed-test c.args.header.now c.args.s.now (omega arith) _ c.line_at.ensures _ equal
