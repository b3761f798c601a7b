-- A boiling point that is not outside fits.
use Rattle.std.proofs.Common.{◌≡◌, sym, false, w32, arith}
use mir.Val.{SFits}
use Rattle.std.proofs.lemmas.Int.{to_z-of_z}
use Rattle.answer.proofs.Outside.{inside-size}
use Rattle.flash.specs.Points.{boiling_outside}
use Rattle.rounding.proofs.Signed.{fits-size}
use Rattle.flash.proofs.boiling_point.Goals as goal

pub overflow_cast-result : goal.overflow_cast-result
overflow_cast-result c =
    let inside : boiling_outside c.args.boiling ≡ false = sym (rw (to_z-of_z _ _ c.ranges.boiling) at c.if-is_outside.ensures) in
    rw (to_z-of_z _ _ c.ranges.boiling) (fits-size _ (omega (arith, inside-size 20000 60000 _ (omega arith) inside)))

pub returns : goal.returns
returns c =
    let inside : boiling_outside c.args.boiling ≡ false = sym (rw (to_z-of_z _ _ c.ranges.boiling) at c.if-is_outside.ensures) in
    let fits : SFits w32 c.args.boiling = fits-size _ (omega (arith, inside-size 20000 60000 _ (omega arith) inside)) in
    rw (to_z-of_z _ _ c.ranges.boiling, to_z-of_z _ _ fits, inside)
