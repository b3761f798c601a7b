-- The loop over items begins with all that is to be read, and each turn leaves what is still to be read.
-- An item is an element, a bracket that may not open a group here, or a group.
use Rattle.std.proofs.Common.{refl, arith}
use Rattle.std.proofs.lemmas.Result.{err_from_is_err_and}
use Rattle.formula.proofs.Steps.{going_start, going_on, item-element, item-deepest, item-group, group-stuck, group-closed}
use Rattle.formula.proofs.+formula_item.Goals as goal

pub formula-loop-left-init : goal.formula-loop-left-init
formula-loop-left-init t c = going_start _ _ _

pub formula-loop-left-preserved : goal.formula-loop-left-preserved
formula-loop-left-preserved t c = (going_on c.loop-left.invariant c.if-ends.ensures c.in_ok-left.ensures).1

pub item-returns-then-byte_at-ne40 : goal.item-returns-then-byte_at-ne40
item-returns-then-byte_at-ne40 t c = rw (item-element c.args.t.now c.args.depth _ c.byte_at.ensures c.if-byte_at-ne40.true) c.element.ensures

pub item-returns-then-depth-eq0 : goal.item-returns-then-depth-eq0
item-returns-then-depth-eq0 t c = rw (item-deepest c.args.t.now c.args.depth _ c.byte_at.ensures c.if-byte_at-ne40.false c.if-depth-eq0.true) (record { found = record { within = omega arith; left = refl } })

pub item-returns-in_err-end : goal.item-returns-in_err-end
item-returns-in_err-end t c =
    let p = err_from_is_err_and c.from_residual.result c.from_residual.ensures.1 in
    rw (item-group c.args.t.now c.args.depth _ c.byte_at.ensures c.if-byte_at-ne40.false c.if-depth-eq0.false, p.1, p.2)
    (group-stuck _ (omega arith) _ _ c.in_err-end.ensures)

pub item-returns : goal.item-returns
item-returns t c =
    rw (item-group c.args.t.now c.args.depth _ c.byte_at.ensures c.if-byte_at-ne40.false c.if-depth-eq0.false)
    (group-closed _ (omega arith) c.new-group.ensures c.in_ok-end.ensures c.closed.ensures)
