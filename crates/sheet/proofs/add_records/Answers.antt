-- `add_records` meets its contract: by the first record that is declined, or none.
use Rattle.std.proofs.Common.{◌≡◌, rules, Err}
use Rattle.sheet.proofs.Records.{adding-starts, row-good, adding-more, adding-refused, adding-done}
use Rattle.sheet.proofs.add_records.Goals as goal

pub loop-passed-init : goal.loop-passed-init
loop-passed-init c =
    let iterator = c.into_iter-passed-iterator.ensures.into_iter_gives in
    let items = c.enumerate-passed-items.ensures in
    (search rules, tt, adding-starts _ _ _ c.requires c.empty_blend-blend.ensures.value (rw (iterator, items.source) c.records.ensures) (rw iterator items.count))

pub add_record-requires : goal.add_record-requires
add_record-requires c = row-good _ _ _ c.next.new.self c.loop-passed.invariant.2 _ c.in-Some.ensures.steps.0

pub returns-in_err-blend : goal.returns-in_err-blend
returns-in_err-blend c =
    let e : c.from_residual.result ≡ Err c.in_err-blend.field-0.0 = search rules in
    let turn = c.in-Some.ensures.steps in
    rw e (adding-refused _ _ _ c.next.new.self c.loop-passed.invariant.2 _ turn.0 _ turn.1 _ c.in_err-blend.ensures)

pub loop-passed-preserved : goal.loop-passed-preserved
loop-passed-preserved c =
    let turn = c.in-Some.ensures.steps in
    (c.in-Some.ensures.goes.keeps, tt, adding-more _ _ _ c.next.new.self c.loop-passed.invariant.2 _ turn.0 _ turn.1 _ c.in_ok-blend.ensures turn.2)

pub returns : goal.returns
returns c = adding-done _ _ _ c.loop-passed.invariant.2 c.in-None.ensures.steps.0.0
