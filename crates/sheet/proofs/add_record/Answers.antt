-- `add_record` meets its contract: a good record's second field is parts.
use Rattle.answer.proofs.Tests.{both}
use Rattle.csv_form.specs.Sheet.{good_record, formed}
use Rattle.sheet.specs.Mixture.{is_parts, parts_field}
use Rattle.sheet.proofs.add_record.Goals as goal

pub spelled-requires : goal.spelled-requires
unfolding good_record
spelled-requires c = rw c.split.ensures.parts (both (formed 2 c.args.l.now) (is_parts (parts_field c.args.l.now)) c.requires).1
