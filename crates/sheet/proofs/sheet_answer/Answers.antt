-- `sheet_answer` meets its contract: the reference model, where no form refuses.
use Rattle.sheet.proofs.Modelled.{by-model}
use Rattle.sheet.proofs.sheet_answer.Goals as goal

pub returns-in_err-add_records-clause-by_model : goal.returns-in_err-add_records-clause-by_model
returns-in_err-add_records-clause-by_model c = by-model _

pub returns-clause-by_model : goal.returns-clause-by_model
returns-clause-by_model c = by-model _
