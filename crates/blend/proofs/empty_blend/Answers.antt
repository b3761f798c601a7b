-- `empty_blend` meets its contract: the claim about every list of calls is a theorem.
use Rattle.blend.proofs.Theorem.{claims, marks-alike}
use Rattle.blend.proofs.empty_blend.Goals as goal

pub returns-clause-every_list : goal.returns-clause-every_list
returns-clause-every_list c = claims

pub returns-clause-marks : goal.returns-clause-marks
returns-clause-marks c = marks-alike
