-- `molar_mass` meets its contract: a weighted sum, which is M as printed where no count is above 200.
use Rattle.elements.proofs.Above.{above-none}
use Rattle.blend.proofs.Masses.{mass-is}
use Rattle.blend.proofs.molar_mass.Goals as goal

pub returns-clause-as_printed : goal.returns-clause-as_printed
returns-clause-as_printed c = λ e. rw c.weighted_sum.ensures (mass-is c.args.fuel (record { most = above-none 200 c.args.fuel e })).cross
