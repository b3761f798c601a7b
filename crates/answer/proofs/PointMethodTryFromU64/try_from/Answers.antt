-- A number from 1 to 3 is that of a method; each other is outside.
use Rattle.std.proofs.Common.{refl, arith}
use Rattle.answer.specs.Methods.{method_named}
use Rattle.answer.specs.Outside.{outside}
use Rattle.answer.proofs.Methods.{unnamed}
use Rattle.answer.proofs.PointMethodTryFromU64.try_from.Goals as goal

pub returns-in-1 : goal.returns-in-1
unfolding method_named outside
returns-in-1 c = rw c.in-1.is refl

pub returns-in-2 : goal.returns-in-2
unfolding method_named outside
returns-in-2 c = rw c.in-2.is refl

pub returns-in-3 : goal.returns-in-3
unfolding method_named outside
returns-in-3 c = rw c.in-3.is refl

pub returns-in_default : goal.returns-in_default
returns-in_default c = rw c.at.ensures (unnamed _ (λ e. omega arith) (λ e. omega arith) (λ e. omega arith))
