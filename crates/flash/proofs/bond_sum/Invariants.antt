-- At each turn the whole sum is the sum so far and the terms left; a kind's bonds add at most 2 ^ 46.
use Rattle.std.proofs.Common.{◌≡◌, ◌+◌, ◌*◌, ◌^◌, ◌≤◌, nat_abs, length}
use Rattle.answer.specs.Methods.{method_number}
use Rattle.flash.specs.Points.{sum_from}
use Rattle.flash.specs.Internal.{bond_terms}
use Rattle.flash.proofs.bond_sum.Given as goal

abbrev pub invariant-loop-n : goal.invariant-loop-n
invariant-loop-n l =
    (sum_from l.start (bond_terms (method_number l.fn.method) l.fn.bonds 0)
    ≡ sum_from l.sum (bond_terms (method_number l.fn.method) l.fn.bonds (length l.yielded)))
    × (nat_abs l.sum ≤ 2 ^ 38 + 2 ^ 62 + length l.yielded * 2 ^ 46)
