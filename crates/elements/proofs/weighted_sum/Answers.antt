-- A turn adds the next element's term.
use Rattle.std.proofs.Common.{◌≡◌, refl, sym, ap₂, ◌∙◌, ◌+◌, add-one, arith}
use Rattle.elements.specs.Elements.{sum_below, weighted_sum}
use Rattle.elements.proofs.weighted_sum.Invariants.{term}
use Rattle.elements.proofs.weighted_sum.Goals as goal

pub loop-i-init : goal.loop-i-init
unfolding sum_below
loop-i-init c = (omega arith, refl)

pub loop-i-preserved : goal.loop-i-preserved
unfolding sum_below
loop-i-preserved c =
    let t = term c.args.weights c.args.atoms in
    let next : sum_below t (c.loop-i.i + 1) ≡ sum_below t c.loop-i.i + t c.loop-i.i = rw (add-one c.loop-i.i) in
    (omega arith, ap₂ ◌+◌ c.loop-i.invariant.1 c.weighted-sum.ensures.0 ∙ sym next)

pub returns : goal.returns
unfolding weighted_sum
returns c =
    let same : c.loop-i.i ≡ 10 = omega arith in
    rw same at c.loop-i.invariant.1
