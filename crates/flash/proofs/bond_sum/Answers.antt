-- A turn adds the term of the kind at the index that the loop has come to.
use Rattle.std.proofs.Common.{rules, arith, ◌<◌, ◌+◌, ◌≡◌, ◌++◌, ◌∷◌, [], length, get_or, refl, sym, ◌∙◌, None, ℤ, w64, to_z, length-append}
use Rattle.std.proofs.lemmas.Slice.Zip.{zip_turn, zip_end}
use Rattle.std.proofs.lemmas.Int.{to_z-of_z}
use Rattle.flash.proofs.Sizes.{sized-fits, read}
use Rattle.flash.proofs.Sums.{next, sum-next, sum-end}
use Rattle.flash.proofs.bond_sum.Goals.{In-Some}
use Rattle.flash.proofs.bond_sum.Goals as goal

pub loop-n-init : goal.loop-n-init
loop-n-init c = (refl, rw (to_z-of_z _ _ c.ranges.start) (omega (arith, c.requires.start)))

-- the count and the coefficient of a turn
here : (c : In-Some) → (length c.loop-n.yielded < 22) × (c.in-Some.n.now ≡ get_or c.args.bonds.count (length c.loop-n.yielded) 0)
    × (c.in-Some.coefficient.now ≡ get_or c.column_of.result (length c.loop-n.yielded) None)
here c =
    let turn =
    zip_turn c.args.bonds.count c.column_of.result c.loop-n.yielded c.into_iter-n-iterator.result c.loop-n.n-iterator c.next.new.self c.next.result
    (search rules) (search rules) c.loop-n.yielded_by (c.in-Some.n, c.in-Some.coefficient) c.in-Some.is c.next.ensures.steps
    in
    (omega (arith, turn.0), turn.2 0, turn.3 None)

pub bond_term-sum-requires : goal.bond_term-sum-requires
bond_term-sum-requires c =
    let at = here c.before.before in
    omega (arith, at.1, c.requires.few.most (length c.loop-n.yielded) at.0)

pub overflow_add-sum : goal.overflow_add-sum
overflow_add-sum c =
    let at = here c.before.before.before in
    let s : ℤ = to_z w64 c.loop-n.sum-bits in
    sized-fits (omega arith) (next _ s c.bond_term-sum.result at.0 (search rules) c.bond_term-sum.ensures.small)

pub loop-n-preserved : goal.loop-n-preserved
loop-n-preserved c =
    let at = here c.before.before.before in
    let s : ℤ = to_z w64 c.loop-n.sum-bits in
    let sum = read (omega arith) (next (length c.loop-n.yielded) s c.bond_term-sum.result at.0 (search rules) c.bond_term-sum.ensures.small) in
    let more : length (c.loop-n.yielded ++ (c.in-Some.n, c.in-Some.coefficient) ∷ []) ≡ length c.loop-n.yielded + 1 = simp length-append in
    let terms = sum-next _ _ _ _ c.in-Some.n.now c.in-Some.coefficient.now _ at.0 at.1 (rw c.column_of.ensures at at.2) c.bond_term-sum.ensures.value in
    rw (more, sum.is) (c.loop-n.invariant.0 ∙ terms, omega (arith, sum.most))

pub returns : goal.returns
returns c =
    let end =
    zip_end c.args.bonds.count c.column_of.result c.loop-n.yielded c.into_iter-n-iterator.result c.loop-n.n-iterator c.next.new.self c.next.result
    (search rules) (search rules) c.loop-n.yielded_by c.in-None.is c.next.ensures.steps
    in
    sym (rw (to_z-of_z _ _ c.ranges.start) at c.loop-n.invariant.0 ∙ sum-end _ _ _ (length c.loop-n.yielded) (omega (arith, end)))
