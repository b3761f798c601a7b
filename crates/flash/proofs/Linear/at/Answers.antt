-- A line's two terms, each of which fits.
use Rattle.std.proofs.Common.{rules, ◌≡◌, ℤ, pos, ◌+ℤ◌, ◌*ℤ◌, ◌+◌, ◌^◌, w32, to_z, of_z, arith}
use lib.IntN.{+ℤ_idl}
use mir.Val.{SFits}
use Rattle.flash.specs.declared.Linear.{Linear}
use Rattle.flash.specs.Points.{line_terms, sum_from}
use Rattle.flash.proofs.Sizes.{bits, Sized, sized, sized-fits, widened, read, times, plus}
use Rattle.flash.proofs.Linear.at.Goals as goal

-- the sum as the code adds it up
module _ (l : Linear) (t x y z : ℤ) (a : SFits w32 l.constant) (b : SFits w32 l.slope) (d : SFits w32 t) where
  sum : x ≡ to_z w32 (of_z w32 l.constant) → y ≡ to_z w32 (of_z w32 l.slope) → z ≡ to_z w32 (of_z w32 t) →
      Sized (2 ^ 38 + 2 ^ 62) (bits (pos 100 *ℤ bits x) +ℤ bits (bits y *ℤ bits z)) (sum_from (pos 0) (line_terms l t))
  unfolding sum_from line_terms
  sum e f g =
      let constant = read (omega arith) (times (sized 100 (pos 100) (omega arith)) (read (omega arith) (widened a e))) in
      let heat = read (omega arith) (times (read (omega arith) (widened b f)) (read (omega arith) (widened d g))) in
      let both = plus constant heat in
      record { is = rw (+ℤ_idl (pos 100 *ℤ l.constant)) both.is; most = rw (+ℤ_idl (pos 100 *ℤ l.constant)) (omega (arith, both.most)) }

pub overflow_add-result : goal.overflow_add-result
overflow_add-result c =
    sized-fits (omega arith)
    (sum c.args.self c.args.boiling _ _ _ (search rules) (search rules) (search rules) c.from.ensures c.from-2.ensures c.from-3.ensures)

pub returns-clause-value : goal.returns-clause-value
returns-clause-value c =
    let s =
    sum c.args.self c.args.boiling _ _ _ (search rules) (search rules) (search rules) c.from.ensures c.from-2.ensures c.from-3.ensures
    in
    (read (omega arith) s).is

pub returns-clause-small : goal.returns-clause-small
returns-clause-small c =
    let s =
    sum c.args.self c.args.boiling _ _ _ (search rules) (search rules) (search rules) c.from.ensures c.from-2.ensures c.from-3.ensures
    in
    let r = read (omega arith) s in
    rw r.is (omega (arith, r.most))
