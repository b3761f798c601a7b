-- A refusal of a formula text has a number above 0.
use mathlib.Core.List.{List}
use Prim.Native.Nat.{ℕ}
use native.Mathlib.Omega.{arith}
use lib.Dec.{ltb}
use lib.ListN.{length}
use Rattle.answer.specs.Numbers.{no_formula, count_too_large}
use Rattle.answer.specs.Outcome.{answered}
use Rattle.answer.specs.Internal.{Numbered}
use Rattle.answer.proofs.Outcomes.{refuse-numbered, refuse_at-numbered}
use Rattle.text.specs.Reader.{left_at, value_read}
use Rattle.elements.specs.Elements.{nothing, atoms, each, first_above}
use Rattle.formula.specs.Reader.{read_items}
use Rattle.formula.specs.Reading.{at_most200, judged, reading}

pub reading-numbered : (t : List ℕ) → Numbered (reading t)
unfolding reading
reading-numbered t =
    let r = read_items 8 t in
    let a = atoms (value_read nothing r) in
    refuse-numbered no_formula 256 (ltb 256 (length t)) (judged (length t) r) (omega arith)
    (refuse_at-numbered no_formula (left_at (length t) r) (at_most200 a) (omega arith)
    (refuse_at-numbered count_too_large (first_above (each 200) a) (answered a) (omega arith) tt))
