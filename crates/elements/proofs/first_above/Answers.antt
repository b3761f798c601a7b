-- The number of an element is the index of its count and one.
use Rattle.std.proofs.Common.{sym, ap, ◌∙◌, ℕ, ◌+◌, ltb, zip, arith}
use Rattle.std.specs.Option.{option_map}
use Rattle.std.proofs.lemmas.List.Quantifiers.{position-Some}
use Rattle.elements.proofs.Above.{above-by-index}
use Rattle.elements.proofs.first_above.Goals as goal

pub returns-in_err-i : goal.returns-in_err-i
returns-in_err-i c =
    c.from_residual.ensures
    ∙ ap (option_map (λ (i : ℕ). i + 1)) c.in_err-i.ensures.first
    ∙ above-by-index c.args.bounds c.args.atoms c.index_above.ensures.ten

pub overflow_add-result : goal.overflow_add-result
overflow_add-result c =
    let inside = position-Some (λ (p : ℕ × ℕ). ltb p.0 p.1) (zip c.args.bounds.count c.args.atoms.count) c.in_ok-i.i (0, 0) (sym c.in_ok-i.ensures.first) in
    record { fits = omega (arith, inside.0, c.index_above.ensures.ten) }

pub returns : goal.returns
returns c =
    ap (option_map (λ (i : ℕ). i + 1)) c.in_ok-i.ensures.first
    ∙ above-by-index c.args.bounds c.args.atoms c.index_above.ensures.ten
