-- proofs/Bits.antt says what the bits of x are. That the format holds x is what owning an f64 tells.
use Rattle.std.proofs.Common.{◌∙◌, arith}
use Rattle.std.specs.Bool.{passes}
use Rattle.analyser.proofs.Bits.{no_nan, below_half, facts}
use Rattle.analyser.proofs.Scale.whole_parts.Goals as goal

pub float_to_bits-bits : goal.float_to_bits-bits
float_to_bits-bits c = no_nan _ c.requires.is_an_amount

pub returns-then-exponent-self-lt-HALF : goal.returns-then-exponent-self-lt-HALF
returns-then-exponent-self-lt-HALF c =
    c.round_div.ensures.value
    ∙ below_half c.args.x c.args.self.factor c.args.self.twos (passes _ c.well_formed.1.0.1) c.args.self.small c.requires
    (omega arith) _ _ (omega arith) (λ z. omega arith) (λ l. omega arith)

pub overflow_sub-shift : goal.overflow_sub-shift
overflow_sub-shift c =
    let known = facts c.args.x c.args.self.factor c.args.self.twos (passes _ c.well_formed.1.0.1) c.args.self.small c.requires (omega arith) in
    omega (arith, known.under)

pub overflow_sub-shift-2 : goal.overflow_sub-shift-2
overflow_sub-shift-2 c =
    let known = facts c.args.x c.args.self.factor c.args.self.twos (passes _ c.well_formed.1.0.1) c.args.self.small c.requires (omega arith) in
    omega (arith, known.under)

pub returns : goal.returns
returns c =
    let known = facts c.args.x c.args.self.factor c.args.self.twos (passes _ c.well_formed.1.0.1) c.args.self.small c.requires (omega arith) in
    c.round_div-2.ensures.value ∙ known.is _ _ (omega arith) (omega arith)
