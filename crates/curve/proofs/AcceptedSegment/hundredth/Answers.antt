-- Along a segment the condition keeps holding once it holds, since temperature and pressure rise; it fails at the start.
use Rattle.std.proofs.Common.{rules, sym, ◌∙◌, arith}
use Rattle.curve.specs.Smallest.{met}
use Rattle.curve.specs.Curve.{between}
use Rattle.curve.specs.Condition.{test_of}
use Rattle.curve.specs.Internal.{Lasts}
use Rattle.curve.proofs.Smallest.{smallest-later}
use Rattle.curve.proofs.Conditions.{grows}
use Rattle.curve.proofs.Rising.{climbs}
use Rattle.curve.proofs.AcceptedSegment.hundredth.Goals as goal

pub returns : goal.returns
returns c =
    let s = c.args.self.segment in
    let f = met (test_of c.args.c) (between s) in
    let last : Lasts f s.from s.to = (λ t u l h m. grows c.args.c t u _ _ h (climbs s c.args.self.sloped t u h), c.requires.holds) in
    c.bisect.ensures.smallest f (λ n b l h e. search rules) last ∙ sym (smallest-later f s.from s.to (omega (arith, c.args.self.sloped.warmer)) c.requires.fails)
