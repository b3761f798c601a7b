-- The first point that `find` comes to is the lowest.
use Rattle.std.proofs.Common.{rules, ◌≡◌, true, false}
use Rattle.std.proofs.lemmas.Iterator.{first_from_Range}
use Rattle.curve.specs.Curve.{bad_point, first_bad_point}
use Rattle.curve.specs.Internal.{curve_of}
use Rattle.curve.proofs.Acceptance.{lowest-found}
use Rattle.curve.proofs.Curve.first_bad_point.Goals as goal

pub returns : goal.returns
unfolding first_bad_point
returns c =
    let bad = bad_point (curve_of c.args.self.now) in
    lowest-found bad _ _ (first_from_Range _ _ _ _ (λ i. bad i ≡ true) (λ i. bad i ≡ false) c.find.ensures.ran (λ x q h. search rules) (λ x q h. search rules))
