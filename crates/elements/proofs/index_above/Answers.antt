-- Both lists have ten counts.
use Rattle.std.proofs.Common.{◌≡◌, length, rules, arith}
use Rattle.std.proofs.lemmas.Slice.Zip.{length-zip}
use Rattle.elements.proofs.index_above.Goals as goal

pub returns-clause-ten : goal.returns-clause-ten
returns-clause-ten c =
    let a : length c.args.bounds.count ≡ 10 = search rules in
    let b : length c.args.atoms.count ≡ 10 = search rules in
    omega (arith, length-zip c.args.bounds.count c.args.atoms.count)
