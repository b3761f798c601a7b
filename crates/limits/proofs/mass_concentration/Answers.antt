-- `mass_concentration` meets its contract: where limits were answered, the fuel is light and the temperature small, and each rate is a concentration.
use Rattle.std.proofs.Common.{sym, arith}
use Rattle.std.proofs.Math.Facts.{to_z-of_z}
use Rattle.blend.proofs.Masses.{mass-most}
use Rattle.limits.specs.Concentration.{mass_concentration}
use Rattle.limits.proofs.Concentrations.{concentration-is, asked-facts}
use Rattle.limits.proofs.mass_concentration.Goals as goal

pub rate_of-requires : goal.rate_of-requires
rate_of-requires c =
    let k = asked-facts c.args.fuel _ _ (sym c.in_ok-limits.ensures.value) in
    let most = c.in_ok-limits.ensures.at_most in
    (omega (arith, c.molar_mass-mass.ensures.value, mass-most _ k.0), omega (arith, c.size-t.ensures, k.1), omega (arith, most.0, most.1))

pub rate_of-requires-2 : goal.rate_of-requires-2
rate_of-requires-2 c =
    let k = asked-facts c.args.fuel _ _ (sym c.in_ok-limits.ensures.value) in
    let most = c.in_ok-limits.ensures.at_most in
    (omega (arith, c.molar_mass-mass.ensures.value, mass-most _ k.0), omega (arith, c.size-t.ensures, k.1), omega (arith, most.0, most.1))

pub returns : goal.returns
unfolding mass_concentration
returns c =
    let same = to_z-of_z c.ranges.temperature in
    let asked = rw same at c.in_ok-limits.ensures.value in
    let few = (asked-facts c.args.fuel _ _ (sym asked)).0 in
    rw (← asked, c.rate_of.ensures, c.rate_of-2.ensures, c.molar_mass-mass.ensures.value, c.size-t.ensures, same) (simp (concentration-is c.args.fuel few))
