-- The worked examples, by computing each answer on the definitions: their number, then a `refl` for each, ten at a time.
use mathlib.Core.Path.{refl}
use lib.Ieee.{round}
use lib.ListN.{drop}
use Rattle.answer.specs.Lowest.{lowest}
use Rattle.answer.specs.Outside.{outside}
use Rattle.answer.specs.Methods.{method_named}
use Rattle.rounding.specs.Round.{rounded_value, mark_of, round_div, round_div_ℤ}
use Rattle.rounding.specs.Fraction.{◌over◌, whole, ◌⊞◌, ◌⊠◌, ◌⊘◌, rounded, at_most}
use Rattle.text.specs.Decimal.{decimal, digit_from}
use Rattle.csv_form.specs.Lines.{crlf, comma, lines, fields, before, plain}
use Rattle.csv_form.specs.Sheet.{headed, records, formed, good_record}
use Rattle.elements.specs.Elements.{first_above}
use Rattle.formula.specs.Reader.{symbol_of, multiple_of, read_item, read_items}
use Rattle.formula.specs.Reading.{reading, formula_read}
use Rattle.oxygen.specs.Beta.{beta}
use Rattle.oxygen.specs.Admission.{not_admitted, admission}
use Rattle.oxygen.specs.Stoichiometric.{stoichiometric, stoichiometric_fraction}
use Rattle.blend.specs.Limit.{slope, constant, divisor, limit_of}
use Rattle.blend.specs.Temperature.{correction}
use Rattle.blend.specs.Fuel.{molar_mass, admitting}
use Rattle.blend.specs.Blend.{held, weight, sum_within, within, taking, adding, rounded_blend_limit, telling, asking_marked}
use Rattle.limits.specs.FuelLimits.{rounded_fuel_limit, fuel_limits}
use Rattle.limits.specs.Concentration.{molar_volume, concentration, mass_concentration}
use Rattle.bonds.specs.Kinds.{above_at, hydrogen_unbalanced}
use Rattle.flash.specs.Tables.{coefficients, methods, classes}
use Rattle.flash.specs.Points.{missing, no_coefficient_at, line_terms, bond_term, terms, class_terms, sum_from, by_bonds, by_class}
use Rattle.curve.specs.Smallest.{smallest, searched}
use Rattle.curve.specs.Curve.{sizes, out_of_range, rising, bad_point, first_bad_point, accepting, between, segment_of, pressure_at, on_curve}
use Rattle.ignition.specs.Questions.{part_of_pressure, reaches, with_limit, lower_temperature_limit, threshold, product, ignites, with_oxygen, flash_by_curve}
use Rattle.analyser.specs.Reading.{up_to, good_method, converted, measured, parts_of}
use Rattle.sheet.specs.Mixture.{is_parts, spelled_from, adding_all, sheet_answer}
use Rattle.sheet.specs.Answer.{percent, limits_line, answer_line, answer_text}
use Rattle.worked.specs.Worked.{examples, AsPrinted}
use Rattle.worked.proofs.worked_examples.Goals as goal

pub returns-clause-printed : goal.returns-clause-printed
unfolding method_named reading formula_read read_items read_item symbol_of multiple_of digit_from first_above lowest outside
    beta admission not_admitted stoichiometric_fraction stoichiometric slope constant divisor limit_of correction rounded_fuel_limit fuel_limits
    molar_mass molar_volume concentration mass_concentration rounded_value mark_of round_div round_div_ℤ ◌over◌ whole ◌⊞◌ ◌⊠◌ ◌⊘◌ rounded at_most
    above_at hydrogen_unbalanced coefficients methods classes missing no_coefficient_at line_terms bond_term terms class_terms sum_from by_bonds by_class
    smallest searched sizes out_of_range rising bad_point first_bad_point accepting between segment_of pressure_at on_curve
    part_of_pressure reaches with_limit lower_temperature_limit threshold product ignites with_oxygen flash_by_curve
    admitting held weight sum_within within taking adding rounded_blend_limit telling asking_marked
    crlf comma lines fields before plain headed records formed good_record is_parts spelled_from adding_all sheet_answer
    round up_to good_method converted measured parts_of
    decimal percent limits_line answer_line answer_text
returns-clause-printed c =
    let from-30 : AsPrinted (drop 30 examples) = (refl, (refl, (refl, tt))) in
    let from-20 : AsPrinted (drop 20 examples) = (refl, (refl, (refl, (refl, (refl, (refl, (refl, (refl, (refl, (refl, from-30)))))))))) in
    let from-10 : AsPrinted (drop 10 examples) = (refl, (refl, (refl, (refl, (refl, (refl, (refl, (refl, (refl, (refl, from-20)))))))))) in
    (refl, (refl, (refl, (refl, (refl, (refl, (refl, (refl, (refl, (refl, from-10))))))))))
