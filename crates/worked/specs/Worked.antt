-- The worked examples: the figures that document 01 marks for proof, as change requests amend them, and figures added with those; each question with its
-- printed answer as the answer's struct has it, and each rounded figure with its mark: 0 exact, 1 raised, 2 lowered.
use Rattle.std.specs.Prelude.{◌≡◌, List, [], ◌∷◌, false, cond, ℕ, zero, suc, ◌^◌, eqb, ℤ, pos, neg_ℤ, Float, Some, None}
use Prim.Native.String.{String}
use Rattle.std.specs.Float.{binary64}
use Rattle.std.specs.Float.Ieee.{round}
use Rattle.answer.specs.declared.Refusal.{Refusal}
use Rattle.answer.specs.declared.Figure.{Figure}
use Rattle.answer.specs.declared.Temperature.{Temperature}
use Rattle.answer.specs.declared.RoundedFigure.{RoundedFigure}
use Rattle.answer.specs.declared.RoundedTemperature.{RoundedTemperature}
use Rattle.answer.specs.Outcome.{unless, shown_figure, shown_temperature, shown_rounded, shown_rounded_temperature}
use Rattle.text.specs.Bytes.{bytes}
use Rattle.elements.specs.declared.Atoms.{Atoms}
use Rattle.formula.specs.declared.FormulaRead.{FormulaRead}
use Rattle.formula.specs.Reading.{formula_read, of_text}
use Rattle.oxygen.specs.Admission.{oxygen_coefficient}
use Rattle.oxygen.specs.Stoichiometric.{stoichiometric_fraction}
use Rattle.blend.specs.Limit.{fit_temperature}
use Rattle.blend.specs.declared.Limits.{Limits}
use Rattle.blend.specs.Blend.{shown_limits}
use Rattle.limits.specs.FuelLimits.{fuel_limits}
use Rattle.limits.specs.Concentration.{mass_concentration}
use Rattle.bonds.specs.declared.Bonds.{Bonds}
use Rattle.flash.specs.Points.{by_bonds, by_class}
use Rattle.curve.specs.Curve.{Curve, curve}
use Rattle.ignition.specs.Questions.{lower_temperature_limit, flash_by_curve}
use Rattle.analyser.specs.declared.Reading.TheVariants.{Percent, Ppm}
use Rattle.analyser.specs.Reading.{method_of, parts_of}
use Rattle.sheet.specs.Mixture.{sheet_answer}
use Rattle.sheet.specs.Answer.{answer_text}

-- what is asked, of a formula text, a reading or a mixture sheet; temperatures are hundredths of a degree
pub data Case : Type 0 where
  -- the atom counts
  formula : String → Case
  -- β, in quarters
  coefficient : String → Case
  -- the stoichiometric fraction, document 01's share
  fraction : String → Case
  -- both limits at the temperature of their formulas' fit, at another, and without a temperature
  limits : String → Case
  limits_at : String → ℕ → Case
  limits_usual : String → Case
  -- the mass concentrations at both limits
  concentrations : String → ℕ → Case
  -- the flash or fire point: the method, the bonds by kind and count, the boiling point
  flash : ℕ → String → List (ℕ × ℕ) → ℕ → Case
  -- the flash point from a class and the boiling point
  flash_of_class : ℕ → ℕ → Case
  -- the lower temperature limit on the curve below, and the flash or fire point there with a diffusion coefficient
  lower_temperature : String → Case
  flash_on_curve : ℕ → String → ℕ → Case
  -- the parts of an analyser's reading in percent or ppm: detection limit and reading, each the double nearest to a fraction; the ceiling is 100 %
  percentage : (limit reading : ℕ × ℕ) → Case
  ppm : (limit reading : ℕ × ℕ) → Case
  -- both limits of a mixture sheet, and the text with which it is answered
  sheet_limits : String → Case
  sheet : String → Case

-- what is printed: a refusal's number and place; the counts of C H O N S P F Cl Br Si; β in quarters; figures in hundredths, each with its mark; hundredths of
-- a degree, found on a curve or rounded, with the mark; parts with their mark; or text
pub data Printed : Type 0 where
  refusal : (number place : ℕ) → Printed
  counts : List ℕ → Printed
  in_quarters : ℕ → Printed
  figures : List (ℕ × ℕ) → Printed
  degrees : ℤ → Printed
  marked_degrees : ℤ → ℕ → Printed
  parts : ℕ → ℕ → Printed
  lines : List ℕ → Printed

-- of an answer by its struct: its refusal, or its other fields
abbrev pub printed_unless : Refusal → Printed → Printed
printed_unless r p = unless r (refusal r.number r.place) p

abbrev pub printed_formula : FormulaRead → Printed
printed_formula r = printed_unless r.refusal (counts r.atoms.count)

abbrev pub printed_coefficient : Figure → Printed
printed_coefficient r = printed_unless r.refusal (in_quarters r.value)

abbrev pub printed_figure : RoundedFigure → Printed
printed_figure r = printed_unless r.refusal (figures ((r.value, r.mark) ∷ []))

abbrev pub printed_limits : Limits → Printed
printed_limits r = printed_unless r.refusal (figures ((r.lower, r.lower_mark) ∷ (r.upper, r.upper_mark) ∷ []))

abbrev pub printed_point : RoundedTemperature → Printed
printed_point r = printed_unless r.refusal (marked_degrees r.value r.mark)

abbrev pub printed_parts : RoundedFigure → Printed
printed_parts r = printed_unless r.refusal (parts r.value r.mark)

abbrev pub printed_temperature : Temperature → Printed
printed_temperature r = printed_unless r.refusal (degrees r.value)

abbrev pub count_of_kind : List (ℕ × ℕ) → ℕ → ℕ
count_of_kind [] k = 0
count_of_kind (p ∷ kinds) k = cond (eqb p.0 k) p.1 (count_of_kind kinds k)

-- the counts of kinds k, k + 1, .. (n of them)
abbrev pub counts_from : List (ℕ × ℕ) → ℕ → ℕ → List ℕ
counts_from kinds k zero = []
counts_from kinds k (suc n) = count_of_kind kinds k ∷ counts_from kinds (suc k) n

abbrev pub bonds_of : List (ℕ × ℕ) → Bonds
bonds_of kinds = record { count = counts_from kinds 1 22 }

-- (0.00, 1000), (10.00, 2000), (20.00, 4000)
abbrev pub worked_curve : Curve
worked_curve = curve (pos 0 ∷ pos 1000 ∷ pos 2000 ∷ []) (1000 ∷ 2000 ∷ 4000 ∷ [])

-- the double nearest to n / d
abbrev pub double : ℕ × ℕ → Float
double f = round binary64 false f.0 f.1

abbrev pub answer : Case → Printed
answer (formula t) = printed_formula (formula_read (bytes t))
answer (coefficient t) = printed_coefficient (shown_figure (of_text oxygen_coefficient (bytes t)))
answer (fraction t) = printed_figure (shown_rounded (of_text stoichiometric_fraction (bytes t)))
answer (limits t) = printed_limits (shown_limits (of_text (fuel_limits (Some fit_temperature)) (bytes t)))
answer (limits_at t k) = printed_limits (shown_limits (of_text (fuel_limits (Some (pos k))) (bytes t)))
answer (limits_usual t) = printed_limits (shown_limits (of_text (fuel_limits None) (bytes t)))
answer (concentrations t k) = printed_limits (shown_limits (of_text (mass_concentration (pos k)) (bytes t)))
answer (flash m t kinds boiling) = printed_point (shown_rounded_temperature (of_text (λ (a : Atoms). by_bonds m a (bonds_of kinds) (pos boiling)) (bytes t)))
answer (flash_of_class k boiling) = printed_point (shown_rounded_temperature (by_class k (pos boiling)))
answer (lower_temperature t) = printed_temperature (shown_temperature (of_text (λ (a : Atoms). lower_temperature_limit a worked_curve) (bytes t)))
answer (flash_on_curve m t diffusion) = printed_temperature (shown_temperature (of_text (λ (a : Atoms). flash_by_curve m a diffusion worked_curve) (bytes t)))
answer (percentage limit x) = printed_parts (shown_rounded (parts_of (method_of (double limit) (double (100, 1))) (Percent (double x))))
answer (ppm limit x) = printed_parts (shown_rounded (parts_of (method_of (double limit) (double (1000000, 1))) (Ppm (double x))))
answer (sheet_limits t) = printed_limits (shown_limits (sheet_answer (bytes t)))
answer (sheet t) = lines (answer_text (shown_limits (sheet_answer (bytes t))))

pub record Example : Type 0 where
  pub asked : Case
  pub printed : Printed

abbrev pub examples : List Example
examples =
    record { asked = formula "CH3CH(OH)CH3"; printed = counts (3 ∷ 8 ∷ 1 ∷ 0 ∷ 0 ∷ 0 ∷ 0 ∷ 0 ∷ 0 ∷ 0 ∷ []) }
    ∷ record { asked = formula "c"; printed = refusal 1 0 }
    ∷ record { asked = limits "CH4"; printed = figures ((454, 1) ∷ (2732, 2) ∷ []) }
    ∷ record { asked = limits_usual "CH4"; printed = figures ((455, 2) ∷ (2715, 2) ∷ []) }
    ∷ record { asked = fraction "CH4"; printed = figures ((936, 2) ∷ []) }
    ∷ record { asked = limits_at "CH4" 13400; printed = figures ((414, 2) ∷ (3099, 2) ∷ []) }
    ∷ record { asked = limits_at "CH3Cl" 18530; printed = figures ((492, 2) ∷ (4150, 2) ∷ []) }
    ∷ record { asked = limits_at "CH2O" 6966; printed = figures ((722, 1) ∷ (5000, 0) ∷ []) }
    ∷ record { asked = concentrations "CH4" 13400; printed = figures ((1983, 1) ∷ (14841, 2) ∷ []) }
    ∷ record { asked = concentrations "CH3Cl" 2000; printed = figures ((11903, 2) ∷ (72322, 2) ∷ []) }
    ∷ record { asked = coefficient "C6H6"; printed = in_quarters 30 }
    ∷ record { asked = limits "C6H6"; printed = figures ((143, 2) ∷ (821, 1) ∷ []) }
    ∷ record { asked = limits_usual "C6H6"; printed = figures ((144, 1) ∷ (816, 1) ∷ []) }
    ∷ record { asked = limits "CO2"; printed = refusal 4 0 }
    ∷ record { asked = flash 1 "C2H5OH" ((1, 1) ∷ (4, 5) ∷ (5, 1) ∷ (18, 1) ∷ []) 7840; printed = marked_degrees (pos 839) 2 }
    ∷ record { asked = flash 2 "C2H5OH" ((1, 1) ∷ (4, 5) ∷ (5, 1) ∷ (18, 1) ∷ []) 7840; printed = marked_degrees (pos 1336) 1 }
    ∷ record { asked = flash 3 "C2H5OH" ((1, 1) ∷ (4, 5) ∷ (5, 1) ∷ (18, 1) ∷ []) 7840; printed = marked_degrees (pos 1891) 2 }
    ∷ record { asked = flash 1 "C6H6" ((2, 6) ∷ (4, 6) ∷ []) 8005; printed = marked_degrees (neg_ℤ (pos 1544)) 1 }
    ∷ record { asked = flash_of_class 1 500; printed = marked_degrees (neg_ℤ (pos 6976)) 1 }
    ∷ record { asked = flash_of_class 1 0; printed = marked_degrees (neg_ℤ (pos 7322)) 0 }
    ∷ record { asked = lower_temperature "C2H6"; printed = degrees (pos 1444) }
    ∷ record { asked = lower_temperature "CH4"; printed = refusal 13 0 }
    ∷ record { asked = flash_on_curve 1 "C6H6" 800; printed = degrees (pos 669) }
    ∷ record { asked = percentage (0, 1) (454, 100); printed = parts 45400 2 }
    ∷ record { asked = percentage (0, 1) (35, 100000); printed = parts 3 2 }
    ∷ record { asked = percentage (0, 1) (1, 2 ^ 1074); printed = parts 0 2 }
    ∷ record { asked = ppm (0, 1) (1, 2); printed = parts 1 1 }
    ∷ record { asked = ppm (0, 1) (1, 10 ^ 300); printed = parts 0 2 }
    ∷ record { asked = ppm (0, 1) (0, 1); printed = parts 0 0 }
    ∷ record { asked = ppm (4, 10) (4, 10); printed = parts 0 2 }
    ∷ record { asked = ppm (5, 10) (4, 10); printed = parts 0 0 }
    ∷ record { asked = sheet_limits "formula,parts\r\nC3H8,300000\r\nC2H6,700000\r\n"; printed = figures ((258, 1) ∷ (1487, 2) ∷ []) }
    ∷ record { asked = sheet "formula,parts\r\nC3H8,300000\r\nC2H6,700000\r\n"; printed = lines (bytes "answer,record,lower,upper\r\n0,0,2.58,14.87\r\n") }
    ∷ []

-- every answer is the printed one
abbrev pub AsPrinted : List Example → Type 0
AsPrinted [] = Unit {0}
AsPrinted (e ∷ es) = (answer e.asked ≡ e.printed) × AsPrinted es

abbrev pub AllAsPrinted : Type 0
AllAsPrinted = AsPrinted examples
