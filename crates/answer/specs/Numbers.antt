-- The refusal numbers of document 01's table, each with what it is given for, and its place where that is not 0.
use Rattle.std.specs.Prelude.{ℕ}
use Rattle.answer.specs.declared.Reason.{Reason}
use Rattle.answer.specs.declared.Reason.TheVariants.{NoFormula, CountTooLarge, ElementNotAdmitted, OxygenTooLow, HydrogenDiffers, NoCoefficient, BoilingPointOutside, TotalTooLarge, BlendEmpty, GasTemperatureOutside, BadCurve, TrueAtFirst, FalseAtLast, BadReading, BadSheet, UnknownMethod, NoRoom, DiffusionOutside, BlendOutOfBounds}

-- text is no formula (place: the length of its longest beginning that begins one), or all counts to be written are 0
abbrev pub no_formula : ℕ
no_formula = 1

-- an atom total or bond count exceeds 200 (place: element number, else 10 + bond kind, lowest)
abbrev pub count_too_large : ℕ
count_too_large = 2

-- element not admitted, or carbon missing (place: lowest element at fault)
abbrev pub element_not_admitted : ℕ
element_not_admitted = 3

-- β below 1/2
abbrev pub oxygen_too_low : ℕ
oxygen_too_low = 4

-- H atoms differ from H bonds
abbrev pub hydrogen_differs : ℕ
hydrogen_differs = 5

-- a bond with count above 0 has no coefficient (place: lowest kind)
abbrev pub no_coefficient : ℕ
no_coefficient = 6

-- boiling point outside −200.00 to 600.00
abbrev pub boiling_point_outside : ℕ
boiling_point_outside = 7

-- the blend's total would exceed 1,000,000
abbrev pub total_too_large : ℕ
total_too_large = 8

-- limits asked of a blend with total 0
abbrev pub blend_empty : ℕ
blend_empty = 9

-- gas temperature outside 0.00 to 200.00
abbrev pub gas_temperature_outside : ℕ
gas_temperature_outside = 10

-- bad curve (place: first bad point from 0)
abbrev pub bad_curve : ℕ
bad_curve = 11

-- condition true at the first point
abbrev pub true_at_first : ℕ
true_at_first = 12

-- condition false at the last point
abbrev pub false_at_last : ℕ
false_at_last = 13

-- analyser method bad, else reading bad (place 1)
abbrev pub bad_reading : ℕ
bad_reading = 14

-- bad sheet (place: record, header 0)
abbrev pub bad_sheet : ℕ
bad_sheet = 15

-- unknown method or class number
abbrev pub unknown_method : ℕ
unknown_method = 16

-- output longer than the room lent
abbrev pub no_room : ℕ
no_room = 17

-- diffusion coefficient outside 1 to 20,000
abbrev pub diffusion_outside : ℕ
diffusion_outside = 18

-- a blend handed in is out of bounds (place 1 if only the second is)
abbrev pub blend_out_of_bounds : ℕ
blend_out_of_bounds = 28

-- the number of a reason
abbrev pub number_of : Reason → ℕ
number_of NoFormula = no_formula
number_of CountTooLarge = count_too_large
number_of ElementNotAdmitted = element_not_admitted
number_of OxygenTooLow = oxygen_too_low
number_of HydrogenDiffers = hydrogen_differs
number_of NoCoefficient = no_coefficient
number_of BoilingPointOutside = boiling_point_outside
number_of TotalTooLarge = total_too_large
number_of BlendEmpty = blend_empty
number_of GasTemperatureOutside = gas_temperature_outside
number_of BadCurve = bad_curve
number_of TrueAtFirst = true_at_first
number_of FalseAtLast = false_at_last
number_of BadReading = bad_reading
number_of BadSheet = bad_sheet
number_of UnknownMethod = unknown_method
number_of NoRoom = no_room
number_of DiffusionOutside = diffusion_outside
number_of BlendOutOfBounds = blend_out_of_bounds
