-- The reference model, document 01's book: for each blend the list of entries that it took in, its page. It sees the calls alone.
use Rattle.std.specs.Prelude.{List, [], ◌∷◌, ◌++◌, ℕ, ◌+◌, ltb, eqb, nat_abs}
use Rattle.answer.specs.Numbers.{total_too_large, blend_empty, gas_temperature_outside}
use Rattle.answer.specs.Outcome.{Outcome, answered, refuse, and_then}
use Rattle.answer.specs.declared.Rounded.{Rounded}
use Rattle.rounding.specs.Fraction.{Fraction, whole, ◌⊞◌, ◌⊠◌, ◌⊘◌, rounded}
use Rattle.elements.specs.declared.Atoms.{Atoms}
use Rattle.blend.specs.Limit.{Side, lower, upper, limit_of}
use Rattle.blend.specs.Temperature.{meant, gas_outside, correction}
use Rattle.blend.specs.Fuel.{Fuel, admitting, quarters}
use Rattle.blend.specs.declared.LimitPair.{LimitPair}
use Rattle.blend.specs.Blend.{Question, limits, ToldMarked, Told, without_marks}
use Rattle.blend.specs.Calls.{Keeper}

-- an entry: a fuel, known by its atom counts, and its parts
pub record Entry : Type 0 where
  pub fuel : Atoms
  pub parts : ℕ

abbrev pub entry : Atoms → ℕ → Entry
entry a v = record { fuel = a; parts = v }

abbrev pub Entries : Type 0
Entries = List Entry

unfoldable pub sum : (Entry → ℕ) → Entries → ℕ
sum f [] = 0
sum f (e ∷ es) = f e + sum f es

abbrev pub total : Entries → ℕ
total es = sum (λ (e : Entry). e.parts) es

-- LE CHATELIER over the entries: V / Σ (v / limit), each fuel's limit unrounded, with its own branch
unfoldable pub fuel_limit : Side → Atoms → Fraction
fuel_limit s a = limit_of s (quarters a)

unfoldable pub shares : Side → Entries → Fraction
shares s [] = whole 0
shares s (e ∷ es) = (whole e.parts ⊘ fuel_limit s e.fuel) ⊞ shares s es

unfoldable pub le_chatelier : Side → Entries → Fraction
le_chatelier s es = whole (total es) ⊘ shares s es

-- at t, in percent; and as answered, in hundredths of a percent, rounded once
unfoldable pub limit_at : Side → Entries → ℕ → Fraction
limit_at s es t = le_chatelier s es ⊠ correction s t

unfoldable pub rounded_limit : Side → Entries → ℕ → Rounded ℕ
rounded_limit s es t = rounded (whole 100 ⊠ limit_at s es t)

abbrev pub rounded_limits : Entries → ℕ → LimitPair (Rounded ℕ)
rounded_limits es t = record { lower = rounded_limit lower es t; upper = rounded_limit upper es t }

abbrev pub limit_figure : Side → Entries → ℕ → ℕ
limit_figure s es t = (rounded_limit s es t).value

-- THE MODEL
-- the first of refusals 1 to 4 that applies to the fuel; else 8 if the total and the parts together exceed 1,000,000; else the entry is written at the end
unfoldable pub model_adds : Entries → Fuel → ℕ → Outcome Entries
model_adds es f v = and_then (admitting f) (λ a. refuse total_too_large 0 (ltb 1000000 (total es + v)) (answered (es ++ (entry a v ∷ []))))

-- 8 if the two totals together exceed 1,000,000; else the second's entries are copied to the end of the first's
unfoldable pub model_joins : Entries → Entries → Outcome Entries
model_joins es fs = refuse total_too_large 0 (ltb 1000000 (total es + total fs)) (answered (es ++ fs))

-- 9 at total 0; else, asked for limits, 10 if the temperature is not admitted; else both limits over the entries at t, rounded
unfoldable pub model_tells : Entries → (q : Question) → Outcome (ToldMarked q)
model_tells es (limits t) = refuse gas_temperature_outside 0 (gas_outside (meant t)) (answered (rounded_limits es (nat_abs (meant t))))

unfoldable pub model_asks_marked : Entries → (q : Question) → Outcome (ToldMarked q)
model_asks_marked es q = refuse blend_empty 0 (eqb (total es) 0) (model_tells es q)

-- without the marks
abbrev pub model_asks : Entries → (q : Question) → Outcome (Told q)
model_asks es q = without_marks q (model_asks_marked es q)

abbrev pub model : Keeper Entries
model = record { adds = model_adds; joins = model_joins; asks = model_asks }
