-- A fuel alone: the paper's formula is Le Chatelier's rule over an entry of 1 part, and what a blend of it at 1 part answers.
use mathlib.Core.Path.{◌≡◌, sym, ap, ◌∙◌}
use mathlib.Core.List.{[], ◌∷◌}
use Rattle.std.specs.Prelude.{Option}
use Prim.Native.Nat.{ℕ}
use native.Mathlib.Omega.{arith}
use Rattle.std.proofs.lemmas.Bool.Decides.{nat_tests}
use lib.IntN.{ℤ}
use Rattle.answer.specs.Outcome.{Outcome, answered, value_of, and_then}
use Rattle.answer.specs.declared.Rounded.{Rounded}
use Rattle.rounding.proofs.Fractions.{is_same}
use Rattle.elements.specs.declared.Atoms.{Atoms}
use Rattle.blend.specs.Limit.{Side}
use Rattle.blend.specs.declared.Blend.{Blend}
use Rattle.blend.specs.Fuel.{Fuel, counts, fuel_atoms, admitting, quarters}
use Rattle.blend.specs.declared.LimitPair.{LimitPair}
use Rattle.blend.specs.Blend.{limits, empty_blend, adding, asking_marked}
use Rattle.blend.specs.Calls.{add, changed, put, answer_to, next, after}
use Rattle.blend.specs.Model.{entry, Entries, sum, limit_at, rounded_limit, model_adds, model_tells, model_asks_marked}
use Rattle.blend.proofs.Weights.{limit_is}
use Rattle.blend.proofs.Admitted.{quarters_of}
use Rattle.blend.proofs.LeChatelier.{same_at, le-chatelier-is}
use Rattle.blend.proofs.Theorem.{claims, marks-alike}
use Rattle.limits.specs.FuelLimits.{rounded_fuel_limit, fuel_limits, AsBlend}

-- LE CHATELIER over one entry of 1 part
abbrev single : Atoms → Entries
single a = entry a 1 ∷ []

alone-figure : (s : Side) (a : Atoms) (t : ℕ) → rounded_limit s (single a) t ≡ rounded_fuel_limit s (quarters a) t
unfolding rounded_limit limit_at rounded_fuel_limit sum
alone-figure s a t =
    let i = le-chatelier-is s (single a) (omega arith) in
    same_at s t i (is_same (limit_is s (quarters a)) i.pos (omega arith))

-- AS THE MODEL
module _ (t : Option ℤ) where
  abbrev modelled : Outcome Entries → Outcome (LimitPair (Rounded ℕ))
  modelled o = and_then o (λ es. model_asks_marked es (limits t))

  by-model : (f : Fuel) → and_then (fuel_atoms f) (fuel_limits t) ≡ modelled (model_adds [] f 1)
  unfolding model_adds admitting sum fuel_limits model_tells model_asks_marked
  by-model f = grind (arith, nat_tests, quarters_of, alone-figure)

-- AS A BLEND
module _ (f : Fuel) (t : Option ℤ) where
  same_asked : (o : Outcome Blend) (m : Outcome Entries) → changed o ≡ changed m → asking_marked (value_of empty_blend o) (limits t) ≡ model_asks_marked (value_of [] m) (limits t)
      → and_then o (λ b. asking_marked b (limits t)) ≡ modelled t m
  same_asked o m e h = grind (arith, nat_tests)

  pub as-blend : AsBlend f t
  unfolding answer_to after next put
  as-blend =
      let both = same_asked (adding empty_blend f 1) (model_adds [] f 1) ((claims []).next (add 0 f 1)) ((marks-alike (add 0 f 1 ∷ [])).by_entries 0 (limits t)) in
      record { of_blend = by-model t f ∙ sym both; of_model = by-model t f }

-- of a fuel given by its counts
pub by_blend : (t : Option ℤ) (a : Atoms) → fuel_limits t a ≡ and_then (adding empty_blend (counts a) 1) (λ b. asking_marked b (limits t))
by_blend t a = (as-blend (counts a) t).of_blend

-- what an empty blend answers that took 1 part
pub by_adding : (t : Option ℤ) (a : Atoms) {e b : Blend} {x : Outcome (LimitPair (Rounded ℕ))} → e ≡ empty_blend → answered b ≡ adding e (counts a) 1 →
    x ≡ asking_marked b (limits t) → x ≡ fuel_limits t a
by_adding t a p q r = r ∙ sym (by_blend t a ∙ ap (λ (o : Outcome Blend). and_then o (λ b. asking_marked b (limits t))) (ap (λ (e : Blend). adding e (counts a) 1) (sym p) ∙ sym q))
