-- The blends follow the model: each holds the sums of its entries, within the bounds, and took in admitted fuels alone.
use mathlib.Core.Path.{◌≡◌, refl, ap, subst}
use mathlib.Core.Bool.{true, false}
use mathlib.Core.List.{List, [], ◌∷◌, ◌++◌}
use Prim.Native.Nat.{ℕ, ◌+◌, ◌≤◌}
use native.Mathlib.Nat.{mul-le-mul_left}
use native.Mathlib.Omega.{arith}
use Rattle.std.proofs.lemmas.Bool.Decides.{nat_tests}
use lib.Dec.{ltb}
use lib.IntN.{nat_abs}
use borrow.Author.Tests.{ltb-false}
use Rattle.answer.specs.Numbers.{total_too_large}
use Rattle.answer.specs.Outcome.{Outcome, refused, answered}
use Rattle.elements.specs.declared.Atoms.{Atoms}
use Rattle.blend.specs.Limit.{lower, upper}
use Rattle.blend.specs.declared.Blend.{Blend}
use Rattle.blend.specs.Temperature.{meant}
use Rattle.blend.specs.Fuel.{Fuel, admitting, quarters}
use Rattle.blend.specs.Blend.{empty_blend, within, with_fuel, taking, adding, together, joining, Question, limits, telling, asking_marked, without_marks, asking}
use Rattle.blend.specs.Internal.{Within}
use Rattle.blend.specs.Calls.{Call, answer_to}
use Rattle.blend.specs.Model.{entry, Entries, sum, total, model_adds, model_joins, model_tells, model_asks_marked, model_asks, model}
use Rattle.blend.specs.Claims.{keeper, blends, entries, blend_answers, model_answers}
use Rattle.blend.proofs.Weights.{weight-least, weight-most}
use Rattle.blend.proofs.Bounds.{within-test}
use Rattle.blend.proofs.Admitted.{AdmittedFuel, admitted-fuel, AllAdmitted, none-admitted, one-admitted, append-admitted}
use Rattle.blend.proofs.Sums.{blend_of, sum-append, sum_one}
use Rattle.blend.proofs.LeChatelier.{blend-limit}
use Rattle.blend.proofs.Keepers.{Alike, refusing, answering, refuse-alike, Follows, answer-alike, after-hold, answers-alike}

record Represents (b : Blend) (es : Entries) : Type 0 where
  is : b ≡ blend_of es
  fit : Within (blend_of es)
  fuels : AllAdmitted es

empty-represents : Represents empty_blend []
unfolding sum
empty-represents = record { is = refl; fit = omega arith; fuels = none-admitted }

-- ADDING
module _ (es : Entries) (w : Within (blend_of es)) (a : Atoms) (known : AdmittedFuel a) (v : ℕ) where
  more-is : with_fuel (blend_of es) (quarters a) v ≡ blend_of (es ++ (entry a v ∷ []))
  more-is = grind (arith, sum-append, sum_one)

  more-fits : total es + v ≤ 1000000 → Within (with_fuel (blend_of es) (quarters a) v)
  more-fits m =
      let l₀ = mul-le-mul_left v (weight-least lower (quarters a) known.least) in
      let l₁ = mul-le-mul_left v (weight-most lower (quarters a) known.most) in
      let u₀ = mul-le-mul_left v (weight-least upper (quarters a) known.least) in
      let u₁ = mul-le-mul_left v (weight-most upper (quarters a) known.most) in
      omega arith

  more-represents : AllAdmitted (es ++ (entry a v ∷ [])) → ltb 1000000 (total es + v) ≡ false →
      Represents (with_fuel (blend_of es) (quarters a) v) (es ++ (entry a v ∷ []))
  more-represents g n = record { is = more-is; fit = subst Within more-is (more-fits (ltb-false 1000000 (total es + v) n)); fuels = g }

adds-alike : (b : Blend) (es : Entries) → Represents b es → (f : Fuel) (v : ℕ) → Alike Represents (adding b f v) (model_adds es f v)
unfolding adding taking model_adds
adds-alike b es h f v = go (admitting f) refl
  where
    go : (o : Outcome Atoms) → admitting f ≡ o → Alike Represents (adding b f v) (model_adds es f v)
    go (refused r) e = rw (h.is, within-test (blend_of es) h.fit, e) refusing
    go (answered a) e =
        let fuels = append-admitted es (entry a v ∷ []) h.fuels (one-admitted f a v e) in
        rw (h.is, within-test (blend_of es) h.fit, e)
        (refuse-alike total_too_large 0 (ltb 1000000 (total es + v)) (λ n. answering (more-represents es h.fit a (admitted-fuel f a e) v fuels n)))

-- JOINING
module _ (es fs : Entries) (w : Within (blend_of es)) (x : Within (blend_of fs)) where
  both_is : together (blend_of es) (blend_of fs) ≡ blend_of (es ++ fs)
  both_is = simp sum-append

  both-fit : total es + total fs ≤ 1000000 → Within (together (blend_of es) (blend_of fs))
  both-fit m = omega arith

  both-represent : AllAdmitted (es ++ fs) → ltb 1000000 (total es + total fs) ≡ false →
      Represents (together (blend_of es) (blend_of fs)) (es ++ fs)
  both-represent g n = record { is = both_is; fit = subst Within both_is (both-fit (ltb-false 1000000 (total es + total fs) n)); fuels = g }

joins-alike : (b c : Blend) (es fs : Entries) → Represents b es → Represents c fs → Alike Represents (joining b c) (model_joins es fs)
unfolding joining model_joins
joins-alike b c es fs h k =
    let fuels = append-admitted es fs h.fuels k.fuels in
    rw (h.is, k.is, within-test (blend_of es) h.fit, within-test (blend_of fs) k.fit)
    (refuse-alike total_too_large 0 (ltb 1000000 (total es + total fs)) (λ n. answering (both-represent es fs h.fit k.fit fuels n)))

-- ASKING
marked-alike : (b : Blend) (es : Entries) → Represents b es → (q : Question) → asking_marked b q ≡ model_asks_marked es q
unfolding asking_marked model_asks_marked telling model_tells
marked-alike b es h (limits t) =
    grind (arith, nat_tests, within-test (blend_of es), blend-limit lower (nat_abs (meant t)) es, blend-limit upper (nat_abs (meant t)) es)

asks-alike : (b : Blend) (es : Entries) → Represents b es → (q : Question) → asking b q ≡ model_asks es q
asks-alike b es h q = ap (without_marks q) (marked-alike b es h q)

-- EVERY LIST OF CALLS
follows : Follows Represents keeper model
follows = record { adds = adds-alike; joins = joins-alike; asks = asks-alike }

module _ (calls : List Call) where
  represents : (i : ℕ) → Represents (blends calls i) (entries calls i)
  represents = after-hold Represents keeper model follows (λ i. empty_blend) (λ i. []) (λ i. empty-represents) calls

  pub all_alike : blend_answers calls ≡ model_answers calls
  all_alike = answers-alike Represents keeper model follows (λ i. empty_blend) (λ i. []) (λ i. empty-represents) calls

  pub next-alike : (c : Call) → answer_to keeper (blends calls) c ≡ answer_to model (entries calls) c
  next-alike c = answer-alike Represents keeper model follows (blends calls) (entries calls) represents c

  pub by-model : (i : ℕ) (q : Question) → asking_marked (blends calls i) q ≡ model_asks_marked (entries calls i) q
  by-model i q = marked-alike (blends calls i) (entries calls i) (represents i) q

  pub in_bounds : (i : ℕ) → within (blends calls i) ≡ true
  in_bounds i = rw (represents i).is (within-test (blend_of (entries calls i)) (represents i).fit)

  pub all-admitted : (i : ℕ) → AllAdmitted (entries calls i)
  all-admitted i = (represents i).fuels
