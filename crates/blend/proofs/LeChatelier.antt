-- Le Chatelier's limit over entries goes by their total and the sum of their weights alone, and is the limit of the blend that holds those.
use mathlib.Core.Path.{◌≡◌, refl, sym, ◌∙◌}
use mathlib.Core.List.{[], ◌∷◌}
use Prim.Native.Nat.{ℕ, ◌*◌, ◌≤◌, ◌<◌}
use native.Mathlib.Nat.{le_refl, mul-le-mul_left, mul-pos}
use native.Mathlib.Omega.{arith}
use Rattle.std.proofs.lemmas.Bool.Decides.{nat_tests}
use lib.IntN.{nat_abs}
use Rattle.rounding.specs.Fraction.{Fraction, ◌over◌, whole, ◌⊠◌, ◌⊘◌, rounded}
use Rattle.rounding.proofs.Fractions.{Is, is-over, is_whole, is-plus, is-times, is-by, is_same, rounded-is}
use Rattle.blend.specs.Limit.{Side, lower, upper}
use Rattle.blend.specs.declared.Blend.{Blend}
use Rattle.blend.specs.Temperature.{meant, correction, OneAtFit}
use Rattle.blend.specs.Fuel.{quarters}
use Rattle.blend.specs.Blend.{Question, limits, sum_of, unit, held, rounded_blend_limit}
use Rattle.blend.specs.Model.{Entry, Entries, sum, total, fuel_limit, shares, le_chatelier, limit_at, rounded_limit, model_tells, model_asks_marked}
use Rattle.blend.proofs.Weights.{unit-positive, limit_is, weight-positive}
use Rattle.blend.proofs.Sums.{weighs, blend_of, Times}

pub correction-is : (s : Side) (t : ℕ) → Is (correction s t) (correction s t).num (correction s t).den
unfolding correction ◌over◌
correction-is lower t = is-over _ _ (omega arith)
correction-is upper t = is-over _ _ (omega arith)

pub one-at-fit : OneAtFit
unfolding correction ◌over◌ whole
one-at-fit lower = record { left_over = omega arith; right_over = omega arith; cross = refl }
one-at-fit upper = record { left_over = omega arith; right_over = omega arith; cross = refl }

sum-held : (s : Side) (es : Entries) → sum_of s (blend_of es) ≡ sum (weighs s) es
sum-held lower es = refl
sum-held upper es = refl

module _ (s : Side) where
  -- entries with parts have weight
  total-weighs : (es : Entries) → total es ≤ sum (weighs s) es
  unfolding sum
  total-weighs [] = le_refl 0
  total-weighs (e ∷ es) =
      let a = mul-le-mul_left e.parts (weight-positive s (quarters e.fuel)) in
      let b = total-weighs es in
      omega arith

  share-is : (e : Entry) → Is (whole e.parts ⊘ fuel_limit s e.fuel) (weighs s e) (100 * unit s)
  unfolding fuel_limit
  share-is e =
      let u = unit-positive s in
      is_same (is-by (is_whole e.parts) (limit_is s (quarters e.fuel)) (omega arith)) (omega arith) (omega arith)

  shares-is : (es : Entries) → Is (shares s es) (sum (weighs s) es) (100 * unit s)
  unfolding shares sum
  shares-is [] = let u = unit-positive s in is_same (is_whole 0) (omega arith) (omega arith)
  shares-is (e ∷ es) = is-plus (share-is e) (shares-is es)

  pub le-chatelier-is : (es : Entries) → 0 < total es → Is (le_chatelier s es) (total es * (100 * unit s)) (sum (weighs s) es)
  unfolding le_chatelier
  le-chatelier-is es h =
      let w : 0 < sum (weighs s) es = omega (arith, total-weighs es) in
      is_same (is-by (is_whole (total es)) (shares-is es) w) w (omega arith)

  -- the same from the total and the sum that a blend holds
  pub from-sums-is : (b : Blend) → 0 < sum_of s b → Is (whole b.total ⊘ (held s b ⊘ whole 100)) (b.total * (100 * unit s)) (sum_of s b)
  unfolding held
  from-sums-is b h =
      let u = unit-positive s in
      let sum_over = is-over (sum_of s b) (unit s) u in
      let hundredth = is_same {m = sum_of s b} {e = 100 * unit s} (is-by sum_over (is_whole 100) (omega arith)) (omega arith) (omega arith) in
      is_same (is-by (is_whole b.total) hundredth h) h (omega arith)

  -- one value, one figure and mark
  module _ (t : ℕ) where
    pub same_at : {f g : Fraction} {n d : ℕ} → Is f n d → Is g n d → rounded (whole 100 ⊠ (f ⊠ correction s t)) ≡ rounded (whole 100 ⊠ (g ⊠ correction s t))
    same_at i j = rounded-is (is-times (is_whole 100) (is-times i (correction-is s t))) ∙ sym (rounded-is (is-times (is_whole 100) (is-times j (correction-is s t))))

    pub blend-limit : (es : Entries) → 0 < total es → rounded_blend_limit s (blend_of es) t ≡ rounded_limit s es t
    unfolding rounded_blend_limit rounded_limit limit_at
    blend-limit es h =
        let w : 0 < sum (weighs s) es = omega (arith, total-weighs es) in
        same_at (rw (sum-held s es) at (from-sums-is (blend_of es) (rw (sum-held s es) w))) (le-chatelier-is es h)

    limit-times : (k : ℕ) (es fs : Entries) → Times k es fs → 0 < total es → 0 < total fs → rounded_limit s es t ≡ rounded_limit s fs t
    unfolding rounded_limit limit_at
    limit-times k es fs x h g =
        let j = le-chatelier-is fs g in
        same_at (is_same (le-chatelier-is es h) j.pos (rw (x.total_times, x.weight_times s) (omega arith))) j

-- entries with k times the figures of others answer as those
module _ (k : ℕ) (es fs : Entries) (x : Times k es fs) where
  pub asks-times : 0 < k → (q : Question) → model_asks_marked es q ≡ model_asks_marked fs q
  unfolding model_asks_marked model_tells
  asks-times p (limits t) =
      grind (
        arith,
        nat_tests,
        mul-pos {m = k} {n = total fs},
        x.total_times,
        limit-times lower (nat_abs (meant t)) k es fs x,
        limit-times upper (nat_abs (meant t)) k es fs x,
      )
