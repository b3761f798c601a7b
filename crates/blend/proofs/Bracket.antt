-- The limit of entries lies between those that two of their fuels have alone.
use mathlib.Core.Path.{◌≡◌, refl, sym, ap}
use mathlib.Core.Logic.{◌⊎◌, inl, inr, ⊎_elim}
use mathlib.Core.List.{[], ◌∷◌, Memᴰ}
use Prim.Native.Nat.{ℕ, ◌+◌, ◌*◌, ◌≤◌, ◌<◌}
use native.Mathlib.Nat.{le_trans, le_of_eq, mul-le-mul_left, mul-le-mul_right, add-le-add, eq-zero-or-pos}
use native.Mathlib.Decide.{dec_lt}
use native.Mathlib.Omega.{arith}
use Rattle.rounding.specs.Fraction.{Fraction, ◌⊑◌}
use Rattle.rounding.proofs.Fractions.{at-most-is, at-most-times}
use Rattle.elements.specs.declared.Atoms.{Atoms}
use Rattle.blend.specs.Limit.{Side}
use Rattle.blend.specs.Temperature.{correction}
use Rattle.blend.specs.Blend.{unit}
use Rattle.blend.specs.Model.{Entry, Entries, sum, total, limit_at}
use Rattle.blend.specs.Claims.{alone}
use Rattle.blend.proofs.Sums.{weight_of, weighs}
use Rattle.blend.proofs.LeChatelier.{correction-is, le-chatelier-is}

-- WITNESSES. For an order in which any two numbers compare, and which sums and multiples keep: ≤ and ≥.
record Order (R : ℕ → ℕ → Type 0) : Type 0 where
  eq : {a b : ℕ} → a ≡ b → R a b
  trans : {a b c : ℕ} → R a b → R b c → R a c
  plus : {a b c d : ℕ} → R a b → R c d → R (a + c) (b + d)
  times : {a b : ℕ} (k : ℕ) → R a b → R (k * a) (k * b)
  either : (a b : ℕ) → R a b ⊎ R b a

-- each fuel with a weight of its own
module _ (w : Atoms → ℕ) where
  abbrev weigh : Entry → ℕ
  weigh e = e.parts * w e.fuel

  -- no parts, no weight
  none-weighs : (es : Entries) → total es ≡ 0 → sum weigh es ≡ 0
  unfolding sum
  none-weighs [] h = refl
  none-weighs (e ∷ es) h = grind (arith, none-weighs es (omega arith))

  module _ (R : ℕ → ℕ → Type 0) (o : Order R) where
    open o use {eq, trans, plus, times, either}

    -- some fuel with parts above zero, at whose weight the total would weigh no less, in that order, than the entries
    abbrev Extreme : Entries → Type 0
    Extreme es = (e : Entry) × Memᴰ e es × (0 < e.parts) × R (sum weigh es) (total es * w e.fuel)

    first : (e : Entry) (es : Entries) → 0 < e.parts → R (sum weigh es) (total es * w e.fuel) → Extreme (e ∷ es)
    unfolding sum
    first e es v r =
        let q : e.parts * w e.fuel + total es * w e.fuel ≡ (e.parts + total es) * w e.fuel = omega arith in
        (e, Memᴰ.head refl, v, trans (plus (eq refl) r) (eq q))

    later : (e : Entry) (es : Entries) (m : Extreme es) → R (e.parts * w e.fuel) (e.parts * w m.0.fuel) → Extreme (e ∷ es)
    unfolding sum
    later e es m r =
        let q : e.parts * w m.0.fuel + total es * w m.0.fuel ≡ (e.parts + total es) * w m.0.fuel = omega arith in
        (m.0, Memᴰ.tail m.1, m.2, trans (plus r m.3) (eq q))

    extreme : (es : Entries) → 0 < total es → Extreme es
    unfolding sum
    extreme [] h = absurd (omega arith)
    extreme (e ∷ es) h = ⊎_elim last (λ k. more (extreme es k)) (eq-zero-or-pos (total es))
      where
        last : total es ≡ 0 → Extreme (e ∷ es)
        last z =
            let a = ap (λ (n : ℕ). n * w e.fuel) z in
            let q : sum weigh es ≡ total es * w e.fuel = omega (arith, none-weighs es z) in
            first e es (omega arith) (eq q)

        more : Extreme es → Extreme (e ∷ es)
        more m =
            ⊎_elim (λ z. later e es m (eq (rw z (omega arith))))
            (λ v. ⊎_elim (λ r. later e es m (times e.parts r)) (λ r. first e es v (trans m.3 (times (total es) r))) (either (w e.fuel) (w m.0.fuel)))
            (eq-zero-or-pos e.parts)

either_way : (a b : ℕ) → (a ≤ b) ⊎ (b ≤ a)
either_way a b = go (dec_lt a b)
  where
    go : Dec (a < b) → (a ≤ b) ⊎ (b ≤ a)
    go (yes l) = inl (omega arith)
    go (no l) = inr (omega arith)

at_most : Order (λ a b. a ≤ b)
at_most = record { eq = le_of_eq; trans = le_trans; plus = add-le-add; times = mul-le-mul_left; either = either_way }

at_least : Order (λ a b. b ≤ a)
at_least = record { eq = λ q. le_of_eq (sym q); trans = λ x y. le_trans y x; plus = add-le-add; times = mul-le-mul_left; either = λ a b. either_way b a }

-- two entries with parts above zero: one has alone at most the quantity of all, and one at least that
pub record Bracket (quantity : Entries → Fraction) (es : Entries) : Type 0 where
  pub low : Entry
  pub low_taken : Memᴰ low es
  pub low_present : 0 < low.parts
  pub above : quantity (alone low) ⊑ quantity es
  pub high : Entry
  pub high_taken : Memᴰ high es
  pub high_present : 0 < high.parts
  pub below : quantity es ⊑ quantity (alone high)

-- LIMITS go by the total over the weight.
module _ (s : Side) (t : ℕ) where
  limit-mono : (es fs : Entries) → 0 < total es → 0 < total fs → total es * sum (weighs s) fs ≤ total fs * sum (weighs s) es →
      limit_at s es t ⊑ limit_at s fs t
  unfolding limit_at
  limit-mono es fs h g l =
      let u = mul-le-mul_right (100 * unit s) l in
      at-most-times (correction s t) (correction-is s t).den_pos (at-most-is (le-chatelier-is s es h) (le-chatelier-is s fs g) (omega arith))

  pub bracketed : (es : Entries) → 0 < total es → Bracket (λ fs. limit_at s fs t) es
  unfolding sum
  bracketed es h =
      let a = extreme (weight_of s) (λ a b. a ≤ b) at_most es h in
      let b = extreme (weight_of s) (λ a b. b ≤ a) at_least es h in
      let ha = a.3 in
      let hb = b.3 in
      record {
        low = a.0;
        low_taken = a.1;
        low_present = a.2;
        above = limit-mono (alone a.0) es (omega arith) h (omega arith);
        high = b.0;
        high_taken = b.1;
        high_present = b.2;
        below = limit-mono es (alone b.0) h (omega arith) (omega arith);
      }
