-- Sums over blends that are all different.
use mathlib.Core.Path.{◌≡◌, refl, sym, ap, ap₂, ◌∙◌, subst}
use mathlib.Core.List.{List, [], ◌∷◌, Memᴰ}
use Prim.Native.Nat.{ℕ, ◌+◌, ◌≤◌}
use native.Mathlib.Omega.{arith}
use Rattle.blend.specs.Claims.{Without, here, there, Absent, Different}

unfoldable pub over : (ℕ → ℕ) → List ℕ → ℕ
over f [] = 0
over f (i ∷ bs) = f i + over f bs

pub over_none : (f : ℕ → ℕ) → ((i : ℕ) → f i ≡ 0) → (bs : List ℕ) → over f bs ≡ 0
unfolding over
over_none f h [] = refl
over_none f h (i ∷ bs) = omega (arith, h i, over_none f h bs)

pub over-one : (f : ℕ → ℕ) {i : ℕ} {bs : List ℕ} → Memᴰ i bs → f i ≤ over f bs
unfolding over
over-one f (Memᴰ.head e) = grind arith
over-one f (Memᴰ.tail m) = omega (arith, over-one f m)

pub over-without : (f : ℕ → ℕ) {j : ℕ} {bs rest : List ℕ} → Without j bs rest → over f bs ≡ f j + over f rest
unfolding over
over-without f here = refl
over-without f (there w) = omega (arith, over-without f w)

-- blends that are all different
apart : {i x : ℕ} {bs : List ℕ} → Memᴰ i bs → Absent x bs → x ≡ i → ⊥
unfolding Absent
apart (Memᴰ.head e) a q = a.0 (q ∙ e)
apart (Memᴰ.tail m) a q = apart m a.1 q

absent-without : (x : ℕ) {j : ℕ} {bs rest : List ℕ} → Absent x bs → Without j bs rest → Absent x rest
unfolding Absent
absent-without x a here = a.1
absent-without x a (there w) = (a.0, absent-without x a.1 w)

pub different-without : {j : ℕ} {bs rest : List ℕ} → Different bs → Without j bs rest → Different rest
unfolding Different
different-without d here = d.1
different-without d (there {i = i} w) = (absent-without i d.0 w, different-without d.1 w)

-- the numbers of all blends but i stay
module _ (f g : ℕ → ℕ) (i : ℕ) (same : (j : ℕ) → (j ≡ i → ⊥) → g j ≡ f j) where
  pub over-others : (bs : List ℕ) → Absent i bs → over g bs ≡ over f bs
  unfolding over Absent
  over-others [] a = refl
  over-others (j ∷ bs) a = ap₂ ◌+◌ (same j (λ e. a.0 (sym e))) (over-others bs a.1)

  -- and that of i, which is among them, grows by v
  pub over-more : (v : ℕ) → g i ≡ f i + v → {bs : List ℕ} → Memᴰ i bs → Different bs → over g bs ≡ over f bs + v
  unfolding over Different
  over-more v h (Memᴰ.head {x = x} {xs = xs} e) d =
      let a = over-others xs (subst (λ (y : ℕ). Absent y xs) (sym e) d.0) in
      let b = ap g e in
      let c = ap f e in
      omega arith
  over-more v h (Memᴰ.tail {x = x} m) d =
      let a = over-more v h m d.1 in
      let b = same x (apart m d.0) in
      omega arith
