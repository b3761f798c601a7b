-- Sums over entries, and the blend that holds them.
use mathlib.Core.Path.{◌≡◌, refl, ◌∙◌}
use mathlib.Core.List.{[], ◌∷◌, ◌++◌, Permᴰ}
use Prim.Native.Nat.{ℕ, ◌+◌, ◌*◌}
use native.Mathlib.Omega.{arith}
use Rattle.elements.specs.declared.Atoms.{Atoms}
use Rattle.blend.specs.Limit.{Side, lower, upper}
use Rattle.blend.specs.declared.Blend.{Blend}
use Rattle.blend.specs.Fuel.{quarters}
use Rattle.blend.specs.Blend.{weight}
use Rattle.blend.specs.Model.{Entry, entry, Entries, sum, total}
use Rattle.blend.specs.Claims.{scaled}

module _ (f : Entry → ℕ) where
  pub sum-append : (es fs : Entries) → sum f (es ++ fs) ≡ sum f es + sum f fs
  unfolding sum
  sum-append [] fs = omega arith
  sum-append (e ∷ es) fs = omega (arith, sum-append es fs)

  pub sum_one : (e : Entry) → sum f (e ∷ []) ≡ f e
  unfolding sum
  sum_one e = omega arith

  -- rearranged
  pub sum-perm : {es fs : Entries} → Permᴰ es fs → sum f es ≡ sum f fs
  unfolding sum
  sum-perm Permᴰ.nil = refl
  sum-perm (Permᴰ.cons e d) = grind (arith, sum-perm d)
  sum-perm (Permᴰ.swap e₁ e₂) = grind arith
  sum-perm (Permᴰ.trans d₁ d₂) = sum-perm d₁ ∙ sum-perm d₂

  -- all parts times k
  pub sum-scaled : (k : ℕ) → ((e : Entry) → f (entry e.fuel (k * e.parts)) ≡ k * f e) → (es : Entries) → sum f (scaled k es) ≡ k * sum f es
  unfolding sum scaled
  sum-scaled k h [] = omega arith
  sum-scaled k h (e ∷ es) = omega (arith, h e, sum-scaled k h es)

-- parts; and parts times aβ + b, in the unit of the sums
abbrev pub parts : Entry → ℕ
parts e = e.parts

abbrev pub weight_of : Side → Atoms → ℕ
weight_of s a = weight s (quarters a)

abbrev pub weighs : Side → Entry → ℕ
weighs s e = e.parts * weight_of s e.fuel

-- what a blend holds that took in the entries
abbrev pub blend_of : Entries → Blend
blend_of es = record { total = total es; lower = sum (weighs lower) es; upper = sum (weighs upper) es }

-- the first has the figures of the second, each times k
pub record Times (k : ℕ) (es fs : Entries) : Type 0 where
  pub total_times : total es ≡ k * total fs
  pub weight_times : (s : Side) → sum (weighs s) es ≡ k * sum (weighs s) fs

pub times-scaled : (k : ℕ) (fs : Entries) {es : Entries} → Permᴰ es (scaled k fs) → Times k es fs
times-scaled k fs p = record {
  total_times = sum-perm parts p ∙ sum-scaled parts k (λ e. refl) fs;
  weight_times = λ s. sum-perm (weighs s) p ∙ sum-scaled (weighs s) k (λ e. omega arith) fs;
}

pub times-one : (es fs : Entries) → ((f : Entry → ℕ) → sum f es ≡ sum f fs) → Times 1 es fs
times-one es fs h = record { total_times = omega (arith, h parts); weight_times = λ s. omega (arith, h (weighs s)) }
