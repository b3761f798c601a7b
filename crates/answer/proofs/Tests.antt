-- Laws of tests: a test has one value, a choice by a test whose value is known, and what follows from a compound test.
use mathlib.Core.Path.{◌≡◌, refl}
use mathlib.Core.Bool.{Bool, true, false, cond, ◌&&◌, ◌||◌}
use Prim.Native.Nat.{ℕ}
use native.Mathlib.Omega.{arith}

pub never : {A : Type 0} (b : Bool) → b ≡ true → b ≡ false → A
never b p q = absurd (apart p q)
  where
    apart : b ≡ true → b ≡ false → ⊥
    apart p q = let n : ◌≡◌ {A = ℕ} 0 1 = cc in omega arith

-- a test that would pass where one that fails passes
pub fails_by : (b d : Bool) → (b ≡ true → d ≡ true) → d ≡ false → b ≡ false
fails_by true d h e = never d (h refl) e
fails_by false d h e = refl

-- a choice has what each of its sides has under its test
pub choose : {A : Type 0} (Q : A → Type 0) (x : Bool) {u v : A} → (x ≡ true → Q u) → (x ≡ false → Q v) → Q (cond x u v)
choose Q true p q = p refl
choose Q false p q = q refl

pub if-true : {A : Type 0} (b : Bool) (x y : A) → b ≡ true → elim b [ true ↦ x | false ↦ y ] ≡ x
if-true true x y e = refl
if-true false x y e = never false e refl

pub if-false : {A : Type 0} (b : Bool) (x y : A) → b ≡ false → elim b [ true ↦ x | false ↦ y ] ≡ y
if-false true x y e = never true refl e
if-false false x y e = refl

pub both : (a b : Bool) → a && b ≡ true → (a ≡ true) × (b ≡ true)
both true b e = (refl, e)
both false b e = never false e refl

pub neither : (a b : Bool) → (a || b) ≡ false → (a ≡ false) × (b ≡ false)
neither true b e = never true refl e
neither false b e = (refl, e)
