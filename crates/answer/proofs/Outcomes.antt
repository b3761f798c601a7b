-- Laws of outcomes: the number tells a refusal from an answer, and by an answer what the tests before it were.
use mathlib.Core.Path.{◌≡◌, refl}
use mathlib.Core.Bool.{Bool, true, false}
use Rattle.std.specs.Prelude.{Option, Some, None}
use Prim.Native.Nat.{ℕ, ◌≤◌, ◌<◌}
use native.Mathlib.Omega.{arith}
use Rattle.answer.specs.declared.Refusal.{Refusal}
use Rattle.answer.specs.declared.Figure.{Figure}
use Rattle.answer.specs.Outcome.{Outcome, refused, answered, refuse, refuse_at, refusal_of, value_of, and_then, shown_figure}
use Rattle.answer.specs.Internal.{Numbered}

module _ {A : Type 0} where
  pub refuse-numbered : (n p : ℕ) (b : Bool) (o : Outcome A) → 0 < n → Numbered o → Numbered (refuse n p b o)
  refuse-numbered n p true o l h = l
  refuse-numbered n p false o l h = h

  pub refuse_at-numbered : (n : ℕ) (f : Option ℕ) (o : Outcome A) → 0 < n → Numbered o → Numbered (refuse_at n f o)
  refuse_at-numbered n (Some p) o l h = l
  refuse_at-numbered n None o l h = h

  pub and_then-numbered : {B : Type 0} (o : Outcome A) (f : A → Outcome B) → Numbered o → ((a : A) → Numbered (f a)) → Numbered (and_then o f)
  and_then-numbered (refused r) f h k = h
  and_then-numbered (answered a) f h k = k a

  -- an answer asked further behind a test
  pub refuse-then : {B : Type 0} (n p : ℕ) (b : Bool) (o : Outcome A) (f : A → Outcome B) → and_then (refuse n p b o) f ≡ refuse n p b (and_then o f)
  refuse-then n p true o f = refl
  refuse-then n p false o f = refl

  -- told by the number
  pub told-refused : (o : Outcome A) → 0 < (refusal_of o).number → o ≡ refused (refusal_of o)
  told-refused (refused r) l = refl
  told-refused (answered a) l = absurd (omega arith)

  pub told-answered : (x : A) (o : Outcome A) → Numbered o → (refusal_of o).number ≡ 0 → o ≡ answered (value_of x o)
  told-answered x (refused r) h e = absurd (omega arith)
  told-answered x (answered a) h e = refl

-- told by a figure
module _ (o : Outcome ℕ) (r : Figure) (e : r ≡ shown_figure o) where
  pub figure-refused : 0 < r.refusal.number → o ≡ refused r.refusal
  figure-refused l = rw e (told-refused o (rw e at l))

  pub figure-answered : Numbered o → r.refusal.number ≤ 0 → o ≡ answered r.value
  figure-answered h l = rw e (told-answered 0 o h (omega (arith, rw e at l)))

-- an answer is no refusal
pub apart : {A B : Type 0} (r : Refusal) (x : A) → refused r ≡ answered x → B
apart r x e = absurd (go e)
  where
    go : refused r ≡ answered x → ⊥
    go e = let z : ◌≡◌ {A = ℕ} 0 1 = cc in omega arith

-- so each test before it was passed
module _ {A : Type 0} (n : ℕ) where
  pub refuse-passed : (p : ℕ) (b : Bool) (o : Outcome A) (x : A) → refuse n p b o ≡ answered x → (b ≡ false) × (o ≡ answered x)
  refuse-passed p true o x e = apart _ x e
  refuse-passed p false o x e = (refl, e)

  pub refuse_at-passed : (f : Option ℕ) (o : Outcome A) (x : A) → refuse_at n f o ≡ answered x → (f ≡ None) × (o ≡ answered x)
  refuse_at-passed (Some p) o x e = apart _ x e
  refuse_at-passed None o x e = (refl, e)
