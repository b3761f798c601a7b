-- Two keepers whose outcomes correspond answer every list of calls alike, and their states correspond after it.
use mathlib.Core.Path.{◌≡◌, refl, ap, ap₂}
use mathlib.Core.Bool.{Bool, true, false, cond}
use mathlib.Core.List.{List, [], ◌∷◌}
use Prim.Native.Nat.{ℕ}
use lib.Dec.{eqb}
use Rattle.answer.specs.declared.Refusal.{Refusal}
use Rattle.answer.specs.Outcome.{Outcome, refused, answered, refuse, value_of}
use Rattle.blend.specs.Fuel.{Fuel}
use Rattle.blend.specs.Blend.{Question}
use Rattle.blend.specs.Calls.{Call, add, join, ask, Keeper, changed, told_of, put, answer_to, next, answers, after}

-- the same refusal, or answers that correspond
pub data Alike {S T : Type 0} (R : S → T → Type 0) : Outcome S → Outcome T → Type 0 where
  refusing : {r : Refusal} → Alike R (refused r) (refused r)
  answering : {x : S} {y : T} → R x y → Alike R (answered x) (answered y)

module _ {S T : Type 0} {R : S → T → Type 0} where
  -- through a test that both make
  pub refuse-alike : (n p : ℕ) (b : Bool) {o : Outcome S} {u : Outcome T} → (b ≡ false → Alike R o u) → Alike R (refuse n p b o) (refuse n p b u)
  refuse-alike n p true h = refusing
  refuse-alike n p false h = h refl

  changed-alike : {o : Outcome S} {u : Outcome T} → Alike R o u → changed o ≡ changed u
  changed-alike refusing = refl
  changed-alike (answering r) = refl

  value-alike : {o : Outcome S} {u : Outcome T} {x : S} {y : T} → Alike R o u → R x y → R (value_of x o) (value_of y u)
  value-alike refusing h = h
  value-alike (answering r) h = r

-- each outcome of one corresponds to that of the other where the states do
pub record Follows {S T : Type 0} (R : S → T → Type 0) (k : Keeper S) (m : Keeper T) : Type 0 where
  pub adds : (x : S) (y : T) → R x y → (f : Fuel) (v : ℕ) → Alike R (k.adds x f v) (m.adds y f v)
  pub joins : (x x' : S) (y y' : T) → R x y → R x' y' → Alike R (k.joins x x') (m.joins y y')
  pub asks : (x : S) (y : T) → R x y → (q : Question) → k.asks x q ≡ m.asks y q

module _ {S T : Type 0} (R : S → T → Type 0) (k : Keeper S) (m : Keeper T) (follows : Follows R k m) where
  abbrev Hold : (ℕ → S) → (ℕ → T) → Type 0
  Hold xs ys = (i : ℕ) → R (xs i) (ys i)

  put-hold : (xs : ℕ → S) (ys : ℕ → T) → Hold xs ys → (i : ℕ) (x : S) (y : T) → R x y → Hold (put xs i x) (put ys i y)
  unfolding put
  put-hold xs ys h i x y r j = elim (eqb j i) as (λ b. R (cond b x (xs j)) (cond b y (ys j))) [ true ↦ r | false ↦ h j ]

  module _ (xs : ℕ → S) (ys : ℕ → T) (h : Hold xs ys) where
    -- one call
    pub answer-alike : (c : Call) → answer_to k xs c ≡ answer_to m ys c
    unfolding answer_to
    answer-alike (add i f v) = changed-alike (follows.adds (xs i) (ys i) (h i) f v)
    answer-alike (join i j) = changed-alike (follows.joins (xs i) (xs j) (ys i) (ys j) (h i) (h j))
    answer-alike (ask i q) = ap (told_of q) (follows.asks (xs i) (ys i) (h i) q)

    next-hold : (c : Call) → Hold (next k xs c) (next m ys c)
    unfolding next
    next-hold (add i f v) = put-hold xs ys h i _ _ (value-alike (follows.adds (xs i) (ys i) (h i) f v) (h i))
    next-hold (join i j) = put-hold xs ys h i _ _ (value-alike (follows.joins (xs i) (xs j) (ys i) (ys j) (h i) (h j)) (h i))
    next-hold (ask i q) = h

  -- every list of calls
  pub after-hold : (xs : ℕ → S) (ys : ℕ → T) → Hold xs ys → (cs : List Call) → Hold (after k xs cs) (after m ys cs)
  unfolding after
  after-hold xs ys h [] = h
  after-hold xs ys h (c ∷ cs) = after-hold (next k xs c) (next m ys c) (next-hold xs ys h c) cs

  pub answers-alike : (xs : ℕ → S) (ys : ℕ → T) → Hold xs ys → (cs : List Call) → answers k xs cs ≡ answers m ys cs
  unfolding answers
  answers-alike xs ys h [] = refl
  answers-alike xs ys h (c ∷ cs) = ap₂ ◌∷◌ (answer-alike xs ys h c) (answers-alike (next k xs c) (next m ys c) (next-hold xs ys h c) cs)
