-- Laws of the methods' numbers: each number but 1, 2 and 3 is outside; and what is known of a number by what it is read as.
use mathlib.Core.Path.{◌≡◌, refl, sym, ap}
use mathlib.Core.Bool.{Bool, true, false}
use Prim.Native.Nat.{ℕ, zero, suc, ◌≤◌}
use native.Mathlib.Omega.{arith}
use lib.IntN.{pos}
use borrow.Author.Tests.{lt-ltb, le-ltb}
use Rattle.answer.specs.declared.Refusal.{Refusal}
use Rattle.answer.specs.declared.PointMethod.{PointMethod}
use Rattle.answer.specs.Numbers.{unknown_method}
use Rattle.answer.specs.Outcome.{Outcome, refused, answered, refusal, refuse, refusal_of}
use Rattle.answer.specs.Outside.{outside}
use Rattle.answer.specs.Methods.{method_number, method_of, method_named}
use Rattle.answer.proofs.Outcomes.{apart, refuse-passed}
use Rattle.answer.proofs.Outside.{inside}

pub unnamed : (n : ℕ) → (n ≡ 1 → ⊥) → (n ≡ 2 → ⊥) → (n ≡ 3 → ⊥) → refused (refusal unknown_method 0) ≡ method_named n
unfolding method_named outside
unnamed zero h k l = refl
unnamed (suc zero) h k l = absurd (h refl)
unnamed (suc (suc zero)) h k l = absurd (k refl)
unnamed (suc (suc (suc zero))) h k l = absurd (l refl)
unnamed (suc (suc (suc (suc n)))) h k l = rw (le-ltb (suc (suc (suc (suc n)))) 1 (omega arith), lt-ltb 3 (suc (suc (suc (suc n)))) (omega arith)) refl

-- a number that is read as a method is the method's
module _ (n : ℕ) (m : PointMethod) (e : answered m ≡ method_named n) where
  pub method-known : outside (pos 1) (pos 3) (pos n) ≡ false
  unfolding method_named
  method-known = (refuse-passed unknown_method 0 _ _ m (sym e)).0

  pub method-number : n ≡ method_number m
  unfolding method_named
  method-number =
      let p = refuse-passed unknown_method 0 _ _ m (sym e) in
      go n (inside 1 3 n p.0) p.1
    where
      named : Outcome PointMethod → ℕ
      named (refused r) = 0
      named (answered a) = method_number a

      go : (k : ℕ) → (1 ≤ k) × (k ≤ 3) → answered (method_of k) ≡ answered m → k ≡ method_number m
      go zero h q = absurd (omega arith)
      go (suc zero) h q = ap named q
      go (suc (suc zero)) h q = ap named q
      go (suc (suc (suc zero))) h q = ap named q
      go (suc (suc (suc (suc k)))) h q = absurd (omega arith)

-- one that is refused is outside, whatever comes after
pub method-refused : {B : Type 0} (n : ℕ) (r : Refusal) (rest : Outcome B) → ◌≡◌ {A = Outcome PointMethod} (refused r) (method_named n)
    → ◌≡◌ {A = Outcome B} (refused r) (refuse unknown_method 0 (outside (pos 1) (pos 3) (pos n)) rest)
unfolding method_named
method-refused n r rest e = go (outside (pos 1) (pos 3) (pos n)) e
  where
    go : (b : Bool) → refused r ≡ refuse unknown_method 0 b (answered (method_of n)) → refused r ≡ refuse unknown_method 0 b rest
    go true q = ap (λ (o : Outcome PointMethod). refused (refusal_of o)) q
    go false q = apart r (method_of n) q
