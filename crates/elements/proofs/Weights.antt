-- Weighted sums of atom counts: of counts of at most 200 nothing is cut off.
use mathlib.Core.Path.{◌≡◌, refl, ap, ap₂}
use Prim.Native.Nat.{ℕ, zero, suc, ◌+◌, ◌*◌, ◌-◌, ◌≤◌, ◌<◌}
use native.Mathlib.Omega.{arith}
use lib.ListN.{get_or}
use mathlib.Core.List.{List}
use Rattle.elements.specs.declared.Atoms.{Atoms}
use Rattle.elements.specs.Elements.{number, sum_below, weighted_sum}
use Rattle.elements.specs.Internal.{AtMost200}
use Rattle.elements.proofs.Elements.{numbered}

sum_alike : (f g : ℕ → ℕ) (n : ℕ) → ((i : ℕ) → i < n → f i ≡ g i) → sum_below f n ≡ sum_below g n
unfolding sum_below
sum_alike f g zero h = refl
sum_alike f g (suc n) h = ap₂ ◌+◌ (sum_alike f g n (λ i l. h i (omega arith))) (h n (omega arith))

-- the counts by their indices
few-at : (a : Atoms) → AtMost200 a → (i : ℕ) → i < 10 → get_or a.count i 0 ≤ 200
few-at a few i l =
    let e = numbered (i + 1) (omega arith) (omega arith) in
    let at : number e.0 - 1 ≡ i = omega (arith, e.1) in
    rw at at (few.most e.0)

pub weighted-few : (weights : List ℕ) (a : Atoms) → AtMost200 a → weighted_sum weights a ≡ sum_below (λ i. get_or weights i 0 * get_or a.count i 0) 10
unfolding weighted_sum
weighted-few weights a few = sum_alike _ _ 10 (λ i l. ap (λ (n : ℕ). get_or weights i 0 * n) (omega (arith, few-at a few i l)))
