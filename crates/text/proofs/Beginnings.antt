-- Laws of the longest beginning, for any language: it ends where no text of the language goes on as t does, and there is one.
use mathlib.Core.Path.{◌≡◌, refl, sym, ap, ◌∙◌, subst}
use mathlib.Core.List.{List, [], ◌∷◌, ◌++◌, append_assoc}
use Prim.Native.Nat.{ℕ, suc, ◌+◌, ◌-◌, ◌≤◌, ◌<◌}
use native.Mathlib.Omega.{arith}
use lib.ListN.{length, take, length-append}
use lib.Seq.{take-append_seam, take-append-add}
use Rattle.text.specs.Beginning.{Begins, LongestBeginning}

-- t is p and then r, which is empty or begins with a byte with which no text of L goes on behind p
module _ (L : List ℕ → Type 0) (t p r : List ℕ) (starts : Begins L p) (split : t ≡ p ++ r) (ends : (b : ℕ) (v u : List ℕ) → r ≡ b ∷ v → ¬ (L (p ++ b ∷ u))) where
  sizes : length t ≡ length p + length r
  sizes = ap length split ∙ length-append p r

  -- a longer beginning has the byte behind p
  beyond : (v : List ℕ) → r ≡ v → (q : ℕ) → length p < q → q ≤ length t → Begins L (take q t) → ⊥
  beyond [] e q l h b = omega (arith, sizes, ap length e)
  beyond (b ∷ v) e q l h (u, k) =
      let w = q - length p - 1 in
      let cut : q ≡ length p + suc w = omega arith in
      let front : take q t ≡ p ++ b ∷ take w v = rw (split, e) (ap (λ (n : ℕ). take n (p ++ b ∷ v)) cut ∙ take-append-add p (b ∷ v) (suc w)) in
      ends b v (take w v ++ u) e (subst L (ap (λ (x : List ℕ). x ++ u) front ∙ append_assoc p (b ∷ take w v) u) k)

  pub left_behind : LongestBeginning L t (length t - length r)
  left_behind =
      let place : length t - length r ≡ length p = omega (arith, sizes) in
      rw place (record {
        within = omega (arith, sizes);
        begins = subst (Begins L) (sym (ap (take (length p)) split ∙ take-append_seam p r)) starts;
        longest = beyond r refl;
      })

pub order : (m n : ℕ) → ¬ (m < n) → ¬ (n < m) → m ≡ n
order m n p q = omega arith

-- there is one such place
pub one-longest : (L : List ℕ → Type 0) (t : List ℕ) (p q : ℕ) → LongestBeginning L t p → LongestBeginning L t q → p ≡ q
one-longest L t p q a b = order p q (λ l. a.longest q l b.within b.begins) (λ l. b.longest p l a.within a.begins)
