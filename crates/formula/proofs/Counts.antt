-- The count at the head of a text, against the grammar's counts. What stands behind it matters by its first byte alone.
use mathlib.Core.Path.{◌≡◌, refl, sym, ap, ◌∙◌}
use mathlib.Core.Bool.{Bool, true, false}
use mathlib.Core.List.{List, [], ◌∷◌, ◌++◌}
use Prim.Native.Nat.{ℕ, ◌+◌, ◌*◌, ◌≤◌, ◌<◌, ◌/◌, ◌%◌}
use native.Mathlib.Omega.{arith}
use native.Mathlib.Decide.{dec_lt}
use lib.ListN.{length, drop}
use lib.Seq.{drop-append_seam}
use Rattle.answer.proofs.Tests.{fails_by}
use Rattle.text.specs.Decimal.{decimal, digit_from}
use Rattle.text.specs.Reader.{at, ok}
use Rattle.text.proofs.Decimals.{decimal-one, decimal-two, decimal-three, decimal-next, digit-in, digit-bounds}
use Rattle.elements.specs.Elements.{Totals, times}
use Rattle.formula.specs.declared.Multiple.{Multiple}
use Rattle.formula.specs.Grammar.{Count, unwritten, written, digits, value}
use Rattle.formula.specs.Reader.{multiple, digit, multiple_of, multiple_at, counting}

-- the byte b may stand behind a count: the reader does not take it for a digit of the count
abbrev pub Behind : Count → ℕ → Type 0
Behind unwritten b = digit_from 1 b ≡ false
Behind (written n l h) b = n < 100 → digit_from 0 b ≡ false

-- as no digit may
pub behind : (c : Count) (b : ℕ) → digit_from 0 b ≡ false → Behind c b
behind unwritten b e = fails_by (digit_from 1 b) (digit_from 0 b) (λ q. let h = digit-bounds 1 b q in digit-in 0 b (omega arith) h.1) e
behind (written n l h) b e = λ _. e

-- A COUNT IS READ
pub count-read : (c : Count) (r : List ℕ) → Behind c (at r 0) → multiple_at (digits c ++ r) ≡ multiple (value c) (length (digits c))
unfolding multiple_of
count-read unwritten r k = rw k
count-read (written n l h) r k = go (dec_lt n 10) (dec_lt n 100)
  where
    go : Dec (n < 10) → Dec (n < 100) → multiple_at (decimal n ++ r) ≡ multiple n (length (decimal n))
    go (yes p) d = rw (decimal-one n p, digit-in 1 (48 + n) (omega arith) (omega arith), k (omega arith)) (ap (λ (v : ℕ). multiple v 1) (omega arith))
    go (no p) (yes q) =
        rw (decimal-two n (omega arith) q, digit-in 1 (48 + n / 10) (omega arith) (omega arith), digit-in 0 (48 + n % 10) (omega arith) (omega arith), k q)
        (ap (λ (v : ℕ). multiple v 2) (omega arith))
    go (no p) (no q) =
        rw (
          decimal-three n (omega arith) (omega arith),
          digit-in 1 (48 + n / 10 / 10) (omega arith) (omega arith),
          digit-in 0 (48 + n / 10 % 10) (omega arith) (omega arith),
          digit-in 0 (48 + n % 10) (omega arith) (omega arith),
        )
        (ap (λ (v : ℕ). multiple v 3) (omega arith))

-- and totals with it
pub counting-is : (m : Totals) (c : Count) (r : List ℕ) → Behind c (at r 0) → counting m (digits c ++ r) ≡ ok (times m (value c)) r
counting-is m c r k =
    ap (λ (n : Multiple). ok (times m n.value) (drop n.size (digits c ++ r))) (count-read c r k)
    ∙ ap (ok (times m (value c))) (drop-append_seam (digits c) r)

-- A TEXT is a count and what may stand behind it
pub record Counts (t : List ℕ) : Type 0 where
  pub count : Count
  pub rest : List ℕ
  pub split : t ≡ digits count ++ rest
  pub ends : Behind count (at rest 0)

pub counts : (t : List ℕ) → Counts t
counts t = first t (digit_from 1 (at t 0)) refl
  where
    -- the digits a, b, c of a count
    spelt : (a : ℕ) → (49 ≤ a) × (a ≤ 57) → decimal (digit a) ≡ a ∷ []
    spelt a (l, h) = decimal-one (digit a) (omega arith) ∙ ap (λ (x : ℕ). x ∷ []) (omega arith)

    third : (a b : ℕ) → (49 ≤ a) × (a ≤ 57) → (48 ≤ b) × (b ≤ 57) → (t : List ℕ) (x : Bool) → digit_from 0 (at t 0) ≡ x → Counts (a ∷ b ∷ t)
    third a b p q t false e = record {
      count = written (digit a * 10 + digit b) (omega (arith, p.0)) (omega (arith, p.1, q.1));
      rest = t;
      split = ap (λ (w : List ℕ). w ++ t) (sym (decimal-next (digit a) b (omega (arith, p.0)) q.0 q.1 ∙ ap (λ (w : List ℕ). w ++ b ∷ []) (spelt a p)));
      ends = λ _. e;
    }
    third a b p q [] true e = absurd (omega (arith, (digit-bounds 0 0 e).0))
    third a b p q (c ∷ t) true e =
        let (l, h) = digit-bounds 0 c e in
        record {
          count = written ((digit a * 10 + digit b) * 10 + digit c) (omega (arith, p.0)) (omega (arith, p.1, q.1));
          rest = t;
          split = ap (λ (w : List ℕ). w ++ t) (sym (decimal-next (digit a * 10 + digit b) c (omega (arith, p.0)) l h
              ∙ ap (λ (w : List ℕ). w ++ c ∷ []) (decimal-next (digit a) b (omega (arith, p.0)) q.0 q.1 ∙ ap (λ (w : List ℕ). w ++ b ∷ []) (spelt a p))));
          ends = λ few. absurd (omega (arith, p.0));
        }

    second : (a : ℕ) → (49 ≤ a) × (a ≤ 57) → (t : List ℕ) (x : Bool) → digit_from 0 (at t 0) ≡ x → Counts (a ∷ t)
    second a p t false e = record {
      count = written (digit a) (omega (arith, p.0)) (omega (arith, p.1));
      rest = t;
      split = ap (λ (w : List ℕ). w ++ t) (sym (spelt a p));
      ends = λ _. e;
    }
    second a p [] true e = absurd (omega (arith, (digit-bounds 0 0 e).0))
    second a p (b ∷ t) true e = third a b p (digit-bounds 0 b e) t (digit_from 0 (at t 0)) refl

    first : (t : List ℕ) (x : Bool) → digit_from 1 (at t 0) ≡ x → Counts t
    first t false e = record { count = unwritten; rest = t; split = refl; ends = e }
    first [] true e = absurd (omega (arith, (digit-bounds 1 0 e).0))
    first (a ∷ t) true e = second a (digit-bounds 1 a e) t (digit_from 0 (at t 0)) refl
