-- The symbols: what the reader of two bytes finds is a symbol's text.
use mathlib.Core.Path.{◌≡◌, refl, ap}
use mathlib.Core.Bool.{Bool, true}
use mathlib.Core.List.{List, [], ◌∷◌, ◌++◌}
use Rattle.std.specs.Prelude.{Option, Some, None}
use Prim.Native.Nat.{ℕ, ◌≤◌, ◌<◌}
use native.Mathlib.Omega.{arith}
use lib.Dec.{eqb}
use lib.ListN.{length, drop}
use borrow.Author.Tests.{eqb-true, eq-eqb}
use Rattle.answer.proofs.Tests.{choose, fails_by}
use Rattle.text.specs.Bytes.{same}
use Rattle.text.specs.Reader.{at}
use Rattle.text.proofs.Readers.{same-eq}
use Rattle.elements.specs.declared.Element.{Element}
use Rattle.elements.specs.Elements.{elements, symbol}
use Rattle.elements.proofs.Elements.{Letters, one, two, letters}
use Rattle.formula.specs.declared.Symbol.{Symbol}
use Rattle.formula.specs.declared.Symbol.TheVariants.{Named, Half, Absent}
use Rattle.formula.specs.Reader.{find, with_symbol, with_letter, symbol_by, symbol_of, symbol_at}

-- THE SEARCH: what it finds passes the test; where it finds none, it finds none by a stronger test
find-passes : (test : Element → Bool) (es : List Element) (e : Element) → find test es ≡ Some e → test e ≡ true
find-passes test [] e = λ q. cc
find-passes test (f ∷ es) e = choose (λ (o : Option Element). o ≡ Some e → test e ≡ true) (test f) (λ h q. let p : f ≡ e = cc in rw p at h) (λ h. find-passes test es e)

find-fails : (f g : Element → Bool) → ((e : Element) → f e ≡ true → g e ≡ true) → (es : List Element) → find g es ≡ None → find f es ≡ None
find-fails f g h [] = λ q. refl
find-fails f g h (e ∷ es) =
    choose (λ (o : Option Element). o ≡ None → find f (e ∷ es) ≡ None) (g e)
    (λ p q. cc) (λ p q. rw (fails_by (f e) (g e) (h e) p) (find-fails f g h es q))

pub symbol-is : (s : List ℕ) (e : Element) → with_symbol s ≡ Some e → s ≡ symbol e
symbol-is s e q = same-eq s (symbol e) (find-passes (λ f. same s (symbol f)) elements e q)

-- LETTERS
pub first-letter : (w : List ℕ) → Letters w → (65 ≤ at w 0) × (at w 0 ≤ 90)
first-letter w (one a l h) = (l, h)
first-letter w (two a b l h k) = (l, h)

pub symbol-long : (e : Element) → 0 < length (symbol e)
symbol-long e = go (symbol e) (letters e)
  where
    go : (w : List ℕ) → Letters w → 0 < length w
    go w (one a l h) = omega arith
    go w (two a b l h k) = omega arith

second-letter : (w : List ℕ) → Letters w → 2 ≤ length w → 97 ≤ at w 1
second-letter w (one a l h) q = absurd (omega arith)
second-letter w (two a b l h k) q = k

-- a text that begins with the letters of w
one_byte : (t w : List ℕ) → Letters w → at t 0 ∷ [] ≡ w → t ≡ w ++ drop (length w) t
one_byte [] w k p = absurd (omega (arith, (first-letter w k).0, ap (λ (l : List ℕ). at l 0) p))
one_byte (b ∷ t) w k p = rw (← p)

two_bytes : (t w : List ℕ) → Letters w → at t 0 ∷ at t 1 ∷ [] ≡ w → t ≡ w ++ drop (length w) t
two_bytes [] w k p = absurd (omega (arith, second-letter w k (omega (arith, ap length p)), ap (λ (l : List ℕ). at l 1) p))
two_bytes (b ∷ []) w k p = absurd (omega (arith, second-letter w k (omega (arith, ap length p)), ap (λ (l : List ℕ). at l 1) p))
two_bytes (b ∷ c ∷ t) w k p = rw (← p)

from_first : (w : List ℕ) → Letters w → w ≡ at w 0 ∷ drop 1 w
from_first w (one a l h) = refl
from_first w (two a b l h k) = refl

-- A TEXT by the symbol at its head: that of an element, half of one, or none
abbrev pub Headed : List ℕ → Symbol → Type 0
Headed t (Named e) = t ≡ symbol e ++ drop (length (symbol e)) t
Headed t Half = (e : Element) × (x : List ℕ) × (symbol e ≡ at t 0 ∷ x)
Headed t Absent = Unit {0}

pub headed : (t : List ℕ) → Headed t (symbol_at t)
unfolding symbol_of
headed t = go (with_symbol (at t 0 ∷ at t 1 ∷ [])) (with_symbol (at t 0 ∷ [])) (with_letter (at t 0)) refl refl refl
  where
    go : (x y z : Option Element) → with_symbol (at t 0 ∷ at t 1 ∷ []) ≡ x → with_symbol (at t 0 ∷ []) ≡ y → with_letter (at t 0) ≡ z → Headed t (symbol_by x y z)
    go (Some e) y z p q r = two_bytes t (symbol e) (letters e) (symbol-is (at t 0 ∷ at t 1 ∷ []) e p)
    go None (Some e) z p q r = one_byte t (symbol e) (letters e) (symbol-is (at t 0 ∷ []) e q)
    go None None (Some e) p q r =
        let first = eqb-true (at t 0) (at (symbol e) 0) (find-passes (λ f. eqb (at t 0) (at (symbol f) 0)) elements e r) in
        (e, drop 1 (symbol e), rw first (from_first (symbol e) (letters e)))
    go None None None p q r = tt

-- behind a symbol only the next byte matters, and behind no symbol none does
pub symbol-same : (w t u : List ℕ) → Letters w → at t 0 ≡ at u 0 → symbol_at (w ++ t) ≡ symbol_at (w ++ u)
symbol-same w t u (one a l h) e = ap (symbol_of a) e
symbol-same w t u (two a b l h k) e = refl

no-letter : (x y z : Option Element) → symbol_by x y z ≡ Absent → z ≡ None
no-letter (Some e) y z q = cc
no-letter None (Some e) z q = cc
no-letter None None (Some e) q = cc
no-letter None None None q = refl

pub absent-any : (b c d : ℕ) → symbol_of b c ≡ Absent → symbol_of b d ≡ Absent
unfolding symbol_of
absent-any b c d q =
    let n = no-letter (with_symbol (b ∷ c ∷ [])) (with_symbol (b ∷ [])) (with_letter b) q in
    let lone : (w : List ℕ) → with_symbol (b ∷ w) ≡ None = λ w. find-fails _ _ (λ e p. eq-eqb b _ (ap (λ (l : List ℕ). at l 0) (same-eq (b ∷ w) (symbol e) p))) elements n in
    rw (lone (d ∷ []), lone [], n)
