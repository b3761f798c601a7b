-- The elements by their numbers, their symbols, and their atom counts.
use mathlib.Core.Path.{◌≡◌, refl}
use mathlib.Core.List.{List, [], ◌∷◌}
use Prim.Native.Nat.{ℕ, zero, suc, ◌-◌, ◌≤◌}
use native.Mathlib.Omega.{arith}
use lib.ListN.{get_or-replicate}
use Rattle.text.specs.Bytes.{byte}
use Rattle.elements.specs.declared.Element.{Element}
use Rattle.elements.specs.declared.Element.TheVariants.{Carbon, Hydrogen, Oxygen, Nitrogen, Sulfur, Phosphorus, Fluorine, Chlorine, Bromine, Silicon}
use Rattle.elements.specs.Elements.{number, symbol, Totals, count, count_at, atoms, each}

in-range : (e : Element) → (1 ≤ number e) × (number e ≤ 10)
in-range Carbon = (omega arith, omega arith)
in-range Hydrogen = (omega arith, omega arith)
in-range Oxygen = (omega arith, omega arith)
in-range Nitrogen = (omega arith, omega arith)
in-range Sulfur = (omega arith, omega arith)
in-range Phosphorus = (omega arith, omega arith)
in-range Fluorine = (omega arith, omega arith)
in-range Chlorine = (omega arith, omega arith)
in-range Bromine = (omega arith, omega arith)
in-range Silicon = (omega arith, omega arith)

pub number-from : (e : Element) → 1 ≤ number e
number-from e = (in-range e).0

pub number-to : (e : Element) → number e ≤ 10
number-to e = (in-range e).1

-- an element for each number
pub numbered : (k : ℕ) → 1 ≤ k → k ≤ 10 → (e : Element) × (number e ≡ k)
numbered zero l h = absurd (omega arith)
numbered (suc zero) l h = (Carbon, refl)
numbered (suc (suc zero)) l h = (Hydrogen, refl)
numbered (suc (suc (suc zero))) l h = (Oxygen, refl)
numbered (suc (suc (suc (suc zero)))) l h = (Nitrogen, refl)
numbered (suc (suc (suc (suc (suc zero))))) l h = (Sulfur, refl)
numbered (suc (suc (suc (suc (suc (suc zero)))))) l h = (Phosphorus, refl)
numbered (suc (suc (suc (suc (suc (suc (suc zero))))))) l h = (Fluorine, refl)
numbered (suc (suc (suc (suc (suc (suc (suc (suc zero)))))))) l h = (Chlorine, refl)
numbered (suc (suc (suc (suc (suc (suc (suc (suc (suc zero))))))))) l h = (Bromine, refl)
numbered (suc (suc (suc (suc (suc (suc (suc (suc (suc (suc zero)))))))))) l h = (Silicon, refl)
numbered (suc (suc (suc (suc (suc (suc (suc (suc (suc (suc (suc k))))))))))) l h = absurd (omega arith)

-- a symbol is a capital letter, or that and a small one
pub data Letters : List ℕ → Type 0 where
  one : (a : ℕ) → 65 ≤ a → a ≤ 90 → Letters (a ∷ [])
  two : (a b : ℕ) → 65 ≤ a → a ≤ 90 → 97 ≤ b → Letters (a ∷ b ∷ [])

pub letters : (e : Element) → Letters (symbol e)
letters Carbon = one (byte "C") (omega arith) (omega arith)
letters Hydrogen = one (byte "H") (omega arith) (omega arith)
letters Oxygen = one (byte "O") (omega arith) (omega arith)
letters Nitrogen = one (byte "N") (omega arith) (omega arith)
letters Sulfur = one (byte "S") (omega arith) (omega arith)
letters Phosphorus = one (byte "P") (omega arith) (omega arith)
letters Fluorine = one (byte "F") (omega arith) (omega arith)
letters Chlorine = two (byte "C") (byte "l") (omega arith) (omega arith) (omega arith)
letters Bromine = two (byte "B") (byte "r") (omega arith) (omega arith) (omega arith)
letters Silicon = two (byte "S") (byte "i") (omega arith) (omega arith) (omega arith)

pub count-atoms : (m : Totals) (e : Element) → count (atoms m) e ≡ m e
count-atoms m Carbon = refl
count-atoms m Hydrogen = refl
count-atoms m Oxygen = refl
count-atoms m Nitrogen = refl
count-atoms m Sulfur = refl
count-atoms m Phosphorus = refl
count-atoms m Fluorine = refl
count-atoms m Chlorine = refl
count-atoms m Bromine = refl
count-atoms m Silicon = refl

pub each_at : (n k : ℕ) → 1 ≤ k → k ≤ 10 → count_at (each n) k ≡ n
each_at n k l h = get_or-replicate 10 (k - 1) n 0 (omega arith)
