-- What stands at the beginning of a text lies in it: its symbol, and its count.
use mathlib.Core.Path.{◌≡◌, ap, ◌∙◌}
use mathlib.Core.List.{List, [], ◌∷◌}
use Prim.Native.Nat.{ℕ, ◌-◌, ◌≤◌}
use native.Mathlib.Omega.{arith}
use lib.ListN.{length, take, drop, length-append, length-drop}
use lib.Seq.{take-length}
use Rattle.text.specs.Reader.{at}
use Rattle.elements.specs.Elements.{symbol}
use Rattle.elements.proofs.Elements.{letters}
use Rattle.formula.specs.declared.Multiple.{Multiple}
use Rattle.formula.specs.declared.Symbol.{Symbol}
use Rattle.formula.specs.declared.Symbol.TheVariants.{Named, Half, Absent}
use Rattle.formula.specs.Grammar.{digits}
use Rattle.formula.specs.Reader.{symbol_at, multiple_at}
use Rattle.formula.specs.Internal.{begun}
use Rattle.formula.proofs.Counts.{counts, count-read}
use Rattle.formula.proofs.Symbols.{Headed, headed, first-letter}

pub size_within : (t : List ℕ) → (multiple_at t).size ≤ length t
size_within t =
    let k = counts t in
    omega (arith, ap (λ (n : Multiple). n.size) (ap multiple_at k.split ∙ count-read k.count k.rest k.ends), ap length k.split, length-append (digits k.count) k.rest)

pub begun_within : (t : List ℕ) → begun (symbol_at t) ≤ length t
begun_within t = go t (symbol_at t) (headed t)
  where
    go : (t : List ℕ) (x : Symbol) → Headed t x → begun x ≤ length t
    go t (Named e) s = omega (arith, ap length s, length-append (symbol e) (drop (length (symbol e)) t))
    go [] Half (e, x, p) = absurd (omega (arith, (first-letter (symbol e) (letters e)).0, ap (λ (w : List ℕ). at w 0) p))
    go (b ∷ t) Half s = omega arith
    go t Absent s = omega arith

-- what the code takes of a text from k on is all that is left there
pub rest : (k : ℕ) (t : List ℕ) → take (length t - k) (drop k t) ≡ drop k t
rest k t = rw (← length-drop k t) (take-length (drop k t))
