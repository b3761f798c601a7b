-- Laws of text appended to a line: by the test of its length, and piece by piece.
use mathlib.Core.Path.{◌≡◌, sym, ap, ◌∙◌}
use mathlib.Core.List.{List, [], ◌++◌, append_assoc, append-nil}
use Prim.Native.Nat.{ℕ, ◌+◌, ◌≤◌, ◌<◌}
use native.Mathlib.Omega.{arith}
use borrow.Author.Tests.{le-leb, lt-leb}
use lib.ListN.{length, length-append}
use Rattle.text.specs.Line.{appended}
use Rattle.text.specs.Internal.{Appends}

module _ (n : ℕ) (line s : List ℕ) where
  pub appended-fits : length line + length s ≤ n → appended n line s ≡ line ++ s
  unfolding appended
  appended-fits l = rw (le-leb (length line + length s) n l)

  pub appended-full : n < length line + length s → appended n line s ≡ line
  unfolding appended
  appended-full l = rw (lt-leb (length line + length s) n l)

-- PIECES: none, one, and one behind another
pub appends_none : (n : ℕ) (line : List ℕ) → Appends n line [] line
appends_none n line = record { gives = λ l. sym (append-nil line) }

pub appends_one : {n : ℕ} {line s new : List ℕ} → new ≡ appended n line s → Appends n line s new
appends_one {n} {line} {s} e = record { gives = λ l. e ∙ appended-fits n line s l }

pub appends_then : {n : ℕ} {line s mid t new : List ℕ} → Appends n line s mid → Appends n mid t new → Appends n line (s ++ t) new
appends_then {n} {line} {s} {mid} {t} {new} h g = record { gives = both }
  where
    both : length line + length (s ++ t) ≤ n → new ≡ line ++ (s ++ t)
    both l =
        let sum = length-append s t in
        let first : mid ≡ line ++ s = h.gives (omega arith) in
        let second : new ≡ mid ++ t = g.gives (omega (arith, ap length first, length-append line s)) in
        second ∙ rw first (append_assoc line s t)
