-- Laws of lines: a text as its first line and the lines behind it.
use mathlib.Core.Path.{◌≡◌, refl, sym, ap, ◌∙◌}
use mathlib.Core.Bool.{Bool, true, false, and-false}
use mathlib.Core.List.{List, [], ◌∷◌}
use Prim.Native.Nat.{ℕ, suc, ◌+◌, ◌-◌, ◌≤◌, ◌<◌}
use native.Mathlib.Decide.{dec_lt}
use native.Mathlib.Nat.{suc-add}
use native.Mathlib.Numerals.{add-one}
use native.Mathlib.Omega.{arith}
use lib.ListN.{length, take, drop, length-drop}
use Rattle.std.specs.List.{position_from}
use Rattle.std.specs.declared.slice.Windows.{Windows}
use Rattle.std.specs.Slice.Iter.{windows_rest, windows_size, windows_steps}
use Rattle.std.proofs.lemmas.List.{take_all, length-take-le}
use Rattle.std.proofs.lemmas.Iterator.{YieldsList}
use Rattle.std.specs.Iterator.{YieldsFirstRef}
use Rattle.std.proofs.Common.{Bor}
use Rattle.std.proofs.lemmas.Iterator.Consumers.{YieldsList-from_first}
use Rattle.std.proofs.lemmas.Iterator.Splits.{YieldsList-from_shown_while}
use Rattle.csv_form.specs.declared.Span.{Span}
use Rattle.csv_form.specs.declared.Lines.{Lines}
use Rattle.csv_form.specs.Lines.{crlf, before, first_from, line, lines, line_at, left}
use Rattle.csv_form.specs.Sheet.{records}
use Rattle.csv_form.proofs.Spans.{before-yes, before-no, span-order, span-further, span-bytes, span-next}

-- a text's pairs of neighbours, by which code looks for CRLF
abbrev pub pairs : List ℕ → List (List ℕ)
pairs [] = []
pairs (a ∷ []) = []
pairs (a ∷ b ∷ s) = (a ∷ b ∷ []) ∷ pairs (b ∷ s)

pairs-none : (s : List ℕ) → length s < 2 → length (pairs s) ≡ 0
pairs-none [] h = refl
pairs-none (a ∷ []) h = refl
pairs-none (a ∷ b ∷ s) h = absurd (omega arith)

pairs-some : (s : List ℕ) → 2 ≤ length s → pairs s ≡ take 2 s ∷ pairs (drop 1 s)
pairs-some [] h = absurd (omega arith)
pairs-some (a ∷ []) h = absurd (omega arith)
pairs-some (a ∷ b ∷ s) h = refl

pub YieldsList-from_pairs : {w : Windows ℕ} (s : List ℕ) → windows_rest w ≡ s → windows_size w ≡ 2 → YieldsList (windows_steps {A = ℕ}) (λ y. y.now) w (pairs s)
YieldsList-from_pairs {w} s e f = rw (sym e)
    (YieldsList-from_shown_while windows_steps (λ y. y.now) (λ w. pairs (windows_rest w)) (λ w. windows_size w ≡ 2)
    (λ w t p h. pairs-none (windows_rest w) (omega (arith, p, h.1.0)))
    (λ w x t p h. (h.0 ∙ p, pairs-some (windows_rest w) (omega (arith, p, h.1.0)) ∙ cc)) w f)

pub crlf-pairs : (n : ℕ) (s : List ℕ) → first_from crlf n s ≡ position_from crlf n (pairs s)
unfolding first_from crlf
crlf-pairs n [] = refl
crlf-pairs n (a ∷ []) = simp and-false
crlf-pairs n (a ∷ b ∷ s) = rw (crlf-pairs (suc n) (b ∷ s), add-one n)

lines_cons : (a b : ℕ) (s : List ℕ) (t : Bool) → crlf (a ∷ b ∷ s) ≡ t
    → lines (b ∷ s) ≡ line (b ∷ s) ∷ lines (drop (length (line (b ∷ s)) + 2) (b ∷ s))
    → lines (a ∷ b ∷ s) ≡ line (a ∷ b ∷ s) ∷ lines (drop (length (line (a ∷ b ∷ s)) + 2) (a ∷ b ∷ s))
unfolding lines
lines_cons a b s true e h = rw (e, before-yes crlf (a ∷ b ∷ s) e)
lines_cons a b s false e h = rw (e, before-no crlf a (b ∷ s) e, h, suc-add)

-- one byte alone is a line
no-crlf : (a : ℕ) → crlf (a ∷ []) ≡ false
unfolding crlf
no-crlf a = simp and-false

lines-last : (a : ℕ) → lines (a ∷ []) ≡ line (a ∷ []) ∷ lines (drop (length (line (a ∷ [])) + 2) (a ∷ []))
unfolding lines before
lines-last a = rw (no-crlf a)

-- a text that is not empty is its first line, and the lines of what follows the line and its CRLF
lines_step : (s : List ℕ) → 0 < length s → lines s ≡ line s ∷ lines (drop (length (line s) + 2) s)
lines_step [] h = absurd (omega arith)
lines_step (a ∷ []) h = lines-last a
lines_step (a ∷ b ∷ s) h = lines_cons a b s (crlf (a ∷ b ∷ s)) refl (lines_step (b ∷ s) (omega arith))

pub lines_none : (s : List ℕ) → length s ≡ 0 → lines s ≡ []
unfolding lines
lines_none [] h = refl
lines_none (a ∷ s) h = absurd (omega arith)

-- what a slice from n on has
pub rest-is : (n : ℕ) (s : List ℕ) → take (length s - n) (drop n s) ≡ drop n s
rest-is n s = take_all (length s - n) (drop n s) (omega (arith, length-drop n s))

-- the same by the positions in a text
module _ (s : List ℕ) (r : Span) (e : r ≡ line_at s 0) where
  pub line_order : (r.end ≤ length s) × (r.next ≤ length s)
  line_order = let o = span-order crlf s 0 2 (omega arith) r e in (o.1, o.2)

  pub line_size : r.end ≡ length (take r.end s)
  line_size = sym (length-take-le r.end s line_order.0)

  pub line_further : 0 < length s → 0 < r.next
  line_further l = span-further crlf s 0 2 (omega arith) r e l (omega arith)

  pub line-bytes : take r.end s ≡ line s
  line-bytes = let k : r.end - 0 ≡ r.end = omega arith in rw k at (span-bytes crlf s 0 2 (omega arith) r e)

  abbrev rest : List ℕ
  rest = take (length s - r.next) (drop r.next s)

  pub lines_next : 0 < length s → lines s ≡ take r.end s ∷ lines rest
  lines_next l = rw (rest-is r.next s, line-bytes, span-next crlf s 0 2 (omega arith) r e) (lines_step s l)

  pub records_next : lines rest ≡ records s
  unfolding records
  records_next = rw (rest-is r.next s) (go (dec_lt 0 (length s)))
    where
      go : Dec (0 < length s) → lines (drop r.next s) ≡ drop 1 (lines s)
      go (yes l) = sym (ap (drop 1) (rw (rest-is r.next s) at (lines_next l)))
      go (no l) = lines_none (drop r.next s) (omega (arith, length-drop r.next s)) ∙ sym (ap (drop 1) (lines_none s (omega arith)))

-- an iterator over lines gives those that it has left
pub YieldsList-from_left : {s : Lines} (ls : List (List ℕ)) → left s ≡ ls → YieldsList (YieldsFirstRef left) (λ (l : Bor (List ℕ)). l.now) s ls
YieldsList-from_left ls e = YieldsList-from_first (λ (l : Bor (List ℕ)). l.now) left ls e
