-- Laws of text put into a room: what it then holds, by whether the text fits, and its size.
use mathlib.Core.Path.{◌≡◌, sym, ap, ap₂, ◌∙◌}
use mathlib.Core.List.{List, [], ◌++◌, append_assoc}
use Prim.Native.Nat.{ℕ, ◌+◌, ◌≤◌, ◌<◌}
use native.Mathlib.Decide.{dec_le}
use native.Mathlib.Nat.{add-zero}
use native.Mathlib.Omega.{arith}
use borrow.Author.Tests.{le-leb, lt-leb}
use lib.ListN.{length, take, drop, length-append, length-drop, take-append-drop}
use lib.Seq.{take_at, length-take-le, drop-append-add, drop-drop}
use Rattle.text.specs.Room.{put_at, behind}

module _ (room : List ℕ) (at : ℕ) (s : List ℕ) where
  pub put-fits : at + length s ≤ length room → put_at room at s ≡ take at room ++ (s ++ drop (at + length s) room)
  unfolding put_at
  put-fits l = rw (le-leb (at + length s) (length room) l)

  pub put-too-long : length room < at + length s → put_at room at s ≡ room
  unfolding put_at
  put-too-long l = rw (lt-leb (at + length s) (length room) l)

  pub behind-fits : at + length s ≤ length room → behind room at s ≡ at + length s
  unfolding behind
  behind-fits l = rw (le-leb (at + length s) (length room) l)

  pub behind-too-long : length room < at + length s → behind room at s ≡ at
  unfolding behind
  behind-too-long l = rw (lt-leb (at + length s) (length room) l)

-- a room keeps its size
pub put-length : (room : List ℕ) (at : ℕ) (s : List ℕ) → length (put_at room at s) ≡ length room
put-length room at s = go (dec_le (at + length s) (length room))
  where
    go : Dec (at + length s ≤ length room) → length (put_at room at s) ≡ length room
    go (yes l) = rw (put-fits room at s l) (simp (length-append, length-take-le at room (omega arith), length-drop) (omega arith))
    go (no l) = ap length (put-too-long room at s (omega arith))

-- nothing put, and a text put behind another
pub put-none : (room : List ℕ) (at : ℕ) → at ≤ length room → put_at room at [] ≡ room
put-none room at l = put-fits room at [] (omega arith) ∙ ap (λ (k : ℕ). take at room ++ drop k room) (add-zero at) ∙ take-append-drop at room

pub put-twice : (room : List ℕ) (at : ℕ) (s t : List ℕ) → at + length s + length t ≤ length room → put_at (put_at room at s) (at + length s) t ≡ put_at room at (s ++ t)
put-twice room at s t l =
    let front = take at room ++ s in
    let back = drop (at + length s) room in
    let cut : length front ≡ at + length s = simp (length-append, length-take-le at room (omega arith)) in
    let once : put_at room at s ≡ front ++ back = put-fits room at s (omega arith) ∙ sym (append_assoc (take at room) s back) in
    let held : length (front ++ back) ≡ length room = ap length (sym once) ∙ put-length room at s in
    let sum : at + length s + length t ≡ at + length (s ++ t) = omega (arith, length-append s t) in
    let rest : drop (at + length s + length t) (front ++ back) ≡ drop (at + length (s ++ t)) room =
    ap (λ (k : ℕ). drop (k + length t) (front ++ back)) (sym cut) ∙ drop-append-add front back (length t) ∙ drop-drop (length t) (at + length s) room ∙ ap (λ (k : ℕ). drop k room) sum in
    rw once
    (put-fits (front ++ back) (at + length s) t (omega arith)
    ∙ ap₂ (λ (x y : List ℕ). x ++ (t ++ y)) (take_at front back (at + length s) cut) rest
    ∙ append_assoc (take at room) s (t ++ drop (at + length (s ++ t)) room)
    ∙ ap (λ (w : List ℕ). take at room ++ w) (sym (append_assoc s t (drop (at + length (s ++ t)) room)))
    ∙ sym (put-fits room at (s ++ t) (omega (arith, length-append s t))))
