-- Laws of the bytes that a reader gives and a writer takes.
use mathlib.Core.Path.{◌≡◌, refl, sym, ap, ◌∙◌}
use mathlib.Core.List.{List, [], ◌++◌, append_assoc, append-nil}
use Prim.Native.Nat.{ℕ, ◌+◌, ◌-◌, ◌≤◌, ◌<◌}
use native.Mathlib.Decide.{dec_lt}
use native.Mathlib.Omega.{arith}
use borrow.Rule.Slice.PartMut.{put_mid}
use lib.ListN.{length, take, drop, length-append}
use Rattle.std.specs.Prelude.{Option, Some, None, Result, Ok, Err, IfSome}
use Rattle.std.specs.Result.{result_unwrap_or}
use Rattle.std.specs.Io.KnownBytes.{Consumes, Keeps, IsAtEnd}
use Rattle.std.proofs.lemmas.List.{take_at, take_all, take-append-drop, length-take-le}
use Rattle.answer.specs.declared.Refused.{Refused}
use Rattle.answer.specs.Outcome.{refused, answered, shown_refusal, told}
use Rattle.text.specs.Writing.{placed, length_of, shown_written, holding, Longest}
use Rattle.text.proofs.Rooms.{put-fits}
use Rattle.text.proofs.Writings.{placed-no, placed-yes}

-- READING: nothing, one read behind others, and one that gave nothing
pub consumes_none : (r : Option (List ℕ)) → Consumes r r []
consumes_none None = tt
consumes_none (Some xs) = refl

pub consumes_more : (a b c : Option (List ℕ)) (s t : List ℕ) → Consumes a b s → Consumes b c t → Consumes a c (s ++ t)
consumes_more None b c s t h g = tt
consumes_more (Some xs) None c s t h g = elim h [ ]
consumes_more (Some xs) (Some ys) None s t h g = elim g [ ]
consumes_more (Some xs) (Some ys) (Some zs) s t h g = h ∙ rw g (sym (append_assoc s t zs))

pub consumes_keeps : (a b c : Option (List ℕ)) (s : List ℕ) → Consumes a b s → Keeps b c → Consumes a c s
consumes_keeps None b c s h g = tt
consumes_keeps (Some xs) None c s h g = elim h [ ]
consumes_keeps (Some xs) (Some ys) None s h g = elim g [ ]
consumes_keeps (Some xs) (Some ys) (Some zs) s h g = rw g h

-- what was read, up to the end or a limit, is what there was
pub read-is : (limit : ℕ) (known now : Option (List ℕ)) (s : List ℕ) → Consumes known now s → length s ≤ limit → (length s < limit → IsAtEnd now)
    → IfSome known (λ xs. s ≡ take limit xs)
read-is limit None now s h l e = tt
read-is limit (Some xs) None s h l e = elim h [ ]
read-is limit (Some xs) (Some ys) s h l e = go (dec_lt (length s) limit)
  where
    go : Dec (length s < limit) → s ≡ take limit xs
    go (yes m) = let all : xs ≡ s = h ∙ ap (λ (u : List ℕ). s ++ u) (e m) ∙ append-nil s in sym (ap (take limit) all ∙ take_all limit s l)
    go (no m) = sym (ap (take limit) h ∙ take_at s ys limit (omega arith))

-- a part of the room from a place on was read into
pub take-more : (a n : ℕ) (xs ys : List ℕ) → a ≤ length xs → n ≤ length ys → take (a + n) (put_mid a (length xs - a) xs ys) ≡ take a xs ++ take n ys
take-more a n xs ys l m =
    let front = take a xs in
    let back = drop (length xs - a) (drop a xs) in
    let read = append_assoc (take n ys) (drop n ys) back in
    let whole : ys ++ back ≡ take n ys ++ (drop n ys ++ back) = ap (λ (u : List ℕ). u ++ back) (sym (take-append-drop n ys)) ∙ read in
    let split : front ++ (ys ++ back) ≡ (front ++ take n ys) ++ (drop n ys ++ back) =
    ap (λ (u : List ℕ). front ++ u) whole ∙ sym (append_assoc front (take n ys) (drop n ys ++ back)) in
    let size : length (front ++ take n ys) ≡ a + n = omega (arith, length-append front (take n ys), length-take-le a xs l, length-take-le n ys m) in
    ap (take (a + n)) split ∙ take_at (front ++ take n ys) (drop n ys ++ back) (a + n) size

-- WRITING: the text that lies at the start of a room which was long enough
pub written-text : (n : ℕ) (room t new : List ℕ) (r : Result ℕ Refused) → n ≤ length room → told r ≡ length_of (placed (length room) t)
    → new ≡ holding room (placed (length room) t) → Longest n room (shown_written (told r)) → take (result_unwrap_or r 0) new ≡ t
written-text n room t new r l e f h = go (dec_lt (length room) (length t)) r e h
  where
    go : Dec (length room < length t) → (r : Result ℕ Refused) → told r ≡ length_of (placed (length room) t) → Longest n room (shown_written (told r))
        → take (result_unwrap_or r 0) new ≡ t
    go (yes m) r e h = let longest = rw (e ∙ ap length_of (placed-no room t m)) at h in absurd (longest.holds l refl)
    go (no m) (Ok k) e h =
        let size : answered k ≡ answered (length t) = e ∙ ap length_of (placed-yes room t (omega arith)) in
        let k-is : length t ≡ k = cc in
        let put = f ∙ ap (holding room) (placed-yes room t (omega arith)) ∙ put-fits room 0 t (omega arith) in
        ap (take k) put ∙ take_at t (drop (0 + length t) room) k k-is
    go (no m) (Err x) e h = let never : refused (shown_refusal x) ≡ answered (length t) = e ∙ ap length_of (placed-yes room t (omega arith)) in cc
