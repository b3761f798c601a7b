-- The round trip: what is written reads back to the same counts.
use mathlib.Core.Path.{◌≡◌, refl, sym, ap, ◌∙◌, subst, fun_ext}
use mathlib.Core.List.{List, map}
use Prim.Native.Nat.{ℕ, ◌+◌, ◌-◌, ◌≤◌, ◌<◌}
use native.Mathlib.Omega.{arith}
use native.Mathlib.Nat.{mul-le-mul}
use lib.ListN.{length, take, drop, get_or}
use lib.Dec.{ltb}
use lib.Seq.{ext_get_or, take-append_seam}
use borrow.Author.Tests.{le-ltb, ltb-false, eq-eqb}
use Rattle.answer.specs.Numbers.{no_formula, count_too_large, no_room}
use Rattle.answer.specs.Outcome.{Outcome, answered, refuse, refuse_at}
use Rattle.answer.proofs.Outcomes.{refuse-passed, refuse_at-passed}
use Rattle.text.specs.Writing.{placed, holding}
use Rattle.text.proofs.Rooms.{put-fits}
use Rattle.elements.specs.declared.Element.{Element}
use Rattle.elements.specs.declared.Atoms.{Atoms}
use Rattle.elements.specs.Elements.{elements, number, count, atoms, each, first_above, is_empty}
use Rattle.formula.specs.Grammar.{Count, unwritten, written, value, Formula, last, next, Item, element, group, totals, item_totals}
use Rattle.hill.specs.Hill.{hill_text}
use Rattle.formula.specs.Reading.{reading, Outcomes, counted}
use Rattle.hill.specs.Writing.{writing, room_after}
use Rattle.hill.specs.RoundTrip.{Writable, RoundTrip}
use Rattle.elements.proofs.Elements.{numbered, count-atoms}
use Rattle.elements.proofs.Above.{above-none, no_above, has-atoms, some-element}
use Rattle.formula.proofs.Right.{right, only-outcome}
use Rattle.hill.proofs.Lines.{hill-short}
use Rattle.hill.proofs.Trees.{hill-tree}

-- counts by their elements
atoms-count : (a : Atoms) → length a.count ≡ 10 → atoms (count a) ≡ a
atoms-count a ten =
    let whole : List ℕ → Atoms = λ l. record { count = l } in
    ap whole (ext_get_or 0 (map (count a) elements) a.count (sym ten) λ i l.
    let e = numbered (i + 1) (omega arith) (omega arith) in
    let at : number e.0 - 1 ≡ i = omega (arith, e.1) in
    subst (λ (j : ℕ). get_or (map (count a) elements) j 0 ≡ get_or a.count j 0) at (count-atoms (count a) e.0))

-- THE HILL TEXT of writable counts is a formula with these totals
hill-back : (a : Atoms) → Writable a → reading (hill_text a) ≡ answered a
hill-back a w =
    let h = hill-tree a w in
    let f = h.formula in
    let here : Outcomes (hill_text a) (answered (atoms (totals f))) = counted (omega (arith, hill-short a (record { most = w.most }))) f h.reads (λ x. omega (arith, h.counts x, w.most x)) in
    sym (only-outcome (hill_text a) (answered (atoms (totals f))) here) ∙ ap answered (ap atoms (fun_ext h.counts) ∙ atoms-count a w.ten)

-- WHAT WAS WRITTEN is the Hill text of writable counts, and it fits: no test of the chain refused
room-starts : (a : Atoms) (room t : List ℕ) → writing a (length room) ≡ answered t → length t ≤ length room → take (length t) (room_after a room) ≡ t
unfolding room_after
room-starts a room t e l =
    ap (λ (o : Outcome (List ℕ)). take (length t) (holding room o)) e
    ∙ ap (take (length t)) (put-fits room 0 t (omega arith))
    ∙ take-append_seam t (drop (0 + length t) room)

written_back : (a : Atoms) (room t : List ℕ) → length a.count ≡ 10 → writing a (length room) ≡ answered t → reading (take (length t) (room_after a room)) ≡ answered a
unfolding writing placed
written_back a room t ten e =
    let h = hill_text a in
    let over = first_above (each 200) a in
    let long = ltb (length room) (length h) in
    let p = refuse-passed no_formula 0 (is_empty a) (refuse_at count_too_large over (refuse no_room 0 long (answered h))) t e in
    let q = refuse_at-passed count_too_large over (refuse no_room 0 long (answered h)) t p.1 in
    let r = refuse-passed no_room 0 long (answered h) t q.1 in
    let whole : answered h ≡ answered t = r.1 in
    let same : h ≡ t = cc in
    let fits : length t ≤ length room = omega (arith, ap length same, ltb-false (length room) (length h) r.0) in
    ap reading (room-starts a room t e fits ∙ sym same) ∙ hill-back a (record { ten = ten; most = above-none 200 a q.0; some = some-element a p.0 })

-- WHAT WAS READ are writable counts
value_pos : (c : Count) → 1 ≤ value c
value_pos unwritten = omega arith
value_pos (written n l h) = l

mutual
  formula-atom : {d : ℕ} (f : Formula d) → (e : Element) × (0 < totals f e)
  formula-atom (last i) = item-atom i
  formula-atom (next i f) = let e = item-atom i in (e.0, omega (arith, e.1))

  item-atom : {d : ℕ} (i : Item d) → (e : Element) × (0 < item_totals i e)
  item-atom (element e n) = (e, rw (eq-eqb (number e) (number e) refl) (omega (arith, value_pos n)))
  item-atom (group f n) = let e = formula-atom f in (e.0, omega (arith, mul-le-mul e.1 (value_pos n)))

read-writable : (t : List ℕ) (a : Atoms) → Outcomes t (answered a) → Writable a
read-writable t a (counted s f is k) =
    let e = formula-atom f in
    record { ten = refl; most = λ x. omega (arith, k x, count-atoms (totals f) x); some = (e.0, omega (arith, e.1, count-atoms (totals f) e.0)) }

writable-written : (a : Atoms) (n : ℕ) → Writable a → length (hill_text a) ≤ n → writing a n ≡ answered (hill_text a)
unfolding writing placed
writable-written a n w l = rw (has-atoms a w.some.0 w.some.1, no_above 200 a w.most, le-ltb n (length (hill_text a)) l)

pub round_trip : RoundTrip
round_trip = record {
  back = hill-back;
  kept = written_back;
  again = λ t a room e l.
      let w = read-writable t a (rw e at (right t)) in
      let h = writable-written a (length room) w l in
      (h, written_back a room (hill_text a) w.ten h);
}
