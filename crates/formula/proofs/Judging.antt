-- Where a text is left, by the position at which the reader stops; and the check of the totals, which the capped counts pass as the totals do.
use mathlib.Core.Path.{◌≡◌, refl, sym, ap, ◌∙◌, subst}
use mathlib.Core.List.{List, [], ◌∷◌, map}
use Rattle.std.specs.Prelude.{Some, None}
use Prim.Native.Nat.{ℕ, suc, ◌-◌, ◌≤◌}
use native.Mathlib.Numerals.{sub-one}
use native.Mathlib.Omega.{arith}
use mathlib.Core.Bool.{true, false}
use lib.Dec.{eqb}
use borrow.Author.Tests.{eqb-true}
use lib.ListN.{length}
use lib.Seq.{ext_get_or}
use Rattle.answer.proofs.Lowest.{lowest-alike}
use Rattle.std.specs.Prelude.{Ok, Err}
use Rattle.text.specs.Reader as reader
use Rattle.text.specs.Reader.{ok, stuck, left_at, value_read}
use Rattle.elements.specs.declared.Atoms.{Atoms}
use Rattle.elements.specs.Elements.{Totals, nothing, elements, count_at, atoms, each, first_above}
use Rattle.elements.proofs.Elements.{numbered, count-atoms, each_at}
use Rattle.elements.proofs.Above.{none_above}
use Rattle.std.specs.Borrow.{Bor}
use Rattle.formula.specs.declared.Tally.{Tally}
use Rattle.formula.specs.Internal.{cap, Counted, Says}
use Rattle.formula.proofs.Caps.{over-cap, from-nothing}

-- t is left before its end, or is read to it
module _ {t : List ℕ} {u : Bor (List ℕ)} {a b : Tally} where
  pub left-stuck : {x : reader.Result Totals} → Says t a (Err u) b x → left_at (length t) x ≡ Some (length t - length u.now)
  left-stuck {x = ok m w} f = absurd f.found
  left-stuck {x = stuck w} f = ap Some (ap (λ (v : List ℕ). length t - length v) f.found.left)

  pub left-before : {x : reader.Result Totals} → false ≡ eqb (length u.now) 0 → Says t a (Ok u) b x → left_at (length t) x ≡ Some (length t - length u.now)
  left-before {x = ok m []} e f = let n = rw (← f.found.left) at e in cc
  left-before {x = ok m (y ∷ w)} e f = ap Some (ap (λ (v : List ℕ). length t - length v) f.found.left)
  left-before {x = stuck w} e f = absurd f.found

  pub left-none : {x : reader.Result Totals} → Counted a nothing → true ≡ eqb (length u.now) 0 → Says t a (Ok u) b x → (left_at (length t) x ≡ None) × Counted b (value_read nothing x)
  left-none {x = ok m []} c e f = (refl, from-nothing m c f.found.adds)
  left-none {x = ok m (y ∷ w)} c e f = absurd (omega (arith, ap length f.found.left, eqb-true (length u.now) 0 (sym e)))
  left-none {x = stuck w} c e f = absurd f.found

-- counts that hold the totals m: they have the same element above 200, and without one they are the totals
module _ (held : Atoms) (m : Totals) (h : Counted (record { count = held.count }) m) where
  capped_at : (k : ℕ) → 1 ≤ k → k ≤ 10 → count_at held k ≡ cap (count_at (atoms m) k)
  capped_at k l g =
      let (e, q) = numbered k l g in
      subst (λ (j : ℕ). count_at held j ≡ cap (count_at (atoms m) j)) q (h.each e ∙ ap cap (sym (count-atoms m e)))

  pub above-alike : first_above (each 200) (atoms m) ≡ first_above (each 200) held
  unfolding first_above
  above-alike = lowest-alike _ _ 1 10 (λ k l g. rw (each_at 200 k l (omega arith), capped_at k l (omega arith)) (sym (over-cap (count_at (atoms m) k))))

  pub counts_whole : first_above (each 200) held ≡ None → held ≡ atoms m
  counts_whole e = ap (λ (l : List ℕ). record { count = l }) (ext_get_or 0 held.count (map m elements) h.ten (λ i l. rw sub-one at (same_at (suc i) (omega arith) (omega (arith, h.ten)))))
    where
      same_at : (k : ℕ) → 1 ≤ k → k ≤ 10 → count_at held k ≡ count_at (atoms m) k
      same_at k l g = omega (arith, capped_at k l g, none_above (each 200) held e k l g, each_at 200 k l g)
