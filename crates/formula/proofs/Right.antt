-- The outcome of reading a text is the one that the grammar gives, and no other is.
use mathlib.Core.Path.{◌≡◌, refl, sym, ap, ◌∙◌}
use mathlib.Core.List.{List, [], ◌∷◌, ◌++◌, append-nil}
use Rattle.std.specs.Prelude.{Option, Some, None}
use Prim.Native.Nat.{ℕ, suc, ◌-◌, ◌≤◌, ◌<◌}
use native.Mathlib.Omega.{arith}
use native.Mathlib.Decide.{dec_lt}
use lib.ListN.{length}
use borrow.Author.Tests.{lt-ltb, le-ltb}
use Rattle.answer.specs.Numbers.{no_formula, count_too_large}
use Rattle.answer.specs.Outcome.{Outcome, refused, answered, refusal, refuse_at}
use Rattle.text.specs.Beginning.{Begins}
use Rattle.text.specs.Reader.{Result, ok, stuck, left_at}
use Rattle.text.proofs.Readers.{not-read}
use Rattle.text.proofs.Beginnings.{left_behind, one-longest}
use Rattle.elements.specs.declared.Atoms.{Atoms}
use Rattle.elements.specs.Elements.{Totals, number, atoms, each, first_above}
use Rattle.elements.proofs.Elements.{count-atoms}
use Rattle.elements.proofs.Above.{above-some, above-none, only_above, no_above}
use Rattle.formula.specs.Grammar.{Formula, text, totals, Reads, FormulaText}
use Rattle.formula.specs.Reader.{read_items}
use Rattle.formula.specs.Reading.{judged, reading, Outcomes, long, other, large, counted, OnlyOutcome}
use Rattle.formula.proofs.Complete.{read-items, complete}
use Rattle.formula.proofs.Sound.{Same, FormulaAt, formula, no-formula, formula-in}

-- what is left before its end is no formula
unread : (t : List ℕ) (x : Result Totals) (p : ℕ) → read_items 8 t ≡ x → left_at 0 x ≡ Some p → ¬ (FormulaText t)
unread = not-read FormulaText (read_items 8) (λ t f. ap (left_at 0) (ap (read_items 8) (sym f.1) ∙ complete f.0))

module _ (t : List ℕ) where
  pub long-reading : 256 < length t → reading t ≡ refused (refusal no_formula 256)
  unfolding reading
  long-reading l = rw (lt-ltb 256 (length t) l)

  module _ (short : length t ≤ 256) where
    pub short-reading : (x : Result Totals) → read_items 8 t ≡ x → reading t ≡ judged (length t) x
    unfolding reading
    short-reading x e = rw (le-ltb 256 (length t) short, e)

    -- A FORMULA: the check of its totals
    module _ (f : Formula 8) (is : Reads t f) where
      checked : (o : Option ℕ) → first_above (each 200) (atoms (totals f)) ≡ o → refuse_at count_too_large o (answered (atoms (totals f))) ≡ reading t
      checked o q = sym (short-reading (ok (totals f) []) (ap (read_items 8) (sym is) ∙ complete f) ∙ rw q)

      right-totals : (o : Option ℕ) → first_above (each 200) (atoms (totals f)) ≡ o → Outcomes t (refuse_at count_too_large o (answered (atoms (totals f))))
      right-totals (Some k) q =
          let e = above-some 200 (atoms (totals f)) k q in
          rw (← e.1) (large short f is e.0 (omega (arith, e.2, count-atoms (totals f) e.0)) (λ x l. omega (arith, e.3 x l, count-atoms (totals f) x)))
      right-totals None q = counted short f is (λ x. omega (arith, above-none 200 (atoms (totals f)) q x, count-atoms (totals f) x))

    -- NO FORMULA: the reader leaves t behind p, in front of r, and as well whatever begins as r does
    stops : (p r : List ℕ) (x : List ℕ → Result Totals) → Begins FormulaText p → t ≡ p ++ r → ((u : List ℕ) → Same r u → read_items 8 (p ++ u) ≡ x u)
        → ((n : ℕ) → left_at n (x r) ≡ Some (n - length r)) → ((b : ℕ) (u : List ℕ) → left_at 0 (x (b ∷ u)) ≡ Some (0 - length (b ∷ u))) → Outcomes t (reading t)
    stops p r x starts split stays here there =
        let e : read_items 8 t ≡ x r = ap (read_items 8) split ∙ stays r (refl, refl) in
        rw (short-reading (x r) e, here (length t)) (other short (unread t (x r) _ e (here 0)) (length t - length r)
        (left_behind FormulaText t p r starts split (λ b v u q. unread (p ++ b ∷ u) (x (b ∷ u)) _ (stays (b ∷ u) (rw q (refl, refl))) (there b u))))

    right-short : FormulaAt 8 t → Outcomes t (reading t)
    unfolding read_items
    right-short (formula f [] s e) =
        let is : text f ≡ t = sym (s ∙ append-nil (text f)) in
        let o = first_above (each 200) (atoms (totals f)) in
        rw (← checked f is o refl) (right-totals f is o refl)
    right-short (formula f (b ∷ r) s e) =
        stops (text f) (b ∷ r) (ok (totals f)) ([], (f, sym (append-nil (text f)))) s (λ u z. read-items f u (sym z.1 ∙ e)) (λ n. refl) (λ c u. refl)
    right-short (no-formula h) = stops h.front h.rest stuck h.starts h.split (λ u z. h.stays u z (suc (length (h.front ++ u))) (omega arith)) (λ n. refl) (λ c u. refl)

  pub right : Outcomes t (reading t)
  right = go (dec_lt 256 (length t))
    where
      go : Dec (256 < length t) → Outcomes t (reading t)
      go (yes l) = rw (long-reading l) (long l)
      go (no l) = right-short (omega arith) (formula-in 8 t)

  -- every outcome that the grammar gives is the reader's
  pub only-outcome : (o : Outcome Atoms) → Outcomes t o → o ≡ reading t
  only-outcome o (long l) = sym (long-reading l)
  only-outcome o (other s n p i) = sym (go (reading t) right)
    where
      go : (u : Outcome Atoms) → Outcomes t u → u ≡ refused (refusal no_formula p)
      go u (long l) = absurd (omega arith)
      go u (other _ _ q j) = ap (λ (k : ℕ). refused (refusal no_formula k)) (one-longest FormulaText t q p j i)
      go u (large _ f is _ _ _) = absurd (n (f, is))
      go u (counted _ f is _) = absurd (n (f, is))
  only-outcome o (large s f is e l k) = checked s f is (Some (number e))
      (only_above 200 (atoms (totals f)) e (omega (arith, count-atoms (totals f) e)) (λ x h. omega (arith, k x h, count-atoms (totals f) x)))
  only-outcome o (counted s f is k) = checked s f is None (no_above 200 (atoms (totals f)) (λ x. omega (arith, k x, count-atoms (totals f) x)))

  -- so the reader's outcome is the only one
  pub by-grammar : (o : Outcome Atoms) → o ≡ reading t → OnlyOutcome t o
  by-grammar o e = record { right = rw e right; only = λ u h. only-outcome u h ∙ sym e }
