-- The claim holds of every list of calls, and of the marks what stands beside it.
use mathlib.Core.Path.{◌≡◌, sym, ap, ◌∙◌}
use mathlib.Core.List.{List, Permᴰ}
use Prim.Native.Nat.{ℕ, ◌≤◌, ◌<◌}
use native.Mathlib.Omega.{arith}
use lib.Dec.{ltb}
use Rattle.blend.specs.Blend.{Question, asking_marked, without_marks, asking}
use Rattle.blend.specs.Calls.{Call, add, join}
use Rattle.blend.specs.Model.{Entry, Entries, sum, total, model_asks_marked, model_asks}
use Rattle.blend.specs.Claims.{blends, entries, blend_answers, is_refused, refused_somewhere, Different, Route, own_answers, Claims}
use Rattle.blend.specs.Marks.{MarksAlike}
use Rattle.blend.proofs.Sums.{parts, Times, sum-perm, times-scaled, times-one}
use Rattle.blend.proofs.LeChatelier.{asks-times}
use Rattle.blend.proofs.Between.{asks-between}
use Rattle.blend.proofs.Runs.{all_alike, next-alike, by-model, in_bounds, all-admitted}
use Rattle.blend.proofs.ZeroParts.{zero-changes}
use Rattle.blend.proofs.Refusals.{add-refused, join-refused}
use Rattle.blend.proofs.Routes.{route-refused, route-has}

-- THE MARKS
module _ (calls : List Call) where
  -- blends with k times the figures of others answer as those
  blends-times : (others : List Call) (i j k : ℕ) → 0 < k → Times k (entries calls i) (entries others j) →
      (q : Question) → asking_marked (blends calls i) q ≡ asking_marked (blends others j) q
  blends-times others i j k p x q = by-model calls i q ∙ asks-times k (entries calls i) (entries others j) x p q ∙ sym (by-model others j q)

  route-left : (all : Entries) (bs : List ℕ) (es : Entries) (w : ℕ) → Different bs → Route w bs es calls → Permᴰ all es →
      total all ≤ 1000000 → (q : Question) → asking_marked (blends calls w) q ≡ model_asks_marked all q
  route-left all bs es w d r p h q =
      let has : (f : Entry → ℕ) → sum f (entries calls w) ≡ sum f all = λ f. route-has r d (rw (sum-perm parts p) at h) f ∙ sym (sum-perm f p) in
      by-model calls w q ∙ asks-times 1 (entries calls w) all (times-one (entries calls w) all has) (omega arith) q

  pub marks-alike : MarksAlike calls
  marks-alike = record {
    by_entries = by-model calls;
    alike = λ others i j p. blends-times others i j 1 (omega arith) (times-one (entries calls i) (entries others j) (λ f. sum-perm f p));
    multiplied = λ others i j k h p. blends-times others i j k (omega arith) (times-scaled k (entries others j) p);
    routes = λ all bs es w d r p h. route-left all bs es w d r p (omega arith);
  }

-- THE CLAIM is of the figures in those answers.
routes-refused : (calls : List Call) {all es : Entries} {bs : List ℕ} {w : ℕ} → Different bs → (r : Route w bs es calls) → Permᴰ all es →
    refused_somewhere (own_answers r (blend_answers calls)) ≡ ltb 1000000 (total all)
routes-refused calls d r p =
    ap (λ a. refused_somewhere (own_answers r a)) (all_alike calls) ∙ route-refused r d ∙ ap (ltb 1000000) (sym (sum-perm parts p))

pub claims : (calls : List Call) → Claims calls
claims calls =
    let marks = marks-alike calls in
    let by_entries : (i : ℕ) (q : Question) → asking (blends calls i) q ≡ model_asks (entries calls i) q = λ i q. ap (without_marks q) (marks.by_entries i q) in
    record {
      answered = all_alike calls;
      next = next-alike calls;
      adding_refused = λ i f v. ap is_refused (next-alike calls (add i f v)) ∙ add-refused (entries calls) i f v;
      joining_refused = λ i j. ap is_refused (next-alike calls (join i j)) ∙ join-refused (entries calls) i j;
      by_entries = by_entries;
      in_bounds = in_bounds calls;
      zero_parts = zero-changes calls;
      between = λ i q x h. asks-between (entries calls i) (all-admitted calls i) q x (sym (by_entries i q) ∙ h);
      alike = λ others i j p q. ap (without_marks q) (marks.alike others i j p q);
      multiplied = λ others i j k h p q. ap (without_marks q) (marks.multiplied others i j k (omega arith) p q);
      routes = λ all bs es w d r p. (routes-refused calls d r p, λ h q. ap (without_marks q) (marks.routes all bs es w d r p (omega arith) q));
    }
