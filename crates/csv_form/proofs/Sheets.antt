-- Laws of a sheet: its header line, and its first bad record.
use mathlib.Core.Path.{◌≡◌}
use mathlib.Core.Bool.{Bool, true, not}
use mathlib.Core.List.{List, []}
use Prim.Native.Nat.{ℕ, ◌+◌, ◌-◌, ◌≤◌, ◌<◌}
use native.Mathlib.Omega.{arith}
use borrow.Author.Tests.{le-leb, not-false}
use lib.ListN.{length, get_or, take}
use Rattle.std.specs.Prelude.{None}
use Rattle.std.specs.List.{position}
use Rattle.std.specs.Option.{option_map}
use Rattle.answer.specs.Lowest.{IsLowest}
use Rattle.answer.proofs.Lowest.{is-lowest, position-lowest}
use Rattle.text.proofs.Readers.{same-is}
use Rattle.csv_form.specs.declared.Span.{Span}
use Rattle.csv_form.specs.Lines.{line, line_at}
use Rattle.csv_form.specs.Sheet.{headed, bad_at, first_bad_record}
use Rattle.csv_form.proofs.LineLaws.{line-bytes}

module _ (header s : List ℕ) where
  -- b tells whether the first line is the header
  pub headed-test : length s ≤ 65536 → (r : Span) → r ≡ line_at s 0 → (b : Bool) → (b ≡ true → take r.end s ≡ header) × (take r.end s ≡ header → b ≡ true)
      → b ≡ headed header s
  unfolding headed
  headed-test l r e b h = rw (le-leb (length s) 65536 l) (same-is (line s) header b (rw (line-bytes s r e) at h))

-- THE FIRST BAD RECORD, for any test: the first that an iterator meets, counted from 1
module _ (good : List ℕ → Bool) (rs : List (List ℕ)) where
  pub first-bad : option_map (λ i. i + 1) (position (λ l. not (good l)) rs) ≡ first_bad_record good rs
  first-bad = position-lowest (λ l. not (good l)) [] (bad_at good rs) 1 rs (λ i l. let k : 1 + i - 1 ≡ i = omega arith in rw k)

  -- where none is bad, each is good
  pub all-good : first_bad_record good rs ≡ None → (i : ℕ) → i < length rs → good (get_or rs i []) ≡ true
  all-good e i l =
      let k : i + 1 - 1 ≡ i = omega arith in
      let each : IsLowest (bad_at good rs) 1 (length rs) None = rw e at (is-lowest (bad_at good rs) 1 (length rs)) in
      not-false _ (rw k at (each (i + 1) (omega arith) (omega arith)))
