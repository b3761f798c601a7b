-- The commas passed and the fields from here on make all fields.
use Rattle.std.proofs.Common.{◌≡◌, ◌+◌, ◌≤◌, length, drop}
use Rattle.csv_form.specs.Lines.{fields}
use Rattle.csv_form.proofs.field_count.Given as goal

abbrev pub invariant-loop-b : goal.invariant-loop-b
invariant-loop-b l = (l.count + length (fields (drop l.b-index l.l)) ≡ length (fields l.l) + 1) × (l.count ≤ l.b-index + 1)
