-- The marks of rounded figures (document 02, change request k): how the size of a figure stands to that of the exact fraction from which it was rounded.
use Rattle.std.specs.Prelude.{ℕ}
use Rattle.answer.specs.declared.Mark.{Mark}
use Rattle.answer.specs.declared.Mark.TheVariants.{Exact, Raised, Lowered}

-- the number of a mark: the size is the same, it is larger, it is smaller
abbrev pub mark_number : Mark → ℕ
mark_number Exact = 0
mark_number Raised = 1
mark_number Lowered = 2
