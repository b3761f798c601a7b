-- A number that is none of the ten is outside.
use Rattle.std.proofs.Common.{◌≡◌, refl, rules, Bool, true, false, ◌||◌, ℕ, ◌≤◌, ◌<◌, ltb, arith}
use borrow.Author.Tests.{lt-ltb, ltb-false}
use Rattle.answer.specs.Outside.{outside}
use Rattle.flash.proofs.ClassTryFromU64.try_from.Goals as goal

beyond : (n : ℕ) (b : Bool) → ltb n 1 ≡ b → (1 ≤ n → 10 < n) → (b || ltb 10 n) ≡ true
beyond n true e h = refl
beyond n false e h = lt-ltb 10 n (h (ltb-false n 1 e))

pub returns-in_default : goal.returns-in_default
unfolding outside
returns-in_default c = (beyond c.args.number _ refl (λ l. omega arith), search rules)
