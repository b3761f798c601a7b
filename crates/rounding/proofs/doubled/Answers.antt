-- 64 doublings are too many; behind each step, half as many.
use Rattle.std.proofs.Common.{◌≡◌, ℕ, ◌+◌, ◌*◌, ◌/◌, ◌%◌, ◌^◌, cond, leb, arith}
use Rattle.rounding.specs.Internal.{Doubled}
use Rattle.rounding.proofs.Division.{doubled-none, doubled-grown}
use Rattle.rounding.proofs.doubled.Goals as goal

pub returns : goal.returns
returns c =
    let n = c.args.n in
    let d = c.args.d in
    let step = λ (k m r : ℕ) (e : r ≡ cond (leb m (n / 2 ^ k)) (m * 2 ^ k % 18446744073709551616) m) (p : Doubled n d (k + k) m).
    doubled-grown _ n d k m r (omega (arith, c.ranges.n)) p e in
    step 1 _ _ c.grown.ensures
    (step 2 _ _ c.grown-within_2.ensures
    (step 4 _ _ c.grown-within_4.ensures
    (step 8 _ _ c.grown-within_8.ensures
    (step 16 _ _ c.grown-within_16.ensures
    (step 32 _ _ c.grown-within_32.ensures (doubled-none 64 n d (omega (arith, c.ranges.n)) c.requires.0 c.requires.1))))))
