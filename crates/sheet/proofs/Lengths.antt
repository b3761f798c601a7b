-- How long an answer's text is.
use mathlib.Core.Path.{◌≡◌, ap}
use mathlib.Core.List.{List, ◌++◌}
use Prim.Native.Nat.{ℕ, ◌+◌, ◌/◌, ◌%◌, ◌≤◌, ◌<◌}
use native.Mathlib.Omega.{arith}
use lib.Dec.{eqb}
use lib.ListN.{length, length-append}
use Rattle.answer.specs.declared.Refusal.{Refusal}
use Rattle.answer.proofs.Tests.{choose}
use Rattle.text.specs.Bytes.{bytes}
use Rattle.text.specs.Decimal.{decimal}
use Rattle.text.proofs.Decimals.{decimal-one, decimal-length}
use Rattle.blend.specs.declared.Limits.{Limits}
use Rattle.sheet.specs.Answer.{percent, limits_line, refusal_line, answer_line, answer_text}

-- a 64-bit number
abbrev pub Fits64 : ℕ → Type 0
Fits64 n = n < 18446744073709551616

-- four pieces
four : (a b c d : List ℕ) → length (((a ++ b) ++ c) ++ d) ≡ length a + length b + length c + length d
four a b c d = omega (arith, length-append a b, length-append (a ++ b) c, length-append ((a ++ b) ++ c) d)

one-digit : (n : ℕ) → n < 10 → length (decimal n) ≡ 1
one-digit n l = ap length (decimal-one n l)

percent-short : (n : ℕ) → Fits64 n → length (percent n) ≤ 21
unfolding percent
percent-short n l =
    omega (
      arith,
      four (decimal (n / 100)) (bytes ".") (decimal (n % 100 / 10)) (decimal (n % 100 % 10)),
      decimal-length 17 (n / 100) (omega arith),
      one-digit (n % 100 / 10) (omega arith),
      one-digit (n % 100 % 10) (omega arith),
    )

limits-short : (lower upper : ℕ) → Fits64 lower → Fits64 upper → length (limits_line lower upper) ≤ 47
unfolding limits_line
limits-short lower upper l u = omega (arith, four (bytes "0,0,") (percent lower) (bytes ",") (percent upper), percent-short lower l, percent-short upper u)

refusal-short : (r : Refusal) → Fits64 r.number → Fits64 r.place → length (refusal_line r) ≤ 47
unfolding refusal_line
refusal-short r n p =
    omega (arith, four (decimal r.number) (bytes ",") (decimal r.place) (bytes ",,"), decimal-length 19 r.number (omega arith), decimal-length 19 r.place (omega arith))

-- of an answer whose numbers fit 64 bits: 27 bytes of header, at most 47 of its line, 2 of its end
module _ (a : Limits) (n : Fits64 a.refusal.number) (p : Fits64 a.refusal.place) (l : Fits64 a.lower) (u : Fits64 a.upper) where
  line-short : length (answer_line a) ≤ 47
  unfolding answer_line
  line-short = choose (λ (t : List ℕ). length t ≤ 47) (eqb a.refusal.number 0) (λ _. limits-short a.lower a.upper l u) (λ _. refusal-short a.refusal n p)

  pub text-short : length (answer_text a) ≤ 76
  unfolding answer_text
  text-short =
      let header = bytes "answer,record,lower,upper\r\n" in
      omega (arith, line-short, length-append header (answer_line a), length-append (header ++ answer_line a) (bytes "\r\n"))
