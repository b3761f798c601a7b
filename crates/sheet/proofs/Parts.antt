-- Laws of parts: their form, and the number that the digits spell.
use mathlib.Core.Path.{◌≡◌, refl, sym, ◌∙◌}
use mathlib.Core.Bool.{true, ◌&&◌}
use mathlib.Core.List.{List}
use Prim.Native.Nat.{ℕ, ◌+◌, ◌*◌, ◌-◌, ◌^◌, ◌≤◌, ◌<◌}
use native.Mathlib.Nat.{pow-suc, pow-le-pow_right}
use native.Mathlib.Numerals.{add-one}
use native.Mathlib.Omega.{arith}
use borrow.Author.Tests.{leb-true}
use lib.Dec.{leb, lit<}
use lib.ListN.{length, get_or, drop, drop_of_length-le}
use lib.Seq.{drop-cons}
use Rattle.std.specs.List.{list_all}
use Rattle.std.proofs.lemmas.List.Recursion.{and_at}
use Rattle.answer.proofs.Tests.{both}
use Rattle.text.specs.Bytes.{byte}
use Rattle.text.specs.Decimal.{digit_from}
use Rattle.text.proofs.Decimals.{digit-bounds}
use Rattle.sheet.specs.Mixture.{is_parts, spelled_from}

module _ (s : List ℕ) (e : is_parts s ≡ true) where
  facts : (list_all (digit_from 0) s ≡ true) × (length s ≤ 7)
  unfolding is_parts
  facts =
      let k = both (list_all (digit_from 0) s) _ e in
      let m = both (leb 1 (length s) && leb (length s) 7) _ k.1 in
      (k.0, leb-true (length s) 7 (both (leb 1 (length s)) (leb (length s) 7) m.0).1)

  pub parts_digit : (i : ℕ) → i < length s → (byte "0" ≤ get_or s i 0) × (get_or s i 0 ≤ byte "9")
  parts_digit i l = digit-bounds 0 (get_or s i 0) (and_at (list_all (digit_from 0)) (digit_from 0) refl (λ _ _. refl) s i 0 l facts.0)

-- THE NUMBER, while a loop passes the digits: n is spelled so far
pub record Spelling (s : List ℕ) (i n : ℕ) : Type 0 where
  pub small : n < 10 ^ i
  pub spelled : spelled_from 0 s ≡ spelled_from n (drop i s)

module _ (s : List ℕ) (i n : ℕ) (h : Spelling s i n) where
  pub spelling_ends : length s ≤ i → n ≡ spelled_from 0 s
  unfolding spelled_from
  spelling_ends l = sym (h.spelled ∙ rw (drop_of_length-le s l))

  module _ (e : is_parts s ≡ true) (l : i < length s) where
    pub spelling_small : n < 10000000
    spelling_small = let few : i ≤ 7 = omega (arith, (facts s e).1) in let q : 10 ^ i ≤ 10 ^ 7 = pow-le-pow_right (lit< tt) few in omega (arith, h.small)

    pub spelling_more : Spelling s (i + 1) (10 * n + (get_or s i 0 - byte "0"))
    unfolding spelled_from
    spelling_more = record {
      small = rw (add-one i, pow-suc 10 i) (omega (arith, h.small, parts_digit s e i l));
      spelled = h.spelled ∙ rw (drop-cons s i 0 l, add-one i);
    }
