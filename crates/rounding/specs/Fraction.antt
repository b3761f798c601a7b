-- Exact fractions of whole numbers, with operations under names of their own, and the figure with its mark that one is answered as.
-- A fraction over 0 stands for no number; no law speaks of one.
use Rattle.std.specs.Prelude.{◌≡◌, Bool, ℕ, ◌+◌, ◌*◌, ◌≤◌, ◌<◌, leb}
use Rattle.answer.specs.declared.Rounded.{Rounded}
use Rattle.rounding.specs.Round.{round_div}

pub record Fraction : Type 0 where
  pub num : ℕ
  pub den : ℕ

infix 50 ◌⊑◌ ◌⊏◌ ◌≃◌
infix 60 ◌over◌
infixl 70 ◌⊞◌
infixl 75 ◌⊠◌ ◌⊘◌
unfoldable pub ◌over◌ : ℕ → ℕ → Fraction
◌over◌ n d = record { num = n; den = d }

unfoldable pub whole : ℕ → Fraction
whole n = record { num = n; den = 1 }

-- sum, product and quotient
unfoldable pub ◌⊞◌ : Fraction → Fraction → Fraction
◌⊞◌ f g = record { num = f.num * g.den + g.num * f.den; den = f.den * g.den }

unfoldable pub ◌⊠◌ : Fraction → Fraction → Fraction
◌⊠◌ f g = record { num = f.num * g.num; den = f.den * g.den }

unfoldable pub ◌⊘◌ : Fraction → Fraction → Fraction
◌⊘◌ f g = record { num = f.num * g.den; den = f.den * g.num }

-- two fractions compared by their cross products; neither is over 0
pub record Compares (R : ℕ → ℕ → Type 0) (f g : Fraction) : Type 0 where
  pub left_over : 0 < f.den
  pub right_over : 0 < g.den
  pub cross : R (f.num * g.den) (g.num * f.den)

-- at most, and below
abbrev pub ◌⊑◌ : Fraction → Fraction → Type 0
◌⊑◌ f g = Compares (λ m n. m ≤ n) f g

abbrev pub ◌⊏◌ : Fraction → Fraction → Type 0
◌⊏◌ f g = Compares (λ m n. m < n) f g

-- exactly equal
abbrev pub ◌≃◌ : Fraction → Fraction → Type 0
◌≃◌ f g = Compares (λ m n. m ≡ n) f g

-- at most, as a test of fractions that are not over 0
unfoldable pub at_most : Fraction → Fraction → Bool
at_most f g = leb (f.num * g.den) (g.num * f.den)

-- the exact fraction rounded once, with its mark
unfoldable pub rounded : Fraction → Rounded ℕ
rounded f = round_div f.num f.den
