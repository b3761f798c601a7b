-- Tables 17 to 20 of the source documents, in thousandths (document 01, "Bonds and classes").
use Rattle.std.specs.Prelude.{List, [], ◌∷◌, ℕ, ℤ, pos, neg_ℤ, Option, Some, None}
use Rattle.flash.specs.declared.Linear.{Linear}

abbrev plus : ℕ → Option ℤ
plus n = Some (pos n)

abbrev minus : ℕ → Option ℤ
minus n = Some (neg_ℤ (pos n))

-- the bonds' coefficients: closed cup, open cup, fire point; `None` is a blank of the table
unfoldable pub coefficients : List (List (Option ℤ))
coefficients =
    (minus 2030 ∷ plus 3630 ∷ plus 27 ∷ [])  -- 1 C–C
    ∷ (minus 280 ∷ plus 6480 ∷ minus 2069 ∷ [])  -- 2 C…C
    ∷ (plus 1720 ∷ minus 4180 ∷ minus 8980 ∷ [])  -- 3 C=C
    ∷ (plus 1105 ∷ plus 350 ∷ minus 2118 ∷ [])  -- 4 C–H
    ∷ (plus 2470 ∷ plus 4620 ∷ minus 111 ∷ [])  -- 5 C–O
    ∷ (plus 11660 ∷ plus 25360 ∷ minus 826 ∷ [])  -- 6 C=O
    ∷ (plus 14150 ∷ minus 7030 ∷ minus 5876 ∷ [])  -- 7 C–N
    ∷ (plus 12130 ∷ None ∷ None ∷ [])  -- 8 C≡N
    ∷ (plus 2090 ∷ plus 14860 ∷ None ∷ [])  -- 9 C–S
    ∷ (minus 11910 ∷ None ∷ None ∷ [])  -- 10 C=S
    ∷ (plus 3330 ∷ None ∷ None ∷ [])  -- 11 C–F
    ∷ (plus 15110 ∷ None ∷ None ∷ [])  -- 12 C–Cl
    ∷ (plus 19400 ∷ None ∷ None ∷ [])  -- 13 C–Br
    ∷ (minus 4840 ∷ None ∷ None ∷ [])  -- 14 C–Si
    ∷ (plus 11000 ∷ minus 4580 ∷ None ∷ [])  -- 15 Si–H
    ∷ (plus 10070 ∷ None ∷ None ∷ [])  -- 16 Si–Cl
    ∷ (plus 5830 ∷ plus 18150 ∷ minus 261 ∷ [])  -- 17 N–H
    ∷ (plus 23900 ∷ plus 44290 ∷ plus 8216 ∷ [])  -- 18 O–H
    ∷ (plus 5640 ∷ plus 10750 ∷ None ∷ [])  -- 19 S–H
    ∷ (plus 3270 ∷ plus 22230 ∷ None ∷ [])  -- 20 P–O
    ∷ (plus 9640 ∷ minus 9860 ∷ None ∷ [])  -- 21 P=O
    ∷ (None ∷ plus 50490 ∷ None ∷ [])  -- 22 SiCl3
    ∷ []

-- a constant and a slope
abbrev pub linear_of : ℤ → ℤ → Linear
linear_of a b = record { constant = a; slope = b }

-- past the end of a table
abbrev pub nowhere : Linear
nowhere = linear_of (pos 0) (pos 0)

-- of each method
unfoldable pub methods : List Linear
methods =
    linear_of (neg_ℤ (pos 73140)) (pos 659)  -- 1 closed cup
    ∷ linear_of (neg_ℤ (pos 73000)) (pos 409)  -- 2 open cup
    ∷ linear_of (neg_ℤ (pos 47780)) (pos 882)  -- 3 fire point
    ∷ []

-- of each class
unfoldable pub classes : List Linear
classes =
    linear_of (neg_ℤ (pos 73220)) (pos 693)  -- 1 alkanes
    ∷ linear_of (neg_ℤ (pos 41690)) (pos 652)  -- 2 alcohols
    ∷ linear_of (neg_ℤ (pos 21940)) (pos 533)  -- 3 alkylanilines
    ∷ linear_of (neg_ℤ (pos 43570)) (pos 708)  -- 4 carboxylic acids
    ∷ linear_of (neg_ℤ (pos 38420)) (pos 623)  -- 5 alkylphenols
    ∷ linear_of (neg_ℤ (pos 67830)) (pos 665)  -- 6 aromatic hydrocarbons
    ∷ linear_of (neg_ℤ (pos 74760)) (pos 813)  -- 7 aldehydes
    ∷ linear_of (neg_ℤ (pos 49560)) (pos 665)  -- 8 bromoalkanes
    ∷ linear_of (neg_ℤ (pos 52690)) (pos 643)  -- 9 ketones
    ∷ linear_of (neg_ℤ (pos 55700)) (pos 631)  -- 10 chloroalkanes
    ∷ []
