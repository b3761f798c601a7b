-- The reader of formulas as a function on texts.
use Rattle.std.specs.Prelude.{Bool, true, false, cond, List, [], ◌∷◌, ℕ, zero, suc, ◌+◌, ◌*◌, ◌-◌, eqb, length, drop}
use Rattle.std.specs.Prelude.{Option, Some, None}
use Rattle.text.specs.Bytes.{byte, same}
use Rattle.text.specs.Decimal.{digit_from}
use Rattle.text.specs.Reader.{at, Result, ok, stuck}
use Rattle.elements.specs.declared.Element.{Element}
use Rattle.elements.specs.Elements.{elements, symbol, Totals, one, times, plus}
use Rattle.formula.specs.declared.Symbol.{Symbol}
use Rattle.formula.specs.declared.Symbol.TheVariants.{Named, Half, Absent}
use Rattle.formula.specs.declared.Multiple.{Multiple}

-- SYMBOLS. The first of some elements that passes a test.
abbrev pub find : (Element → Bool) → List Element → Option Element
find test [] = None
find test (e ∷ es) = cond (test e) (Some e) (find test es)

-- the element whose symbol is s, and one whose symbol begins with b
abbrev pub with_symbol : List ℕ → Option Element
with_symbol s = find (λ e. same s (symbol e)) elements

abbrev pub with_letter : ℕ → Option Element
with_letter b = find (λ e. eqb b (at (symbol e) 0)) elements

-- the element whose symbol is both bytes, else the one whose symbol is the first; half a symbol where one begins so
abbrev pub symbol_by : Option Element → Option Element → Option Element → Symbol
symbol_by (Some e) first begun = Named e
symbol_by None (Some e) begun = Named e
symbol_by None None (Some e) = Half
symbol_by None None None = Absent

unfoldable pub symbol_of : ℕ → ℕ → Symbol
symbol_of b c = symbol_by (with_symbol (b ∷ c ∷ [])) (with_symbol (b ∷ [])) (with_letter b)

-- COUNTS. The optional count that stands in the bytes a, b, c, and its size: up to three digits, the first not 0.
abbrev pub multiple : ℕ → ℕ → Multiple
multiple v w = record { value = v; size = w }

abbrev pub digit : ℕ → ℕ
digit b = b - byte "0"

unfoldable pub multiple_of : ℕ → ℕ → ℕ → Multiple
multiple_of a b c =
    cond (digit_from 1 a)
    (cond (digit_from 0 b)
    (cond (digit_from 0 c)
    (multiple ((digit a * 10 + digit b) * 10 + digit c) 3)
    (multiple (digit a * 10 + digit b) 2))
    (multiple (digit a) 1))
    (multiple 1 0)

abbrev pub multiple_at : List ℕ → Multiple
multiple_at t = multiple_of (at t 0) (at t 1) (at t 2)

-- READING. m as often as the count says that follows.
abbrev pub counting : Totals → List ℕ → Result Totals
counting m t = ok (times m (multiple_at t).value) (drop (multiple_at t).size t)

-- an element with a count
abbrev pub symbolic : List ℕ → Symbol → Result Totals
symbolic t (Named e) = counting (one e) (drop (length (symbol e)) t)
symbolic t Half = stuck (drop 1 t)
symbolic t Absent = stuck t

abbrev pub symbol_at : List ℕ → Symbol
symbol_at t = symbol_of (at t 0) (at t 1)

abbrev pub read_element : List ℕ → Result Totals
read_element t = symbolic t (symbol_at t)

-- the text ends here, or the group does
abbrev pub ends : List ℕ → Bool
ends [] = true
ends (b ∷ t) = eqb b (byte ")")

-- m and all that is read further
abbrev pub plus_read : Totals → Result Totals → Result Totals
plus_read m (ok n t) = ok (plus m n) t
plus_read m (stuck t) = stuck t

-- after an item: the end, or further items by `rest`
abbrev pub then : (List ℕ → Result Totals) → Result Totals → Result Totals
then rest (ok m t) = elim (ends t) [ true ↦ ok m t | false ↦ plus_read m (rest t) ]
then rest (stuck t) = stuck t

-- one or more items, at most k of them
abbrev pub items : (List ℕ → Result Totals) → ℕ → List ℕ → Result Totals
items item zero t = stuck t
items item (suc k) t = then (items item k) (item t)

-- behind a group's formula: its bracket, and a count
abbrev pub closing : Result Totals → Result Totals
closing (ok m []) = stuck []
closing (ok m (b ∷ t)) = counting m t
closing (stuck t) = stuck t

-- an item and a formula whose groups are nested at most d deep
unfoldable pub read_item : ℕ → List ℕ → Result Totals
read_item zero t = read_element t
read_item (suc d) t = elim (eqb (at t 0) (byte "(")) [ true ↦ closing (items (read_item d) (suc (length (drop 1 t))) (drop 1 t)) | false ↦ read_element t ]

unfoldable pub read_items : ℕ → List ℕ → Result Totals
read_items d t = items (read_item d) (suc (length t)) t
