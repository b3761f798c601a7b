-- The one claim about every list of calls from empty blends (demand 3).
use Rattle.std.specs.Prelude.{◌≡◌, Bool, true, false, not, ◌||◌, ℕ, ◌+◌, ◌*◌, ◌≤◌, ◌<◌, ltb, nat_abs}
use mathlib.Core.List.{List, [], ◌∷◌, map, Memᴰ, Permᴰ}
use Rattle.answer.specs.Outcome.{Outcome, refused, answered}
use Rattle.rounding.specs.Fraction.{Fraction, ◌⊑◌}
use Rattle.elements.specs.declared.Atoms.{Atoms}
use Rattle.blend.specs.Limit.{lower, upper}
use Rattle.blend.specs.declared.Blend.{Blend}
use Rattle.blend.specs.Temperature.{meant}
use Rattle.blend.specs.Fuel.{Fuel, counts, admitting}
use Rattle.blend.specs.Blend.{empty_blend, within, adding, joining, Question, limits, Told, asking}
use Rattle.blend.specs.Calls.{Call, add, join, ask, Answer, done, told, declined, Keeper, answer_to, next as next_states, answers, after}
use Rattle.blend.specs.Model.{Entry, entry, Entries, total, limit_at, model_asks, model}

-- the blends, by the definitions that the promises cite
abbrev pub keeper : Keeper Blend
keeper = record { adds = adding; joins = joining; asks = asking }

-- from empty blends, and from no entries
abbrev pub blends : List Call → ℕ → Blend
blends calls = after keeper (λ i. empty_blend) calls

abbrev pub entries : List Call → ℕ → Entries
entries calls = after model (λ i. []) calls

abbrev pub blend_answers : List Call → List Answer
blend_answers calls = answers keeper (λ i. empty_blend) calls

abbrev pub model_answers : List Call → List Answer
model_answers calls = answers model (λ i. []) calls

-- ANSWERS
abbrev pub is_refused : Answer → Bool
is_refused done = false
is_refused (told q x) = false
is_refused (declined r) = true

unfoldable pub refused_somewhere : List Answer → Bool
refused_somewhere [] = false
refused_somewhere (a ∷ rest) = is_refused a || refused_somewhere rest

-- a fuel that is admitted
abbrev pub admitted : Fuel → Bool
admitted f = has_atoms (admitting f)
  where
    has_atoms : Outcome Atoms → Bool
    has_atoms (refused r) = false
    has_atoms (answered a) = true

-- BETWEEN. An entry's fuel alone: entries with that fuel at 1 part.
abbrev pub alone : Entry → Entries
alone e = entry e.fuel 1 ∷ []

-- one of some entries, with parts above zero: its fuel is admitted, and the question of that fuel alone is answered with x
pub record AnswersAlone (es : Entries) (q : Question) (e : Entry) (x : Told q) : Type 0 where
  pub taken : Memᴰ e es
  pub present : 0 < e.parts
  pub fuel_admitted : admitting (counts e.fuel) ≡ answered e.fuel
  pub answers : model_asks (alone e) q ≡ answered x

-- of a quantity of the entries, and its figure in their answer x to a question: the fuel of low has alone at most these, and that of high at least these
pub record Between (q : Question) (quantity : Entries → Fraction) (figure_in : Told q → ℕ) (es : Entries) (x : Told q) : Type 0 where
  pub low : Entry
  pub low_told : Told q
  pub low_alone : AnswersAlone es q low low_told
  pub above_exact : quantity (alone low) ⊑ quantity es
  pub above : figure_in low_told ≤ figure_in x
  pub high : Entry
  pub high_told : Told q
  pub high_alone : AnswersAlone es q high high_told
  pub below_exact : quantity es ⊑ quantity (alone high)
  pub below : figure_in x ≤ figure_in high_told

-- of what a question is answered with
abbrev pub BetweenAlone : (q : Question) → Entries → Told q → Type 0
BetweenAlone (limits t) es l =
    Between (limits t) (λ fs. limit_at lower fs (nat_abs (meant t))) (λ m. m.lower) es l
    × Between (limits t) (λ fs. limit_at upper fs (nat_abs (meant t))) (λ m. m.upper) es l

-- MULTIPLIED. All parts times k.
unfoldable pub scaled : ℕ → Entries → Entries
scaled k es = map (λ (e : Entry). entry e.fuel (k * e.parts)) es

-- ROUTES. j stands in a list of blends, and rest is the list without it.
pub data Without (j : ℕ) : List ℕ → List ℕ → Type 0 where
  here : {rest : List ℕ} → Without j (j ∷ rest) rest
  there : {i : ℕ} {bs rest : List ℕ} → Without j bs rest → Without j (i ∷ bs) (i ∷ rest)

-- i does not stand in a list
unfoldable pub Absent : ℕ → List ℕ → Type 0
Absent i [] = Unit {0}
Absent i (j ∷ bs) = (i ≡ j → ⊥) × Absent i bs

-- all blends of a list are different
unfoldable pub Different : List ℕ → Type 0
Different [] = Unit {0}
Different (i ∷ bs) = Absent i bs × Different bs

-- a call beside a route, bs the blends that still take part: any question; an adding to none of them; a joining of any blend into none of them
unfoldable pub Beside : List ℕ → Call → Type 0
Beside bs (add i f v) = Absent i bs
Beside bs (join i j) = Absent i bs
Beside bs (ask i q) = Unit {0}

-- A route over some blends: admitted fuels are added to blends that still take part, and two different ones of those are joined,
-- after which the second takes no part, until one, w, is left. Calls beside it may stand anywhere among these, its own.
-- The entries are listed in the order in which they are added.
pub data Route (w : ℕ) : List ℕ → Entries → List Call → Type 0 where
  left : Route w (w ∷ []) [] []
  adds : {i : ℕ} {f : Fuel} {a : Atoms} {v : ℕ} {bs : List ℕ} {es : Entries} {cs : List Call} →
      Memᴰ i bs → admitting f ≡ answered a → Route w bs es cs → Route w bs (entry a v ∷ es) (add i f v ∷ cs)
  joins : {i j : ℕ} {bs rest : List ℕ} {es : Entries} {cs : List Call} →
      Without j bs rest → Memᴰ i rest → Route w rest es cs → Route w bs es (join i j ∷ cs)
  besides : {c : Call} {bs : List ℕ} {es : Entries} {cs : List Call} → Beside bs c → Route w bs es cs → Route w bs es (c ∷ cs)

-- of the answers to all calls, those to the route's own addings and joinings
unfoldable pub own_answers : {w : ℕ} {bs : List ℕ} {es : Entries} {cs : List Call} → Route w bs es cs → List Answer → List Answer
own_answers r [] = []
own_answers left (a ∷ rest) = []
own_answers (adds m e r) (a ∷ rest) = a ∷ own_answers r rest
own_answers (joins o m r) (a ∷ rest) = a ∷ own_answers r rest
own_answers (besides b r) (a ∷ rest) = own_answers r rest

-- THE CLAIM
pub record Claims (calls : List Call) : Type 0 where
  -- each call answers as the reference model
  pub answered : blend_answers calls ≡ model_answers calls
  -- and so would any next call
  pub next : (c : Call) → answer_to keeper (blends calls) c ≡ answer_to model (entries calls) c
  -- an adding is refused exactly when its fuel is not admitted or the total would exceed 1,000,000; a joining exactly when the total would
  pub adding_refused : (i : ℕ) (f : Fuel) (v : ℕ) → is_refused (answer_to keeper (blends calls) (add i f v)) ≡ (not (admitted f) || ltb 1000000 (total (entries calls i) + v))
  pub joining_refused : (i j : ℕ) → is_refused (answer_to keeper (blends calls) (join i j)) ≡ ltb 1000000 (total (entries calls i) + total (entries calls j))
  -- every question is answered over all that the blend took in, 9 at total 0, the limits by Le Chatelier's rule; and no blend is ever out of bounds, so
  -- that 28 never arises
  pub by_entries : (i : ℕ) (q : Question) → asking (blends calls i) q ≡ model_asks (entries calls i) q
  pub in_bounds : (i : ℕ) → within (blends calls i) ≡ true
  -- parts 0 change nothing: every blend stays the same, whatever the fuel
  pub zero_parts : (i : ℕ) (f : Fuel) (j : ℕ) → next_states keeper (blends calls) (add i f 0) j ≡ blends calls j
  -- each figure lies between the smallest and the largest that the fuels with parts above zero have alone, unrounded and as answered
  pub between : (i : ℕ) (q : Question) (x : Told q) → asking (blends calls i) q ≡ Outcome.answered x → BetweenAlone q (entries calls i) x
  -- blends of one list or of two that took in the same entries, in any order, answer alike
  pub alike : (others : List Call) (i j : ℕ) → Permᴰ (entries calls i) (entries others j) → (q : Question) → asking (blends calls i) q ≡ asking (blends others j) q
  -- also when all parts of one are multiplied by a whole factor above zero
  pub multiplied : (others : List Call) (i j k : ℕ) → 0 < k → Permᴰ (entries calls i) (scaled k (entries others j)) →
      (q : Question) → asking (blends calls i) q ≡ asking (blends others j) q
  -- on every route for some entries, each added once in any order, one of its own addings and joinings is refused exactly when the entries total
  -- more than 1,000,000, whatever the calls beside it, refused or not; and if they do not, the blend that is left answers as all of them
  pub routes : (all : Entries) (bs : List ℕ) (es : Entries) (w : ℕ) → Different bs → (r : Route w bs es calls) → Permᴰ all es →
      (refused_somewhere (own_answers r (blend_answers calls)) ≡ ltb 1000000 (total all))
      × (total all ≤ 1000000 → (q : Question) → asking (blends calls w) q ≡ model_asks all q)
