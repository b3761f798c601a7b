-- The reader's functions, step by step, against the reader as a function on texts: an element, a closed group, the loop over items, an item.
use mathlib.Core.Path.{◌≡◌, sym, ap, ◌∙◌}
use mathlib.Core.Bool.{false}
use mathlib.Core.List.{List, [], ◌∷◌}
use Prim.Native.Nat.{ℕ, zero, suc, ◌-◌, ◌≤◌, ◌<◌}
use native.Mathlib.Omega.{arith}
use borrow.Author.Tests.{ne_eqb, eq-eqb}
use lib.ListN.{length, take, drop, length-drop}
use Rattle.std.specs.Prelude.{Ok, Err}
use Rattle.std.specs.Borrow.{Bor}
use Rattle.text.specs.Reader as reader
use Rattle.text.specs.Reader.{at, ok, stuck}
use Rattle.elements.specs.declared.Element.{Element}
use Rattle.elements.specs.Elements.{symbol, Totals, nothing, one, times}
use Rattle.formula.specs.declared.Tally.{Tally}
use Rattle.formula.specs.declared.Multiple.{Multiple}
use Rattle.formula.specs.declared.Symbol.TheVariants.{Named}
use Rattle.formula.specs.Reader.{symbol_of, symbol_at, multiple_at, counting, ends, plus_read, then, items, closing, read_element, read_item, read_items}
use Rattle.formula.specs.Internal.{Counted, Adds, Left, Says, Closes}
use Rattle.formula.proofs.Caps.{from-nothing, adds-more}
use Rattle.formula.proofs.Symbols.{symbol-long}
use Rattle.formula.proofs.Unfold.{item-other, item-open, then-goes}
use Rattle.formula.proofs.Heads.{rest}

module _ {t : List ℕ} {a b : Tally} where
  -- of a longer text
  says-longer : {r : Left} {x : reader.Result Totals} (v : List ℕ) → length t ≤ length v → Says t a r b x → Says v a r b x
  says-longer {r = Ok u} {x = ok m w} v l f = record { found = record { further = omega (arith, f.found.further); left = f.found.left; adds = f.found.adds } }
  says-longer {r = Ok u} {x = stuck w} v l f = absurd f.found
  says-longer {r = Err u} {x = ok m w} v l f = absurd f.found
  says-longer {r = Err u} {x = stuck w} v l f = record { found = record { within = omega (arith, f.found.within); left = f.found.left } }

  -- behind m, which was added before
  says-more : {r : Left} {x : reader.Result Totals} (m : Totals) {c : Tally} → Adds c m a → Says t a r b x → Says t c r b (plus_read m x)
  says-more {r = Ok u} {x = ok n w} m h f = record { found = record { further = f.found.further; left = f.found.left; adds = adds-more m n h f.found.adds } }
  says-more {r = Ok u} {x = stuck w} m h f = absurd f.found
  says-more {r = Err u} {x = ok n w} m h f = absurd f.found
  says-more {r = Err u} {x = stuck w} m h f = record { found = f.found }

-- what was counted of t behind its beginning, in front of w, as often as the count at the beginning of w says
says-counted : {t : List ℕ} {a b : Tally} {u : Bor (List ℕ)} (w : List ℕ) (m : Totals) (n : Multiple) → length w < length t → (n ≡ multiple_at w) × (n.size ≤ length w)
    → u.now ≡ take (length w - n.size) (drop n.size w) → Adds a (times m n.value) b → Says t a (Ok u) b (counting m w)
says-counted {u} w m n l (e, k) q add =
    let d : u.now ≡ drop n.size w = q ∙ rest n.size w in
    rw (← e) (record { found = record { further = omega (arith, ap length d, length-drop n.size w); left = sym d; adds = add } })

-- AN ELEMENT with a count behind it
pub element-count : {t : List ℕ} {a b : Tally} {u : Bor (List ℕ)} {f : Element} {n : Multiple} (s w : List ℕ) → s ≡ symbol f → (symbol_at t ≡ Named f) × (length (symbol f) ≤ length t)
    → w ≡ take (length t - length s) (drop (length s) t) → (n ≡ multiple_at w) × (n.size ≤ length w) → Adds a (times (one f) n.value) b
    → u.now ≡ take (length w - n.size) (drop n.size w) → Says t a (Ok u) b (read_element t)
element-count {t} {f = f} {n = n} s w z (e, l) q k add d =
    let behind : w ≡ drop (length (symbol f)) t = q ∙ rest (length s) t ∙ ap (λ (v : List ℕ). drop (length v) t) z in
    rw (e, ← behind) (says-counted w (one f) n (omega (arith, symbol-long f, ap length behind, length-drop (length (symbol f)) t)) k d add)

-- A GROUP, whose formula is t behind the bracket: stuck in it, or closed where it ends
module _ {t : List ℕ} {u : Bor (List ℕ)} {g h : Tally} {x : reader.Result Totals} (v : List ℕ) (l : length t ≤ length v) where
  pub group-stuck : (a b : Tally) → Says t g (Err u) h x → Says v a (Err u) b (closing x)
  group-stuck a b f = go x f
    where
      go : (x : reader.Result Totals) → Says t g (Err u) h x → Says v a (Err u) b (closing x)
      go (ok m w) f = absurd f.found
      go (stuck w) f = record { found = record { within = omega (arith, f.found.within); left = f.found.left } }

  pub group-closed : {a b : Tally} {r : Left} → Counted g nothing → Says t g (Ok u) h x → Closes u.now h a r b → Says v a r b (closing x)
  group-closed {a} {b} {r} c f k = go x f
    where
      go : (x : reader.Result Totals) → Says t g (Ok u) h x → Says v a r b (closing x)
      go (ok m w) f = rw f.found.left (says-longer v (omega (arith, f.found.further)) (k.closes m (from-nothing m c f.found.adds)))
      go (stuck w) f = absurd f.found

-- at the bracket, with a count behind it
pub closed-count : {g a b : Tally} {u : Bor (List ℕ)} {n : Multiple} (t w : List ℕ) → 1 ≤ length t → w ≡ take (length t - 1) (drop 1 t) → (n ≡ multiple_at w) × (n.size ≤ length w)
    → ((m : Totals) → Counted g m → Adds a (times m n.value) b) → u.now ≡ take (length w - n.size) (drop n.size w) → Closes t g a (Ok u) b
closed-count [] w l q k add d = absurd (omega arith)
closed-count {n} (y ∷ t) w l q k add d =
    let behind : w ≡ t = q ∙ rest 1 (y ∷ t) in
    record { closes = λ m c. rw (← behind) (says-counted w m n (omega (arith, ap length behind)) k d (add m c)) }

-- THE LOOP OVER ITEMS: what is read of t, added to a, is what is read of t₀, added to a₀
pub record Going (t₀ : List ℕ) (depth : ℕ) (a₀ : Tally) (t : List ℕ) (a : Tally) : Type 0 where
  pub fuel : ℕ
  pub enough : length t ≤ fuel
  pub whole : (r : Left) (b : Tally) → Says t a r b (then (items (read_item depth) fuel) (read_item depth t)) → Says t₀ a₀ r b (read_items depth t₀)

pub going_start : (t : List ℕ) (depth : ℕ) (a : Tally) → Going t depth a t a
unfolding read_items
going_start t depth a = record { fuel = length t; enough = omega arith; whole = λ r b p. p }

-- a turn with more to come
module _ {t₀ : List ℕ} {depth : ℕ} {a₀ : Tally} {t : List ℕ} {a : Tally} (g : Going t₀ depth a₀ t a) where
  pub going_on : {u : Bor (List ℕ)} {b : Tally} → false ≡ ends u.now → Says t a (Ok u) b (read_item depth t) → (length u.now < length t) × Going t₀ depth a₀ u.now b
  going_on {u} {b} e f = go (read_item depth t) f g.fuel g.enough g.whole
    where
      go : (x : reader.Result Totals) → Says t a (Ok u) b x → (k : ℕ) → length t ≤ k
          → ((r : Left) (c : Tally) → Says t a r c (then (items (read_item depth) k) x) → Says t₀ a₀ r c (read_items depth t₀)) → (length u.now < length t) × Going t₀ depth a₀ u.now b
      go (ok m w) f zero l q = absurd (omega (arith, f.found.further))
      go (ok m w) f (suc k) l q = (
        f.found.further,
        record {
          fuel = k;
          enough = omega (arith, f.found.further);
          whole = λ r c y. q r c (rw (then-goes (items (read_item depth) (suc k)) m w (sym (e ∙ ap ends (sym f.found.left))))
              (says-more {x = items (read_item depth) (suc k) w} m f.found.adds (says-longer {t = u.now} t (omega (arith, f.found.further)) (rw f.found.left y))));
        },
      )
      go (stuck w) f k l q = absurd f.found

-- AN ITEM, by its first byte d: an element; stuck at the bracket of a group that may not be nested here; or a group
module _ (t : List ℕ) (depth d : ℕ) (e : d ≡ at t 0) where
  pub item-element : (d ≡ 40 → ⊥) → read_item depth t ≡ read_element t
  item-element n = item-other depth t (rw (← e) (ne_eqb d 40 n))

  pub item-deepest : d ≡ 40 → depth ≡ 0 → read_item depth t ≡ stuck t
  unfolding read_item symbol_of
  item-deepest q n = rw (n, ← e, q)

  pub item-group : d ≡ 40 → (depth ≡ 0 → ⊥) → read_item depth t ≡ closing (read_items (depth - 1) (take (length t - 1) (drop 1 t)))
  item-group q n =
      let deeper : depth ≡ suc (depth - 1) = omega arith in
      ap (λ (k : ℕ). read_item k t) deeper ∙ item-open (depth - 1) t (rw (← e) (eq-eqb d 40 q)) ∙ rw (rest 1 t)

pub not-empty : (t : List ℕ) (d : ℕ) → d ≡ at t 0 → d ≡ 40 → 1 ≤ length t
not-empty [] d e q = absurd (omega arith)
not-empty (y ∷ t) d e q = omega arith
