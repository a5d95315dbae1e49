-- The fate of each cell that is no row.
use Rattle.std.proofs.Common.{◌≡◌, ◌⊎◌, ◌<◌, inl, inr, refl, sym, ap, subst, ◌∙◌, ℕ, zero, suc, arith, Bool, true, false, Option, Some, None, List, [], ◌∷◌, ◌++◌, length, get_or, map, ◌&&◌, ltb-true}
use Rattle.std.specs.Prelude.{nat_lt}
use Rattle.std.specs.List.{AllByRecursion, Contains}
use Rattle.std.proofs.lemmas.Bool.{cases_Bool, true≢false}
use Rattle.std.proofs.lemmas.List.Sorted.{Contains-permutation}
use Rattle.table_shape.specs.Keys.{KeyParts, Keys, StoredRow, clash_by, fits, keys_of, parts_of, same_key}
use Rattle.table_shape.specs.Shape.{IsShape, KeyColumns, Shape, rises}
use Rattle.page_walk.specs.declared.outcomes.Place.{Place}
use Rattle.page_walk.specs.Cells.{Row}
use Rattle.table_fill.specs.declared.fates.Fate.{Fate}
use Rattle.table_fill.specs.declared.fates.Fate.TheVariants.{Clash, Misfit}
use Rattle.table_fill.specs.Fates.{Left, Sorted, clash_among, clash_in, clash_or, fate_of, first_clash, held, left_row, place_of, place_where, rows_of, same_among, sorted_of, with_cell}
use Rattle.table_fill.specs.Laws.{AreRising, ClashBy, IsClash, IsFate}
use Rattle.table_fill.proofs.Cells.{by_fate, sorted_has}
use Rattle.table_fill.proofs.Clashing.{where_none}
use Rattle.table_fill.proofs.Good.{kept_ordered}
use Rattle.table_fill.proofs.Inserting.{all_map}

pub has_first : {X : Type 0} (x : X) (xs : List X) → Contains (x ∷ xs) x
has_first x xs = (0, omega arith, refl)

pub has_next : {X : Type 0} (y x : X) (xs : List X) → Contains xs x → Contains (y ∷ xs) x
has_next y x xs h = (suc h.0, omega (arith, h.1), h.2)

-- the row that passes a test is one of them
where_some : (test : Row → Bool) (kept : List Row) (p : Place) → place_where test kept ≡ Some p
    → (k : Row) × Contains kept k × (place_of k ≡ p) × (test k ≡ true)
where_some test [] p e = absurd (cc)
where_some test (k ∷ kept) p e = elim (cases_Bool (test k)) [
  | inl hit ↦ (k, has_first k kept, same (place_of k) p (rw hit at e), hit)
  | inr miss ↦ let w = where_some test kept p (rw miss at e) in (w.0, has_next k w.0 kept w.1, w.2, w.3)
]
  where
    same : (a b : Place) → Some a ≡ Some b → a ≡ b
    same a b e = cc

-- a clash comes from the first key that gives one
or_clash : (o : Option Place) (n : ℕ) (rest : Option Fate) (p : Place) (key : ℕ) → clash_or o n rest ≡ Some (Clash p key)
    → ((o ≡ Some p) × (n ≡ key)) ⊎ ((o ≡ None) × (rest ≡ Some (Clash p key)))
or_clash None n rest p key e = inr (refl, e)
or_clash (Some q) n rest p key e = inl (place_same q n p key e, key_same q n p key e)
  where
    place_same : (a : Place) (m : ℕ) (b : Place) (n : ℕ) → Some (Clash a m) ≡ Some (Clash b n) → Some a ≡ Some b
    place_same a m b n e = cc

    key_same : (a : Place) (m : ℕ) (b : Place) (n : ℕ) → Some (Clash a m) ≡ Some (Clash b n) → m ≡ n
    key_same a m b n e = cc

-- a row with which a cell clashes by one of some keys
abbrev Meets : List KeyParts → List Row → StoredRow → Place → ℕ → Type 0
Meets keys kept row p key =
    (w : Row) × Contains kept w × (place_of w ≡ p) × (k : KeyParts) × Contains keys k × (k.number ≡ key) × (clash_by k.parts (held w) row ≡ true)

in_meets : (keys : List KeyParts) (kept : List Row) (row : StoredRow) (p : Place) (key : ℕ)
    → clash_in keys kept row ≡ Some (Clash p key) → Meets keys kept row p key
in_meets [] kept row p key e = absurd (cc)
in_meets (k ∷ keys) kept row p key e =
    elim (or_clash (clash_among k.parts kept row) k.number (clash_in keys kept row) p key e) [
      | inl now ↦
          let w = where_some (λ q. clash_by k.parts (held q) row) kept p now.0 in
          (w.0, w.1, w.2, k, has_first k keys, now.1, w.3)
      | inr later ↦
          let m = in_meets keys kept row p key later.1 in
          (m.0, m.1, m.2, m.3, has_next k m.3 keys m.4, m.5, m.6)
    ]

pub clash_is : (t : Keys) (kept : List Row) (r : Row) (p : Place) (key : ℕ) → fits t (held r) ≡ true
    → first_clash t kept (held r) ≡ Some (Clash p key) → IsClash t kept r p key
clash_is t kept r p key fit e =
    elim (or_clash (same_among t.first kept (held r)) 0 (clash_in t.keys kept (held r)) p key e) [
      | inl now ↦
          let w = where_some (λ k. same_key t.first (held k) (held r)) kept p now.0 in
          record { fit = fit; with = w.0; there = w.1; place = w.2; by = inl (sym now.1, w.3) }
      | inr later ↦
          let m = in_meets t.keys kept (held r) p key later.1 in
          record { fit = fit; with = m.0; there = m.1; place = m.2; by = inr (m.3, m.4, m.5, m.6) }
    ]

pub fate_is : (t : Keys) (kept : List Row) (r : Row) (f : Fate) → fate_of t kept r ≡ Some f → IsFate t kept r f
fate_is t kept r f e = elim (cases_Bool (fits t (held r))) [
  | inl fit ↦ of_clash f fit (rw fit at e)
  | inr unfit ↦ of_misfit f unfit (rw unfit at e)
]
  where
    of_clash : (f : Fate) → fits t (held r) ≡ true → first_clash t kept (held r) ≡ Some f → IsFate t kept r f
    of_clash (Clash p key) fit e = clash_is t kept r p key fit e
    of_clash Misfit fit e = absurd (never e)
      where
        or_never : (o : Option Place) (n : ℕ) (rest : Option Fate) → (rest ≡ Some Misfit → ⊥) → clash_or o n rest ≡ Some Misfit → ⊥
        or_never None n rest h e = h e
        or_never (Some q) n rest h e = cc

        in_never : (keys : List KeyParts) → clash_in keys kept (held r) ≡ Some Misfit → ⊥
        in_never [] e = cc
        in_never (k ∷ keys) e = or_never (clash_among k.parts kept (held r)) k.number (clash_in keys kept (held r)) (in_never keys) e

        never : first_clash t kept (held r) ≡ Some Misfit → ⊥
        never e = or_never (same_among t.first kept (held r)) 0 (clash_in t.keys kept (held r)) (in_never t.keys) e

    of_misfit : (f : Fate) → fits t (held r) ≡ false → Some Misfit ≡ Some f → IsFate t kept r f
    of_misfit (Clash p key) unfit e = absurd (cc)
    of_misfit Misfit unfit e = unfit

-- more rows keep a fate
wider : (t : Keys) (old new : List Row) (r : Row) → ((k : Row) → Contains old k → Contains new k)
    → (f : Fate) → IsFate t old r f → IsFate t new r f
wider t old new r more (Clash p key) c = record { fit = c.fit; with = c.with; there = more c.with c.there; place = c.place; by = c.by }
wider t old new r more Misfit c = c

abbrev AreFates : Keys → List Row → List Left → Type 0
AreFates t kept left = AllByRecursion (λ l. IsFate t kept l.row l.fate) left

push_all : {X : Type 0} (P : X → Type 0) (xs : List X) (x : X) → AllByRecursion P xs → P x → AllByRecursion P (xs ++ x ∷ [])
push_all P [] x all one = (one, tt)
push_all P (y ∷ xs) x all one = (all.0, push_all P xs x all.1 one)

fates_step : (t : Keys) (done : List Row) (s : Sorted) (r : Row) → AreFates t s.kept s.left → AreFates t (with_cell t s r).kept (with_cell t s r).left
fates_step t done s r p = by_fate (λ w. AreFates t w.kept w.left) t s r
    (λ e. all_map (λ l. IsFate t s.kept l.row l.fate) (λ l. IsFate t (r ∷ s.kept) l.row l.fate)
    (λ l h. wider t s.kept (r ∷ s.kept) l.row (λ k c. has_next r k s.kept c) l.fate h) s.left p)
    (λ f e. push_all (λ l. IsFate t s.kept l.row l.fate) s.left (left_row r f) p (fate_is t s.kept r f e))

pub fates_are : (t : Keys) (cells : List Row)
    → AllByRecursion (λ l. IsFate t (rows_of t (sorted_of t cells)) l.row l.fate) (sorted_of t cells).left
fates_are t cells =
    let s = sorted_of t cells in
    all_map (λ l. IsFate t s.kept l.row l.fate) (λ l. IsFate t (rows_of t s) l.row l.fate)
    (λ l h. wider t s.kept (rows_of t s) l.row (λ k c. Contains-permutation s.kept (rows_of t s) k (kept_ordered t cells).moved c) l.fate h) s.left
    (sorted_has t (λ done s. AreFates t s.kept s.left) (fates_step t) cells tt)

-- ---- the least key

-- no key of these has a number below or at this
above : (keys : List KeyParts) (low : ℕ) → AreRising low keys → (k : KeyParts) → Contains keys k → low < k.number
above [] low up k h = absurd (omega (arith, h.1))
above (q ∷ keys) low up k h = at_index (λ h. above keys q.number up.1 k h) h.0 h.1 h.2
  where
    at_index : (Contains keys k → q.number < k.number) → (i : ℕ) → i < length (q ∷ keys) → get_or (q ∷ keys) i k ≡ k → low < k.number
    at_index more zero lt e = subst (λ (x : KeyParts). low < x.number) e up.0
    at_index more (suc i) lt e =
        let later : q.number < k.number = more (i, omega (arith, lt), e) in
        let here : low < q.number = up.0 in omega arith

in_least : (keys : List KeyParts) (low : ℕ) (kept : List Row) (row : StoredRow) (p : Place) (key : ℕ) → AreRising low keys
    → clash_in keys kept row ≡ Some (Clash p key) → (k : KeyParts) → Contains keys k → k.number < key
    → AllByRecursion (λ q. clash_by k.parts (held q) row ≡ false) kept
in_least [] low kept row p key up e k h lt = absurd (omega (arith, h.1))
in_least (q ∷ keys) low kept row p key up e k h lt =
    elim (or_clash (clash_among q.parts kept row) q.number (clash_in keys kept row) p key e) [
      | inl now ↦ absurd (none_below h.0 h.1 h.2 now.1)
      | inr later ↦ at_index (λ e h. in_least keys q.number kept row p key up.1 e k h lt) h.0 h.1 h.2 later
    ]
  where
    none_below : (i : ℕ) → i < length (q ∷ keys) → get_or (q ∷ keys) i k ≡ k → q.number ≡ key → ⊥
    none_below zero a e n = let same : q.number ≡ k.number = ap (λ (x : KeyParts). x.number) e in absurd (omega arith)
    none_below (suc i) a e n =
        let more : q.number < k.number = above keys q.number up.1 k (i, omega (arith, a), e) in absurd (omega arith)

    at_index : (clash_in keys kept row ≡ Some (Clash p key) → Contains keys k → AllByRecursion (λ x. clash_by k.parts (held x) row ≡ false) kept)
        → (i : ℕ) → i < length (q ∷ keys) → get_or (q ∷ keys) i k ≡ k
        → (clash_among q.parts kept row ≡ None) × (clash_in keys kept row ≡ Some (Clash p key))
        → AllByRecursion (λ x. clash_by k.parts (held x) row ≡ false) kept
    at_index more zero a e later = subst (λ (x : KeyParts). AllByRecursion (λ y. clash_by x.parts (held y) row ≡ false) kept) e
        (where_none (λ y. clash_by q.parts (held y) row) kept later.0)
    at_index more (suc i) a e later = more later.1 (i, omega (arith, a), e)

-- a row with which a cell does not clash by a key with a lesser number
pub least : (t : Keys) (kept : List Row) (r : Row) (p : Place) (key : ℕ) → AreRising 0 t.keys
    → fate_of t kept r ≡ Some (Clash p key) → (n : ℕ) → n < key
    → AllByRecursion (λ k. ClashBy t n (held k) (held r) → ⊥) kept
least t kept r p key up e n lt = elim (cases_Bool (fits t (held r))) [
  | inl fit ↦ of_first (rw fit at e)
  | inr unfit ↦ let bad : Some Misfit ≡ Some (Clash p key) = rw unfit at e in absurd (cc)
]
  where
    each : (ks : List Row) → AllByRecursion (λ k. same_key t.first (held k) (held r) ≡ false) ks
        → ((k : KeyParts) → Contains t.keys k → k.number < key → AllByRecursion (λ q. clash_by k.parts (held q) (held r) ≡ false) ks)
        → AllByRecursion (λ k. ClashBy t n (held k) (held r) → ⊥) ks
    each [] none all = tt
    each (k ∷ ks) none all = (
      λ c. elim c [
        | inl zeroth ↦ true≢false (sym zeroth.1 ∙ none.0)
        | inr by ↦ true≢false (sym by.3 ∙ (all by.0 by.1 (omega (arith, by.2))).0)
      ],
      each ks none.1 (λ q h m. (all q h m).1),
    )

    of_first : first_clash t kept (held r) ≡ Some (Clash p key) → AllByRecursion (λ k. ClashBy t n (held k) (held r) → ⊥) kept
    of_first e =
        elim (or_clash (same_among t.first kept (held r)) 0 (clash_in t.keys kept (held r)) p key e) [
          | inl now ↦ let same : 0 ≡ key = now.1 in absurd (omega arith)
          | inr later ↦ each kept (where_none (λ k. same_key t.first (held k) (held r)) kept later.0)
              (λ k h m. in_least t.keys 0 kept (held r) p key up later.1 k h m)
        ]

-- the keys of a shape
shape_rise : (s : Shape) (low : ℕ) (keys : List KeyColumns) → rises low keys ≡ true → AreRising low (map (parts_of s) keys)
shape_rise s low [] e = tt
shape_rise s low (k ∷ keys) e =
    let both = and_parts (nat_lt low k.number) (rises k.number keys) e in
    (ltb-true low k.number both.0, shape_rise s k.number keys both.1)
  where
    and_parts : (a b : Bool) → (a && b) ≡ true → (a ≡ true) × (b ≡ true)
    and_parts true b e = (refl, e)
    and_parts false b e = cc

pub shapes_rise : (s : Shape) → IsShape s → AreRising 0 (keys_of s).keys
shapes_rise s is = shape_rise s 0 s.keys is.rising
