-- The maps of a run answer what the definition says of the kept rows.
use Rattle.std.proofs.Common.{◌≡◌, refl, sym, ap, subst, ◌∙◌, ℕ, zero, suc, Bool, true, false, not, ◌&&◌, cond, if◌then◌else◌, Option, Some, None, option_map, List, [], ◌∷◌, ◌++◌, length, map, inl, inr, ◌+◌, ◌<◌, get_or, arith, take, take-add, drop}
use Rattle.std.specs.Prelude.{slice_set}
use Rattle.std.specs.Map.{lookup, remove_entry}
use Rattle.std.specs.BTreeMap.{get, insert_entry, is_at}
use Rattle.std.specs.Cmp.Lexicographic.{slice_cmp}
use Rattle.std.specs.List.{AllByRecursion}
use Rattle.std.specs.Ordering.{is_eq, match_ordering}
use Rattle.std.specs.declared.cmp.Ordering.{Ordering}
use Rattle.std.specs.declared.cmp.Ordering.TheVariants.{Less, Equal, Greater}
use Rattle.std.proofs.lemmas.Bool.{cases_Bool}
use Rattle.std.proofs.lemmas.List.{append-nil, drop-drop}
use Rattle.key_order.specs.Folds.{Folds}
use Rattle.key_order.specs.Order.{value_cmp}
use Rattle.table_shape.specs.declared.keys.KeyPart.{KeyPart}
use Rattle.table_shape.specs.Entries.{in_order}
use Rattle.table_shape.specs.Keys.{KeyParts, Keys, StoredRow, clash_by, fits, has_null, key_of, parts_seen, same_key}
use Rattle.page_walk.specs.declared.outcomes.Place.{Place}
use Rattle.page_walk.specs.declared.outcomes.TakenCell.{TakenCell}
use Rattle.page_walk.specs.Cells.{Row, row_of}
use Rattle.table_fill.specs.declared.chooses.Filling.{Filling}
use Rattle.table_fill.specs.declared.fates.Fate.{Fate}
use Rattle.table_fill.specs.declared.fates.Fate.TheVariants.{Clash, Misfit}
use Rattle.table_fill.specs.declared.fates.LeftCell.{LeftCell}
use Rattle.table_fill.specs.declared.maps.KeyMap.{KeyMap}
use Rattle.table_fill.specs.Chosen.{AreSorted, left_seen}
use Rattle.table_fill.specs.Fates.{Left, Sorted, clash_among, clash_in, clash_or, fate_of, first_unordered, held, nothing, place_of, place_where, row_key, same_among, sorted_of, with_cell, with_cells, with_fate}
use Rattle.table_fill.specs.Maps.{AddedBy, AddedByAll, Holds, Shows, TakeIn, TakenIn, found_by, has_key, key_in, keys_by, keys_in, place_at, place_by, place_with, row_at}

-- ---- looking up

some_or : {X Y : Type 0} (f : X → Y) (b : Bool) (x : X) (o : Option X)
    → option_map f (if b then Some x else o) ≡ (if b then Some (f x) else option_map f o)
some_or f true x o = refl
some_or f false x o = refl

-- the row with the same fields, by its place
same_is : (parts : List KeyPart) (kept : List Row) (row : StoredRow)
    → option_map place_of (row_at parts kept (key_of parts row)) ≡ same_among parts kept row
same_is parts [] row = refl
same_is parts (k ∷ kept) row =
    some_or place_of (same_key parts (held k) row) k (row_at parts kept (key_of parts row))
    ∙ ap (λ (o : Option Place). if same_key parts (held k) row then Some (place_of k) else o) (same_is parts kept row)

place_is : (o : Option TakenCell) → option_map (λ t. t.place) o ≡ option_map place_of (option_map row_of o)
place_is None = refl
place_is (Some t) = refl

first_is : (t : Keys) (s : Sorted) (f : Filling) (r : Row) → Shows t s f
    → option_map (λ c. c.place) (get (slice_cmp value_cmp) f.rows (row_key t r)) ≡ same_among t.first s.kept (held r)
first_is t s f r sh =
    place_is (get (slice_cmp value_cmp) f.rows (row_key t r))
    ∙ ap (option_map place_of) (sh.first (row_key t r))
    ∙ same_is t.first s.kept (held r)

-- two tests that agree find the same row
where_same : (f g : Row → Bool) → ((k : Row) → f k ≡ g k) → (kept : List Row) → place_where f kept ≡ place_where g kept
where_same f g same [] = refl
where_same f g same (k ∷ kept) =
    ap (λ b. if b then Some (place_of k) else place_where f kept) (same k)
    ∙ ap (λ (o : Option Place). if g k then Some (place_of k) else o) (where_same f g same kept)

and_false : (a : Bool) → (a && false) ≡ false
and_false true = refl
and_false false = refl

-- a row with a NULL clashes with none
null_none : (parts : List KeyPart) (kept : List Row) (row : StoredRow) → has_null parts row ≡ true
    → None ≡ clash_among parts kept row
null_none parts [] row h = refl
null_none parts (k ∷ kept) row h =
    let test : clash_by parts (held k) row ≡ false =
    ap (λ b. not (has_null parts (held k)) && (not b && same_key parts (held k) row)) h ∙ and_false (not (has_null parts (held k))) in
    rw test (null_none parts kept row h)

-- one without is looked up
found_place : (parts : List KeyPart) (kept : List Row) (row : StoredRow) → has_null parts row ≡ false
    → place_at parts kept (key_of parts row) ≡ clash_among parts kept row
found_place parts kept row h = where_same (has_key parts (key_of parts row)) (λ k. clash_by parts (held k) row)
    (λ k. ap (λ b. not (has_null parts (held k)) && (not b && same_key parts (held k) row)) (sym h)) kept

found_is : (kept : List Row) (m : KeyMap) (r : Row) → Holds kept m
    → place_by m (key_in m r) ≡ clash_among m.plan.now.parts.items kept (held r)
found_is kept m r h =
    let parts = m.plan.now.parts.items in
    let key : Option Folds = Some (key_of parts (held r)) in
    elim (cases_Bool (has_null parts (held r))) [
      | inl some ↦ ap (λ (b : Bool). place_by m (if b then None else key)) some ∙ null_none parts kept (held r) some
      | inr none ↦ ap (λ (b : Bool). place_by m (if b then None else key)) none ∙ h (key_of parts (held r)) ∙ found_place parts kept (held r) none
    ]

-- so are the maps, one after another
among_is : (kept : List Row) (maps : List KeyMap) (r : Row) → AllByRecursion (Holds kept) maps
    → found_by maps (keys_in maps r) ≡ clash_in (map (λ m. parts_seen m.plan.now) maps) kept (held r)
among_is kept [] r h = refl
among_is kept (m ∷ maps) r h =
    ap (λ o. clash_or o m.plan.now.number (found_by maps (keys_in maps r))) (found_is kept m r h.0)
    ∙ ap (clash_or (clash_among m.plan.now.parts.items kept (held r)) m.plan.now.number) (among_is kept maps r h.1)

pub fate_misfit : (t : Keys) (kept : List Row) (r : Row) → fits t (held r) ≡ false → Some Misfit ≡ fate_of t kept r
fate_misfit t kept r e = rw e refl

-- a row before it has its key that orders the rows
pub fate_first : (t : Keys) (s : Sorted) (f : Filling) (r : Row) (key : Folds) (row : TakenCell) → Shows t s f
    → fits t (held r) ≡ true → key ≡ row_key t r → Some row ≡ get (slice_cmp value_cmp) f.rows key
    → fate_of t s.kept r ≡ Some (Clash row.place 0)
fate_first t s f r key row sh e is found =
    rw e (ap (λ o. clash_or o 0 (clash_in t.keys s.kept (held r)))
    (sym (ap (option_map (λ c. c.place)) (found ∙ ap (get (slice_cmp value_cmp) f.rows) is) ∙ first_is t s f r sh)))

-- none has it, so the further keys tell
pub fate_other : (t : Keys) (s : Sorted) (f : Filling) (r : Row) (key : Folds) (fate : Option Fate) → Shows t s f
    → fits t (held r) ≡ true → key ≡ row_key t r → None ≡ get (slice_cmp value_cmp) f.rows key
    → fate ≡ clash_in (keys_by f.maps.items) s.kept (held r)
    → fate_of t s.kept r ≡ fate
fate_other t s f r key fate sh e is found told =
    rw e (ap (λ o. clash_or o 0 (clash_in t.keys s.kept (held r)))
    (sym (ap (option_map (λ (c : TakenCell). c.place)) (found ∙ ap (get (slice_cmp value_cmp) f.rows) is) ∙ first_is t s f r sh))
    ∙ sym (told ∙ ap (λ ks. clash_in ks s.kept (held r)) sh.keys))

-- ---- one row more

insert_seen : {K X Y : Type 0} (cmp : K → K → Ordering) (f : X → Y) (es : List (K × X)) (k : K) (v : X)
    → map (λ e. (e.0, f e.1)) (insert_entry cmp es k v) ≡ insert_entry cmp (map (λ e. (e.0, f e.1)) es) k (f v)
insert_seen cmp f [] k v = refl
insert_seen {K} {X} {Y} cmp f (e ∷ es) k v = at_head (cmp k e.0) (insert_seen cmp f es k v)
  where
    at_head : (o : Ordering) → map (λ e. (e.0, f e.1)) (insert_entry cmp es k v) ≡ insert_entry cmp (map (λ e. (e.0, f e.1)) es) k (f v)
        → map (λ e. (e.0, f e.1)) (match_ordering o ((k, v) ∷ e ∷ es) ((e.0, v) ∷ es) (e ∷ insert_entry cmp es k v))
        ≡ match_ordering o ((k, f v) ∷ (e.0, f e.1) ∷ map (λ e. (e.0, f e.1)) es) ((e.0, f v) ∷ map (λ e. (e.0, f e.1)) es)
        ((e.0, f e.1) ∷ insert_entry cmp (map (λ e. (e.0, f e.1)) es) k (f v))
    at_head Less h = refl
    at_head Equal h = refl
    at_head Greater h = ap (λ (xs : List (K × Y)). (e.0, f e.1) ∷ xs) h

-- a row is found by its key where none of its fields is NULL
with_key : (none : Bool) (key q : Folds) (place : Place) (rest : Option Place)
    → place_with (if none then None else Some key) place q rest
    ≡ (if not none && is_eq (slice_cmp value_cmp key q) then Some place else rest)
with_key true key q place rest = refl
with_key false key q place rest = refl

-- the maps hold one row more
holds_more : (kept : List Row) (r : Row) (m w : KeyMap) → AddedBy (key_in m r) (place_of r) m w → Holds kept m
    → Holds (r ∷ kept) w
holds_more kept r m w a h q =
    let parts = m.plan.now.parts.items in
    a.rows q
    ∙ ap (place_with (key_in m r) (place_of r) q) (h q)
    ∙ with_key (has_null parts (held r)) (key_of parts (held r)) q (place_of r) (place_at parts kept q)
    ∙ ap (λ p. place_at p.now.parts.items (r ∷ kept) q) (sym a.plan)

all_hold_more : (kept : List Row) (r : Row) (ms ws : List KeyMap) → AddedByAll (keys_in ms r) (place_of r) ms ws
    → AllByRecursion (Holds kept) ms → AllByRecursion (Holds (r ∷ kept)) ws
all_hold_more kept r [] [] a h = tt
all_hold_more kept r [] (w ∷ ws) a h = absurd a
all_hold_more kept r (m ∷ ms) [] a h = absurd a
all_hold_more kept r (m ∷ ms) (w ∷ ws) a h =
    (holds_more kept r m w a.0 h.0, all_hold_more kept r ms ws a.1 h.1)

same_keys : (r : Row) (ms ws : List KeyMap) → AddedByAll (keys_in ms r) (place_of r) ms ws → keys_by ws ≡ keys_by ms
same_keys r [] [] a = refl
same_keys r [] (w ∷ ws) a = absurd a
same_keys r (m ∷ ms) [] a = absurd a
same_keys r (m ∷ ms) (w ∷ ws) a =
    ap (λ p. parts_seen p.now ∷ map (λ (m : KeyMap). parts_seen m.plan.now) ws) a.0.plan
    ∙ ap (λ (ks : List KeyParts). parts_seen m.plan.now ∷ ks) (same_keys r ms ws a.1)

-- a clash leaves the maps as they were
pub in_clash : (r : Row) (ms : List KeyMap) (fate : Fate) → Some fate ≡ found_by ms (keys_in ms r)
    → TakeIn r (Some fate) ms ms
in_clash r ms fate found = λ kept h. record { fate_is = found ∙ among_is kept ms r h; keys = refl; rows = h }

-- without one they have the row
pub in_all : (r : Row) (ms ws : List KeyMap) → None ≡ found_by ms (keys_in ms r)
    → AddedByAll (keys_in ms r) (place_of r) ms ws → TakeIn r None ms ws
in_all r ms ws found added = λ kept h. record {
  fate_is = found ∙ among_is kept ms r h;
  keys = same_keys r ms ws added;
  rows = all_hold_more kept r ms ws added h;
}

-- what a run shows with one row more
pub shows_kept : (t : Keys) (s : Sorted) (old new : Filling) (cell : TakenCell) (key : Folds)
    → Shows t s old → key ≡ row_key t (row_of cell)
    → TakenIn (row_of cell) None s.kept old.maps.items new.maps.items
    → new.rows.entries ≡ insert_entry (slice_cmp value_cmp) old.rows.entries key cell
    → ((q : Folds) → get (slice_cmp value_cmp) new.rows q
    ≡ cond (is_at (slice_cmp value_cmp key) q) (Some cell) (get (slice_cmp value_cmp) old.rows q))
    → new.left.items ≡ old.left.items
    → Shows t (with_fate s (row_of cell) None) new
shows_kept t s old new cell key sh is taken entries updates left =
    let r = row_of cell in
    record {
      entries = ap (map (λ e. (e.0, row_of e.1))) entries
          ∙ insert_seen (slice_cmp value_cmp) row_of old.rows.entries key cell
          ∙ ap (λ (es : List (Folds × Row)). insert_entry (slice_cmp value_cmp) es key r) sh.entries
          ∙ ap (λ (k : Folds). insert_entry (slice_cmp value_cmp) (in_order (row_key t) s.kept) k r) is;
      first = λ q. ap (option_map row_of) (updates q)
          ∙ some_or row_of (is_eq (slice_cmp value_cmp key q)) cell (get (slice_cmp value_cmp) old.rows q)
          ∙ ap (λ (o : Option Row). if is_eq (slice_cmp value_cmp key q) then Some r else o) (sh.first q)
          ∙ ap (λ (k : Folds). if is_eq (slice_cmp value_cmp k q) then Some r else row_at t.first s.kept q) is;
      keys = taken.keys ∙ sh.keys;
      maps = taken.rows;
      left = ap (map left_seen) left ∙ sh.left;
    }

-- an entry has one value
pub one_value : {X : Type 0} (o : Option X) (x y : X) → o ≡ Some x → o ≡ Some y → x ≡ y
one_value o x y is same = cc

-- nothing is taken out where there is nothing
pub absent_stays : {K X : Type 0} (test : K → Bool) (es : List (K × X)) → lookup test es ≡ None → remove_entry test es ≡ es
absent_stays test [] none = refl
absent_stays {K} {X} test (e ∷ es) none = at (test e.0) none (absent_stays test es)
  where
    at : (b : Bool) → cond b (Some e.1) (lookup test es) ≡ None → (lookup test es ≡ None → remove_entry test es ≡ es)
        → cond b es (e ∷ remove_entry test es) ≡ e ∷ es
    at true h f = absurd (cc)
    at false h f = ap (λ (xs : List (K × X)). e ∷ xs) (f h)

-- what it shows where it has the same rows as before
pub shows_same : (t : Keys) (s : Sorted) (old new : Filling) → Shows t s old
    → new.rows.entries ≡ old.rows.entries → keys_by new.maps.items ≡ keys_by old.maps.items
    → AllByRecursion (Holds s.kept) new.maps.items → new.left.items ≡ old.left.items → Shows t s new
shows_same t s old new sh rows keys maps left = record {
  entries = ap (map (λ (e : Folds × TakenCell). (e.0, row_of e.1))) rows ∙ sh.entries;
  first = λ q. ap (λ (es : List (Folds × TakenCell)). option_map row_of (lookup (is_at (slice_cmp value_cmp q)) es)) rows ∙ sh.first q;
  keys = keys ∙ sh.keys;
  maps = maps;
  left = ap (map left_seen) left ∙ sh.left;
}

pub map_push : {X Y : Type 0} (f : X → Y) (xs : List X) (x : X) → map f (xs ++ x ∷ []) ≡ map f xs ++ f x ∷ []
map_push f [] x = refl
map_push f (y ∷ xs) x = ap (λ ys. f y ∷ ys) (map_push f xs x)

-- with one cell that is no row
pub shows_left : (t : Keys) (s : Sorted) (old new : Filling) (l : LeftCell) → Shows t s old
    → new.rows ≡ old.rows → new.maps ≡ old.maps → new.left.items ≡ old.left.items ++ l ∷ []
    → Shows t (with_fate s (row_of l.cell) (Some l.fate)) new
shows_left t s old new l sh rows maps left =
    record {
      entries = ap (λ m. map (λ e. (e.0, row_of e.1)) m.entries) rows ∙ sh.entries;
      first = λ q. ap (λ m. option_map row_of (get (slice_cmp value_cmp) m q)) rows ∙ sh.first q;
      keys = ap (λ m. map (λ m. parts_seen m.plan.now) m.items) maps ∙ sh.keys;
      maps = subst (λ m. AllByRecursion (Holds s.kept) m.items) (sym maps) sh.maps;
      left = ap (map left_seen) left ∙ map_push left_seen old.left.items l ∙ ap (λ (xs : List Left). xs ++ left_seen l ∷ []) sh.left;
    }

-- ---- cells, one after another

-- a run that has some cells left shows what the whole list gives, once it has taken them
abbrev pub Taking : Keys → List Row → Filling → Filling → List Row → Type 0
Taking t all old now rest = (s : Sorted) → Shows t s old
    → (w : Sorted) × Shows t w now × (with_cells t w rest ≡ with_cells t s all)

pub taking_start : (t : Keys) (all : List Row) (now : Filling) → Taking t all now now all
taking_start t all now s sh = (s, sh, refl)

pub taking_more : (t : Keys) (all : List Row) (old now new : Filling) (r : Row) (rest : List Row)
    → Taking t all old now (r ∷ rest) → ((s : Sorted) → Shows t s now → Shows t (with_cell t s r) new)
    → Taking t all old new rest
taking_more t all old now new r rest h step s sh =
    let w = h s sh in (with_cell t w.0 r, step w.0 w.1, w.2)

pub taking_end : (t : Keys) (all : List Row) (old now : Filling) → Taking t all old now []
    → (s : Sorted) → Shows t s old → Shows t (with_cells t s all) now
taking_end t all old now h s sh = let w = h s sh in subst (λ (v : Sorted). Shows t v now) w.2 w.1

-- ---- maps, one after another

pub added_start : (ks : List (Option Folds)) (p : Place) (ms : List KeyMap) → AddedByAll (take 0 ks) p ms ms
added_start ks p [] = tt
added_start ks p (m ∷ ms) = (refl, added_start ks p ms)

first_is_it : {X : Type 0} (x y : X) (xs ys : List X) → x ∷ xs ≡ y ∷ ys → x ≡ y
first_is_it x y xs ys e = cc

added_suc : (i : ℕ) (ks rest : List (Option Folds)) (k : Option Folds) (p : Place) (ms ws : List KeyMap) (m new : KeyMap)
    → AddedByAll (take i ks) p ms ws → i < length ws → m ≡ get_or ws i m → drop i ks ≡ k ∷ rest
    → AddedBy k p m new → AddedByAll (take (suc i) ks) p ms (slice_set ws i new)
added_suc i ks rest k p [] [] m new a lt is next one = absurd (omega (arith, lt))
added_suc i ks rest k p [] (w ∷ ws) m new a lt is next one = absurd a
added_suc i ks rest k p (v ∷ ms) [] m new a lt is next one = absurd (omega (arith, lt))
added_suc zero [] rest k p (v ∷ ms) (w ∷ ws) m new a lt is next one = absurd (cc)
added_suc (suc i) [] rest k p (v ∷ ms) (w ∷ ws) m new a lt is next one = absurd (cc)
added_suc zero (q ∷ ks) rest k p (v ∷ ms) (w ∷ ws) m new a lt is next one =
    (subst (λ x. AddedBy q p x new) (is ∙ a.0) (subst (λ x. AddedBy x p m new) (sym (first_is_it q k ks rest next)) one), a.1)
added_suc (suc i) (q ∷ ks) rest k p (v ∷ ms) (w ∷ ws) m new a lt is next one =
    (a.0, added_suc i ks rest k p ms ws m new a.1 (omega (arith, lt)) is next one)

pub added_next : (i : ℕ) (ks rest : List (Option Folds)) (k : Option Folds) (p : Place) (ms ws : List KeyMap) (m new : KeyMap)
    → AddedByAll (take i ks) p ms ws → i < length ws → m ≡ get_or ws i m → drop i ks ≡ k ∷ rest
    → AddedBy k p m new → AddedByAll (take (i + 1) ks) p ms (slice_set ws i new)
added_next i ks rest k p ms ws m new a lt is next one =
    let e : suc i ≡ i + 1 = omega arith in
    subst (λ n. AddedByAll (take n ks) p ms (slice_set ws i new)) e (added_suc i ks rest k p ms ws m new a lt is next one)

-- behind a key that is taken the next ones are left
pub left_next : {X : Type 0} (i : ℕ) (xs rest : List X) (x : X) → drop i xs ≡ x ∷ rest → rest ≡ drop (i + 1) xs
left_next i xs rest x e = sym (ap (λ ys. drop 1 ys) e) ∙ drop-drop 1 i xs

pub left_none : {X : Type 0} (i : ℕ) (xs : List X) → drop i xs ≡ [] → drop (i + 1) xs ≡ []
left_none i xs e = sym (drop-drop 1 i xs) ∙ ap (λ ys. drop 1 ys) e

-- where none is left, all were taken
pub none_next : (i : ℕ) (ks : List (Option Folds)) (p : Place) (ms ws : List KeyMap) → AddedByAll (take i ks) p ms ws
    → drop i ks ≡ [] → AddedByAll (take (i + 1) ks) p ms ws
none_next i ks p ms ws a none =
    subst (λ (xs : List (Option Folds)). AddedByAll xs p ms ws)
    (sym (append-nil (take i ks)) ∙ ap (λ xs. take i ks ++ take 1 xs) (sym none) ∙ sym (take-add i 1 ks)) a

-- so many keys as there are maps are all that matter
pub added_end : (ks : List (Option Folds)) (p : Place) (ms ws : List KeyMap) → AddedByAll (take (length ms) ks) p ms ws
    → AddedByAll ks p ms ws
added_end ks p [] [] a = tt
added_end ks p [] (w ∷ ws) a = absurd a
added_end ks p (m ∷ ms) [] a = absurd a
added_end [] p (m ∷ ms) (w ∷ ws) a = a
added_end (k ∷ ks) p (m ∷ ms) (w ∷ ws) a = (a.0, added_end ks p ms ws a.1)

-- ---- the start and the end of a run

pub shows_nothing : (t : Keys) (f : Filling) → f.rows.entries ≡ []
    → map (λ (m : KeyMap). parts_seen m.plan.now) f.maps.items ≡ t.keys → AllByRecursion (Holds []) f.maps.items
    → f.left.items ≡ [] → Shows t nothing f
shows_nothing t f empty keys holds none = record {
  entries = ap (map (λ (e : Folds × TakenCell). (e.0, row_of e.1))) empty;
  first = λ q. ap (λ (es : List (Folds × TakenCell)). option_map row_of (lookup (is_at (slice_cmp value_cmp q)) es)) empty;
  keys = keys;
  maps = holds;
  left = ap (map left_seen) none;
}

values_seen : (es : List (Folds × TakenCell)) → map row_of (map (λ (e : Folds × TakenCell). e.1) es)
    ≡ map (λ (e : Folds × Row). e.1) (map (λ (e : Folds × TakenCell). (e.0, row_of e.1)) es)
values_seen [] = refl
values_seen (e ∷ es) = ap (λ (rs : List Row). row_of e.1 ∷ rs) (values_seen es)

-- what a run has at its end is what was sorted out
pub sorted_out : (t : Keys) (cells : List Row) (f : Filling) (rows : List TakenCell) → first_unordered t cells ≡ None
    → Shows t (with_cells t nothing cells) f → rows ≡ map (λ e. e.1) f.rows.entries
    → AreSorted t cells (map row_of rows) (map left_seen f.left.items)
unfolding sorted_of
sorted_out t cells f rows ordered sh is = record {
  ordered = ordered;
  rows_are = ap (map row_of) is ∙ values_seen f.rows.entries ∙ ap (map (λ (e : Folds × Row). e.1)) sh.entries;
  left_are = sh.left;
}

-- no cells give no rows, and none is left
pub no_cells : (t : Keys) (cells : List Row) → cells ≡ [] → AreSorted t cells cells []
unfolding sorted_of
no_cells t cells e = subst (λ (xs : List Row). AreSorted t xs xs []) (sym e) (record { ordered = refl; rows_are = refl; left_are = refl })

pub none_left : (t : Keys) (cells rows : List Row) (left : List LeftCell) → cells ≡ []
    → AreSorted t cells rows (map left_seen left) → left ≡ []
unfolding sorted_of
none_left t cells rows left e are = at left (subst (λ (xs : List Row). AreSorted t xs rows (map left_seen left)) e are).left_are
  where
    at : (ls : List LeftCell) → map left_seen ls ≡ [] → ls ≡ []
    at [] e = refl
    at (l ∷ ls) e = absurd (cc)

-- where there is one of the second there is one of the first
pub some_too : (n m : ℕ) → (n ≡ 0 → m ≡ 0) → 0 < m → 0 < n
some_too zero m f h = let none : m ≡ 0 = f refl in absurd (omega arith)
some_too (suc n) m f h = omega arith
