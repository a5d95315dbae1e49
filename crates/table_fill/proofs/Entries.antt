-- The entries of a key rise strictly, one for each row.
use Rattle.std.proofs.Common.{◌≡◌, ◌<◌, ◌≤◌, inl, inr, refl, sym, ap, subst, ◌∙◌, ℕ, ◌==◌, arith, Bool, true, false, not, ◌&&◌, if◌then◌else◌, Option, Some, None, List, [], ◌∷◌, ◌++◌, length, get_or, map, eq-eqb, eqb-true, ltb-false}
use Rattle.std.specs.Prelude.{filter, nat_lt, position}
use Rattle.std.specs.Cmp.Lexicographic.{slice_cmp}
use Rattle.std.specs.List.{AllByRecursion, Contains, IsDistinct, list_any, position_or_len}
use Rattle.std.specs.Ordering.{is_eq, ordering_then}
use Rattle.std.specs.declared.cmp.Ordering.{Ordering}
use Rattle.std.specs.declared.cmp.Ordering.TheVariants.{Less, Equal, Greater}
use Rattle.std.proofs.lemmas.Bool.{cases_Bool, or_parts, true≢false}
use Rattle.std.proofs.lemmas.List.Sums.{fails_before_first}
use Rattle.std.proofs.lemmas.List.Quantifiers.{position-Some}
use Rattle.key_order.specs.Order.{folded, value_cmp}
use Rattle.table_shape.specs.declared.keys.KeyPart.{KeyPart}
use Rattle.table_shape.specs.declared.keys.Spot.{Spot}
use Rattle.table_shape.specs.declared.keys.Spot.TheVariants.{Rowid, Field}
use Rattle.table_shape.specs.Entries.{entry_parts, follows, is_field}
use Rattle.table_shape.specs.Keys.{AreRows, StoredRow, clash, clash_by, first_of, is_alias, key_of, keys_of, part_of, parts_of, rowid_part, same_key, spot_of, value_at}
use Rattle.table_shape.specs.Shape.{IsShape, KeyColumns, Shape, place_among, stored_at}
use Rattle.table_fill.specs.Laws.{RiseOnce}
use Rattle.table_fill.proofs.Inserting.{all_map}
use Rattle.table_fill.proofs.Named.{has_first, has_next}
use Rattle.table_fill.proofs.Ordering.{ordered, same_by}

-- ---- two rows with the same fields, part by part

-- two rows have the same value by a part
abbrev same_at : StoredRow → StoredRow → KeyPart → Bool
same_at a b p = is_eq (value_cmp (folded p.coll (value_at a p.spot)) (folded p.coll (value_at b p.spot)))

then_eq : (o p : Ordering) → is_eq (ordering_then o p) ≡ (is_eq o && is_eq p)
then_eq Less p = refl
then_eq Equal p = refl
then_eq Greater p = refl

and_parts : (a b : Bool) → (a && b) ≡ true → (a ≡ true) × (b ≡ true)
and_parts true b e = (refl, e)
and_parts false b e = cc

first_same : (p : KeyPart) (ps : List KeyPart) (a b : StoredRow) → same_key (p ∷ ps) a b ≡ (same_at a b p && same_key ps a b)
first_same p ps a b = then_eq (value_cmp (folded p.coll (value_at a p.spot)) (folded p.coll (value_at b p.spot)))
    (slice_cmp value_cmp (key_of ps a) (key_of ps b))

parts_same : (ps : List KeyPart) (a b : StoredRow) → same_key ps a b ≡ true → AllByRecursion (λ p. same_at a b p ≡ true) ps
parts_same [] a b e = tt
parts_same (p ∷ ps) a b e =
    let two = and_parts (same_at a b p) (same_key ps a b) (sym (first_same p ps a b) ∙ e) in
    (two.0, parts_same ps a b two.1)

same_parts : (ps : List KeyPart) (a b : StoredRow) → AllByRecursion (λ p. same_at a b p ≡ true) ps → same_key ps a b ≡ true
same_parts [] a b all = refl
same_parts (p ∷ ps) a b all = first_same p ps a b ∙ ap (λ x. x && same_key ps a b) all.0 ∙ same_parts ps a b all.1

all_behind : {X : Type 0} (P : X → Type 0) (xs ys : List X) → AllByRecursion P (xs ++ ys) → AllByRecursion P xs × AllByRecursion P ys
all_behind P [] ys all = (tt, all)
all_behind P (x ∷ xs) ys all = let more = all_behind P xs ys all.1 in ((all.0, more.0), more.1)

all_filtered : {X : Type 0} (P : X → Type 0) (f : X → Bool) (xs : List X) → AllByRecursion P (filter f xs)
    → AllByRecursion (λ x. f x ≡ true → P x) xs
all_filtered P f [] all = tt
all_filtered {X} P f (x ∷ xs) all = elim (cases_Bool (f x)) [
  | inl hit ↦ let both = rw hit at all in (λ e. both.0, all_filtered P f xs both.1)
  | inr miss ↦ let rest = rw miss at all in (λ e. absurd (true≢false (sym e ∙ miss)), all_filtered P f xs rest)
]

-- ---- a column of the primary key that an index has already

none_long : (c : ℕ) (xs : List ℕ) → position (λ p. p == c) xs ≡ None → length xs ≤ position_or_len (λ p. p == c) xs
none_long c xs e = elim (cases_Bool (nat_lt (position_or_len (λ p. p == c) xs) (length xs))) [
  | inl hit ↦ let bad : Some (position_or_len (λ p. p == c) xs) ≡ None = rw hit at e in absurd (cc)
  | inr miss ↦ ltb-false (position_or_len (λ p. p == c) xs) (length xs) miss
]

-- the place of a column of the primary key is its place there
place_low : (primary : List ℕ) (c : ℕ) → Contains primary c → place_among primary c < length primary
place_low primary c h = at (position (λ p. p == c) primary) refl
  where
    at : (o : Option ℕ) → position (λ p. p == c) primary ≡ o → place_among primary c < length primary
    at None e =
        let before : h.0 < position_or_len (λ p. p == c) primary = omega (arith, none_long c primary e, h.1) in
        absurd (true≢false (sym (eq-eqb (get_or primary h.0 c) c h.2) ∙ fails_before_first (λ p. p == c) primary h.0 c before))
    at (Some i) e = rw e (position-Some (λ p. p == c) primary i 0 e).0

-- what stands at a place of the primary key is the column
low_is : (primary : List ℕ) (c : ℕ) → place_among primary c < length primary → get_or primary (place_among primary c) 0 ≡ c
low_is primary c lt = at (position (λ p. p == c) primary) refl
  where
    at : (o : Option ℕ) → position (λ p. p == c) primary ≡ o → get_or primary (place_among primary c) 0 ≡ c
    at None e = let low = rw e at lt in absurd (omega (arith, low))
    at (Some i) e = rw e (eqb-true (get_or primary i 0) c (position-Some (λ p. p == c) primary i 0 e).1)

same_column : (primary : List ℕ) (c d : ℕ) → Contains primary d → place_among primary c ≡ place_among primary d → c ≡ d
same_column primary c d h e =
    let low : place_among primary d < length primary = place_low primary d h in
    let low_too : place_among primary c < length primary = subst (λ n. n < length primary) (sym e) low in
    sym (low_is primary c low_too) ∙ ap (λ n. get_or primary n 0) e ∙ low_is primary d low

field_is : (i : ℕ) (spot : Spot) → is_field i spot ≡ true → spot ≡ Field i
field_is i Rowid e = absurd (true≢false (sym e))
field_is i (Field j) e = ap (λ n. Field n) (sym (eqb-true i j e))

-- a part of a key with this field, and that rows are the same by it
column_there : (s : Shape) (a b : StoredRow) (i : ℕ) (cols : List ℕ) → list_any (λ p. is_field i p.spot) (map (part_of s) cols) ≡ true
    → AllByRecursion (λ p. same_at a b p ≡ true) (map (part_of s) cols)
    → (c : ℕ) × (spot_of s c ≡ Field i) × (same_at a b (part_of s c) ≡ true)
column_there s a b i [] e all = absurd (true≢false (sym e))
column_there s a b i (c ∷ cols) e all = elim (cases_Bool (is_field i (spot_of s c))) [
  | inl hit ↦ (c, field_is i (spot_of s c) hit, all.0)
  | inr miss ↦ column_there s a b i cols (rw miss at e) all.1
]

field_same : (i j : ℕ) → Field i ≡ Field j → i ≡ j
field_same i j e = cc

-- a column of the primary key, which follows the key or is there already
primary_same : (s : Shape) (key : KeyColumns) (a b : StoredRow) (c : ℕ) → s.alias ≡ None → Contains s.primary c
    → AllByRecursion (λ p. same_at a b p ≡ true) (map (part_of s) key.columns)
    → (follows (map (part_of s) key.columns) (spot_of s c) ≡ true → same_at a b (part_of s c) ≡ true)
    → same_at a b (part_of s c) ≡ true
primary_same s key a b c none there all more =
    let own = map (part_of s) key.columns in
    let spot : (d : ℕ) → spot_of s d ≡ Field (stored_at s d) = λ d. ap (λ o. if is_alias o d then Rowid else Field (stored_at s d)) none in
    elim (cases_Bool (list_any (λ p. is_field (stored_at s c) p.spot) own)) [
      | inl hit ↦
          let w = column_there s a b (stored_at s c) key.columns hit all in
          let same : w.0 ≡ c = same_column s.primary w.0 c there (field_same (stored_at s w.0) (stored_at s c) (sym (spot w.0) ∙ w.1)) in
          subst (λ d. same_at a b (part_of s d) ≡ true) same w.2
      | inr miss ↦ more (ap (follows own) (spot c) ∙ ap not miss)
    ]

each_primary : (s : Shape) (key : KeyColumns) (a b : StoredRow) → s.alias ≡ None
    → AllByRecursion (λ p. same_at a b p ≡ true) (map (part_of s) key.columns)
    → (cols : List ℕ) → AllByRecursion (Contains s.primary) cols
    → AllByRecursion (λ p. follows (map (part_of s) key.columns) p.spot ≡ true → same_at a b p ≡ true) (map (part_of s) cols)
    → AllByRecursion (λ p. same_at a b p ≡ true) (map (part_of s) cols)
each_primary s key a b none all [] there more = tt
each_primary s key a b none all (c ∷ cols) there more =
    (primary_same s key a b c none there.0 all more.0, each_primary s key a b none all cols there.1 more.1)

all_there : {X : Type 0} (xs : List X) → AllByRecursion (Contains xs) xs
all_there [] = tt
all_there {X} (x ∷ xs) = (has_first x xs, all_map (Contains xs) (Contains (x ∷ xs)) (λ y h. has_next x y xs h) xs (all_there xs))

-- rows with the same index record have the same rowid or primary key
entry_same : (s : Shape) (key : KeyColumns) (a b : StoredRow) → IsShape s
    → same_key (entry_parts (keys_of s) (parts_of s key)) a b ≡ true → same_key (first_of s) a b ≡ true
entry_same s key a b is e =
    let own = map (part_of s) key.columns in
    let two = all_behind (λ p. same_at a b p ≡ true) own (filter (λ p. follows own p.spot) (first_of s))
    (parts_same (entry_parts (keys_of s) (parts_of s key)) a b e) in
    by_kind s.without_rowid refl two.0 (all_filtered (λ p. same_at a b p ≡ true) (λ p. follows own p.spot) (first_of s) two.1)
  where
    by_kind : (w : Bool) → s.without_rowid ≡ w → AllByRecursion (λ p. same_at a b p ≡ true) (map (part_of s) key.columns)
        → AllByRecursion (λ p. follows (map (part_of s) key.columns) p.spot ≡ true → same_at a b p ≡ true) (first_of s)
        → same_key (first_of s) a b ≡ true
    by_kind true w all more =
        let first : first_of s ≡ map (part_of s) s.primary = ap (λ x. if x then map (part_of s) s.primary else rowid_part ∷ []) w in
        let rest = subst (λ (ps : List KeyPart). AllByRecursion (λ p. follows (map (part_of s) key.columns) p.spot ≡ true → same_at a b p ≡ true) ps) first more in
        subst (λ (ps : List KeyPart). same_key ps a b ≡ true) (sym first)
        (same_parts (map (part_of s) s.primary) a b (each_primary s key a b (is.without w).1 all s.primary (all_there s.primary) rest))
    by_kind false w all more =
        let first : first_of s ≡ rowid_part ∷ [] = ap (λ x. if x then map (part_of s) s.primary else rowid_part ∷ []) w in
        let rest = subst (λ (ps : List KeyPart). AllByRecursion (λ p. follows (map (part_of s) key.columns) p.spot ≡ true → same_at a b p ≡ true) ps) first more in
        subst (λ (ps : List KeyPart). same_key ps a b ≡ true) (sym first) (same_parts (rowid_part ∷ []) a b (rest.0 refl, tt))

distinct_keys : (s : Shape) (key : KeyColumns) → IsShape s → (rows : List StoredRow) → IsDistinct (clash (keys_of s)) rows
    → IsDistinct (same_by (key_of (entry_parts (keys_of s) (parts_of s key)))) rows
unfolding IsDistinct
distinct_keys s key is [] apart = tt
distinct_keys s key is (a ∷ rows) apart = (others rows apart.0, distinct_keys s key is rows apart.1)
  where
    one : (b : StoredRow) → clash (keys_of s) a b ≡ false → same_key (entry_parts (keys_of s) (parts_of s key)) a b ≡ false
    one b e = elim (cases_Bool (same_key (entry_parts (keys_of s) (parts_of s key)) a b)) [
      | inl same ↦ absurd (true≢false (sym (entry_same s key a b is same)
          ∙ (or_parts (same_key (first_of s) a b) (list_any (λ k. clash_by k.parts a b) (keys_of s).keys) e).0))
      | inr differ ↦ differ
    ]

    others : (ys : List StoredRow) → AllByRecursion (λ b. clash (keys_of s) a b ≡ false) ys
        → AllByRecursion (λ b. same_by (key_of (entry_parts (keys_of s) (parts_of s key))) a b ≡ false) ys
    others [] all = tt
    others (b ∷ ys) all = (one b all.0, others ys all.1)

pub entries_rise : (s : Shape) (key : KeyColumns) (rows : List StoredRow) → IsShape s → AreRows (keys_of s) rows
    → RiseOnce (entry_parts (keys_of s) (parts_of s key)) rows
entries_rise s key rows is are =
    let done = ordered (key_of (entry_parts (keys_of s) (parts_of s key))) rows (distinct_keys s key is rows are.apart) in
    record { rise = done.sorted; once = done.moved }
