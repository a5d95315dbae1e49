-- Rows WITHOUT ROWID: the keys of their table do not see a rowid.
use Rattle.std.proofs.Common.{◌≡◌, inl, inr, ℕ, Bool, true, false, not, if◌then◌else◌, ◌&&◌, ◌||◌, Option, Some, None, List, [], ◌∷◌, length, map, refl, sym, ◌∙◌, ap, subst, nat_lt}
use Rattle.std.specs.Prelude.{ℤ, is_some}
use Rattle.std.specs.Cmp.Lexicographic.{slice_cmp}
use Rattle.std.specs.List.{AllByRecursion, IsDistinct, list_all, list_any}
use Rattle.std.specs.List.Sorted.{IsStrictlySortedBy}
use Rattle.std.specs.Ordering.{is_eq}
use Rattle.std.proofs.lemmas.Bool.{cases_Bool}
use Rattle.key_order.specs.Order.{folded_list, is_orderable, keys_cmp, value_cmp}
use Rattle.record_core.specs.declared.values.Value.{Value}
use Rattle.table_shape.specs.declared.keys.KeyPart.{KeyPart}
use Rattle.table_shape.specs.declared.keys.Spot.{Spot}
use Rattle.table_shape.specs.declared.keys.Spot.TheVariants.{Rowid, Field}
use Rattle.table_shape.specs.Keys.{AreRows, KeyParts, Keys, StoredRow, clash, clash_by, colls_of, fits, has_null, has_order, has_parts, has_spot, is_null, key_of, keys_of, number_of, orderable_row, part_of, parts_of, rowid_part, same_key, value_at, values_of}
use Rattle.table_shape.specs.Shape.{IsShape, KeyColumns, Shape}

-- a row without its rowid
abbrev pub bare : StoredRow → StoredRow
bare r = record { rowid = None; fields = r.fields }

-- ---- lists

any_same : {X : Type 0} (f g : X → Bool) (xs : List X) → AllByRecursion (λ x. f x ≡ g x) xs → list_any f xs ≡ list_any g xs
any_same f g [] all = refl
any_same f g (x ∷ xs) all = ap (λ (b : Bool). b || list_any f xs) all.0 ∙ ap (λ (b : Bool). g x || b) (any_same f g xs all.1)

all_same : {X : Type 0} (f g : X → Bool) (xs : List X) → AllByRecursion (λ x. f x ≡ g x) xs → list_all f xs ≡ list_all g xs
all_same f g [] all = refl
all_same f g (x ∷ xs) all = ap (λ (b : Bool). b && list_all f xs) all.0 ∙ ap (λ (b : Bool). g x && b) (all_same f g xs all.1)

map_same : {X Y : Type 0} (f g : X → Y) (xs : List X) → AllByRecursion (λ x. f x ≡ g x) xs → map f xs ≡ map g xs
map_same f g [] all = refl
map_same {X} {Y} f g (x ∷ xs) all = ap (λ (y : Y). y ∷ map f xs) all.0 ∙ ap (λ (ys : List Y). g x ∷ ys) (map_same f g xs all.1)

-- what holds of each item, holds so of what a function makes of it
pub all_mapped : {X Y : Type 0} (P : X → Type 0) (Q : Y → Type 0) (g : X → Y) (xs : List X) → ((x : X) → P x → Q (g x))
    → AllByRecursion P xs → AllByRecursion Q (map g xs)
all_mapped P Q g [] so all = tt
all_mapped P Q g (x ∷ xs) so all = (so x all.0, all_mapped P Q g xs so all.1)

each : {X : Type 0} (P Q : X → Type 0) (xs : List X) → ((x : X) → P x → Q x) → AllByRecursion P xs → AllByRecursion Q xs
each P Q [] so all = tt
each P Q (x ∷ xs) so all = (so x all.0, each P Q xs so all.1)

every : {X : Type 0} (P : X → Type 0) (xs : List X) → ((x : X) → P x) → AllByRecursion P xs
every P [] so = tt
every P (x ∷ xs) so = (so x, every P xs so)

distinct_mapped : {X : Type 0} (e : X → X → Bool) (g : X → X) (xs : List X) → ((a b : X) → e (g a) (g b) ≡ e a b)
    → IsDistinct e xs → IsDistinct e (map g xs)
unfolding IsDistinct
distinct_mapped e g [] same all = all
distinct_mapped e g (x ∷ xs) same all =
    (all_mapped (λ y. e x y ≡ false) (λ y. e (g x) y ≡ false) g xs (λ y no. same x y ∙ no) all.0, distinct_mapped e g xs same all.1)

-- ---- keys without the rowid

abbrev IsFieldSpot : Spot → Type 0
IsFieldSpot Rowid = ⊥
IsFieldSpot (Field i) = Unit {0}

abbrev AreFields : List KeyPart → Type 0
AreFields parts = AllByRecursion (λ (p : KeyPart). IsFieldSpot p.spot) parts

value_bare : (row : StoredRow) (s : Spot) → IsFieldSpot s → value_at (bare row) s ≡ value_at row s
value_bare row Rowid never = absurd never
value_bare row (Field i) is = refl

spot_bare : (row : StoredRow) (s : Spot) → has_spot (bare row) s ≡ has_spot row s
spot_bare row Rowid = refl
spot_bare row (Field i) = refl

values_bare : (parts : List KeyPart) (row : StoredRow) → AreFields parts → values_of parts (bare row) ≡ values_of parts row
values_bare parts row are = map_same _ _ parts (each _ _ parts (λ p is. value_bare row p.spot is) are)

null_bare : (parts : List KeyPart) (row : StoredRow) → AreFields parts → has_null parts (bare row) ≡ has_null parts row
null_bare parts row are = any_same _ _ parts (each _ _ parts (λ p is. ap is_null (value_bare row p.spot is)) are)

parts_bare : (parts : List KeyPart) (row : StoredRow) → has_parts parts (bare row) ≡ has_parts parts row
parts_bare parts row = all_same _ _ parts (every _ parts (λ p. spot_bare row p.spot))

order_bare : (parts : List KeyPart) (row : StoredRow) → AreFields parts → has_order parts (bare row) ≡ has_order parts row
order_bare parts row are = all_same _ _ parts (each _ _ parts (λ p is. ap (is_orderable p.coll) (value_bare row p.spot is)) are)

key_bare : (parts : List KeyPart) (row : StoredRow) → AreFields parts → key_of parts (bare row) ≡ key_of parts row
key_bare parts row are = ap (folded_list (colls_of parts)) (values_bare parts row are)

same_bare : (parts : List KeyPart) (a b : StoredRow) → AreFields parts → same_key parts (bare a) (bare b) ≡ same_key parts a b
same_bare parts a b are =
    ap (λ (vs : List Value). is_eq (keys_cmp (colls_of parts) vs (values_of parts (bare b)))) (values_bare parts a are)
    ∙ ap (λ (vs : List Value). is_eq (keys_cmp (colls_of parts) (values_of parts a) vs)) (values_bare parts b are)

clash_by_bare : (parts : List KeyPart) (a b : StoredRow) → AreFields parts → clash_by parts (bare a) (bare b) ≡ clash_by parts a b
clash_by_bare parts a b are =
    ap (λ (n : Bool). not n && (not (has_null parts (bare b)) && same_key parts (bare a) (bare b))) (null_bare parts a are)
    ∙ ap (λ (n : Bool). not (has_null parts a) && (not n && same_key parts (bare a) (bare b))) (null_bare parts b are)
    ∙ ap (λ (n : Bool). not (has_null parts a) && (not (has_null parts b) && n)) (same_bare parts a b are)

record HasFields (t : Keys) : Type 0 where
  first : AreFields t.first
  keys : AllByRecursion (λ (k : KeyParts). AreFields k.parts) t.keys

fits_bare : (t : Keys) (row : StoredRow) → HasFields t → fits t (bare row) ≡ fits t row
fits_bare t row are =
    let wide : Bool = nat_lt t.columns (length row.fields) in
    let keys : Bool = list_all (λ (k : KeyParts). has_parts k.parts (bare row)) t.keys in
    ap (λ (n : Bool). not wide && (n && (not (has_null t.first (bare row)) && keys))) (parts_bare t.first row)
    ∙ ap (λ (n : Bool). not wide && (has_parts t.first row && (not n && keys))) (null_bare t.first row are.first)
    ∙ ap (λ (n : Bool). not wide && (has_parts t.first row && (not (has_null t.first row) && n)))
    (all_same _ _ t.keys (every _ t.keys (λ k. parts_bare k.parts row)))

orderly_bare : (t : Keys) (row : StoredRow) → HasFields t → orderable_row t (bare row) ≡ orderable_row t row
orderly_bare t row are =
    ap (λ (n : Bool). n && list_all (λ (k : KeyParts). has_order k.parts (bare row)) t.keys) (order_bare t.first row are.first)
    ∙ ap (λ (n : Bool). has_order t.first row && n) (all_same _ _ t.keys (each _ _ t.keys (λ k is. order_bare k.parts row is) are.keys))

clash_bare : (t : Keys) (a b : StoredRow) → HasFields t → clash t (bare a) (bare b) ≡ clash t a b
clash_bare t a b are =
    ap (λ (n : Bool). n || list_any (λ (k : KeyParts). clash_by k.parts (bare a) (bare b)) t.keys) (same_bare t.first a b are.first)
    ∙ ap (λ (n : Bool). same_key t.first a b || n) (any_same _ _ t.keys (each _ _ t.keys (λ k is. clash_by_bare k.parts a b is) are.keys))

keys_bare : (parts : List KeyPart) (rows : List StoredRow) → AreFields parts → map (key_of parts) (map bare rows) ≡ map (key_of parts) rows
keys_bare parts [] are = refl
keys_bare parts (r ∷ rows) are =
    ap (λ (k : List Value). k ∷ map (key_of parts) (map bare rows)) (key_bare parts r are)
    ∙ ap (λ (ks : List (List Value)). key_of parts r ∷ ks) (keys_bare parts rows are)

-- rows of a well-formed table, without their rowids
rows_bare : (t : Keys) (rows : List StoredRow) → HasFields t → AreRows t rows → AreRows t (map bare rows)
rows_bare t rows are good = record {
  fit = all_mapped (λ r. fits t r ≡ true) (λ r. fits t r ≡ true) bare rows (λ r is. fits_bare t r are ∙ is) good.fit;
  orderly = all_mapped (λ r. orderable_row t r ≡ true) (λ r. orderable_row t r ≡ true) bare rows (λ r is. orderly_bare t r are ∙ is) good.orderly;
  rise = subst (IsStrictlySortedBy (slice_cmp value_cmp)) (sym (keys_bare t.first rows are.first)) good.rise;
  apart = distinct_mapped (clash t) bare rows (λ a b. clash_bare t a b are) good.apart;
}

-- ---- the keys of a shape

fields_of : (s : Shape) → s.alias ≡ None → (columns : List ℕ) → AreFields (map (part_of s) columns)
fields_of s none [] = tt
fields_of s none (c ∷ columns) = (rw none tt, fields_of s none columns)

all_fields : (s : Shape) → s.alias ≡ None → (keys : List KeyColumns) → AllByRecursion (λ (k : KeyParts). AreFields k.parts) (map (parts_of s) keys)
all_fields s none [] = tt
all_fields s none (k ∷ keys) = (fields_of s none k.columns, all_fields s none keys)

keys_are : (s : Shape) → IsShape s → s.without_rowid ≡ true → HasFields (keys_of s)
keys_are s is without = record {
  first = rw without (fields_of s (is.without without).1 s.primary);
  keys = all_fields s (is.without without).1 s.keys;
}

-- rows of a table, as they are stored
abbrev pub stored : Bool → StoredRow → StoredRow
stored without_rowid r = record { rowid = if without_rowid then None else r.rowid; fields = r.fields }

same_stored : (rows : List StoredRow) → map (stored false) rows ≡ rows
same_stored [] = refl
same_stored (r ∷ rows) = ap (λ (rs : List StoredRow). r ∷ rs) (same_stored rows)

pub stored_are_rows : (s : Shape) (rows : List StoredRow) → IsShape s → AreRows (keys_of s) rows
    → AreRows (keys_of s) (map (stored s.without_rowid) rows)
stored_are_rows s rows is good =
    elim (cases_Bool s.without_rowid) [
      | inl without ↦ subst (λ (b : Bool). AreRows (keys_of s) (map (stored b) rows)) (sym without)
          (rows_bare (keys_of s) rows (keys_are s is without) good)
      | inr has ↦ subst (λ (b : Bool). AreRows (keys_of s) (map (stored b) rows)) (sym has)
          (subst (AreRows (keys_of s)) (sym (same_stored rows)) good)
    ]

third : (a b c d : Bool) → (a && (b && (c && d))) ≡ true → c ≡ true
third a b true d is = refl
third true true false d is = is
third true false false d is = is
third false b false d is = is

there : (rowid : Option ℤ) → not (is_null (number_of rowid) || false) ≡ true → is_some rowid ≡ true
there None never = never
there (Some n) is = refl

-- a row of a table with rowids has one
has_rowid : (s : Shape) (r : StoredRow) → s.without_rowid ≡ false → fits (keys_of s) r ≡ true → is_some r.rowid ≡ true
has_rowid s r has fit =
    let parts : (keys_of s).first ≡ rowid_part ∷ [] = rw has refl in
    there r.rowid (ap (λ (ps : List KeyPart). not (has_null ps r)) (sym parts)
    ∙ third (not (nat_lt (length s.columns) (length r.fields))) (has_parts (keys_of s).first r) (not (has_null (keys_of s).first r))
    (list_all (λ (k : KeyParts). has_parts k.parts r) (keys_of s).keys) fit)

pub rowids_are : (s : Shape) (rows : List StoredRow) → AllByRecursion (λ (r : StoredRow). fits (keys_of s) r ≡ true) rows
    → AllByRecursion (λ (r : StoredRow). is_some r.rowid ≡ not s.without_rowid) (map (stored s.without_rowid) rows)
rowids_are s rows fit =
    elim (cases_Bool s.without_rowid) [
      | inl without ↦ subst (λ (b : Bool). AllByRecursion (λ (r : StoredRow). is_some r.rowid ≡ not b) (map (stored b) rows)) (sym without)
          (all_mapped (λ r. fits (keys_of s) r ≡ true) (λ r. is_some r.rowid ≡ false) (stored true) rows (λ r is. refl) fit)
      | inr has ↦ subst (λ (b : Bool). AllByRecursion (λ (r : StoredRow). is_some r.rowid ≡ not b) (map (stored b) rows)) (sym has)
          (all_mapped (λ r. fits (keys_of s) r ≡ true) (λ r. is_some r.rowid ≡ true) (stored false) rows (λ r is. has_rowid s r has is) fit)
    ]
