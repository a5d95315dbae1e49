-- What a text without a fault means is a shape.
use Rattle.std.proofs.Common.{◌≡◌, refl, sym, ap, ◌∙◌, subst, arith, ℕ, zero, suc, ◌+◌, ◌<◌, ◌≤◌, nat_eq, nat_lt, ◌==◌, Bool, true, false, not, cond, ◌&&◌, ◌||◌, if◌then◌else◌, Option, Some, None, IfSome, is_none, is_some, option_map, List, [], ◌∷◌, ◌++◌, length, map, count_by, slice_get}
use Rattle.std.proofs.lemmas.Bool.{true≢false, eq-eqb, ne_eqb, lt-ltb}
use Rattle.std.proofs.lemmas.Cmp.{on_equiv, nat_list_eq_equiv}
use Rattle.std.proofs.lemmas.List.{length-map}
use Rattle.std.specs.Cmp.{IsEquivalence}
use Rattle.std.specs.List.{AllByRecursion, IsDistinct, list_any}
use Rattle.std.specs.Str.{str_to_ascii_lowercase}
use Rattle.create_reader.specs.declared.texts.ColumnText.{ColumnText}
use Rattle.create_reader.specs.Constraints.{Constraint, Table}
use Rattle.create_reader.specs.Faults.{bad_list, has_repeat, key_fault, key_lacks_coll, lacks_coll, list_lacks_coll, wrong_primaries, auto_alone, column_repeats, has_bad_list, has_marks, primary_count}
use Rattle.create_reader.specs.Meaning.{alias_from, column_from, first_place, keys_from, place, places, primary_in, primary_of, shape_of}
use Rattle.create_reader.specs.Numbers.{column_named, makes_alias, is_among, numbered, numbered_of, single_integer, takes}
use Rattle.key_order.specs.declared.Coll.{Coll}
use Rattle.table_shape.specs.declared.columns.Column.{Column}
use Rattle.table_shape.specs.Names.{same_name}
use Rattle.table_shape.specs.Shape.{AreKeyColumns, IsKeyOf, IsShape, coll_in, has_coll, rises}

-- ---- tests

pub neither : (a b : Bool) → (a || b) ≡ false → (a ≡ false) × (b ≡ false)
neither true b h = absurd (true≢false h)
neither false b h = (refl, h)

pub holds_right : (a : Bool) → (a || true) ≡ true
holds_right true = refl
holds_right false = refl

pub same_equiv : IsEquivalence same_name
same_equiv = on_equiv str_to_ascii_lowercase nat_list_eq_equiv

-- ---- the place of a name

-- what the place of a name is, by the first column
pub place_first : (c : ColumnText) (cs : List ColumnText) (name : List ℕ) → same_name c.name name ≡ true → place (c ∷ cs) name ≡ 0
place_first c cs name h = rw h refl

pub place_later : (c : ColumnText) (cs : List ColumnText) (name : List ℕ) → same_name c.name name ≡ false
    → place (c ∷ cs) name ≡ 1 + place cs name
place_later c cs name h = rw h refl

-- a name that a column has: it has a place, and the column there is the one that is named
pub record IsPlaced (columns : List ColumnText) (name : List ℕ) : Type 0 where
  pub within : place columns name < length columns
  pub is : slice_get columns (place columns name) ≡ column_named columns name

placed_at : (c : ColumnText) (cs : List ColumnText) (name : List ℕ) (b : Bool) → same_name c.name name ≡ b
    → is_none (cond b (Some c) (column_named cs name)) ≡ false
    → (is_none (column_named cs name) ≡ false → IsPlaced cs name) → IsPlaced (c ∷ cs) name
placed_at c cs name true e h k =
    let at = place_first c cs name e in
    record {
      within = subst (λ z. z < suc (length cs)) (sym at) (omega arith);
      is = subst (λ z. slice_get (c ∷ cs) z ≡ column_named (c ∷ cs) name) (sym at) (rw e refl);
    }
placed_at c cs name false e h k =
    let at : place (c ∷ cs) name ≡ suc (place cs name) = place_later c cs name e ∙ omega arith in
    let p = k h in
    record {
      within = (let w = p.within in omega (arith, at, w));
      is = subst (λ z. slice_get (c ∷ cs) z ≡ column_named (c ∷ cs) name) (sym at) (rw e p.is);
    }

pub placed : (columns : List ColumnText) (name : List ℕ) → is_none (column_named columns name) ≡ false → IsPlaced columns name
placed [] name h = absurd (true≢false h)
placed (c ∷ cs) name h = placed_at c cs name (same_name c.name name) refl h (placed cs name)

-- two names that are not the same have two places
apart_at : (c : ColumnText) (cs : List ColumnText) (a b : List ℕ) (s t : Bool) → same_name c.name a ≡ s → same_name c.name b ≡ t
    → same_name a b ≡ false → is_none (cond s (Some c) (column_named cs a)) ≡ false
    → (is_none (column_named cs a) ≡ false → nat_eq (place cs a) (place cs b) ≡ false)
    → nat_eq (place (c ∷ cs) a) (place (c ∷ cs) b) ≡ false
apart_at c cs a b true true e f h g k =
    absurd (true≢false (sym f ∙ (same_equiv.congr c.name a b e ∙ h)))
apart_at c cs a b true false e f h g k =
    ne_eqb _ _ (λ z. (let one = place_first c cs a e in let two = place_later c cs b f in omega (arith, z, one, two)))
apart_at c cs a b false true e f h g k =
    ne_eqb _ _ (λ z. (let one = place_later c cs a e in let two = place_first c cs b f in omega (arith, z, one, two)))
apart_at c cs a b false false e f h g k =
    ne_eqb _ _ (λ z.
    let one = place_later c cs a e in
    let two = place_later c cs b f in
    let same : place cs a ≡ place cs b = omega (arith, z, one, two) in
    true≢false (sym (eq-eqb (place cs a) (place cs b) same) ∙ k g))

pub places_apart : (columns : List ColumnText) (a b : List ℕ) → same_name a b ≡ false
    → is_none (column_named columns a) ≡ false → nat_eq (place columns a) (place columns b) ≡ false
places_apart [] a b h g = absurd (true≢false g)
places_apart (c ∷ cs) a b h g =
    apart_at c cs a b (same_name c.name a) (same_name c.name b) refl refl h g (places_apart cs a b h)

-- ---- the columns of a key

head_apart : (columns : List ColumnText) (name : List ℕ) (names : List (List ℕ))
    → is_none (column_named columns name) ≡ false → list_any (same_name name) names ≡ false
    → AllByRecursion (λ y. nat_eq (place columns name) y ≡ false) (places columns names)
head_apart columns name [] h g = tt
head_apart columns name (other ∷ names) h g =
    let parts = neither (same_name name other) (list_any (same_name name) names) g in
    (places_apart columns name other parts.0 h, head_apart columns name names h parts.1)

distinct : (columns : List ColumnText) (names : List (List ℕ))
    → list_any (λ name. is_none (column_named columns name)) names ≡ false → has_repeat names ≡ false
    → IsDistinct nat_eq (places columns names)
unfolding IsDistinct
distinct columns [] h g = tt
distinct columns (name ∷ names) h g =
    let found = neither (is_none (column_named columns name)) (list_any (λ n. is_none (column_named columns n)) names) h in
    let once = neither (list_any (same_name name) names) (has_repeat names) g in
    (head_apart columns name names found.0 once.0, distinct columns names found.1 once.1)

within : (columns : List ColumnText) (names : List (List ℕ))
    → list_any (λ name. is_none (column_named columns name)) names ≡ false
    → AllByRecursion (λ k. k < length (map column_from columns)) (places columns names)
within columns [] h = tt
within columns (name ∷ names) h =
    let found = neither (is_none (column_named columns name)) (list_any (λ n. is_none (column_named columns n)) names) h in
    let p = placed columns name found.0 in
    (rw length-map p.within, within columns names found.1)

get_from : (columns : List ColumnText) (k : ℕ) → slice_get (map column_from columns) k ≡ option_map column_from (slice_get columns k)
get_from [] k = refl
get_from (c ∷ cs) zero = refl
get_from (c ∷ cs) (suc k) = get_from cs k

known : (o : Option ColumnText) → is_none o ≡ false → lacks_coll o ≡ false → is_some (coll_in (option_map column_from o)) ≡ true
known None h g = absurd (true≢false h)
known (Some c) h g = by_coll c.coll g
  where
    by_coll : (o : Option Coll) → is_none o ≡ false → is_some o ≡ true
    by_coll None e = absurd (true≢false e)
    by_coll (Some x) e = refl

colls : (columns : List ColumnText) (names : List (List ℕ))
    → list_any (λ name. is_none (column_named columns name)) names ≡ false
    → list_any (λ name. lacks_coll (column_named columns name)) names ≡ false
    → AllByRecursion (λ k. has_coll (map column_from columns) k ≡ true) (places columns names)
colls columns [] h g = tt
colls columns (name ∷ names) h g =
    let found = neither (is_none (column_named columns name)) (list_any (λ n. is_none (column_named columns n)) names) h in
    let with_coll = neither (lacks_coll (column_named columns name)) (list_any (λ n. lacks_coll (column_named columns n)) names) g in
    let p = placed columns name found.0 in (
      ap (λ o. is_some (coll_in o)) (get_from columns (place columns name) ∙ ap (option_map column_from) p.is)
          ∙ known (column_named columns name) found.0 with_coll.0,
      colls columns names found.1 with_coll.1,
    )

-- a constraint whose list is good, and has collations
pub record IsGood (columns : List ColumnText) (c : Constraint) : Type 0 where
  pub fine : bad_list columns c ≡ false
  pub known : list_lacks_coll columns c ≡ false

some_names : (names : List (List ℕ)) → (length names == 0) ≡ false → 0 < length names
some_names [] h = absurd (true≢false h)
some_names (name ∷ names) h = omega arith

key_columns : (columns : List ColumnText) (c : Constraint) → IsGood columns c
    → AreKeyColumns (map column_from columns) (places columns c.names)
key_columns columns c g =
    let one = neither (length c.names == 0) _ g.fine in
    let two = neither (list_any (λ name. is_none (column_named columns name)) c.names) (has_repeat c.names) one.1 in
    record {
      distinct = distinct columns c.names two.0 two.1;
      within = within columns c.names two.0;
      colls = colls columns c.names two.0 g.known;
    }

key_some : (columns : List ColumnText) (c : Constraint) → IsGood columns c → 0 < length (places columns c.names)
key_some columns c g = rw length-map (some_names c.names (neither (length c.names == 0) _ g.fine).0)

-- ---- all constraints that take a number

pub none_numbered : (test : Constraint → Bool) (t : Table) (taken cs : List Constraint) → list_any test cs ≡ false
    → list_any test (numbered t taken cs) ≡ false
none_numbered test t taken [] h = refl
none_numbered test t taken (c ∷ cs) h =
    let parts = neither (test c) (list_any test cs) h in
    by_test (takes t taken c) (none_numbered test t (taken ++ c ∷ []) cs parts.1) (none_numbered test t taken cs parts.1)
  where
    by_test : (b : Bool) → list_any test (numbered t (taken ++ c ∷ []) cs) ≡ false → list_any test (numbered t taken cs) ≡ false
        → list_any test (if b then c ∷ numbered t (taken ++ c ∷ []) cs else numbered t taken cs) ≡ false
    by_test true p q = ap (λ z. z || list_any test (numbered t (taken ++ c ∷ []) cs)) (neither (test c) (list_any test cs) h).0 ∙ p
    by_test false p q = q

keys_good : (t : Table) (n : ℕ) (cs : List Constraint) → list_any (bad_list t.columns) cs ≡ false
    → list_any (list_lacks_coll t.columns) cs ≡ false
    → AllByRecursion (IsKeyOf (map column_from t.columns)) (keys_from t n cs)
keys_good t n [] h g = tt
keys_good t n (c ∷ cs) h g =
    let bad = neither (bad_list t.columns c) (list_any (bad_list t.columns) cs) h in
    let coll = neither (list_lacks_coll t.columns c) (list_any (list_lacks_coll t.columns) cs) g in
    by_test (c.primary && t.without_rowid) (record { fine = bad.0; known = coll.0 }) (keys_good t (n + 1) cs bad.1 coll.1)
  where
    by_test : (b : Bool) → IsGood t.columns c → AllByRecursion (IsKeyOf (map column_from t.columns)) (keys_from t (n + 1) cs)
        → AllByRecursion (IsKeyOf (map column_from t.columns)) (if b then keys_from t (n + 1) cs
        else record { columns = places t.columns c.names; number = n } ∷ keys_from t (n + 1) cs)
    by_test true k rest = rest
    by_test false k rest = (record { some = key_some t.columns c k; are = key_columns t.columns c k }, rest)

rising : (t : Table) (low n : ℕ) (cs : List Constraint) → low < n → rises low (keys_from t n cs) ≡ true
rising t low n [] h = refl
rising t low n (c ∷ cs) h =
    by_test (c.primary && t.without_rowid) (rising t low (n + 1) cs (omega (arith, h))) (rising t n (n + 1) cs (omega arith))
  where
    by_test : (b : Bool) → rises low (keys_from t (n + 1) cs) ≡ true → rises n (keys_from t (n + 1) cs) ≡ true
        → rises low (if b then keys_from t (n + 1) cs
        else record { columns = places t.columns c.names; number = n } ∷ keys_from t (n + 1) cs) ≡ true
    by_test true p q = p
    by_test false p q = ap (λ z. z && rises n (keys_from t (n + 1) cs)) (lt-ltb low n h) ∙ q

no_columns : (columns : List Column) → AreKeyColumns columns []
unfolding IsDistinct
no_columns columns = record { distinct = tt; within = tt; colls = tt }

primary_good : (t : Table) (cs : List Constraint) → list_any (bad_list t.columns) cs ≡ false
    → list_any (list_lacks_coll t.columns) cs ≡ false
    → AreKeyColumns (map column_from t.columns) (primary_in t.columns cs)
primary_good t [] h g = no_columns (map column_from t.columns)
primary_good t (c ∷ cs) h g =
    let bad = neither (bad_list t.columns c) (list_any (bad_list t.columns) cs) h in
    let coll = neither (list_lacks_coll t.columns c) (list_any (list_lacks_coll t.columns) cs) g in
    by_test c.primary (key_columns t.columns c (record { fine = bad.0; known = coll.0 })) (primary_good t cs bad.1 coll.1)
  where
    by_test : (b : Bool) → AreKeyColumns (map column_from t.columns) (places t.columns c.names)
        → AreKeyColumns (map column_from t.columns) (primary_in t.columns cs)
        → AreKeyColumns (map column_from t.columns) (if b then places t.columns c.names else primary_in t.columns cs)
    by_test true p q = p
    by_test false p q = q

-- ---- WITHOUT ROWID

primary_some : (t : Table) (cs : List Constraint) → list_any (bad_list t.columns) cs ≡ false
    → list_any (list_lacks_coll t.columns) cs ≡ false
    → list_any (λ c. c.primary) cs ≡ true → 0 < length (primary_in t.columns cs)
primary_some t [] h g e = absurd (true≢false (sym e))
primary_some t (c ∷ cs) h g e =
    let bad = neither (bad_list t.columns c) (list_any (bad_list t.columns) cs) h in
    let coll = neither (list_lacks_coll t.columns c) (list_any (list_lacks_coll t.columns) cs) g in
    by_test c.primary e (key_some t.columns c (record { fine = bad.0; known = coll.0 })) (primary_some t cs bad.1 coll.1)
  where
    by_test : (b : Bool) → (b || list_any (λ c. c.primary) cs) ≡ true → 0 < length (places t.columns c.names)
        → (list_any (λ c. c.primary) cs ≡ true → 0 < length (primary_in t.columns cs))
        → 0 < length (if b then places t.columns c.names else primary_in t.columns cs)
    by_test true e p q = p
    by_test false e p q = q e

-- every PRIMARY KEY of a table WITHOUT ROWID takes a number
primary_numbered : (t : Table) (taken cs : List Constraint) → t.without_rowid ≡ true → list_any (λ c. c.primary) cs ≡ true
    → list_any (λ c. c.primary) (numbered t taken cs) ≡ true
primary_numbered t taken [] w e = e
primary_numbered t taken (c ∷ cs) w e = by_primary (primary_numbered t (taken ++ c ∷ []) cs w) (primary_numbered t taken cs w) c.primary refl
  where
    taken_so : c.primary ≡ true → takes t taken c ≡ true
    taken_so h = (λ i. (h i && w i) || (not (makes_alias t c) && not (is_among taken c)))

    keeps : (b : Bool) → list_any (λ c. c.primary) (numbered t (taken ++ c ∷ []) cs) ≡ true
        → list_any (λ c. c.primary) (numbered t taken cs) ≡ true
        → list_any (λ c. c.primary) (if b then c ∷ numbered t (taken ++ c ∷ []) cs else numbered t taken cs) ≡ true
    keeps true p q = ap (λ z. c.primary || z) p ∙ holds_right c.primary
    keeps false p q = q

    by_primary : (list_any (λ c. c.primary) cs ≡ true → list_any (λ c. c.primary) (numbered t (taken ++ c ∷ []) cs) ≡ true)
        → (list_any (λ c. c.primary) cs ≡ true → list_any (λ c. c.primary) (numbered t taken cs) ≡ true)
        → (b : Bool) → c.primary ≡ b → list_any (λ c. c.primary) (numbered t taken (c ∷ cs)) ≡ true
    by_primary more less true h = rw (taken_so h) (ap (λ z. z || list_any (λ c. c.primary) (numbered t (taken ++ c ∷ []) cs)) h)
    by_primary more less false h =
        let later : list_any (λ c. c.primary) cs ≡ true = ap (λ z. z || list_any (λ c. c.primary) cs) (sym h) ∙ e in
        keeps (takes t taken c) (more later) (less later)

none_counted : (cs : List Constraint) → list_any (λ c. c.primary) cs ≡ false → count_by (λ c. c.primary) cs ≡ 0
none_counted [] h = refl
none_counted (c ∷ cs) h =
    let parts = neither c.primary (list_any (λ c. c.primary) cs) h in
    rw parts.0 (none_counted cs parts.1)

counted : (cs : List Constraint) → (count_by (λ c. c.primary) cs == 0) ≡ false → list_any (λ c. c.primary) cs ≡ true
counted cs h = by_any (list_any (λ c. c.primary) cs) refl
  where
    by_any : (b : Bool) → list_any (λ c. c.primary) cs ≡ b → list_any (λ c. c.primary) cs ≡ true
    by_any true e = e
    by_any false e = absurd (true≢false (sym (eq-eqb _ 0 (none_counted cs e)) ∙ h))

no_alias : (t : Table) (cs : List Constraint) → t.without_rowid ≡ true → alias_from t cs ≡ None
no_alias t [] w = refl
no_alias t (c ∷ cs) w = rw (never c) (no_alias t cs w)
  where
    never : (c : Constraint) → makes_alias t c ≡ false
    never c = by_primary c.primary
      where
        by_primary : (b : Bool) → (b && (not t.without_rowid && single_integer t.columns c)) ≡ false
        by_primary true = ap (λ z. not z && single_integer t.columns c) w
        by_primary false = refl

-- ---- the alias

alias_within : (t : Table) (cs : List Constraint) → list_any (bad_list t.columns) cs ≡ false
    → IfSome (alias_from t cs) (λ k. k < length (map column_from t.columns))
alias_within t [] h = tt
alias_within t (c ∷ cs) h =
    let bad = neither (bad_list t.columns c) (list_any (bad_list t.columns) cs) h in
    by_test (makes_alias t c) (first_within c.names (found_names bad.0)) (alias_within t cs bad.1)
  where
    found_names : bad_list t.columns c ≡ false → list_any (λ name. is_none (column_named t.columns name)) c.names ≡ false
    found_names e = (neither (list_any (λ name. is_none (column_named t.columns name)) c.names) (has_repeat c.names)
        (neither (length c.names == 0) _ e).1).0

    first_within : (names : List (List ℕ)) → list_any (λ name. is_none (column_named t.columns name)) names ≡ false
        → IfSome (first_place t.columns names) (λ k. k < length (map column_from t.columns))
    first_within [] e = tt
    first_within (name ∷ names) e = (within t.columns (name ∷ names) e).0

    by_test : (b : Bool) → IfSome (first_place t.columns c.names) (λ k. k < length (map column_from t.columns))
        → IfSome (alias_from t cs) (λ k. k < length (map column_from t.columns))
        → IfSome (if b then first_place t.columns c.names else alias_from t cs) (λ k. k < length (map column_from t.columns))
    by_test true p q = p
    by_test false p q = q

-- ---- all together

pub record NoFault (t : Table) : Type 0 where
  pub primaries : wrong_primaries t ≡ false
  pub lists : has_bad_list t ≡ false
  pub colls : key_lacks_coll t ≡ false

no_fault : (t : Table) → key_fault t ≡ false → NoFault t
no_fault t h =
    let a = neither (wrong_primaries t) _ h in
    let b = neither (auto_alone t) _ a.1 in
    let c = neither (column_repeats t) _ b.1 in
    let d = neither (has_bad_list t) _ c.1 in
    let e = neither (has_marks t) _ d.1 in
    let f = neither (key_lacks_coll t) _ e.1 in
    record { primaries = a.0; lists = d.0; colls = f.0 }

pub valid : (t : Table) → key_fault t ≡ false → length t.columns ≤ 2000 → IsShape (shape_of t)
valid t h few =
    let f = no_fault t h in
    let lists : list_any (bad_list t.columns) (numbered_of t) ≡ false = none_numbered (bad_list t.columns) t [] t.constraints f.lists in
    record {
      few = rw length-map few;
      alias = alias_within t t.constraints f.lists;
      primary = by_rowid t.without_rowid (primary_good t (numbered_of t) lists f.colls);
      keys = keys_good t 1 (numbered_of t) lists f.colls;
      rising = rising t 0 1 (numbered_of t) (omega arith);
      without = λ w. (without_some w f lists, no_alias t t.constraints w);
      with_rowid = λ w. rw w refl;
    }
  where
    by_rowid : (b : Bool) → AreKeyColumns (map column_from t.columns) (primary_in t.columns (numbered_of t))
        → AreKeyColumns (map column_from t.columns) (if b then primary_in t.columns (numbered_of t) else [])
    by_rowid true p = p
    by_rowid false p = no_columns (map column_from t.columns)

    some_primary : (w : Bool) → w ≡ true → (nat_lt 1 (primary_count t) || (w && (primary_count t == 0))) ≡ false
        → (primary_count t == 0) ≡ false
    some_primary true e k = (neither (nat_lt 1 (primary_count t)) (primary_count t == 0) k).1
    some_primary false e k = absurd (true≢false (sym e))

    chosen : (b : Bool) → b ≡ true → 0 < length (primary_in t.columns (numbered_of t))
        → 0 < length (if b then primary_in t.columns (numbered_of t) else [])
    chosen true e p = p
    chosen false e p = absurd (true≢false (sym e))

    without_some : t.without_rowid ≡ true → NoFault t → list_any (bad_list t.columns) (numbered_of t) ≡ false
        → 0 < length (primary_of t)
    without_some w f lists =
        let count = some_primary t.without_rowid w f.primaries in
        let there = primary_numbered t [] t.constraints w (counted t.constraints count) in
        chosen t.without_rowid w (primary_some t (numbered_of t) lists f.colls there)
