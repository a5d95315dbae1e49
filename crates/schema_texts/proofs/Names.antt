-- Table rows read one after another, and the names that are known.
use Rattle.std.proofs.Common.{◌≡◌, ◌<◌, inl, inr, ℕ, suc, ◌+◌, Bool, true, false, not, cond, ◌||◌, Option, List, [], ◌∷◌, ◌++◌, length, map, take, drop, get_or, refl, sym, ◌∙◌, ap, subst, arith, append_assoc, Vec, Global}
use Rattle.std.specs.BTreeSet.{BTreeSet, contains}
use Rattle.std.specs.BTreeMap.{is_at}
use Rattle.std.specs.List.{AllByRecursion, list_any, slice_get}
use Rattle.std.specs.Str.{bytes_eq, str_to_ascii_lowercase}
use Rattle.std.proofs.lemmas.Bool.{cases_Bool}
use Rattle.std.proofs.lemmas.List.{drop_more, map-append}
use Rattle.std.proofs.lemmas.List.Folds.{list_any-append}
use Rattle.std.proofs.lemmas.Option.{slice_get_read}
use Rattle.std.proofs.lemmas.Map.Text.{is_eq-slice_cmp}
use Rattle.std.proofs.Math.Seq.{take-suc}
use Rattle.cell_reader.specs.declared.shapes.Kind.{Kind}
use Rattle.page_walk.proofs.Going.{all_append}
use Rattle.raw_schema.specs.declared.rows.SchemaRow.{SchemaRow}
use Rattle.table_shape.specs.Names.{is_named}
use Rattle.create_reader.specs.Index.{name_cmp}
use Rattle.schema_texts.specs.Known.{AreRead, Knows}
use Rattle.schema_texts.specs.Readings.{IsReading, IsReadingIn, is_table, table_names, tables_from}
use Rattle.schema_texts.specs.declared.readings.TableReading.{TableReading}

not_not : (b : Bool) → not (not b) ≡ b
not_not true = refl
not_not false = refl

-- a name is new where the set has it not
pub met_is : (set : BTreeSet (Vec ℕ Global)) (key : Vec ℕ Global) (name : List ℕ) (is_new : Bool) → key.items ≡ str_to_ascii_lowercase name
    → is_new ≡ not (contains name_cmp set key) → (before : List (List ℕ)) → Knows set before → not is_new ≡ is_named name before
met_is set key name is_new small new before knows =
    ap not new ∙ not_not (contains name_cmp set key) ∙ knows key
    ∙ ap (λ (bs : List ℕ). list_any (λ (other : List ℕ). bytes_eq (str_to_ascii_lowercase other) bs) before) small

one_more : (at same there : Bool) → at ≡ same → cond at true there ≡ (there || (same || false))
one_more true true true e = refl
one_more true true false e = refl
one_more true false there e = absurd (cc)
one_more false true there e = absurd (cc)
one_more false false true e = refl
one_more false false false e = refl

-- the set has one name more
pub known_more : (old new : BTreeSet (Vec ℕ Global)) (key : Vec ℕ Global) (name : List ℕ) → key.items ≡ str_to_ascii_lowercase name
    → ((q : Vec ℕ Global) → contains name_cmp new q ≡ cond (is_at (name_cmp key) q) true (contains name_cmp old q))
    → (before : List (List ℕ)) → Knows old before → Knows new (before ++ name ∷ [])
known_more old new key name small updates before knows q =
    let here : List ℕ → Bool = λ (other : List ℕ). bytes_eq (str_to_ascii_lowercase other) q.items in
    let at : is_at (name_cmp key) q ≡ here name = is_eq-slice_cmp key.items q.items ∙ ap (λ (bs : List ℕ). bytes_eq bs q.items) small in
    updates q ∙ one_more (is_at (name_cmp key) q) (here name) (contains name_cmp old q) at
    ∙ ap (λ (b : Bool). b || (here name || false)) (knows q) ∙ sym (list_any-append here before (name ∷ []))

names_append : (xs ys : List SchemaRow) → table_names (xs ++ ys) ≡ table_names xs ++ table_names ys
names_append [] ys = refl
names_append (x ∷ xs) ys =
    elim (cases_Bool (is_table x.kind)) [
      | inl is ↦ rw is (ap (λ (ns : List (List ℕ)). x.name ∷ ns) (names_append xs ys))
      | inr isnt ↦ rw isnt (names_append xs ys)
    ]

-- one more table row is read
pub read_more : (kinds : List (Option Kind)) (pages : ℕ) (rows : List SchemaRow) (i : ℕ) (row : SchemaRow) (old new : BTreeSet (Vec ℕ Global))
    (before after : List TableReading) (r : TableReading) → i < length rows → row ≡ get_or rows i row → is_table row.kind ≡ true → r.row ≡ i → r.root ≡ row.root
    → after ≡ before ++ r ∷ [] → AreRead kinds pages rows i old before
    → (Knows old (table_names (take i rows)) → IsReading kinds pages row (is_named row.name (table_names (take i rows))) r.reading)
    → ((names : List (List ℕ)) → Knows old names → Knows new (names ++ row.name ∷ []))
    → AreRead kinds pages rows (i + 1) new after
read_more kinds pages rows i row old new before after r lt at table number root pushed was reading known =
    let next : i + 1 ≡ suc i = omega arith in
    let split : drop i rows ≡ row ∷ drop (i + 1) rows = drop_more rows i row lt ∙ ap (λ (r : SchemaRow). r ∷ drop (i + 1) rows) (sym at) in
    let behind : take (i + 1) rows ≡ take i rows ++ row ∷ [] = ap (λ (n : ℕ). take n rows) next ∙ take-suc rows i row lt ∙ ap (λ (r : SchemaRow). take i rows ++ r ∷ []) (sym at) in
    let here : tables_from i (row ∷ drop (i + 1) rows) ≡ i ∷ tables_from (i + 1) (drop (i + 1) rows) = rw table refl in
    let names : table_names (take (i + 1) rows) ≡ table_names (take i rows) ++ row.name ∷ [] =
    ap table_names behind ∙ names_append (take i rows) (row ∷ []) ∙ rw table refl in
    record {
      numbers = ap (λ (rs : List TableReading). map (λ (t : TableReading). t.row) rs ++ tables_from (i + 1) (drop (i + 1) rows)) pushed
          ∙ ap (λ (ns : List ℕ). ns ++ tables_from (i + 1) (drop (i + 1) rows)) (map-append (λ (t : TableReading). t.row) before (r ∷ []))
          ∙ ap (λ (n : ℕ). (map (λ (t : TableReading). t.row) before ++ n ∷ []) ++ tables_from (i + 1) (drop (i + 1) rows)) number
          ∙ append_assoc (map (λ (t : TableReading). t.row) before) (i ∷ []) (tables_from (i + 1) (drop (i + 1) rows))
          ∙ ap (λ (ns : List ℕ). map (λ (t : TableReading). t.row) before ++ ns) (sym (ap (tables_from i) split ∙ here))
          ∙ was.numbers;
      readings = subst (AllByRecursion (IsReadingIn kinds pages rows)) (sym pushed)
          (all_append (IsReadingIn kinds pages rows) before (r ∷ []) was.readings (
            record {
              row = row;
              row_is = ap (slice_get rows) number ∙ slice_get_read rows (length rows) i row refl lt at;
              root_is = root;
              reading = subst (λ (n : ℕ). IsReading kinds pages row (is_named row.name (table_names (take n rows))) r.reading) (sym number) (reading was.known);
            },
            tt,
          ));
      known = subst (Knows new) (sym names) (known (table_names (take i rows)) was.known);
    }
