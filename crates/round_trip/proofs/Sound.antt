-- In scope the text of each table that has a tree is read, and the table is built.
use Rattle.std.proofs.Common.{◌≡◌, ◌≤◌, ℕ, zero, suc, Bool, true, false, Option, Some, None, List, [], ◌∷◌, length, map, slice_get, take, nat_lt, refl, sym, ap, ◌∙◌, subst, inl, inr, arith}
use Rattle.std.specs.List.{AllByRecursion, IsDistinct}
use Rattle.std.specs.Str.{bytes_eq}
use Rattle.std.proofs.lemmas.Bool.{cases_Bool, ltb-false}
use Rattle.std.proofs.lemmas.List.{length-map}
use Rattle.std.proofs.lemmas.List.Elements.{filter_agree}
use Rattle.std.proofs.lemmas.Slice.Eq.{bytes_eq-Decides}
use Rattle.page_access.specs.Pages.{File}
use Rattle.cell_reader.specs.declared.shapes.Kind.{Kind}
use Rattle.create_reader.specs.declared.faults.CreateFault.TheVariants as faults
use Rattle.create_reader.specs.Meaning.{column_from}
use Rattle.create_reader.specs.Numbers.{numbered_of}
use Rattle.create_reader.specs.Outcome.{IsCreate, IsTableText}
use Rattle.create_reader.proofs.One.{is_within}
use Rattle.create_reader.proofs.Parts.{sound_of}
use Rattle.create_reader.proofs.Valid.{neither}
use Rattle.raw_schema.specs.declared.rows.SchemaKind.{SchemaKind}
use Rattle.raw_schema.specs.declared.rows.SchemaKind.TheVariants.{Table, Index, View, Trigger}
use Rattle.raw_schema.specs.declared.rows.SchemaRow.{SchemaRow}
use Rattle.report_text.specs.declared.causes.UnreadCause.{UnreadCause}
use Rattle.report_text.specs.declared.causes.UnreadCause.TheVariants as causes
use Rattle.schema_texts.specs.Readings.{HasNoShape, IsReading, IsRefused, bar, is_table, table_names}
use Rattle.schema_texts.specs.declared.readings.Reading.{Reading}
use Rattle.schema_texts.specs.declared.readings.Reading.TheVariants as readings
use Rattle.table_shape.specs.declared.shapes.TableShape.{TableShape}
use Rattle.table_shape.specs.Names.{is_named, is_reserved, same_name}
use Rattle.table_shape.specs.Seen.{shape_seen}
use Rattle.table_shape.specs.Shape.{Shape}
use Rattle.well_formed.specs.Database.{TableRows}
use Rattle.well_formed.specs.Tables.{AreNames, IsTable, is_of}
use Rattle.well_formed.specs.Tables as formed
use Rattle.well_formed_uses.proofs.Wanting.{text_shape}
use Rattle.round_trip.specs.Scope.{IsFaultless}

-- ---- names

table_sort : (kind : SchemaKind) → is_of Table kind ≡ is_table kind
table_sort Table = refl
table_sort Index = refl
table_sort View = refl
table_sort Trigger = refl

-- both words for the names of the table rows
names_same : (rows : List SchemaRow) → formed.table_names rows ≡ table_names rows
names_same rows = ap (map (λ (r : SchemaRow). r.name)) (filter_agree (λ (r : SchemaRow). is_of Table r.kind) (λ (r : SchemaRow). is_table r.kind) (λ r. table_sort r.kind) rows)

-- a table row is among those with names
named_there : (P : List ℕ → Type 0) (rows : List SchemaRow) (j : ℕ) (row : SchemaRow) → slice_get rows j ≡ Some row → is_table row.kind ≡ true
    → AllByRecursion P (table_names rows) → P row.name
named_there P [] j row is sort all = absurd (cc)
named_there P (x ∷ rows) zero row is sort all =
    let same : x ≡ row = cc in
    let here : is_table x.kind ≡ true = ap (λ (r : SchemaRow). is_table r.kind) same ∙ sort in
    let both : P x.name × AllByRecursion P (table_names rows) = rw here at all in
    subst (λ (r : SchemaRow). P r.name) same both.0
named_there P (x ∷ rows) (suc j) row is sort all =
    elim (cases_Bool (is_table x.kind)) [
      | inl here ↦
          let both : P x.name × AllByRecursion P (table_names rows) = rw here at all in
          named_there P rows j row is sort both.1
      | inr other ↦
          let rest : AllByRecursion P (table_names rows) = rw other at all in
          named_there P rows j row is sort rest
    ]

-- no table row before it has its name
not_double : (rows : List SchemaRow) (j : ℕ) (row : SchemaRow) → slice_get rows j ≡ Some row → is_table row.kind ≡ true
    → IsDistinct same_name (table_names rows) → is_named row.name (table_names (take j rows)) ≡ false
unfolding IsDistinct
not_double [] j row is sort distinct = absurd (cc)
not_double (x ∷ rows) zero row is sort distinct = refl
not_double (x ∷ rows) (suc j) row is sort distinct =
    elim (cases_Bool (is_table x.kind)) [
      | inl here ↦
          let both : AllByRecursion (λ name. same_name x.name name ≡ false) (table_names rows) × IsDistinct same_name (table_names rows) = rw here at distinct in
          let apart : same_name x.name row.name ≡ false = named_there (λ name. same_name x.name name ≡ false) rows j row is sort both.0 in
          let later : is_named row.name (table_names (take j rows)) ≡ false = not_double rows j row is sort both.1 in
          rw (here, apart) later
      | inr other ↦
          let rest : IsDistinct same_name (table_names rows) = rw other at distinct in
          rw other (not_double rows j row is sort rest)
    ]

-- ---- a table that has a tree

itself : (xs : List ℕ) → bytes_eq xs xs ≡ true
itself xs = (bytes_eq-Decides xs xs).1 refl

-- nothing bars it
no_bar : (f : File) (row : SchemaRow) (t : TableRows) (used : List ℕ) (is : IsTable f row t used) → is_reserved row.name ≡ false
    → bar is.shape row.name false ≡ None
no_bar f row t used is free =
    let name : row.name ≡ is.shape.name = is.name ∙ sym is.shape_name in
    let same : bytes_eq row.name is.shape.name ≡ true = ap (bytes_eq row.name) (sym name) ∙ itself row.name in
    rw (is.no_real, same, free) refl

refused_not : (text : List ℕ) (cause : UnreadCause) → IsFaultless text → IsRefused text cause → ⊥
refused_not text causes.Text sound refused = refused
refused_not text causes.Virtual sound refused = let wrong : faults.Virtual ≡ faults.Memory = sound faults.Virtual refused in cc
refused_not text (causes.Form at) sound refused = let wrong : faults.Form at ≡ faults.Memory = sound (faults.Form at) refused in cc
refused_not text causes.Generated sound refused = let wrong : faults.Generated ≡ faults.Memory = sound faults.Generated refused in cc
refused_not text causes.Limit sound refused = let wrong : faults.Limit ≡ faults.Memory = sound faults.Limit refused in cc
refused_not text causes.Key sound refused = let wrong : faults.Key ≡ faults.Memory = sound faults.Key refused in cc
refused_not text causes.Real sound refused = refused
refused_not text causes.Name sound refused = refused
refused_not text causes.Reserved sound refused = refused
refused_not text causes.Double sound refused = refused
refused_not text (causes.Unordered place) sound refused = refused

-- its reading is its shape
pub record IsRead (reading : Reading) (shape : Shape) : Type 0 where
  pub found : TableShape
  pub reading_is : reading ≡ readings.Shape found
  pub shape_is : shape_seen found ≡ shape

is_read : (f : File) (ks : List (Option Kind)) (row : SchemaRow) (t : TableRows) (used : List ℕ) (reading : Reading) (is : IsTable f row t used)
    → IsFaultless t.text → is_reserved row.name ≡ false → IsReading ks f.pages row false reading → IsRead reading is.shape
is_read f ks row t used (readings.Shape s) is sound free read =
    record { found = s; reading_is = refl; shape_is = text_shape f row t used is (shape_seen s) read.0 }
is_read f ks row t used (readings.Unread cause kind) is sound free (inl barred) =
    let none : bar barred.shape row.name false ≡ None =
    ap (λ (s : Shape). bar s row.name false) (text_shape f row t used is barred.shape barred.has_shape) ∙ no_bar f row t used is free in
    absurd (let both : Some cause ≡ None = sym barred.cause_is ∙ none in cc)
is_read f ks row t used (readings.Unread cause kind) is sound free (inr shapeless) =
    absurd (refused_not t.text cause sound (subst (λ (o : Option (List ℕ)). HasNoShape o cause) is.text shapeless.no_shape))

-- the reading of a table row in scope
pub stored_read : (f : File) (ks : List (Option Kind)) (all : List SchemaRow) (j : ℕ) (row : SchemaRow) (t : TableRows) (used : List ℕ) (reading : Reading) (is : IsTable f row t used)
    → AreNames (formed.table_names all) → slice_get all j ≡ Some row → is_table row.kind ≡ true → IsFaultless t.text
    → IsReading ks f.pages row (is_named row.name (table_names (take j all))) reading → IsRead reading is.shape
stored_read f ks all j row t used reading is names there sort sound read =
    let distinct : IsDistinct same_name (table_names all) = subst (IsDistinct same_name) (names_same all) names.apart in
    let free : AllByRecursion (λ name. is_reserved name ≡ false) (table_names all) = subst (AllByRecursion (λ name. is_reserved name ≡ false)) (names_same all) names.free in
    let double : is_named row.name (table_names (take j all)) ≡ false = not_double all j row there sort distinct in
    is_read f ks row t used reading is sound (named_there (λ name. is_reserved name ≡ false) all j row there sort free)
    (subst (λ (b : Bool). IsReading ks f.pages row b reading) double read)

-- its shape has few columns
pub few_columns : (text : List ℕ) (shape : Shape) → IsTableText text shape → IsFaultless text → length shape.columns ≤ 1996
few_columns text shape is sound =
    let create : IsCreate text shape = is_within text shape is (λ limit. let wrong : faults.Limit ≡ faults.Memory = sound faults.Limit limit in cc) in
    let s = sound_of create.t create.sound in
    let few : length create.t.columns ≤ 1996 =
    ltb-false 1996 (length create.t.columns) (neither (nat_lt 1996 (length create.t.columns)) (nat_lt 16 (length (numbered_of create.t))) s.small).0 in
    omega (arith, few, ap (λ (x : Shape). length x.columns) create.means, length-map create.t.columns column_from)
