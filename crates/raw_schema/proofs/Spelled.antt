-- A readable cell is taken for a row of the schema exactly where it spells that row.
use Rattle.std.proofs.Common.{◌≡◌, ◌∙◌, ℕ, Bool, true, false, List, [], ◌∷◌, Option, Some, None, refl, sym, ap, ap₂, codes}
use Rattle.std.specs.Prelude.{ℤ, pos, if◌then◌else◌, option_and_then}
use Rattle.std.specs.Str.{bytes_eq}
use Rattle.std.proofs.lemmas.Option.{option_and_then_some}
use Rattle.std.proofs.lemmas.Slice.Eq.{bytes_eq-Decides}
use Rattle.record_core.specs.declared.values.Value.{Value}
use Rattle.record_core.specs.declared.values.Value.TheVariants.{Null, Whole, Real8, Text, Blob}
use Rattle.page_walk.specs.declared.outcomes.Place.{Place}
use Rattle.page_walk.specs.Cells.{Row}
use Rattle.raw_schema.specs.Rows.{entry_of, kind_named, root_in, row_in, row_with, sql_in, text_in}
use Rattle.raw_schema.specs.Spelling.{IsRootValue, IsSqlValue, RowsAreSpelled, SpellsRow, kind_text}
use Rattle.raw_schema.specs.declared.rows.SchemaKind.{SchemaKind}
use Rattle.raw_schema.specs.declared.rows.SchemaKind.TheVariants.{Table, Index, View, Trigger}
use Rattle.raw_schema.specs.declared.rows.SchemaRow.{SchemaRow}

-- a value that is read as a text is that text
text_is : (v : Value) (text : List ℕ) → text_in v ≡ Some text → v ≡ Text text
text_is Null text e = absurd cc
text_is (Whole number) text e = absurd cc
text_is (Real8 bytes) text e = absurd cc
text_is (Text bytes) text e = let same : bytes ≡ text = cc in ap (λ (b : List ℕ). Text b) same
text_is (Blob bytes) text e = absurd cc

-- a value that is read as a root page stands for it
root_is : (v : Value) (root : ℤ) → root_in v ≡ Some root → IsRootValue v root
root_is Null root e = let same : root ≡ pos 0 = cc in same
root_is (Whole number) root e = let same : root ≡ number = cc in same
root_is (Real8 bytes) root e = absurd cc
root_is (Text bytes) root e = absurd cc
root_is (Blob bytes) root e = absurd cc

root_again : (v : Value) (root : ℤ) → IsRootValue v root → root_in v ≡ Some root
root_again Null root h = let same : root ≡ pos 0 = h in cc
root_again (Whole number) root h = let same : root ≡ number = h in cc
root_again (Real8 bytes) root h = absurd h
root_again (Text bytes) root h = absurd h
root_again (Blob bytes) root h = absurd h

-- a value that is read as a statement stands for it
sql_is : (v : Value) (sql : Option (List ℕ)) → sql_in v ≡ Some sql → IsSqlValue v sql
sql_is Null sql e = let same : sql ≡ None = cc in same
sql_is (Whole number) sql e = absurd cc
sql_is (Real8 bytes) sql e = absurd cc
sql_is (Text bytes) sql e = let same : sql ≡ Some bytes = cc in same
sql_is (Blob bytes) sql e = absurd cc

sql_again : (v : Value) (sql : Option (List ℕ)) → IsSqlValue v sql → sql_in v ≡ Some sql
sql_again Null sql h = let same : sql ≡ None = h in cc
sql_again (Whole number) sql h = absurd h
sql_again (Real8 bytes) sql h = absurd h
sql_again (Text bytes) sql h = let same : sql ≡ Some bytes = h in cc
sql_again (Blob bytes) sql h = absurd h

-- a word that passes the first test of these is that word
by_words : (a b c d : Bool) (word : List ℕ) (kind : SchemaKind) →
    (a ≡ true → word ≡ codes "table") → (b ≡ true → word ≡ codes "index") → (c ≡ true → word ≡ codes "view") → (d ≡ true → word ≡ codes "trigger")
    → (if a then Some Table else (if b then Some Index else (if c then Some View else (if d then Some Trigger else None)))) ≡ Some kind
    → word ≡ kind_text kind
by_words true b c d word kind f g h i e = let same : Table ≡ kind = cc in f refl ∙ ap kind_text same
by_words false true c d word kind f g h i e = let same : Index ≡ kind = cc in g refl ∙ ap kind_text same
by_words false false true d word kind f g h i e = let same : View ≡ kind = cc in h refl ∙ ap kind_text same
by_words false false false true word kind f g h i e = let same : Trigger ≡ kind = cc in i refl ∙ ap kind_text same
by_words false false false false word kind f g h i e = absurd cc

-- a word that names a kind is the word for it
kind_is : (word : List ℕ) (kind : SchemaKind) → kind_named word ≡ Some kind → word ≡ kind_text kind
unfolding kind_named
kind_is word kind e =
    by_words (bytes_eq word (codes "table")) (bytes_eq word (codes "index")) (bytes_eq word (codes "view")) (bytes_eq word (codes "trigger")) word kind
    (bytes_eq-Decides word (codes "table")).0 (bytes_eq-Decides word (codes "index")).0 (bytes_eq-Decides word (codes "view")).0
    (bytes_eq-Decides word (codes "trigger")).0 e

kind_again : (kind : SchemaKind) → kind_named (kind_text kind) ≡ Some kind
unfolding kind_named
kind_again Table = refl
kind_again Index = refl
kind_again View = refl
kind_again Trigger = refl

-- the parts of a row are there, and are its own
pub record Parts (place : Place) (kind : Option SchemaKind) (name tbl : Option (List ℕ)) (root : Option ℤ) (sql : Option (Option (List ℕ)))
    (row : SchemaRow) : Type 0 where
  pub kind_there : kind ≡ Some row.kind
  pub name_there : name ≡ Some row.name
  pub tbl_there : tbl ≡ Some row.tbl
  pub root_there : root ≡ Some row.root
  pub sql_there : sql ≡ Some row.sql
  pub place_there : place ≡ row.place

pub parts : (place : Place) (kind : Option SchemaKind) (name tbl : Option (List ℕ)) (root : Option ℤ) (sql : Option (Option (List ℕ)))
    (row : SchemaRow) → row_with place kind name tbl root sql ≡ Some row → Parts place kind name tbl root sql row
parts place None name tbl root sql row e = absurd cc
parts place (Some k) None tbl root sql row e = absurd cc
parts place (Some k) (Some n) None root sql row e = absurd cc
parts place (Some k) (Some n) (Some t) None sql row e = absurd cc
parts place (Some k) (Some n) (Some t) (Some r) None row e = absurd cc
parts place (Some k) (Some n) (Some t) (Some r) (Some s) row e =
    let made : SchemaRow = record { kind = k; name = n; tbl = t; root = r; sql = s; place = place } in
    let same : made ≡ row = cc in
    record {
      kind_there = ap (λ (x : SchemaRow). Some x.kind) same;
      name_there = ap (λ (x : SchemaRow). Some x.name) same;
      tbl_there = ap (λ (x : SchemaRow). Some x.tbl) same;
      root_there = ap (λ (x : SchemaRow). Some x.root) same;
      sql_there = ap (λ (x : SchemaRow). Some x.sql) same;
      place_there = ap (λ (x : SchemaRow). x.place) same;
    }

-- where a cell stands
abbrev place_of : Row → Place
place_of cell = record { page = cell.page; cell = cell.cell }

-- a cell of these values spells the row that it is taken for
spelled : (cell : Row) (fields : List Value) (row : SchemaRow) → cell.fields ≡ fields → row_in (place_of cell) fields ≡ Some row
    → SpellsRow cell row
spelled cell [] row is e = absurd cc
spelled cell (k ∷ []) row is e = absurd cc
spelled cell (k ∷ n ∷ []) row is e = absurd cc
spelled cell (k ∷ n ∷ t ∷ []) row is e = absurd cc
spelled cell (k ∷ n ∷ t ∷ r ∷ []) row is e = absurd cc
spelled cell (k ∷ n ∷ t ∷ r ∷ s ∷ x ∷ more) row is e = absurd cc
spelled cell (k ∷ n ∷ t ∷ r ∷ s ∷ []) row is e =
    let p = parts (place_of cell) (option_and_then kind_named (text_in k)) (text_in n) (text_in t) (root_in r) (sql_in s) row e in
    option_and_then_some kind_named (text_in k) row.kind p.kind_there (λ word there named.
    let kind : k ≡ Text (kind_text row.kind) = text_is k word there ∙ ap (λ (b : List ℕ). Text b) (kind_is word row.kind named) in
    let name : n ≡ Text row.name = text_is n row.name p.name_there in
    let tbl : t ≡ Text row.tbl = text_is t row.tbl p.tbl_there in
    record {
      root_value = r;
      sql_value = s;
      values = cc;
      root_is = root_is r row.root p.root_there;
      sql_is = sql_is s row.sql p.sql_there;
      page_is = ap (λ (q : Place). q.page) (sym p.place_there);
      cell_is = ap (λ (q : Place). q.cell) (sym p.place_there);
    })

-- a cell is taken for the row that it spells
taken : (cell : Row) (row : SchemaRow) → SpellsRow cell row → entry_of cell ≡ Some row
taken cell row h =
    let here : Place = place_of cell in
    let same : here ≡ row.place = ap₂ (λ (p c : ℕ). record { page = p; cell = c }) (sym h.page_is) (sym h.cell_is) in
    ap (row_in here) h.values
    ∙ ap (λ (o : Option SchemaKind). row_with here o (Some row.name) (Some row.tbl) (root_in h.root_value) (sql_in h.sql_value)) (kind_again row.kind)
    ∙ ap (λ (o : Option ℤ). row_with here (Some row.kind) (Some row.name) (Some row.tbl) o (sql_in h.sql_value)) (root_again h.root_value row.root h.root_is)
    ∙ ap (λ (o : Option (Option (List ℕ))). row_with here (Some row.kind) (Some row.name) (Some row.tbl) (Some row.root) o) (sql_again h.sql_value row.sql h.sql_is)
    ∙ ap (λ (p : Place). Some (record row { place = p })) same

pub rows_are_spelled : RowsAreSpelled
rows_are_spelled cell row = (spelled cell cell.fields row refl, taken cell row)
