use Rattle.std.proofs.Common.{◌≡◌, ℕ, ℤ, pos, true, false, not, ◌&&◌, ◌||◌, Some, List, [], ◌∷◌, length, map, nat_lt, refl, sym, ap, ◌∙◌, subst}
use Rattle.std.specs.Prelude.{Option, codes, is_some, if◌then◌else◌}
use Rattle.std.specs.List.{AllByRecursion, IsDistinct, list_all, list_any}
use Rattle.std.specs.List.Sorted.{IsStrictlySortedBy}
use Rattle.create_reader.specs.Outcome.{IsTableText}
use Rattle.create_reader.proofs.One.{is_related}
use Rattle.record_core.specs.declared.values.Value.{Value}
use Rattle.table_shape.specs.declared.columns.Key.{Key}
use Rattle.table_shape.specs.declared.keys.KeyPart.{KeyPart}
use Rattle.table_shape.specs.declared.rows.OutRow.{OutRow}
use Rattle.table_shape.specs.declared.rows.OutTable.{OutTable}
use Rattle.table_shape.specs.Keys.{AreRows, KeyParts, Keys, StoredRow, fits, has_null, has_parts, part_of, parts_of, rowid_part}
use Rattle.table_shape.specs.Names.{begins_as_automatic, is_reserved, is_schema_name}
use Rattle.table_shape.specs.Seen.{row_seen, shape_seen}
use Rattle.table_shape.specs.Shape.{is_real, key_seen}
use Rattle.db_builder.specs.Trees.{keys_in, rows_in}
use Rattle.db_builder.specs.Valid.{IsTable}
use Rattle.db_builder.proofs.tests.table_of_two_rows.Goals as goal

-- the keys of a table of two columns without a key, and a row with a rowid
plain_keys : Keys
plain_keys = record { columns = 2; first = rowid_part ∷ []; keys = [] }

row_of : ℤ → List Value → StoredRow
row_of z fields = record { rowid = Some z; fields = fields }

row_fits : (z : ℤ) (fields : List Value) → length fields ≡ 2 → fits plain_keys (row_of z fields) ≡ true
unfolding plain_keys row_of
row_fits z fields two =
    let r = row_of z fields in
    ap (λ n. not (nat_lt 2 n) && (has_parts (rowid_part ∷ []) r && (not (has_null (rowid_part ∷ []) r) && list_all (λ (k : KeyParts). has_parts k.parts r) []))) two

two_are : (f g : List Value) → length f ≡ 2 → length g ≡ 2 → AreRows plain_keys (row_of (pos 1) f ∷ row_of (pos 2) g ∷ [])
unfolding IsStrictlySortedBy IsDistinct plain_keys row_of
two_are f g a b = record {
  fit = (row_fits (pos 1) f a, (row_fits (pos 2) g b, tt));
  orderly = (refl, (refl, tt));
  rise = ((refl, tt), (tt, tt));
  apart = ((refl, tt), (tt, tt));
}

plain_name : is_reserved (codes "t") ≡ false
unfolding is_schema_name begins_as_automatic
plain_name = refl

row_is : (r : OutRow) (z : ℤ) → r.rowid ≡ Some z → row_seen r ≡ row_of z r.fields.items
unfolding row_of
row_is r z e = ap (λ (q : Option ℤ). record { rowid = q; fields = r.fields.items }) e

-- a plain table of two rows is one that can be written
table_is : (t : OutTable) (a b : OutRow) → IsTableText t.text (shape_seen t.shape) → t.name ≡ codes "t" → t.shape.name ≡ codes "t"
    → length t.shape.columns.items ≡ 2 → t.shape.without_rowid ≡ false → t.shape.keys.items ≡ []
    → t.rows.items ≡ a ∷ b ∷ [] → a.rowid ≡ Some (pos 1) → b.rowid ≡ Some (pos 2) → length a.fields.items ≡ 2 → length b.fields.items ≡ 2 → IsTable t
unfolding plain_keys row_of
table_is t a b text name named columns with none rows first second few fewer =
    let s = shape_seen t.shape in
    let make : ℕ → List KeyPart → List KeyParts → Keys = λ n parts keys. record { columns = n; first = parts; keys = keys } in
    let seen : rows_in t ≡ row_of (pos 1) a.fields.items ∷ row_of (pos 2) b.fields.items ∷ [] =
    ap (map row_seen) rows ∙ ap (λ r. r ∷ row_seen b ∷ []) (row_is a (pos 1) first) ∙ ap (λ r. row_of (pos 1) a.fields.items ∷ r ∷ []) (row_is b (pos 2) second) in
    let keys : keys_in t ≡ plain_keys =
    ap (λ n. make n (if t.shape.without_rowid then map (part_of s) s.primary else rowid_part ∷ []) (map (parts_of s) s.keys)) columns
    ∙ ap (λ w. make 2 (if w then map (part_of s) s.primary else rowid_part ∷ []) (map (parts_of s) s.keys)) with
    ∙ ap (λ (ks : List Key). make 2 (rowid_part ∷ []) (map (parts_of s) (map key_seen ks))) none in
    record {
      text = text;
      name = named ∙ sym name;
      unreserved = ap is_reserved name ∙ plain_name;
      no_real = ap (λ ps. list_any (is_real s.columns) ps || list_any (λ key. list_any (is_real s.columns) key.columns) s.keys) (t.shape.valid.with_rowid with)
          ∙ ap (λ (ks : List Key). list_any (λ key. list_any (is_real s.columns) key.columns) (map key_seen ks)) none;
      rowids = subst (λ (rs : List StoredRow). AllByRecursion (λ (row : StoredRow). is_some row.rowid ≡ not t.shape.without_rowid) rs) (sym seen)
          (subst (λ w. AllByRecursion (λ (row : StoredRow). is_some row.rowid ≡ not w) (row_of (pos 1) a.fields.items ∷ row_of (pos 2) b.fields.items ∷ [])) (sym with) (refl, (refl, tt)));
      rows = subst (λ ks. AreRows ks (rows_in t)) (sym keys) (subst (AreRows plain_keys) (sym seen) (two_are a.fields.items b.fields.items few fewer));
    }

pub returns : goal.returns
returns c =
    let is = c.is_plain.ensures in
    let plain = c.if-not-is_plain.false in
    let two = c.in_ok-two_rows.ensures in
    let t : OutTable = record {
      name = c.in_ok-copy_of.field-0;
      text = c.text.inside.items.items;
      shape = c.in_ok-shape.shape;
      rows = c.in_ok-two_rows.field-0;
    } in
    table_is t two.0 two.1
    (subst (λ (sql : List ℕ). IsTableText sql (shape_seen c.in_ok-shape.shape)) (c.as_slice.ensures ∙ sym c.text.view_is) (is_related c.as_slice.result.now (shape_seen c.in_ok-shape.shape) c.in_ok-shape.ensures.found))
    c.in_ok-copy_of.ensures (is.name plain) (is.columns plain) (is.rowids plain) (is.keys plain)
    two.2 two.3 two.4 two.5 two.6
