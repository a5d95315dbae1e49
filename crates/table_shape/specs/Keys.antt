-- The keys of a table, the rows that fit it, and the rows that clash (docs/FORMAT.md, "Keys and clashes";
-- fileformat2.html, 2.4 to 2.6).
use Rattle.std.specs.Prelude.{◌≡◌, ℕ, ℤ, Bool, true, false, not, ◌&&◌, ◌||◌, nat_eq, nat_lt, if◌then◌else◌, Option, Some, None, List, [], ◌∷◌, length, map, slice_index_or}
use Rattle.std.specs.Cmp.Lexicographic.{slice_cmp}
use Rattle.std.specs.List.{AllByRecursion, IsDistinct, list_all, list_any}
use Rattle.std.specs.List.Sorted.{IsStrictlySortedBy}
use Rattle.std.specs.Ordering.{is_eq}
use Rattle.key_order.specs.declared.Coll.{Coll}
use Rattle.key_order.specs.declared.Coll.TheVariants.{Binary}
use Rattle.key_order.specs.Order.{folded_list, is_orderable, keys_cmp, value_cmp}
use Rattle.record_core.specs.declared.values.Value.{Value}
use Rattle.record_core.specs.declared.values.Value.TheVariants.{Null, Whole, Real8, Text, Blob}
use Rattle.table_shape.specs.declared.keys.Spot.{Spot}
use Rattle.table_shape.specs.declared.keys.Spot.TheVariants.{Rowid, Field}
use Rattle.table_shape.specs.declared.keys.KeyPart.{KeyPart}
use Rattle.table_shape.specs.declared.keys.KeyPlan.{KeyPlan}
use Rattle.table_shape.specs.declared.keys.TablePlan.{TablePlan}
use Rattle.table_shape.specs.Shape.{Shape, KeyColumns, coll_of, stored_at}

-- what definitions see of a row: its rowid and the values of its record
pub record StoredRow : Type 0 where
  pub rowid : Option ℤ
  pub fields : List Value

-- a key: its number, and for each of its columns where the value stands and how it is compared
pub record KeyParts : Type 0 where
  pub number : ℕ
  pub parts : List KeyPart

-- what keys ask of the rows of a table: how many columns there are, the parts of the key that orders the
-- rows (the rowid, or the primary key WITHOUT ROWID), and the keys by their numbers
pub record Keys : Type 0 where
  pub columns : ℕ
  pub first : List KeyPart
  pub keys : List KeyParts

-- the same in the program's terms
abbrev pub parts_seen : KeyPlan → KeyParts
parts_seen k = record { number = k.number; parts = k.parts.items }

abbrev pub keys_seen : TablePlan → Keys
keys_seen t = record { columns = t.columns; first = t.first.items; keys = map parts_seen t.keys.items }

-- ---- the keys of a shape

-- where the value of a column stands
abbrev pub is_alias : Option ℕ → ℕ → Bool
is_alias None column = false
is_alias (Some alias) column = nat_eq alias column

abbrev pub spot_of : Shape → ℕ → Spot
spot_of s column = if is_alias s.alias column then Rowid else Field (stored_at s column)

abbrev pub part_of : Shape → ℕ → KeyPart
part_of s column = record { spot = spot_of s column; coll = coll_of s.columns column }

abbrev pub parts_of : Shape → KeyColumns → KeyParts
parts_of s key = record { number = key.number; parts = map (part_of s) key.columns }

-- the rowid, as a key of one part
abbrev pub rowid_part : KeyPart
rowid_part = record { spot = Rowid; coll = Binary }

abbrev pub first_of : Shape → List KeyPart
first_of s = if s.without_rowid then map (part_of s) s.primary else rowid_part ∷ []

abbrev pub keys_of : Shape → Keys
keys_of s = record { columns = length s.columns; first = first_of s; keys = map (parts_of s) s.keys }

-- ---- the fields of a row by a key

-- the rowid as a value
abbrev pub number_of : Option ℤ → Value
number_of None = Null
number_of (Some rowid) = Whole rowid

-- the value at a spot; a row that fits has it
abbrev pub value_at : StoredRow → Spot → Value
value_at row Rowid = number_of row.rowid
value_at row (Field i) = slice_index_or row.fields i Null

-- whether a row has the spot
abbrev pub has_spot : StoredRow → Spot → Bool
has_spot row Rowid = true
has_spot row (Field i) = nat_lt i (length row.fields)

abbrev pub is_null : Value → Bool
is_null Null = true
is_null (Whole number) = false
is_null (Real8 bytes) = false
is_null (Text text) = false
is_null (Blob bytes) = false

abbrev pub colls_of : List KeyPart → List Coll
colls_of parts = map (λ p. p.coll) parts

-- the key fields of a row, and the same as collations see them
abbrev pub values_of : List KeyPart → StoredRow → List Value
values_of parts row = map (λ p. value_at row p.spot) parts

abbrev pub key_of : List KeyPart → StoredRow → List Value
key_of parts row = folded_list (colls_of parts) (values_of parts row)

-- a key field is NULL; all are there; all can be ordered
abbrev pub has_null : List KeyPart → StoredRow → Bool
has_null parts row = list_any (λ p. is_null (value_at row p.spot)) parts

abbrev pub has_parts : List KeyPart → StoredRow → Bool
has_parts parts row = list_all (λ p. has_spot row p.spot) parts

abbrev pub has_order : List KeyPart → StoredRow → Bool
has_order parts row = list_all (λ p. is_orderable p.coll (value_at row p.spot)) parts

-- ---- fit, order, clash

-- a row fits: it has at most as many fields as there are columns, each key column has its field, and no
-- field of the key that orders the rows is NULL
abbrev pub fits : Keys → StoredRow → Bool
fits t row = not (nat_lt t.columns (length row.fields)) && (has_parts t.first row
    && (not (has_null t.first row) && list_all (λ k. has_parts k.parts row) t.keys))

-- each key field can be ordered
abbrev pub orderable_row : Keys → StoredRow → Bool
orderable_row t row = has_order t.first row && list_all (λ k. has_order k.parts row) t.keys

-- two rows have the same fields by a key, as its collations see them
abbrev pub same_key : List KeyPart → StoredRow → StoredRow → Bool
same_key parts a b = is_eq (keys_cmp (colls_of parts) (values_of parts a) (values_of parts b))

-- two rows clash by a key with a number: the same fields, and none is NULL
abbrev pub clash_by : List KeyPart → StoredRow → StoredRow → Bool
clash_by parts a b = not (has_null parts a) && (not (has_null parts b) && same_key parts a b)

-- two rows clash: by key 0, which orders the rows, or by a key with a number
abbrev pub clash : Keys → StoredRow → StoredRow → Bool
clash t a b = same_key t.first a b || list_any (λ k. clash_by k.parts a b) t.keys

-- ---- the rows of a well-formed table

pub record AreRows (t : Keys) (rows : List StoredRow) : Type 0 where
  pub fit : AllByRecursion (λ row. fits t row ≡ true) rows
  pub orderly : AllByRecursion (λ row. orderable_row t row ≡ true) rows
  -- they rise strictly by rowid or primary key
  pub rise : IsStrictlySortedBy (slice_cmp value_cmp) (map (key_of t.first) rows)
  -- no two clash
  pub apart : IsDistinct (clash t) rows
