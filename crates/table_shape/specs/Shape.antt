-- The shape of a table (docs/FORMAT.md, "The shape of a table"; fileformat2.html, 2.3 to 2.6).
use Rattle.std.specs.Prelude.{◌≡◌, ℕ, ◌+◌, ◌-◌, ◌<◌, ◌≤◌, Bool, true, false, ◌&&◌, ◌||◌, ◌==◌, nat_eq, nat_lt, Option, Some, None, IfSome, is_some, unwrap_or, List, [], ◌∷◌, length, count_by, position, slice_get}
use Rattle.std.specs.List.{AllByRecursion, IsDistinct, list_any}
use Rattle.key_order.specs.declared.Coll.{Coll}
use Rattle.key_order.specs.declared.Coll.TheVariants.{Binary}
use Rattle.table_shape.specs.declared.columns.Column.{Column}
use Rattle.table_shape.specs.declared.columns.Key.{Key}

-- a key: the numbers of its columns, and its own number
pub record KeyColumns : Type 0 where
  pub columns : List ℕ
  pub number : ℕ

-- what a text says of its table
pub record Shape : Type 0 where
  pub name : List ℕ
  pub columns : List Column
  pub alias : Option ℕ
  pub without_rowid : Bool
  pub primary : List ℕ
  pub keys : List KeyColumns
  pub autoincrement : Bool

-- the same in the program's terms
abbrev pub key_seen : Key → KeyColumns
key_seen k = record { columns = k.columns.items; number = k.number }

-- the collation of a column, if it is there and has one
abbrev pub coll_in : Option Column → Option Coll
coll_in None = None
coll_in (Some column) = column.coll

-- whether a column has a collation
abbrev pub has_coll : List Column → ℕ → Bool
has_coll columns k = is_some (coll_in (slice_get columns k))

-- the collation of a column; each key column has one
abbrev pub coll_of : List Column → ℕ → Coll
coll_of columns k = unwrap_or (coll_in (slice_get columns k)) Binary

-- whether a column has REAL affinity
abbrev pub real_in : Option Column → Bool
real_in None = false
real_in (Some column) = column.real

abbrev pub is_real : List Column → ℕ → Bool
is_real columns k = real_in (slice_get columns k)

-- columns of one key: all there, none twice, each with a collation
pub record AreKeyColumns (columns : List Column) (ks : List ℕ) : Type 0 where
  pub distinct : IsDistinct nat_eq ks
  pub within : AllByRecursion (λ k. k < length columns) ks
  pub colls : AllByRecursion (λ k. has_coll columns k ≡ true) ks

-- a key with at least one column
pub record IsKeyOf (columns : List Column) (key : KeyColumns) : Type 0 where
  pub some : 0 < length key.columns
  pub are : AreKeyColumns columns key.columns

-- the numbers of keys rise, each above the one before
abbrev pub rises : ℕ → List KeyColumns → Bool
rises low [] = true
rises low (key ∷ keys) = nat_lt low key.number && rises key.number keys

-- what holds of every shape
pub record IsShape (s : Shape) : Type 0 where
  pub few : length s.columns ≤ 2000
  pub alias : IfSome s.alias (λ k. k < length s.columns)
  pub primary : AreKeyColumns s.columns s.primary
  pub keys : AllByRecursion (IsKeyOf s.columns) s.keys
  pub rising : rises 0 s.keys ≡ true
  pub without : s.without_rowid ≡ true → (0 < length s.primary) × (s.alias ≡ None)
  pub with_rowid : s.without_rowid ≡ false → s.primary ≡ []

-- the place of a column in the stored record: the columns of `primary` come first, in the order of the
-- key, and then the others in declared order
abbrev pub place_among : List ℕ → ℕ → ℕ
place_among primary column = unwrap_or (position (λ p. p == column) primary)
    (length primary + (column - count_by (λ p. nat_lt p column) primary))

abbrev pub stored_at : Shape → ℕ → ℕ
stored_at s column = place_among s.primary column

-- whether a column of a key or of `primary` has REAL affinity
abbrev pub has_real_key : Shape → Bool
has_real_key s = list_any (is_real s.columns) s.primary
    || list_any (λ key. list_any (is_real s.columns) key.columns) s.keys
