-- Entries of a tree that is written (docs/FORMAT.md, "Trees"; fileformat2.html, 1.6).
use Rattle.std.specs.Prelude.{◌≡◌, ◌≤◌, ◌<ℤ◌, ℕ, ◌+◌, ◌^◌, ℤ, Option, Some, None, List, [], ◌∷◌, length, sum_by, slice_index_or}
use Rattle.std.specs.Int.{w64}
use Rattle.std.specs.List.{AllByRecursion}
use Rattle.byteorder.specs.Endian.{low_bytes}
use Rattle.cell_reader.specs.declared.shapes.Kind.{Kind}
use Rattle.cell_reader.specs.declared.shapes.Kind.TheVariants.{Table, Index}

-- an entry: its rowid, in a table tree, and its payload
pub record Entry : Type 0 where
  pub rowid : Option ℤ
  pub bytes : List ℕ

abbrev pub no_entry : Entry
no_entry = record { rowid = None; bytes = [] }

-- entry i, counted from 0
abbrev pub entry_at : List Entry → ℕ → Entry
entry_at es i = slice_index_or es i no_entry

-- a key is an entry without a payload
abbrev pub key_of : Entry → Entry
key_of e = record { rowid = e.rowid; bytes = [] }

-- the 64 bits of a rowid or key, as the cell spells them
abbrev pub raw_of : Option ℤ → ℕ
raw_of None = 0
raw_of (Some z) = low_bytes w64 8 z

-- a cell that is to be written: its child, by the child's index in the order of pages, and its entry
pub record Item : Type 0 where
  pub child : ℕ
  pub entry : Entry

abbrev pub no_item : Item
no_item = record { child = 0; entry = no_entry }

-- a cell of a leaf has no child
abbrev pub leaf_item : Entry → Item
leaf_item e = record { child = 0; entry = e }

abbrev pub key_item : Item → Item
key_item x = record { child = x.child; entry = key_of x.entry }

-- an entry has a payload
abbrev pub HasBytes : Entry → Type 0
HasBytes e = 1 ≤ length e.bytes

-- what an entry adds to the load of a tree
abbrev pub weight : Entry → ℕ
weight e = length e.bytes + 32

-- rowids that rise strictly behind `low`
abbrev pub RowidsRise : Option ℤ → List Entry → Type 0
RowidsRise low [] = Unit {0}
RowidsRise low (e ∷ es) = (z : ℤ) × (e.rowid ≡ Some z) × IsBelow low z × RowidsRise (Some z) es
  where
    IsBelow : Option ℤ → ℤ → Type 0
    IsBelow None z = Unit {0}
    IsBelow (Some l) z = l <ℤ z

-- entries that a tree is made of: each has a payload, and together they are no more than 2 ^ 35
pub record AreEntries (es : List Entry) : Type 0 where
  pub some : AllByRecursion HasBytes es
  pub load : sum_by weight es ≤ 2 ^ 35

-- the entries of an index have no rowid of their own
abbrev pub HaveNoRowids : List Entry → Type 0
HaveNoRowids es = AllByRecursion (λ (e : Entry). e.rowid ≡ None) es
