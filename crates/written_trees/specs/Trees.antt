-- A tree of entries in a file (docs/FORMAT.md, "Trees").
use Rattle.std.specs.Prelude.{◌≡◌, ◌≤◌, ◌<◌, ℕ, zero, suc, ◌+◌, ◌^◌, ℤ, if◌then◌else◌, Option, Some, None, List, [], ◌∷◌, length, slice_index_or}
use Rattle.std.specs.List.{AllByRecursion}
use Rattle.page_access.specs.Pages.{File, page_at}
use Rattle.page_lists.specs.Lists.{count}
use Rattle.page_lists.specs.Table.{is_page}
use Rattle.record_core.specs.Shortest.{steps}
use Rattle.cell_reader.specs.declared.shapes.Kind.{Kind}
use Rattle.cell_reader.specs.declared.shapes.Kind.TheVariants.{Table, Index}
use Rattle.tree_forms.specs.Node.{Held, node_of}
use Rattle.tree_forms.specs.Payload.{HasChain, own_of, payload_of}
use Rattle.tree_forms.specs.Tree.{InOrder, Tree, entries}
use Rattle.tree_writer.specs.Entry.{AreEntries, Entry, RowidsRise}

-- n page numbers from index k on
abbrev pub numbers : (ℕ → ℕ) → ℕ → ℕ → List ℕ
numbers number k zero = []
numbers number k (suc n) = number k ∷ numbers number (k + 1) n

-- page numbers behind page 1 that rise: the first `total` are pages of the file, and they and the next one
-- fit four bytes
pub record ArePageNumbers (f : File) (number : ℕ → ℕ) (total : ℕ) : Type 0 where
  pub rise : (k : ℕ) → number k < number (k + 1)
  pub some : 2 ≤ number 0
  pub inside : (k : ℕ) → k < total → number k ≤ f.pages
  pub small : (k : ℕ) → k ≤ total → number k < 256 ^ 4

-- the file has these pages at their numbers
abbrev pub HasPagesAt : File → (ℕ → ℕ) → List (List ℕ) → Type 0
HasPagesAt f number pages = (k : ℕ) → k < length pages → page_at f (number k) ≡ slice_index_or pages k []

-- the rowid of an entry: 64 bits in a table, none in an index
abbrev pub HasRowid : Kind → Option ℤ → Type 0
HasRowid Table (Some z) = steps z < 2 ^ 63
HasRowid Table None = ⊥
HasRowid Index (Some z) = ⊥
HasRowid Index None = Unit {0}

-- a cell of the file holds an entry: its rowid, and its payload with all overflow pages
pub record HoldsEntry (f : File) (h : Held) (e : Entry) : Type 0 where
  pub rowid : h.rowid ≡ e.rowid
  pub total : h.total ≡ length e.bytes
  pub payload : payload_of f h ≡ e.bytes
  pub chain : HasChain f h

-- cells hold entries, one by one
abbrev pub HoldEntries : File → List Held → List Entry → Type 0
HoldEntries f [] [] = Unit {0}
HoldEntries f [] (e ∷ es) = ⊥
HoldEntries f (h ∷ hs) [] = ⊥
HoldEntries f (h ∷ hs) (e ∷ es) = HoldsEntry f h e × HoldEntries f hs es

-- page `root` of a file is the root of a well-formed tree that holds exactly these entries, in order; it
-- has these pages and no others, each a page of the file, and each once
pub record IsTreeOf (f : File) (kind : Kind) (root : ℕ) (es : List Entry) (pages : List ℕ) : Type 0 where
  pub items : List Held
  pub used : List ℕ
  pub tree : Tree (node_of f) (own_of f) kind root items used
  pub order : kind ≡ Table → InOrder None items
  pub holds : HoldEntries f (entries items) es
  pub same : (q : ℕ) → count q used ≡ count q pages
  pub once : (q : ℕ) → count q used ≤ (if is_page f.pages q then 1 else 0)

-- entries that a tree can be made of, and page numbers of a file for its pages
pub record CanHold (f : File) (kind : Kind) (number : ℕ → ℕ) (total : ℕ) (es : List Entry) : Type 0 where
  pub least : 480 ≤ f.usable
  pub most : f.usable ≤ 65536
  pub numbers_are : ArePageNumbers f number total
  pub entries_are : AreEntries es
  pub rowids : AllByRecursion (λ (e : Entry). HasRowid kind e.rowid) es
  pub rise : kind ≡ Table → RowidsRise None es

-- page 1, and then other pages
abbrev pub first_then : (ℕ → ℕ) → ℕ → ℕ
first_then number zero = 1
first_then number (suc k) = number k
