-- What the plan of a tree says of its pages (docs/FORMAT.md, "Layout of a written file").
use Rattle.std.specs.Prelude.{◌≡◌, ◌≤◌, ◌<◌, ℕ, ◌+◌, ◌-◌, ◌*◌, ◌^◌, Bool, true, false, if◌then◌else◌, List, [], ◌∷◌, ◌++◌, length, map, take, drop, sum_by, slice_index_or}
use Rattle.cell_reader.specs.declared.shapes.Kind.{Kind}
use Rattle.cell_reader.specs.declared.shapes.Kind.TheVariants.{Table, Index}
use Rattle.cell_reader.specs.Inside.{has_payload}
use Rattle.tree_writer.specs.declared.sizes.Size.{Size}
use Rattle.tree_writer.specs.declared.groups.Span.{Span}
use Rattle.tree_writer.specs.declared.cells.Cell.{Cell}
use Rattle.tree_writer.specs.Cells.{Laid, cell_len, over_count, slot_len, width_of}
use Rattle.tree_writer.specs.Entry.{Entry, Item, entry_at, key_of}
use Rattle.tree_writer.specs.Groups.{Cut}

-- what stands on a page of an entry: all of it, or on an interior table page its key
abbrev pub part_of : Kind → Bool → Entry → Entry
part_of kind leaf e = if has_payload kind leaf then e else key_of e

-- the room that an entry's cell takes with its pointer, and its overflow pages
abbrev pub size_for : ℕ → Kind → Bool → Entry → Size
size_for usable kind leaf e = record {
  need = 2 + slot_len (cell_len usable kind leaf e);
  overs = over_count usable kind e;
}

abbrev pub size_item : ℕ → Kind → Bool → Item → Size
size_item usable kind leaf x = size_for usable kind leaf x.entry

abbrev pub need_in : Size → ℕ
need_in s = s.need

abbrev pub overs_in : Size → ℕ
overs_in s = s.overs

abbrev pub no_size : Size
no_size = record { need = 0; overs = 0 }

-- where only the sizes of cells are asked, no key separates two leaves
abbrev pub no_key : Size → Size
no_key s = no_size

-- the number of pages that cells of these sizes take: their page, and their overflow pages
abbrev pub pages_for : List Size → ℕ
pages_for sizes = 1 + sum_by overs_in sizes

abbrev pub span_of : ℕ → List Size → Span
span_of first group = record { first = first; cells = length group; pages = pages_for group }

-- which cells the groups of a cut are, where `gap` cells between two groups are in none
abbrev pub spans_from : ℕ → ℕ → List (List Size × Size) → List Size → List Span
spans_from gap first [] last = span_of first last ∷ []
spans_from gap first (f ∷ fs) last = span_of first f.0 ∷ spans_from gap (first + length f.0 + gap) fs last

abbrev pub spans_of : ℕ → ℕ → Cut Size → List Span
spans_of gap first cut = spans_from gap first cut.firsts cut.last

-- the sizes of cells that are cut: each has room on a page, and they are few
pub record AreSizes (room : ℕ) (sizes : List Size) : Type 0 where
  pub few : length sizes < 2 ^ 31
  pub fit : (i : ℕ) → i < length sizes → (slice_index_or sizes i no_size).need ≤ room
  pub pages : pages_for sizes ≤ 2 ^ 31

-- a cell with its payload
abbrev pub laid_by : Cell → List ℕ → Laid
laid_by cell body = record { child = cell.child; rowid = cell.rowid; body = body; next = cell.next }

-- the bytes of a page that a cell takes
abbrev pub slot_for : ℕ → Kind → Bool → Item → ℕ
slot_for usable kind leaf x = slot_len (cell_len usable kind leaf x.entry)

-- which cells the groups of a cut of cells are
abbrev pub item_span : ℕ → Kind → ℕ → List Item → Span
item_span usable kind first group =
    record { first = first; cells = length group; pages = width_of usable kind group }

abbrev pub item_spans : ℕ → Kind → ℕ → ℕ → List (List Item × Item) → List Item → List Span
item_spans usable kind gap first [] last = item_span usable kind first last ∷ []
item_spans usable kind gap first (f ∷ fs) last =
    item_span usable kind first f.0 ∷ item_spans usable kind gap (first + length f.0 + gap) fs last

-- cells between two leaves that stand in neither: of an index's leaves one
abbrev pub gap_of : Kind → ℕ
gap_of Table = 0
gap_of Index = 1
