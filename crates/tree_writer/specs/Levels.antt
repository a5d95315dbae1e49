-- The pages of a tree, level by level from the leaves up (docs/FORMAT.md, "Layout of a written file").
use Rattle.std.specs.Prelude.{ℕ, zero, suc, ◌+◌, ◌-◌, nat_le, Bool, true, false, if◌then◌else◌, List, [], ◌∷◌, ◌++◌, length, map, sum_by}
use Rattle.cell_reader.specs.declared.shapes.Kind.{Kind}
use Rattle.cell_reader.specs.declared.shapes.Kind.TheVariants.{Table, Index}
use Rattle.cell_reader.specs.Shape.{header_len}
use Rattle.tree_writer.specs.Entry.{Entry, Item, key_item, leaf_item, no_item}
use Rattle.tree_writer.specs.Cells.{need_of, width_of}
use Rattle.tree_writer.specs.Groups.{Cut, cuts, leaves}

-- a page that is to be written: its cells, and the index of its right-most child
pub record Sheet : Type 0 where
  pub leaf : Bool
  pub items : List Item
  pub right : ℕ

-- a level seen from above: the cells that name its pages but the last, the index of the last page, and
-- the index behind the level
pub record Line : Type 0 where
  pub cells : List Item
  pub right : ℕ
  pub next : ℕ

-- bytes of a page for cells and their pointers
abbrev pub room_in : ℕ → Bool → ℕ
room_in usable leaf = usable - header_len leaf

-- the pages of a level: the right-most child of a page is the child of the separator behind it
abbrev pub sheets_from : Bool → List (List Item × Item) → List Item → ℕ → List Sheet
sheets_from leaf [] last right = record { leaf = leaf; items = last; right = right } ∷ []
sheets_from leaf (f ∷ fs) last right =
    record { leaf = leaf; items = f.0; right = f.1.child } ∷ sheets_from leaf fs last right

abbrev pub sheets_of : Bool → Cut Item → ℕ → List Sheet
sheets_of leaf cut right = sheets_from leaf cut.firsts cut.last right

abbrev pub cons_line : Item → Line → Line
cons_line x line = record { cells = x ∷ line.cells; right = line.right; next = line.next }

-- the line over a level whose first page has index k: each page but the last is named by a cell with
-- the separator behind it
abbrev pub line_from : (List Item → ℕ) → ℕ → List (List Item × Item) → List Item → Line
line_from width k [] last = record { cells = []; right = k; next = k + width last }
line_from width k (f ∷ fs) last =
    cons_line (record { child = k; entry = f.1.entry }) (line_from width (k + width f.0) fs last)

abbrev pub line_over : ℕ → Kind → ℕ → Cut Item → Line
line_over usable kind k cut = line_from (width_of usable kind) k cut.firsts cut.last

-- the leaves of a tree
abbrev pub leaf_cut : ℕ → Kind → List Entry → Cut Item
leaf_cut usable Table es = leaves (need_of usable Table true) key_item no_item (room_in usable true) []
    (room_in usable true) (map leaf_item es)
leaf_cut usable Index es =
    cuts (need_of usable Index true) (room_in usable true) [] (room_in usable true) (map leaf_item es)

-- the level of interior pages over a line
abbrev pub level_cut : ℕ → Kind → Line → Cut Item
level_cut usable kind line =
    cuts (need_of usable kind false) (room_in usable false) [] (room_in usable false) line.cells

-- the bytes that the cells of a line take
abbrev pub needs : ℕ → Kind → Bool → List Item → ℕ
needs usable kind leaf items = sum_by (need_of usable kind leaf) items

-- the line over the level over a line
abbrev pub line_above : ℕ → Kind → Line → Line
line_above usable kind line = line_over usable kind line.next (level_cut usable kind line)

-- at most n levels over a line, up to one whose cells take at most `top` bytes
abbrev pub level_sheets : ℕ → Kind → ℕ → ℕ → Line → List Sheet
level_sheets usable kind top zero line = []
level_sheets usable kind top (suc n) line = if nat_le (needs usable kind false line.cells) top then [] else
    sheets_of false (level_cut usable kind line) line.right
    ++ level_sheets usable kind top n (line_above usable kind line)

-- the line that is reached so
abbrev pub top_line : ℕ → Kind → ℕ → ℕ → Line → Line
top_line usable kind top zero line = line
top_line usable kind top (suc n) line = if nat_le (needs usable kind false line.cells) top then line
    else top_line usable kind top n (line_above usable kind line)

-- the line over the leaves
abbrev pub leaf_line : ℕ → Kind → List Entry → Line
leaf_line usable kind es = line_over usable kind 0 (leaf_cut usable kind es)

-- the pages of levels over the leaves, up to one whose line takes at most `top` bytes, and that line
unfoldable pub tree_sheets : ℕ → Kind → ℕ → List Entry → List Sheet
tree_sheets usable kind top es = sheets_of true (leaf_cut usable kind es) 0
    ++ level_sheets usable kind top (length (leaf_line usable kind es).cells) (leaf_line usable kind es)

unfoldable pub tree_line : ℕ → Kind → ℕ → List Entry → Line
tree_line usable kind top es =
    top_line usable kind top (length (leaf_line usable kind es).cells) (leaf_line usable kind es)

-- the number of pages that these are with their overflow pages
abbrev pub pages_in : ℕ → Kind → List Sheet → ℕ
pages_in usable kind sheets = sum_by (λ (s : Sheet). width_of usable kind s.items) sheets

-- the bytes on page 1 for the cells of the schema's tree, behind the header of the file
abbrev pub first_room : ℕ → Bool → ℕ
first_room usable leaf = room_in usable leaf - 100

-- all entries of the schema fit in a leaf on page 1
abbrev pub fits_first : ℕ → List Entry → Bool
fits_first usable es = nat_le (needs usable Table true (map leaf_item es)) (first_room usable true)

-- the pages of the schema's tree but page 1, and what page 1 says
unfoldable pub schema_sheets : ℕ → List Entry → List Sheet
schema_sheets usable es = if fits_first usable es then [] else tree_sheets usable Table (first_room usable false) es

unfoldable pub schema_top : ℕ → List Entry → Sheet
schema_top usable es = if fits_first usable es then record { leaf = true; items = map leaf_item es; right = 0 }
    else record {
      leaf = false;
      items = (tree_line usable Table (first_room usable false) es).cells;
      right = (tree_line usable Table (first_room usable false) es).right;
    }
