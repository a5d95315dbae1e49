-- What the plan of a tree says of its pages (docs/FORMAT.md, "Layout of a written file").
use Rattle.std.specs.Prelude.{◌≡◌, ◌≤◌, ◌<◌, ℕ, ◌+◌, ◌-◌, ◌^◌, Bool, true, false, if◌then◌else◌, List, [], ◌∷◌, ◌++◌, length, map, take, drop, sum_by, slice_index_or, Option, Some, None}
use Rattle.std.specs.List.{AllByRecursion}
use Rattle.cell_reader.specs.declared.shapes.Kind.{Kind}
use Rattle.tree_writer.specs.declared.plans.PagePlan.{PagePlan}
use Rattle.tree_writer.specs.declared.groups.Span.{Span}
use Rattle.cell_reader.specs.declared.shapes.Kind.TheVariants.{Table, Index}
use Rattle.tree_writer.specs.declared.sheets.Chain.{Chain}
use Rattle.tree_writer.specs.Cells.{over_count, overs, width_of}
use Rattle.tree_writer.specs.Entry.{Entry, HasBytes, Item, entry_at, leaf_item, no_item}
use Rattle.tree_writer.specs.Levels.{Line, Sheet, cons_line, needs, room_in}
use Rattle.tree_writer.specs.Plan.{part_of}

abbrev pub no_page : PagePlan
no_page = record { index = 0; first = 0; cells = 0; behind = 0 }

-- page j of a plan, counted from 0
abbrev pub plan_at : List PagePlan → ℕ → PagePlan
plan_at plans j = slice_index_or plans j no_page

-- the cell of an interior page that names this page: the entry behind the page goes with it
abbrev pub inner_item : Kind → List Entry → PagePlan → Item
inner_item kind es p = record { child = p.index; entry = part_of kind false (entry_at es p.behind) }

-- the cells of a page: entries on a leaf, the pages below on an interior page
unfoldable pub items_of : Kind → List Entry → List PagePlan → Bool → PagePlan → List Item
items_of kind es plans leaf p = if leaf then map leaf_item (take p.cells (drop p.first es))
    else map (inner_item kind es) (take p.cells (drop p.first plans))

-- the index of a page's right-most child, 0 on a leaf
abbrev pub right_index : List PagePlan → Bool → PagePlan → ℕ
right_index plans leaf p = if leaf then 0 else (plan_at plans (p.first + p.cells)).index

-- what a planned page is
abbrev pub sheet_for : Kind → List Entry → List PagePlan → Bool → PagePlan → Sheet
sheet_for kind es plans leaf p =
    record { leaf = leaf; items = items_of kind es plans leaf p; right = right_index plans leaf p }

-- the entries and pages that a planned page speaks of are there
abbrev pub AreThere : List Entry → List PagePlan → Bool → PagePlan → Type 0
AreThere es plans true p = p.first + p.cells ≤ length es
AreThere es plans false p = (p.first + p.cells < length plans)
    × ((i : ℕ) → i < p.cells → (plan_at plans (p.first + i)).behind < length es)

-- a planned page whose cells can be made: the entries are no longer than a load allows, and there are
-- not too many overflow pages
pub record IsReady (usable : ℕ) (kind : Kind) (es : List Entry) (plans : List PagePlan) (leaf : Bool) (page : PagePlan) : Type 0 where
  pub least : 480 ≤ usable
  pub most : usable ≤ 65536
  pub there : AreThere es plans leaf page
  pub small : (i : ℕ) → i < length es → length (entry_at es i).bytes < 2 ^ 36
  pub few : overs usable kind (items_of kind es plans leaf page) ≤ 2 ^ 31 + 1
  pub fits : needs usable kind leaf (items_of kind es plans leaf page) ≤ room_in usable leaf

-- the payload of this entry, if any, stands at the front of the bytes
abbrev pub IsHeld : List Entry → Option ℕ → List ℕ → Type 0
IsHeld es None bytes = Unit {0}
IsHeld es (Some i) bytes = take (length (entry_at es i).bytes) bytes ≡ (entry_at es i).bytes

-- there is room for each payload
abbrev pub HasRoom : List Entry → List ℕ → Type 0
HasRoom es bytes = (i : ℕ) → i < length es → length (entry_at es i).bytes ≤ length bytes

-- there are page numbers for the children of a page and for all indexes up to `next`
pub record HasNumbers (start next : ℕ) (s : Sheet) : Type 0 where
  pub some : 1 ≤ start
  pub most : start + next < 2 ^ 32 - 1
  pub children : (i : ℕ) → i < length s.items → start + (slice_index_or s.items i no_item).child < 2 ^ 32 - 1
  pub right : start + s.right < 2 ^ 32 - 1

-- the overflow pages of an entry, index k among them
pub record IsChain (usable : ℕ) (kind : Kind) (es : List Entry) (k : ℕ) (c : Chain) : Type 0 where
  pub there : c.entry < length es
  pub low : c.first ≤ k
  pub high : k < c.first + c.count
  pub many : c.count ≡ over_count usable kind (entry_at es c.entry)

-- the line over these pages, whose level ends before index `next`
abbrev pub line_tail : Kind → List Entry → ℕ → PagePlan → List PagePlan → Line
line_tail kind es next p [] = record { cells = []; right = p.index; next = next }
line_tail kind es next p (q ∷ qs) = cons_line (inner_item kind es p) (line_tail kind es next q qs)

abbrev pub line_of : Kind → List Entry → ℕ → List PagePlan → Line
line_of kind es next [] = record { cells = []; right = 0; next = next }
line_of kind es next (p ∷ ps) = line_tail kind es next p ps

-- the pages of a level over those from `base` on, the first of index k
abbrev pub level_plans : List PagePlan → ℕ → ℕ → List Span → List PagePlan
level_plans plans base k [] = []
level_plans plans base k (s ∷ ss) = record {
  index = k;
  first = base + s.first;
  cells = s.cells;
  behind = (plan_at plans (base + s.first + s.cells)).behind;
} ∷ level_plans plans base (k + s.pages) ss

-- the entry that separates a leaf from the next one: of a table its last, of an index the one behind it
abbrev pub leaf_behind : Kind → ℕ → ℕ
leaf_behind Table end = end - 1
leaf_behind Index end = end

-- the leaves, the first of index k
abbrev pub leaf_plans : Kind → ℕ → List Span → List PagePlan
leaf_plans kind k [] = []
leaf_plans kind k (s ∷ ss) = record {
  index = k;
  first = s.first;
  cells = s.cells;
  behind = leaf_behind kind (s.first + s.cells);
} ∷ leaf_plans kind (k + s.pages) ss

abbrev pub span_pages : Span → ℕ
span_pages s = s.pages

-- the pages that a plan says, of which the first are leaves
abbrev pub shown : Kind → List Entry → ℕ → List PagePlan → List Sheet
shown kind es leaves plans = map (sheet_for kind es plans true) (take leaves plans)
    ++ map (sheet_for kind es plans false) (drop leaves plans)

abbrev pub index_of : PagePlan → ℕ
index_of p = p.index

-- the indexes of pages, the first of which is k
abbrev pub starts_from : ℕ → Kind → ℕ → List Sheet → List ℕ
starts_from usable kind k [] = []
starts_from usable kind k (s ∷ ss) = k ∷ starts_from usable kind (k + width_of usable kind s.items) ss

abbrev pub no_span : Span
no_span = record { first = 0; cells = 0; pages = 0 }

abbrev pub span_at : List Span → ℕ → Span
span_at spans i = slice_index_or spans i no_span

-- a page has room for its cells
abbrev pub SheetFits : ℕ → Kind → Sheet → Type 0
SheetFits usable kind s = needs usable kind s.leaf s.items ≤ room_in usable s.leaf

-- the pages of a plan are these: what they say, their indexes, and what they speak of is there
pub record IsLaid (usable : ℕ) (kind : Kind) (es : List Entry) (leaves : ℕ) (plans : List PagePlan) (sheets : List Sheet) : Type 0 where
  pub sheets_are : shown kind es leaves plans ≡ sheets
  pub starts : map index_of plans ≡ starts_from usable kind 0 sheets
  pub leaves_there : AllByRecursion (AreThere es plans true) (take leaves plans)
  pub inner_there : AllByRecursion (AreThere es plans false) (drop leaves plans)
  pub least : leaves ≤ length plans
  pub fits : AllByRecursion (SheetFits usable kind) sheets
