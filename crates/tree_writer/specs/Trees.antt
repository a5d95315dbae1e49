-- What the plan of a tree says (docs/FORMAT.md, "Layout of a written file").
use Rattle.std.specs.Prelude.{◌≡◌, ◌≤◌, ◌<◌, ℕ, ◌+◌, ◌-◌, ◌^◌, Bool, true, false, ◌==◌, nat_lt, if◌then◌else◌, Option, Some, None, List, [], ◌∷◌, ◌++◌, length, map, take, drop}
use Rattle.cell_reader.specs.declared.shapes.Kind.{Kind}
use Rattle.cell_reader.specs.declared.shapes.Kind.TheVariants.{Table, Index}
use Rattle.tree_writer.specs.declared.groups.Span.{Span}
use Rattle.tree_writer.specs.Plan.{gap_of, item_spans}
use Rattle.tree_writer.specs.declared.plans.PagePlan.{PagePlan}
use Rattle.tree_writer.specs.declared.plans.Top.{Top}
use Rattle.tree_writer.specs.declared.plans.TreePlan.{TreePlan}
use Rattle.tree_writer.specs.Cells.{overs}
use Rattle.tree_writer.specs.Entry.{AreEntries, Entry}
use Rattle.tree_writer.specs.Levels.{Sheet, leaf_cut, needs, pages_in, room_in, schema_sheets, schema_top, tree_line, tree_sheets}
use Rattle.tree_writer.specs.Planned.{AreThere, IsLaid, IsReady, index_of, line_of, plan_at, sheet_for, shown, starts_from}

-- which entries stand on which leaf
abbrev pub first_spans : ℕ → Kind → List Entry → List Span
first_spans usable kind es =
    item_spans usable kind (gap_of kind) 0 (leaf_cut usable kind es).firsts (leaf_cut usable kind es).last

-- the pages are those of the layout, up to a level whose line takes at most `top` bytes
pub record IsRaised (usable : ℕ) (kind : Kind) (top : ℕ) (es : List Entry) (plans : List PagePlan) (t : Top) : Type 0 where
  pub laid : IsLaid usable kind es t.leaves plans (tree_sheets usable kind top es)
  pub line : line_of kind es t.index (drop t.base plans) ≡ tree_line usable kind top es
  pub index : t.index ≡ pages_in usable kind (tree_sheets usable kind top es)
  pub base : t.base < length plans
  pub behind : (i : ℕ) → t.base + i + 1 < length plans → (plan_at plans (t.base + i)).behind < length es
  pub few : t.index ≤ 2 ^ 31 + 1
  pub short : length plans ≤ 2 ^ 31 + 1
  pub fits : needs usable kind false (tree_line usable kind top es).cells ≤ top

-- the number of pages of a tree
abbrev pub tree_count : ℕ → Kind → List Entry → ℕ
tree_count usable kind es = pages_in usable kind (tree_sheets usable kind 0 es)

-- the number of pages of the schema's tree
abbrev pub schema_count : ℕ → List Entry → ℕ
schema_count usable es =
    1 + pages_in usable Table (schema_sheets usable es) + overs usable Table (schema_top usable es).items

-- what page 1 says, where the tree is the schema's
abbrev pub IsFirst : List Entry → List PagePlan → Sheet → ℕ → Option PagePlan → Type 0
IsFirst es plans sheet next None = ⊥
IsFirst es plans sheet next (Some page) = (page.index ≡ next) × (sheet_for Table es plans sheet.leaf page ≡ sheet)
    × AreThere es plans sheet.leaf page

-- the plan of the tree of a table or of an index, of these entries
pub record IsTreePlan (usable : ℕ) (kind : Kind) (es : List Entry) (p : TreePlan) : Type 0 where
  pub least : 512 ≤ usable
  pub most : usable ≤ 65536
  pub entries : AreEntries es
  pub usable_is : p.usable ≡ usable
  pub kind_is : p.kind ≡ kind
  pub laid : IsLaid usable kind es p.leaves p.pages.items (tree_sheets usable kind 0 es)
  pub no_first : p.first_page ≡ None
  pub count : p.count ≡ tree_count usable kind es
  pub root : p.root ≡ (tree_line usable kind 0 es).right
  pub short : p.count ≤ 2 ^ 31 + 1

-- the plan of the schema's tree, of these entries
pub record IsSchemaPlan (usable : ℕ) (es : List Entry) (p : TreePlan) : Type 0 where
  pub least : 512 ≤ usable
  pub most : usable ≤ 65536
  pub entries : AreEntries es
  pub usable_is : p.usable ≡ usable
  pub kind_is : p.kind ≡ Table
  pub laid : IsLaid usable Table es p.leaves p.pages.items (schema_sheets usable es)
  pub first : IsFirst es p.pages.items (schema_top usable es) (pages_in usable Table (schema_sheets usable es)) p.first_page
  pub leaf : (schema_top usable es).leaf ≡ (length p.pages.items == 0)
  pub count : p.count ≡ schema_count usable es
  pub root : p.root ≡ 0
  pub short : p.count ≤ 2 ^ 31 + 2
  pub fits : 100 + needs usable Table (schema_top usable es).leaf (schema_top usable es).items
      ≤ room_in usable (schema_top usable es).leaf

-- a plan of these entries
pub data IsPlan (es : List Entry) (p : TreePlan) : Type 0 where
  OfTree : (usable : ℕ) (kind : Kind) → IsTreePlan usable kind es p → IsPlan es p
  OfSchema : (usable : ℕ) → IsSchemaPlan usable es p → IsPlan es p

-- a plan whose pages can be written: where each begins, and what each is
pub record IsWritable (usable : ℕ) (kind : Kind) (es : List Entry) (leaves : ℕ) (plans : List PagePlan) : Type 0 where
  pub starts : map index_of plans ≡ starts_from usable kind 0 (shown kind es leaves plans)
  pub ready : (j : ℕ) → j < length plans → IsReady usable kind es plans (nat_lt j leaves) (plan_at plans j)
  pub least : leaves ≤ length plans
