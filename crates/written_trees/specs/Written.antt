-- What written cells and pages say (docs/FORMAT.md, "Pages and cells"; fileformat2.html, 1.6).
use Rattle.std.specs.Prelude.{◌≡◌, ◌≤◌, ◌<◌, ℕ, ◌+◌, ◌*◌, ◌^◌, ◌==◌, Bool, true, false, if◌then◌else◌, Option, Some, None, List, [], length, map, take}
use Rattle.std.specs.List.{AllByRecursion}
use Rattle.std.specs.Option.{option_map}
use Rattle.byteorder.specs.Endian.{big_bytes, twos_complement}
use Rattle.cell_reader.specs.declared.shapes.Kind.{Kind}
use Rattle.cell_reader.specs.declared.shapes.Kind.TheVariants.{Table, Index}
use Rattle.cell_reader.specs.declared.parts.Parts.{Parts}
use Rattle.cell_reader.specs.Cell.{size_of}
use Rattle.cell_reader.specs.Inside.{has_payload}
use Rattle.cell_reader.specs.Shape.{header_len}
use Rattle.tree_forms.specs.Node.{Held, Node}
use Rattle.tree_writer.specs.Cells.{Laid, cell_bytes, head_part, kept_of}
use Rattle.tree_writer.specs.Page.{page_bytes, stack, type_byte}

-- the 64 bits of the rowid or key, on table pages
abbrev pub rowid_in : Kind → Laid → Option ℕ
rowid_in Table c = Some c.rowid
rowid_in Index c = None

-- what a cell is read as, its places counted from its first byte
abbrev pub parts_in : ℕ → Kind → Bool → Laid → Parts
parts_in usable kind leaf c = record {
  child = if leaf then None else Some c.child;
  rowid = rowid_in kind c;
  total = length c.body;
  from = length (head_part kind leaf c);
  kept = kept_of usable kind c.body;
  size = size_of (length (head_part kind leaf c)) (kept_of usable kind c.body) (length c.body);
  overflow = if kept_of usable kind c.body == length c.body then None else Some c.next;
}

-- a cell that can be written: its numbers fit, and it has a payload exactly where its page's cells do
pub record IsWritten (limit : ℕ) (kind : Kind) (leaf : Bool) (c : Laid) : Type 0 where
  pub child : c.child < 256 ^ 4
  pub next : c.next < 256 ^ 4
  pub rowid : c.rowid < 2 ^ 64
  pub some : has_payload kind leaf ≡ true → 1 ≤ length c.body
  pub none : has_payload kind leaf ≡ false → c.body ≡ []
  pub most : length c.body ≤ limit
  pub large : length c.body < 2 ^ 64

-- what a written cell says
abbrev pub said : ℕ → Kind → Bool → Laid → Held
said usable kind leaf c = record {
  child = if leaf then None else Some c.child;
  rowid = option_map (twos_complement 8) (rowid_in kind c);
  total = length c.body;
  local = take (kept_of usable kind c.body) c.body;
  overflow = if kept_of usable kind c.body == length c.body then None else Some c.next;
}

-- a page of these cells, behind the bytes that page 1 begins with
abbrev pub laid_page : List ℕ → ℕ → Kind → Bool → List Laid → ℕ → List ℕ
laid_page front usable kind leaf cells right = page_bytes front (type_byte kind leaf) usable
    (map (cell_bytes usable kind leaf) cells)
    (if leaf then [] else big_bytes 4 right)

-- what such a page says
abbrev pub laid_node : ℕ → Kind → Bool → List Laid → ℕ → Node
laid_node usable kind leaf cells right = record {
  kind = kind;
  leaf = leaf;
  cells = map (said usable kind leaf) cells;
  right = if leaf then None else Some right;
}

-- a page that can be written behind `head` bytes: each cell can, and there is room for all
pub record IsPage (head usable limit : ℕ) (kind : Kind) (leaf : Bool) (cells : List Laid) (right : ℕ) : Type 0 where
  pub each : AllByRecursion (IsWritten limit kind leaf) cells
  pub child : right < 256 ^ 4
  pub room : head + header_len leaf + 2 * length cells + length (stack (map (cell_bytes usable kind leaf) cells))
      ≤ usable
