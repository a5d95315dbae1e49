-- Cells of the four kinds of pages, and their faults (docs/FORMAT.md, "Pages and cells"; fileformat2.html, 1.6).
use Rattle.std.specs.Prelude.{ℕ, ◌+◌, ◌-◌, ◌*◌, ◌/◌, ◌%◌, ◌==◌, nat_lt, nat_le, Bool, true, false, ◌||◌, if◌then◌else◌, Option, Some, None, Result, Ok, Err, List, length, drop}
use Rattle.std.specs.List.{slice_range}
use Rattle.std.specs.Option.{option_map}
use Rattle.byteorder.specs.Endian.{big_number, twos_complement}
use Rattle.varint_core.specs.Varint.{varint_at}
use Rattle.cell_reader.specs.declared.shapes.Kind.{Kind}
use Rattle.cell_reader.specs.declared.shapes.Kind.TheVariants.{Table, Index}
use Rattle.cell_reader.specs.declared.shapes.PageShape.{PageShape}
use Rattle.cell_reader.specs.declared.cells.CellView.{CellView}
use Rattle.cell_reader.specs.declared.cells.CellFault.{CellFault}
use Rattle.cell_reader.specs.declared.cells.CellFault.TheVariants.{Pointer, Cut, Length}
use Rattle.cell_reader.specs.declared.parts.Numbers.{Numbers}
use Rattle.cell_reader.specs.declared.parts.Parts.{Parts}
use Rattle.cell_reader.specs.Shape.{header_len, u16_at, u32_at}

-- most bytes of a payload that may stand on a page without an overflow page
abbrev pub most_local : Kind → ℕ → ℕ
most_local Table usable = usable - 35
most_local Index usable = (usable - 12) * 64 / 255 - 23

-- fewest local bytes of a payload that has overflow pages
abbrev pub least_local : ℕ → ℕ
least_local usable = (usable - 12) * 32 / 255 - 23

-- local bytes of a payload of `total` bytes
unfoldable pub local_len : Kind → ℕ → ℕ → ℕ
local_len kind usable total =
    if nat_le total (most_local kind usable) then total else
    (let wanted = least_local usable + (total - least_local usable) % (usable - 4) in
    if nat_le wanted (most_local kind usable) then wanted else least_local usable)

-- the rest of a decoder behind a varint: nothing where the bytes end inside it
abbrev pub and_varint : Option (ℕ × ℕ) → (ℕ → ℕ → Option Numbers) → Option Numbers
and_varint None f = None
and_varint (Some v) f = f v.0 v.1

-- the varints of a cell behind its child number: a table leaf's cell has the payload's length and the
-- rowid, an interior table cell its key, an index cell the payload's length
unfoldable pub numbers_behind : Kind → Bool → Option ℕ → ℕ → List ℕ → Option Numbers
numbers_behind Table true child at bytes =
    and_varint (varint_at (drop at bytes)) (λ total a.
    and_varint (varint_at (drop (at + a) bytes)) (λ rowid b.
    Some (record { child = child; rowid = Some rowid; total = Some total; len = at + a + b })))
numbers_behind Table false child at bytes =
    and_varint (varint_at (drop at bytes)) (λ key a.
    Some (record { child = child; rowid = Some key; total = None; len = at + a }))
numbers_behind Index leaf child at bytes =
    and_varint (varint_at (drop at bytes)) (λ total a.
    Some (record { child = child; rowid = None; total = Some total; len = at + a }))

-- the numbers that begin a cell; nothing where the bytes end inside them
unfoldable pub numbers_of : Kind → Bool → List ℕ → Option Numbers
numbers_of kind leaf bytes =
    if leaf then numbers_behind kind leaf None 0 bytes else
    (if nat_lt (length bytes) 4 then None
    else numbers_behind kind leaf (Some (big_number 4 bytes)) 4 bytes)

-- bytes of a cell whose payload begins at `from` with `kept` local bytes of `total`
abbrev pub size_of : ℕ → ℕ → ℕ → ℕ
size_of from kept total = if kept == total then from + kept else from + kept + 4

-- a cell with its payload: local bytes, then the overflow page number where not all bytes are local
unfoldable pub with_payload : ℕ → Kind → List ℕ → Numbers → ℕ → Result Parts CellFault
with_payload usable kind bytes n total =
    let kept = local_len kind usable total in
    let size = size_of n.len kept total in
    if nat_lt (length bytes) size then Err Cut else Ok (record {
      child = n.child;
      rowid = n.rowid;
      total = total;
      from = n.len;
      kept = kept;
      size = size;
      overflow = if kept == total then None else Some (u32_at bytes (n.len + kept));
    })

-- a cell without a payload
abbrev pub without_payload : Numbers → Parts
without_payload n = record {
  child = n.child;
  rowid = n.rowid;
  total = 0;
  from = n.len;
  kept = 0;
  size = n.len;
  overflow = None;
}

-- a cell with these numbers, on a file of at most `limit` bytes
abbrev pub parts_with : ℕ → ℕ → Kind → List ℕ → Numbers → Option ℕ → Result Parts CellFault
parts_with usable limit kind bytes n None = Ok (without_payload n)
parts_with usable limit kind bytes n (Some total) =
    if (total == 0) || nat_lt limit total then Err Length else with_payload usable kind bytes n total

abbrev pub parts_from : ℕ → ℕ → Kind → List ℕ → Option Numbers → Result Parts CellFault
parts_from usable limit kind bytes None = Err Cut
parts_from usable limit kind bytes (Some n) = parts_with usable limit kind bytes n n.total

-- the cell that begins the bytes, which reach from its start to the end of the usable bytes
unfoldable pub cell_parts : ℕ → ℕ → Kind → Bool → List ℕ → Result Parts CellFault
cell_parts usable limit kind leaf bytes = parts_from usable limit kind bytes (numbers_of kind leaf bytes)

-- the cell on its page, where it begins at `start`
unfoldable pub view_at : ℕ → Parts → CellView
view_at start p = record {
  start = start;
  end = start + p.size;
  child = p.child;
  rowid = option_map (twos_complement 8) p.rowid;
  total = p.total;
  local_start = start + p.from;
  local_end = start + p.from + p.kept;
  overflow = p.overflow;
}

abbrev pub view_of : ℕ → Result Parts CellFault → Result CellView CellFault
view_of start (Err fault) = Err fault
view_of start (Ok p) = Ok (view_at start p)

-- the pointer of cell i, the cell's place on the page
abbrev pub pointer_of : List ℕ → PageShape → ℕ → ℕ
pointer_of page shape i = u16_at page (shape.head + header_len shape.leaf + 2 * i)

-- cell i of a page with a shape, cells counted from 0, in a file of that many pages
unfoldable pub cell_of : List ℕ → ℕ → ℕ → PageShape → ℕ → Result CellView CellFault
cell_of page usable pages shape i =
    let start = pointer_of page shape i in
    if nat_lt start shape.array_end || nat_le usable start then Err Pointer
    else view_of start
    (cell_parts usable (pages * usable) shape.kind shape.leaf (slice_range page start usable))
