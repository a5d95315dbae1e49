-- Shape of a page (docs/FORMAT.md, "Pages and cells"; fileformat2.html, 1.6).
use Rattle.std.specs.Prelude.{ℕ, ◌+◌, ◌*◌, ◌==◌, nat_lt, Bool, true, false, if◌then◌else◌, Option, Some, None, List, drop, slice_index}
use Rattle.byteorder.specs.Endian.{big_number}
use Rattle.cell_reader.specs.declared.shapes.Kind.{Kind}
use Rattle.cell_reader.specs.declared.shapes.Kind.TheVariants.{Table, Index}
use Rattle.cell_reader.specs.declared.shapes.PageShape.{PageShape}

-- the number in the two bytes at a place
abbrev pub u16_at : List ℕ → ℕ → ℕ
u16_at bytes at = big_number 2 (drop at bytes)

-- the number in the four bytes at a place
abbrev pub u32_at : List ℕ → ℕ → ℕ
u32_at bytes at = big_number 4 (drop at bytes)

-- where the header of a page begins: page 1 begins with the 100 bytes of the file's header
abbrev pub head_of : ℕ → ℕ
head_of number = if number == 1 then 100 else 0

-- the kind of a page and whether it is a leaf, by the first byte of its header
abbrev pub type_of : ℕ → Option (Kind × Bool)
type_of byte =
    if byte == 2 then Some (Index, false) else
    (if byte == 5 then Some (Table, false) else
    (if byte == 10 then Some (Index, true) else (if byte == 13 then Some (Table, true) else None)))

-- bytes of a page's header
abbrev pub header_len : Bool → ℕ
header_len leaf = if leaf then 8 else 12

-- the shape of a page with this header, where its array of cell pointers ends inside the usable bytes
abbrev pub shape_with : ℕ → ℕ → ℕ → Option (Kind × Bool) → Option PageShape
shape_with usable head cells None = None
shape_with usable head cells (Some t) =
    let end = head + header_len t.1 + 2 * cells in
    if nat_lt usable end then None
    else Some (record { kind = t.0; leaf = t.1; cells = cells; head = head; array_end = end })

-- the shape of a page whose header begins at a place
unfoldable pub shape_at : List ℕ → ℕ → ℕ → Option PageShape
shape_at page head usable = shape_with usable head (u16_at page (head + 3)) (type_of (slice_index page head))

-- the shape of the page with this number, or None
abbrev pub shape_of : List ℕ → ℕ → ℕ → Option PageShape
shape_of page number usable = shape_at page (head_of number) usable

-- the right-most pointer, on an interior page
abbrev pub right_of : List ℕ → PageShape → Option ℕ
right_of page shape = if shape.leaf then None else Some (u32_at page (shape.head + 8))
