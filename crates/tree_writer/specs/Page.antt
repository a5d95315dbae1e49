-- The bytes of a page: header, cell pointers, a gap of zeros, and the cells from the end down
-- (docs/FORMAT.md, "Pages and cells"; fileformat2.html, 1.6).
use Rattle.std.specs.Prelude.{ℕ, ◌+◌, ◌-◌, ◌%◌, Bool, true, false, if◌then◌else◌, List, [], ◌∷◌, ◌++◌, length, map, replicate}
use Rattle.byteorder.specs.Endian.{big_bytes}
use Rattle.cell_reader.specs.declared.shapes.Kind.{Kind}
use Rattle.cell_reader.specs.declared.shapes.Kind.TheVariants.{Table, Index}

-- a cell and the zeros that make it four bytes long
abbrev pub slot : List ℕ → List ℕ
slot cell = cell ++ replicate (4 - length cell) 0

-- cells as they stand at the end of a page: the first one at the very end, each next one below
abbrev pub stack : List (List ℕ) → List ℕ
stack [] = []
stack (cell ∷ cells) = stack cells ++ slot cell

-- the bytes of a page that a cell takes
abbrev pub slot_size : List ℕ → ℕ
slot_size cell = length (slot cell)

-- the pointers of cells that take these bytes, the first of which ends at `end`
abbrev pub pointers : ℕ → List ℕ → List ℕ
pointers end [] = []
pointers end (size ∷ sizes) = big_bytes 2 (end - size) ++ pointers (end - size) sizes

-- the lowest byte of the cells
abbrev pub content : ℕ → List (List ℕ) → ℕ
content usable cells = usable - length (stack cells)

-- the first byte of a page's header
abbrev pub type_byte : Kind → Bool → ℕ
type_byte Index false = 2
type_byte Table false = 5
type_byte Index true = 10
type_byte Table true = 13

-- a page's header: no freeblock, number of cells, content start (0 for 65536), no fragmented bytes,
-- and on an interior page the right-most child
abbrev pub header : ℕ → ℕ → ℕ → List ℕ → List ℕ
header type count start right = type ∷ (0 ∷ (0 ∷ (big_bytes 2 count
    ++ (big_bytes 2 (start % 65536) ++ (0 ∷ right)))))

-- what stands before the gap, behind the bytes that page 1 begins with
abbrev pub top_of : List ℕ → ℕ → ℕ → List (List ℕ) → List ℕ → List ℕ
top_of front type usable cells right = front
    ++ (header type (length cells) (content usable cells) right ++ pointers usable (map slot_size cells))

-- a page
unfoldable pub page_bytes : List ℕ → ℕ → ℕ → List (List ℕ) → List ℕ → List ℕ
page_bytes front type usable cells right = top_of front type usable cells right
    ++ (replicate (content usable cells - length (top_of front type usable cells right)) 0 ++ stack cells)
