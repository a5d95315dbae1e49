-- The bytes that spell a cell (docs/FORMAT.md, "Pages and cells"; fileformat2.html, 1.6).
use Rattle.std.specs.Prelude.{◌≡◌, ◌≢◌, ◌≤◌, ◌⊎◌, ℕ, ◌+◌, ◌*◌, Bool, true, false, Option, Some, None, Ok, List, [], ◌++◌, length, drop, take}
use Rattle.std.specs.List.{slice_range}
use Rattle.std.specs.Bool.{MatchBool}
use Rattle.byteorder.specs.Endian.{big_number}
use Rattle.varint_core.specs.Varint.{IsVarint}
use Rattle.cell_reader.specs.declared.shapes.Kind.{Kind}
use Rattle.cell_reader.specs.declared.shapes.Kind.TheVariants.{Table, Index}
use Rattle.cell_reader.specs.declared.shapes.PageShape.{PageShape}
use Rattle.cell_reader.specs.declared.parts.Parts.{Parts}
use Rattle.cell_reader.specs.Cell.{cell_of, cell_parts, local_len, pointer_of, view_at}
use Rattle.cell_reader.specs.Inside.{has_payload}

-- a number of four bytes, the highest first
pub record IsNumber (bytes : List ℕ) (value : Option ℕ) : Type 0 where
  pub four : length bytes ≡ 4
  pub number : value ≡ Some (big_number 4 bytes)

-- bytes that are not there
pub record IsNothing (bytes : List ℕ) (value : Option ℕ) : Type 0 where
  pub none : bytes ≡ []
  pub number : value ≡ None

-- an interior cell begins with its child's page number
abbrev pub IsChild : Bool → List ℕ → Option ℕ → Type 0
IsChild true bytes child = IsNothing bytes child
IsChild false bytes child = IsNumber bytes child

-- the payload's length
pub record IsTotal (usable : ℕ) (kind : Kind) (bytes : List ℕ) (p : Parts) : Type 0 where
  pub spelled : IsVarint bytes p.total
  pub local : p.kept ≡ local_len kind usable p.total

-- the 64 bits of the rowid or the key
pub record IsKey (bytes : List ℕ) (p : Parts) : Type 0 where
  pub value : ℕ
  pub spelled : IsVarint bytes value
  pub number : p.rowid ≡ Some value

-- no payload
pub record IsBare (bytes : List ℕ) (p : Parts) : Type 0 where
  pub none : bytes ≡ []
  pub total : p.total ≡ 0
  pub local : p.kept ≡ 0

-- the varints by the kind of the page: the payload's length and the rowid on a table leaf, the key on an
-- interior table page, the payload's length on index pages
abbrev pub AreNumbers : ℕ → Kind → Bool → List ℕ → List ℕ → Parts → Type 0
AreNumbers usable Table true first second p = IsTotal usable Table first p × IsKey second p
AreNumbers usable Table false first second p = IsBare first p × IsKey second p
AreNumbers usable Index leaf first second p = IsTotal usable Index first p × IsNothing second p.rowid

-- the first overflow page, where not all of the payload is local
abbrev pub IsOverflow : List ℕ → Parts → Type 0
IsOverflow bytes p = ((p.kept ≡ p.total) × IsNothing bytes p.overflow) ⊎ ((p.kept ≢ p.total) × IsNumber bytes p.overflow)

-- The bytes spell a cell: its child's number, its varints, its local payload and the number of its first
-- overflow page, as far as it has them. Places count from its first byte.
pub record IsCell (usable : ℕ) (kind : Kind) (leaf : Bool) (bytes : List ℕ) (p : Parts) : Type 0 where
  pub child : List ℕ
  pub first : List ℕ
  pub second : List ℕ
  pub local : List ℕ
  pub over : List ℕ
  pub parts : bytes ≡ child ++ (first ++ (second ++ (local ++ over)))
  pub begins : IsChild leaf child p.child
  pub numbers : AreNumbers usable kind leaf first second p
  pub from : p.from ≡ length child + length first + length second
  pub kept : p.kept ≡ length local
  pub ends : IsOverflow over p
  pub size : p.size ≡ length bytes

-- a payload is not empty and not longer than all pages together
abbrev pub IsRightLong : Kind → Bool → ℕ → Parts → Type 0
IsRightLong kind leaf limit p = MatchBool (has_payload kind leaf) ((1 ≤ p.total) × (p.total ≤ limit)) (Unit {0})

-- a cell that is spelled is read back, whatever follows it
abbrev pub ReadsBack : Type 0
ReadsBack = (usable limit : ℕ) (kind : Kind) (leaf : Bool) (s rest : List ℕ) (p : Parts)
    → IsCell usable kind leaf s p → IsRightLong kind leaf limit p
    → cell_parts usable limit kind leaf (s ++ rest) ≡ Ok p

-- so is one on a page, wherever its pointer says that it stands
abbrev pub ReadsBackOnPage : Type 0
ReadsBackOnPage = (page : List ℕ) (usable pages : ℕ) (shape : PageShape) (i : ℕ) (s rest : List ℕ) (p : Parts)
    → shape.array_end ≤ pointer_of page shape i → pointer_of page shape i + 1 ≤ usable
    → slice_range page (pointer_of page shape i) usable ≡ s ++ rest
    → IsCell usable shape.kind shape.leaf s p → IsRightLong shape.kind shape.leaf (pages * usable) p
    → cell_of page usable pages shape i ≡ Ok (view_at (pointer_of page shape i) p)

-- a cell that is read is spelled by its bytes
abbrev pub ReadIsSpelled : Type 0
ReadIsSpelled = (usable limit : ℕ) (kind : Kind) (leaf : Bool) (bytes : List ℕ) (p : Parts)
    → cell_parts usable limit kind leaf bytes ≡ Ok p
    → IsCell usable kind leaf (take p.size bytes) p × IsRightLong kind leaf limit p
