-- Cells as they are written (docs/FORMAT.md, "Pages and cells"; fileformat2.html, 1.6).
use Rattle.std.specs.Prelude.{ℕ, ℤ, Option, zero, suc, ◌+◌, ◌-◌, ◌*◌, ◌/◌, ◌==◌, Bool, true, false, if◌then◌else◌, List, [], ◌∷◌, ◌++◌, length, take, drop, replicate, sum_by, max}
use Rattle.byteorder.specs.Endian.{big_bytes}
use Rattle.varint_core.specs.Shortest.{spell, varint_len}
use Rattle.cell_reader.specs.declared.shapes.Kind.{Kind}
use Rattle.cell_reader.specs.declared.shapes.Kind.TheVariants.{Table, Index}
use Rattle.cell_reader.specs.Cell.{local_len}
use Rattle.tree_writer.specs.Entry.{Entry, Item, raw_of}

-- a cell with its page numbers: its child, the 64 bits of its rowid or key, its payload, and the page of
-- the first byte that is not local
pub record Laid : Type 0 where
  pub child : ℕ
  pub rowid : ℕ
  pub body : List ℕ
  pub next : ℕ

-- local bytes of a payload of this length
abbrev pub kept_of : ℕ → Kind → List ℕ → ℕ
kept_of usable kind body = local_len kind usable (length body)

-- the number of the left child, on an interior page
abbrev pub child_part : Bool → ℕ → List ℕ
child_part leaf child = if leaf then [] else big_bytes 4 child

-- the varints of a cell: of a table leaf the payload's length and the rowid, of an interior table page
-- the key, of an index page the payload's length
abbrev pub number_part : Kind → Bool → Laid → List ℕ
number_part Table true c = spell (length c.body) ++ spell c.rowid
number_part Table false c = spell c.rowid
number_part Index leaf c = spell (length c.body)

-- the overflow page number, where not all of the payload is local
abbrev pub link : ℕ → ℕ → ℕ → List ℕ
link kept total next = if kept == total then [] else big_bytes 4 next

-- the local bytes of the payload, and the overflow page number
abbrev pub payload_part : ℕ → Kind → Laid → List ℕ
payload_part usable kind c =
    take (kept_of usable kind c.body) c.body ++ link (kept_of usable kind c.body) (length c.body) c.next

-- what stands before the payload
abbrev pub head_part : Kind → Bool → Laid → List ℕ
head_part kind leaf c = child_part leaf c.child ++ number_part kind leaf c

-- the bytes of a cell
unfoldable pub cell_bytes : ℕ → Kind → Bool → Laid → List ℕ
cell_bytes usable kind leaf c = head_part kind leaf c ++ payload_part usable kind c

-- the length of a cell's varints, with a payload of this length
abbrev pub numbers_of_lens : Kind → Bool → ℕ → Option ℤ → ℕ
numbers_of_lens Table true total rowid = varint_len total + varint_len (raw_of rowid)
numbers_of_lens Table false total rowid = varint_len (raw_of rowid)
numbers_of_lens Index leaf total rowid = varint_len total

abbrev pub number_len : Kind → Bool → Entry → ℕ
number_len kind leaf e = numbers_of_lens kind leaf (length e.bytes) e.rowid

abbrev pub payload_len : ℕ → ℕ → ℕ
payload_len kept total = if kept == total then kept else kept + 4

-- the length of a cell
unfoldable pub cell_len : ℕ → Kind → Bool → Entry → ℕ
cell_len usable kind leaf e = (if leaf then 0 else 4) + number_len kind leaf e
    + payload_len (kept_of usable kind e.bytes) (length e.bytes)

-- a cell takes at least four bytes
abbrev pub slot_len : ℕ → ℕ
slot_len len = max len 4

-- the bytes of a page that a cell takes, with its pointer
abbrev pub need_of : ℕ → Kind → Bool → Item → ℕ
need_of usable kind leaf x = 2 + slot_len (cell_len usable kind leaf x.entry)

-- the number of overflow pages of an entry
unfoldable pub over_count : ℕ → Kind → Entry → ℕ
over_count usable kind e =
    (length e.bytes - kept_of usable kind e.bytes + (usable - 5)) / (usable - 4)

abbrev pub item_overs : ℕ → Kind → Item → ℕ
item_overs usable kind x = over_count usable kind x.entry

-- the number of overflow pages of cells
abbrev pub overs : ℕ → Kind → List Item → ℕ
overs usable kind items = sum_by (item_overs usable kind) items

-- the number of pages that a page of a tree and the overflow pages of its cells are
abbrev pub width_of : ℕ → Kind → List Item → ℕ
width_of usable kind items = suc (overs usable kind items)

-- an overflow page: the number of the next one, or 0 on the last, and the bytes that it holds
abbrev pub over_page : ℕ → (ℕ → ℕ) → ℕ → Bool → List ℕ → List ℕ
over_page usable number k last bytes = big_bytes 4 (if last then 0 else number (k + 1))
    ++ (take (usable - 4) bytes ++ replicate (usable - 4 - length bytes) 0)

-- n overflow pages from index k on, which hold these bytes
abbrev pub over_pages : ℕ → (ℕ → ℕ) → ℕ → ℕ → List ℕ → List (List ℕ)
over_pages usable number k zero bytes = []
over_pages usable number k (suc n) bytes =
    over_page usable number k (n == 0) bytes ∷ over_pages usable number (k + 1) n (drop (usable - 4) bytes)

-- the overflow pages of an entry, from index k on
abbrev pub chain_pages : ℕ → Kind → (ℕ → ℕ) → ℕ → Entry → List (List ℕ)
chain_pages usable kind number k e =
    over_pages usable number k (over_count usable kind e) (drop (kept_of usable kind e.bytes) e.bytes)

-- the overflow pages of cells, from index k on
abbrev pub chains_from : ℕ → Kind → (ℕ → ℕ) → ℕ → List Item → List (List ℕ)
chains_from usable kind number k [] = []
chains_from usable kind number k (x ∷ xs) = chain_pages usable kind number k x.entry
    ++ chains_from usable kind number (k + over_count usable kind x.entry) xs

-- a cell with page numbers: its overflow pages begin at index k
abbrev pub laid_of : (ℕ → ℕ) → ℕ → Item → Laid
laid_of number k x = record {
  child = number x.child;
  rowid = raw_of x.entry.rowid;
  body = x.entry.bytes;
  next = number k;
}

-- cells with page numbers, whose overflow pages begin at index k
abbrev pub laid_from : ℕ → Kind → (ℕ → ℕ) → ℕ → List Item → List Laid
laid_from usable kind number k [] = []
laid_from usable kind number k (x ∷ xs) =
    laid_of number k x ∷ laid_from usable kind number (k + over_count usable kind x.entry) xs
