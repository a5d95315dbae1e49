-- How the pages of a file are found (docs/FORMAT.md, "The page size").
use Rattle.std.specs.Prelude.{◌≡◌, ℕ, ◌+◌, ◌-◌, ◌/◌, ◌≤◌, ◌==◌, IsTrue, nat_lt, nat_le, Bool, ◌&&◌, if◌then◌else◌, Option, Some, None, unwrap_or, is_none, Result, Ok, Err, List, length, ⊤}
use Rattle.std.specs.Option.{option_map, option_or}
use Rattle.page_access.specs.Pages.{is_page_size}
use Rattle.page_access.specs.declared.outside.ReadFault.{ReadFault}
use Rattle.page_access.specs.declared.outside.ReadFault.TheVariants.{Source as source_failed, Memory as no_memory}
use Rattle.page_size.specs.declared.headers.Header.{Header}
use Rattle.page_size.specs.declared.finds.Origin.{Origin}
use Rattle.page_size.specs.declared.finds.Origin.TheVariants.{Header as by_header, Pages as by_pages, Chosen}
use Rattle.page_size.specs.declared.finds.Found.{Found}
use Rattle.page_size.specs.declared.finds.GeoFault.{GeoFault}
use Rattle.page_size.specs.declared.finds.GeoFault.TheVariants.{NoPageSize, NoWholePage, Source, Memory}
use Rattle.page_size.specs.declared.finds.Sizing.{Sizing}
use Rattle.page_size.specs.declared.scores.Score.{Score}
use Rattle.page_size.specs.Fields.{header_of}
use Rattle.page_size.specs.Score.{ranking, winner}

-- with so many reserved bytes a page of this size has at least 480 usable ones
abbrev pub leaves_enough : ℕ → ℕ → Bool
leaves_enough size reserved = nat_le (reserved + 480) size

-- the reserved bytes of a chosen page size, where no option gives them: the header's, where it names the same size
abbrev pub own_reserved : Header → ℕ → ℕ
own_reserved h size = if (h.size == size) && leaves_enough size h.reserved then h.reserved else 0

-- the page size and the reserved bytes that the options and the header give
abbrev pub given_sizing : Header → Option ℕ → Option ℕ → Option Sizing
given_sizing h (Some size) reserved = Some (record {
  size = size;
  reserved = unwrap_or reserved (own_reserved h size);
  origin = Chosen;
})
given_sizing h None reserved =
    let bytes = unwrap_or reserved h.reserved in
    if nat_lt 0 h.size && leaves_enough h.size bytes then Some (record { size = h.size; reserved = bytes; origin = by_header })
    else None

-- those that the scores give
abbrev pub scored_sizing : List ℕ → Option ℕ → Option Sizing
scored_sizing bytes reserved =
    option_map (λ (s : Score). record { size = s.size; reserved = unwrap_or reserved 0; origin = by_pages }) (winner (ranking bytes (unwrap_or reserved 0)))

-- the sizes are scored: no option and no header gives one
abbrev pub is_scored : List ℕ → Option ℕ → Option ℕ → Bool
is_scored bytes size reserved = is_none (given_sizing (header_of bytes) size reserved)

-- the pages of a file, and where their size comes from
pub record Finding : Type 0 where
  pub size : ℕ
  pub usable : ℕ
  pub pages : ℕ
  pub origin : Origin
  pub header : Header

-- bytes of this length, cut into pages
abbrev pub cut : ℕ → Header → Option Sizing → Result Finding GeoFault
cut len h None = Err NoPageSize
cut len h (Some s) =
    if nat_lt len s.size then Err (NoWholePage len s.size)
    else Ok (record { size = s.size; usable = s.size - s.reserved; pages = len / s.size; origin = s.origin; header = h })

-- the pages of a file with these bytes, under the two options
abbrev pub rule : List ℕ → Option ℕ → Option ℕ → Result Finding GeoFault
rule bytes size reserved =
    let h = header_of bytes in
    cut (length bytes) h (option_or (given_sizing h size reserved) (scored_sizing bytes reserved))

-- what was found, as the rule says it
abbrev pub finding : Found → Finding
finding f = record {
  size = f.geometry.page_size;
  usable = f.geometry.usable;
  pages = f.geometry.pages;
  origin = f.origin;
  header = f.header;
}

-- a size that a page may have, and reserved bytes that leave enough of it
pub record IsUsable (size reserved : ℕ) : Type 0 where
  pub valid : IsTrue (is_page_size size)
  pub enough : reserved + 480 ≤ size

-- bytes of this length, cut into pages of a size that they are not shorter than
pub record IsCut (len size reserved page_size usable pages : ℕ) : Type 0 where
  pub whole : size ≤ len
  pub page_is : page_size ≡ size
  pub usable_is : usable ≡ size - reserved
  pub pages_is : pages ≡ len / size

-- an answer is the rule's, but for a source that failed or want of memory
abbrev pub IsByRule : Result Found GeoFault → Result Finding GeoFault → Type 0
IsByRule (Ok f) wanted = wanted ≡ Ok (finding f)
IsByRule (Err NoPageSize) wanted = wanted ≡ Err NoPageSize
IsByRule (Err (NoWholePage len size)) wanted = wanted ≡ Err (NoWholePage len size)
IsByRule (Err Source) wanted = ⊤
IsByRule (Err Memory) wanted = ⊤

-- a fault of a read, as one of this crate
abbrev pub fault_of : ReadFault → GeoFault
fault_of source_failed = Source
fault_of no_memory = Memory
