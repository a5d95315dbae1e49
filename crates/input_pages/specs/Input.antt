-- The pages of an input (docs/TEXTS.md, "Statuses"; docs/FORMAT.md, "The page size").
use Rattle.std.specs.Prelude.{◌≡◌, ◌≤◌, ◌<◌, ℕ, ◌+◌, ◌-◌, ◌*◌, ◌==◌, nat_lt, Bool, true, false, ◌&&◌, ◌||◌, if◌then◌else◌, List, length, Option, Some, None, option_map, Result, Ok, Err, ⊤}
use Rattle.page_access.specs.declared.outside.ReadFault.{ReadFault}
use Rattle.page_access.specs.declared.outside.ReadFault.TheVariants as read
use Rattle.page_size.specs.Rule.{Finding, finding, rule}
use Rattle.page_size.specs.declared.finds.Origin.{Origin}
use Rattle.page_size.specs.declared.finds.Origin.TheVariants as origins
use Rattle.page_size.specs.declared.finds.GeoFault.{GeoFault}
use Rattle.page_size.specs.declared.finds.GeoFault.TheVariants as geo
use Rattle.input_pages.specs.declared.inputs.Input.{Input}
use Rattle.input_pages.specs.declared.faults.InputFault.{InputFault}
use Rattle.input_pages.specs.declared.faults.InputFault.TheVariants.{Source, TooLarge, NoPageSize, NoWholePage, Memory}

-- the refusal where the input is not attached
abbrev pub of_read : ReadFault → InputFault
of_read read.Source = Source
of_read read.Memory = Memory

-- the refusal where the pages are not found
abbrev pub of_geo : GeoFault → InputFault
of_geo geo.NoPageSize = NoPageSize
of_geo (geo.NoWholePage len size) = NoWholePage len size
of_geo geo.Source = Source
of_geo geo.Memory = Memory

-- the pages that the rule finds, or its refusal
abbrev pub pages_by : Result Finding GeoFault → Result (Option Finding) InputFault
pages_by (Ok f) = Ok (Some f)
pages_by (Err fault) = Err (of_geo fault)

-- the pages of an input of at most `limit` bytes, under the two options: none where it is empty
unfoldable pub pages_of : ℕ → Option ℕ → Option ℕ → List ℕ → Result (Option Finding) InputFault
pages_of limit page_size reserved bytes =
    if nat_lt limit (length bytes) then Err (TooLarge (length bytes))
    else (if length bytes == 0 then Ok None else pages_by (rule bytes page_size reserved))

-- bytes behind the last whole page
abbrev pub left_of : List ℕ → Finding → ℕ
left_of bytes f = length bytes - f.pages * f.size

-- what is found is what the bytes have, but for a source that failed or want of memory
abbrev pub FindsPages : Result (Option Input) InputFault → Result (Option Finding) InputFault → Type 0
FindsPages (Ok input) pages = pages ≡ Ok (option_map (λ i. finding i.found) input)
FindsPages (Err Source) pages = ⊤
FindsPages (Err Memory) pages = ⊤
FindsPages (Err fault) pages = pages ≡ Err fault

-- the pages and what is left behind them fit an input of at most `limit` bytes, and less than a page is left
pub record IsWithin (limit : ℕ) (input : Input) : Type 0 where
  pub fits : input.found.geometry.pages * input.found.geometry.page_size + input.left ≤ limit
  pub short : input.left < input.found.geometry.page_size

-- the numbers of a refusal are of its cause
abbrev pub IsOfInput : {A : Type 0} → ℕ → Result A InputFault → Type 0
IsOfInput limit (Err (TooLarge len)) = limit < len
IsOfInput limit (Err (NoWholePage len size)) = (0 < len) × (len < size)
IsOfInput limit result = ⊤

-- the page size is the header's
abbrev pub is_by_header : Origin → Bool
is_by_header origins.Header = true
is_by_header origins.Pages = false
is_by_header origins.Chosen = false
is_by_header origins.Empty = false

-- the page size is the header's, and the header says that texts are in UTF-16: its encoding is 2 or 3
abbrev pub is_utf16 : Finding → Bool
is_utf16 f = is_by_header f.origin && ((f.header.encoding == 2) || (f.header.encoding == 3))
