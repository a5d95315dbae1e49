-- The header of a file (docs/FORMAT.md, "The header"; fileformat2.html, 1.3).
use Rattle.std.specs.Prelude.{ℕ, ◌==◌, if◌then◌else◌, List, take, slice_index}
use Rattle.page_access.specs.Pages.{is_page_size, zero_filled}
use Rattle.cell_reader.specs.Shape.{u16_at, u32_at}
use Rattle.page_size.specs.declared.headers.Header.{Header}

-- the page size that the field names, where 1 stands for 65536; 0 where it names none
abbrev pub named_size : ℕ → ℕ
named_size field = if field == 1 then 65536 else (if is_page_size field then field else 0)

-- what the 100 bytes of a header say
unfoldable pub header_in : List ℕ → Header
header_in bytes = record {
  size = named_size (u16_at bytes 16);
  reserved = slice_index bytes 20;
  encoding = u32_at bytes 56;
  first_trunk = u32_at bytes 32;
  user_version = u32_at bytes 60;
  application_id = u32_at bytes 68;
  largest_root = u32_at bytes 52;
}

-- what the header of a file with these bytes says; missing bytes count as zeros
abbrev pub header_of : List ℕ → Header
header_of bytes = header_in (zero_filled 100 (take 100 bytes))
