-- The header of a well-formed file (docs/FORMAT.md, "The header"; fileformat2.html, 1.3).
use Rattle.std.specs.Prelude.{◌≡◌, ◌≢◌, ℕ, ◌+◌, ◌-◌, ◌*◌, ◌/◌, ◌^◌, ◌≤◌, true, nat_le, if◌then◌else◌, List, [], ◌∷◌, ◌++◌, length, take, drop, codes}
use Rattle.page_access.specs.Pages.{File, is_page_size}
use Rattle.cell_reader.specs.Shape.{u32_at}
use Rattle.page_size.specs.Fields.{header_of}
use Rattle.page_size.specs.Rule.{IsUsable}
use Rattle.well_formed.specs.Database.{Database}

-- the file that the header cuts these bytes into
unfoldable pub file_in : List ℕ → File
file_in bytes =
    let h = header_of bytes in
    record { bytes = bytes; size = h.size; usable = h.size - h.reserved; pages = length bytes / h.size }

-- the string at the head of each file
abbrev pub magic : List ℕ
magic = codes "SQLite format 3" ++ 0 ∷ []

pub record IsHeader (bytes : List ℕ) (db : Database) : Type 0 where
  -- the page size is a valid one, and leaves at least 480 usable bytes
  pub size : IsUsable (header_of bytes).size (header_of bytes).reserved
  -- the file is a whole number of pages, at least one
  pub some : 1 ≤ (file_in bytes).pages
  pub whole : length bytes ≡ (file_in bytes).pages * (file_in bytes).size
  pub string : take 16 bytes ≡ magic
  -- the payload fractions
  pub fractions : take 3 (drop 21 bytes) ≡ 64 ∷ 32 ∷ 32 ∷ []
  -- no auto-vacuum, and texts are not in UTF-16
  pub no_vacuum : (header_of bytes).largest_root ≡ 0
  pub not_le : (header_of bytes).encoding ≢ 2
  pub not_be : (header_of bytes).encoding ≢ 3
  -- the size in pages, where it is valid (fileformat2.html, 1.3.7)
  pub pages : u32_at bytes 24 ≡ u32_at bytes 92 → u32_at bytes 28 ≢ 0 → u32_at bytes 28 ≡ (file_in bytes).pages
  pub user_version : (header_of bytes).user_version ≡ db.user_version
  pub application_id : (header_of bytes).application_id ≡ db.application_id

-- the page that holds byte 2^30 of a file, where the file has it (fileformat2.html, 1.4)
abbrev pub lock_page : ℕ → ℕ
lock_page size = 2 ^ 30 / size + 1

abbrev pub lock_pages : File → List ℕ
lock_pages f = if nat_le (lock_page f.size) f.pages then lock_page f.size ∷ [] else []
