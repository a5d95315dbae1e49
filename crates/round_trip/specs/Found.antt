-- The pages of a well-formed file are found by its header (docs/FORMAT.md, "The page size").
use Rattle.std.specs.Prelude.{◌≡◌, ◌≤◌, ℕ, ◌-◌, ◌/◌, false, Some, None, Ok, List, length}
use Rattle.page_access.specs.Pages.{File}
use Rattle.page_size.specs.Fields.{header_of}
use Rattle.page_size.specs.Rule.{Finding}
use Rattle.page_size.specs.declared.finds.Origin.TheVariants.{Header}
use Rattle.input_pages.specs.Input.{is_utf16, left_of, pages_of}
use Rattle.well_formed.specs.Database.{Database}
use Rattle.well_formed.specs.Header.{IsHeader, file_in}

-- the pages that the header gives
abbrev pub finding_in : List ℕ → Finding
finding_in bytes = record {
  size = (header_of bytes).size;
  usable = (header_of bytes).size - (header_of bytes).reserved;
  pages = length bytes / (header_of bytes).size;
  origin = Header;
  header = header_of bytes;
}

-- these bytes, cut into the pages that are found
abbrev pub file_cut : List ℕ → Finding → File
file_cut bytes found = record { bytes = bytes; size = found.size; usable = found.usable; pages = found.pages }

-- without options these pages are found, and they cut the bytes into the file that the header means: no byte
-- is left behind them, and texts are not in UTF-16
pub record IsFound (limit : ℕ) (bytes : List ℕ) (db : Database) : Type 0 where
  pub pages : pages_of limit None None bytes ≡ Ok (Some (finding_in bytes))
  pub file : file_in bytes ≡ file_cut bytes (finding_in bytes)
  pub none_left : left_of bytes (finding_in bytes) ≡ 0
  pub not_utf16 : is_utf16 (finding_in bytes) ≡ false
  pub user_version : (finding_in bytes).header.user_version ≡ db.user_version
  pub application_id : (finding_in bytes).header.application_id ≡ db.application_id

-- so it is for each well-formed header, where the file is not too large
abbrev pub HeadersAreFound : Type 0
HeadersAreFound = (limit : ℕ) (bytes : List ℕ) (db : Database)
    → IsHeader bytes db → length bytes ≤ limit → IsFound limit bytes db
