-- How many cells a file has, and how many bytes their payloads (docs/ARCHITECTURE.md, "Bounds").
use Rattle.std.specs.Prelude.{◌≤◌, ℕ, ◌+◌, ◌*◌, List, [], ◌∷◌, ◌++◌, length}
use Rattle.std.specs.List.{AllByRecursion, slice_range}
use Rattle.page_access.specs.Pages.{File, page_at}
use Rattle.page_walk.specs.Cells.{Row}
use Rattle.page_walk.specs.Evidence.{Evidence}

-- the payload of a row, as its evidence shows it: its local bytes, and those of its overflow chain
abbrev pub payload_of : (f : File) (row : Row) → Evidence f row → List ℕ
payload_of f row e = slice_range (page_at f row.page) e.view.local_start e.view.local_end ++ e.rest

-- the bytes of the payloads of rows
abbrev pub payload_bytes : (f : File) (rows : List Row) → AllByRecursion (Evidence f) rows → ℕ
payload_bytes f [] shown = 0
payload_bytes f (row ∷ rows) shown = length (payload_of f row shown.0) + payload_bytes f rows shown.1

-- there are four usable bytes of the file for each row, and one for each byte of their payloads
pub record FitFile (f : File) (rows : List Row) : Type 0 where
  pub cells : 4 * length rows ≤ f.pages * f.usable
  pub payloads : (shown : AllByRecursion (Evidence f) rows) → payload_bytes f rows shown ≤ f.pages * f.usable
