-- The most reads of a salvage (docs/ARCHITECTURE.md, "Bounds").
use Rattle.std.specs.Prelude.{ℕ, ◌+◌, ◌*◌, ◌/◌, nat_le, if◌then◌else◌, Option, Some, None, Result, Ok, Err, List, length}
use Rattle.page_size.specs.Rule.{Finding}
use Rattle.page_size.specs.declared.finds.Origin.{Origin}
use Rattle.page_size.specs.declared.finds.Origin.TheVariants as origins
use Rattle.input_pages.specs.declared.faults.InputFault.{InputFault}
use Rattle.salvage_core.specs.Plan.{input_of}
use Rattle.salvage_core.specs.declared.options.Options.{Options}

-- reads of the n pages of a file: two a page where all of them are in memory at a time, else four a page
abbrev pub page_reads : ℕ → ℕ
page_reads n = if nat_le n 64 then 2 * n else 4 * n

-- reads for the scores of the page sizes, where the size comes from the pages
abbrev pub score_reads : ℕ → Origin → ℕ
score_reads len origins.Pages = len / 256
score_reads len origins.Header = 0
score_reads len origins.Chosen = 0
score_reads len origins.Empty = 0

-- reads of an input of this length by its pages, with one of the header and one that fails; or where it has no pages
abbrev pub most_by : ℕ → Result (Option Finding) InputFault → ℕ
most_by len (Ok (Some f)) = page_reads f.pages + score_reads len f.origin + 2
most_by len (Ok None) = len / 256 + 1
most_by len (Err fault) = len / 256 + 1

-- the most reads of a salvage of these bytes under the options
abbrev pub most_reads : Options → List ℕ → ℕ
most_reads o all = most_by (length all) (input_of o all)
