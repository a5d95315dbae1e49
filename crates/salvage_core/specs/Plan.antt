-- What a salvage gathers of the bytes of an input: the plan of all that it writes (docs/ARCHITECTURE.md, "Order of use";
-- docs/TEXTS.md, "The report").
use Rattle.std.specs.Prelude.{◌≡◌, ◌≤◌, ◌^◌, ◌+◌, ℕ, ◌-◌, nat_lt, ◌&&◌, not, if◌then◌else◌, IsTrue, IfSome, IsSomeAnd, Option, Some, None, unwrap_or, Result, Ok, Err, false, true, List, [], ◌∷◌, ◌++◌, length, map, ⊤}
use Rattle.std.specs.List.{flat_map, range_with_len}
use Rattle.page_access.specs.Files.{max_input}
use Rattle.page_access.specs.Pages.{File, is_page_size}
use Rattle.page_access.specs.declared.geometry.Geometry.{Geometry}
use Rattle.page_lists.specs.Table.{Table, fresh}
use Rattle.page_size.specs.Rule.{Finding}
use Rattle.page_size.specs.declared.finds.Origin.TheVariants as origins
use Rattle.page_walk.specs.Cells.{Outcome, Row}
use Rattle.page_walk.specs.declared.rows.PageNotes.{PageNotes}
use Rattle.raw_schema.specs.Schema.{bad_rows, schema_notes}
use Rattle.tree_uses.specs.Trees.{Tree, tree_of}
use Rattle.schema_texts.specs.declared.readings.TableReading.{TableReading}
use Rattle.use_order.specs.Order.{AreInOrder, after_uses, behind_uses}
use Rattle.orphan_trees.specs.Orphans.{Orphan, orphan_of}
use Rattle.orphan_uses.specs.Order.{AreOrphans, after_orphans}
use Rattle.orphan_cells.specs.Orphaned.{orphan_failed, orphan_lines}
use Rattle.lost_found.specs.Names.{CanBeBase}
use Rattle.salvage_laws.specs.Stored.{lost_cells}
use Rattle.salvage_core.specs.Lost.{lost_lines, lost_tables, schema_names}
use Rattle.table_parts.specs.Lines.{note_lines}
use Rattle.report_text.specs.declared.ReportLine.{ReportLine}
use Rattle.report_text.specs.declared.ReportLine.TheVariants as lines
use Rattle.salvaged_tables.specs.Fates.{AreFates, TableFate, failed_of, fate_lines, table_of}
use Rattle.salvaged_tables.specs.Salvaged.{failed_seen, script_of, stored_tables}
use Rattle.input_pages.specs.declared.faults.InputFault.{InputFault}
use Rattle.input_pages.specs.declared.faults.InputFault.TheVariants as inputs
use Rattle.input_pages.specs.Input.{is_by_header, is_utf16, left_of, pages_of}
use Rattle.salvage_core.specs.declared.faults.Fault.{Fault}
use Rattle.salvage_core.specs.declared.faults.Fault.TheVariants as faults
use Rattle.salvage_core.specs.declared.gathered.Gathered.{Gathered}
use Rattle.salvage_core.specs.declared.options.Options.{Options}

-- options that the command line allows, within the limits
pub record AreOptions (o : Options) : Type 0 where
  pub lost : CanBeBase o.lost
  pub size : IfSome o.page_size (λ s. IsTrue (is_page_size s))
  pub enough : IfSome o.page_size (λ s. IfSome o.reserved (λ r. r + 480 ≤ s))
  pub input_limit : o.input_limit ≤ max_input
  pub load_limit : o.load_limit ≤ 2 ^ 35

-- ---- the lines in front of those of the tables

-- the line of the bytes that belong to no page, where there are any
abbrev pub left_lines : ℕ → List ReportLine
left_lines left = if nat_lt 0 left then lines.Left left ∷ [] else []

-- the line of a readable cell of the schema's tree that is no row of the schema
abbrev pub bad_line : Row → ReportLine
bad_line row = lines.BadSchema row.page row.cell

abbrev pub front_lines : Finding → ℕ → List Row → List (ℕ × PageNotes) → List ReportLine
front_lines f left bad notes =
    lines.Geometry f.size (f.size - f.usable) f.pages f.origin
    ∷ (left_lines left ++ (map bad_line bad ++ note_lines notes))

-- ---- a file with pages

-- the pages of a file, rising: all of them are unused at first
abbrev pub pages_in : File → List ℕ
pages_in f = range_with_len 1 f.pages

-- a number of the header, where the page size is the header's
abbrev pub header_number : Finding → ℕ → ℕ
header_number f number = if is_by_header f.origin then number else 0

-- the first trunk of the freelist, where the freelist is looked at: where the page size is the header's, and unless the
-- freelist is held to be corrupt
abbrev pub trunk_of : Options → Finding → Option ℕ
trunk_of o found = if is_by_header found.origin && not o.freelist_corrupt then Some found.header.first_trunk else None

-- What is gathered of a file: the uses of its pages in order, the fates of its tables, the cells that no table has, and what
-- these give. All that is written follows from these definitions.
pub record IsFilePlan (o : Options) (found : Finding) (left : ℕ) (f : File) (g : Gathered) : Type 0 where
  pub readings : List TableReading
  pub tables : List Tree
  pub indexes : List Tree
  pub turns : List (List (ℕ × List Outcome))
  pub fates : List TableFate
  pub order : AreInOrder f (pages_in f) g.schema.items readings tables indexes turns
  pub fates_are : AreFates g.schema.items readings tables turns fates
  -- the trees of the pages that have no other use, and what becomes of their cells
  pub orphans : List Orphan
  pub cells : List (List (ℕ × List Outcome))
  pub orphans_are : AreOrphans f (behind_uses f (pages_in f) tables indexes turns) (trunk_of o found) orphans cells
  -- the cells that no table has
  pub lost : List (ℕ × Row)
  pub lost_are : lost ≡ lost_cells (bad_rows f (pages_in f)) fates orphans cells
  -- the tables that are built and that of the lost cells, with the cells of their rows
  pub stored : stored_tables g.db.tables.items g.places.items
      ≡ flat_map table_of fates ++ lost_tables o.lost (schema_names g.schema.items) lost
  pub user_version : g.db.user_version ≡ header_number found found.header.user_version
  pub application_id : g.db.application_id ≡ header_number found found.header.application_id
  pub lost_rows : g.lost ≡ length lost
  -- the texts
  pub script : g.script.items ≡ script_of g.schema.items fates
  pub lines : g.lines.items ≡ front_lines found left (bad_rows f (pages_in f)) (schema_notes f (pages_in f))
      ++ (flat_map fate_lines fates ++ (orphan_lines orphans cells
      ++ lost_lines (lost_tables o.lost (schema_names g.schema.items) lost)))
  -- the uses of the pages
  pub trees : map tree_of g.trees.items ≡ tables ++ indexes
  pub orphan_trees : map orphan_of g.orphans.items ≡ orphans
  pub failed : map failed_seen g.failed.items ≡ flat_map failed_of fates ++ orphan_failed orphans cells
  pub uses : g.uses ≡ after_orphans f (after_uses f (fresh f.pages 6) tables indexes turns) (trunk_of o found) orphans cells
  pub size : g.page_size ≡ found.size
  pub origin : g.origin ≡ found.origin
  pub cut : IsSomeAnd g.geometry (λ (geo : Geometry).
      (geo.page_size ≡ found.size) × (geo.usable ≡ found.usable) × (geo.pages ≡ found.pages))

-- ---- an empty file

-- the page size of a database that is written of nothing
abbrev pub empty_size : Options → ℕ
empty_size o = unwrap_or o.page_size 4096

pub record IsEmptyPlan (o : Options) (g : Gathered) : Type 0 where
  pub tables : g.db.tables.items ≡ []
  pub user_version : g.db.user_version ≡ 0
  pub application_id : g.db.application_id ≡ 0
  pub script : g.script.items ≡ []
  pub lines : g.lines.items ≡ lines.Geometry (empty_size o) 0 0 origins.Empty ∷ lines.Orphans 0 0 ∷ []
  pub lost_rows : g.lost ≡ 0
  pub size : g.page_size ≡ empty_size o
  pub origin : g.origin ≡ origins.Empty
  pub cut : g.geometry ≡ None
  pub schema : g.schema.items ≡ []
  pub trees : g.trees.items ≡ []
  pub orphans : g.orphans.items ≡ []
  pub places : g.places.items ≡ []
  pub failed : g.failed.items ≡ []
  pub uses : g.uses ≡ fresh 0 6

-- ---- the plan of an input

-- a file of these bytes, cut into these pages
abbrev pub file_by : List ℕ → Finding → File
file_by bytes f = record { bytes = bytes; size = f.size; usable = f.usable; pages = f.pages }

-- what is gathered of an input with these pages, or none; its texts are not in UTF-16
abbrev pub IsPlanBy : Options → List ℕ → Result (Option Finding) InputFault → Gathered → Type 0
IsPlanBy o all (Ok None) g = IsEmptyPlan o g
IsPlanBy o all (Ok (Some f)) g = (is_utf16 f ≡ false) × IsFilePlan o f (left_of all f) (file_by all f) g
IsPlanBy o all (Err fault) g = ⊥

-- the pages of an input under the options
abbrev pub input_of : Options → List ℕ → Result (Option Finding) InputFault
input_of o all = pages_of o.input_limit o.page_size o.reserved all

abbrev pub IsPlan : Options → List ℕ → Gathered → Type 0
IsPlan o all g = IsPlanBy o all (input_of o all) g

-- the texts of an input are in UTF-16, by this encoding
abbrev pub IsUtf16By : ℕ → Result (Option Finding) InputFault → Type 0
IsUtf16By encoding (Ok (Some f)) = (is_utf16 f ≡ true) × (encoding ≡ f.header.encoding)
IsUtf16By encoding pages = ⊥

-- why nothing is gathered of an input
abbrev pub IsRefused : Options → List ℕ → Fault → Type 0
IsRefused o all faults.InputFault = ⊤
IsRefused o all faults.Memory = ⊤
IsRefused o all (faults.TooLarge len) = input_of o all ≡ Err (inputs.TooLarge len)
IsRefused o all faults.NoPageSize = input_of o all ≡ Err inputs.NoPageSize
IsRefused o all (faults.NoWholePage len size) = input_of o all ≡ Err (inputs.NoWholePage len size)
IsRefused o all (faults.Utf16 encoding) = IsUtf16By encoding (input_of o all)
IsRefused o all fault = ⊥

-- the plan of the bytes, or why there is none
abbrev pub Gathers : Options → List ℕ → Result Gathered Fault → Type 0
Gathers o all (Ok g) = IsPlan o all g
Gathers o all (Err fault) = IsRefused o all fault

-- ---- steps

-- a file that is cut into these pages
pub record IsFileOf (f : File) (found : Finding) : Type 0 where
  pub size_is : f.size ≡ found.size
  pub usable_is : f.usable ≡ found.usable
  pub pages_is : f.pages ≡ found.pages

-- a refusal where pages are there
abbrev pub IsReadAnswer : {A : Type 0} → Result A Fault → Type 0
IsReadAnswer (Ok done) = ⊤
IsReadAnswer (Err faults.InputFault) = ⊤
IsReadAnswer (Err faults.Memory) = ⊤
IsReadAnswer (Err (faults.Utf16 encoding)) = ⊤
IsReadAnswer (Err fault) = ⊥

-- what is answered of these pages: what they give, or that their texts are in UTF-16
abbrev pub IsPagesAnswer : Options → List ℕ → Finding → Result Gathered Fault → Type 0
IsPagesAnswer o all f (Ok g) = (is_utf16 f ≡ false) × IsFilePlan o f (left_of all f) (file_by all f) g
IsPagesAnswer o all f (Err (faults.Utf16 encoding)) = (is_utf16 f ≡ true) × (encoding ≡ f.header.encoding)
IsPagesAnswer o all f (Err fault) = IsReadAnswer {A = Gathered} (Err fault)
