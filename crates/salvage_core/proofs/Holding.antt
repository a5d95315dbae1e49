-- What holds of the plan of an input.
use Rattle.std.proofs.Common.{◌≡◌, ℕ, List, Option, Some, None, Result, Ok, Err, IfSome, ◌++◌, sym, subst}
use Rattle.std.specs.List.{AllByRecursion, Contains, flat_map}
use Rattle.std.proofs.lemmas.List.Elements.{Contains-append_left, Contains-append_right}
use Rattle.page_access.specs.Pages.{File}
use Rattle.page_size.specs.Rule.{Finding}
use Rattle.input_pages.specs.declared.faults.InputFault.{InputFault}
use Rattle.report_text.specs.declared.ReportLine.{ReportLine}
use Rattle.salvage_laws.specs.Stored.{AreStored}
use Rattle.salvage_laws.specs.Told.{AreAmong, IsTold}
use Rattle.salvage_laws.proofs.Cells.{pages_are_once}
use Rattle.salvage_laws.proofs.Holding.{salvage_holds}
use Rattle.salvage_laws.proofs.Telling.{lost_are_told}
use Rattle.clear_paths.proofs.Rows.{rows_come_back}
use Rattle.salvage_core.specs.Holds.{Holds, HoldsBy, PlanHolds}
use Rattle.raw_schema.specs.Schema.{bad_rows, schema_notes}
use Rattle.orphan_cells.specs.Orphaned.{orphan_lines}
use Rattle.salvaged_tables.specs.Fates.{fate_lines}
use Rattle.salvage_core.specs.Lost.{lost_lines, lost_tables, schema_names}
use Rattle.salvage_core.specs.Plan.{IsFilePlan, IsPlan, IsPlanBy, front_lines, input_of, pages_in, trunk_of}
use Rattle.salvage_core.specs.declared.gathered.Gathered.{Gathered}
use Rattle.salvage_core.specs.declared.options.Options.{Options}

-- lines that stand between others are among them
among : (all a b c : List ReportLine) → all ≡ a ++ (b ++ c) → AreAmong b all
among all a b c same line has =
    subst (λ (ls : List ReportLine). Contains ls line) (sym same)
    (Contains-append_right a (b ++ c) line (Contains-append_left b c line has))

abbrev stored_of : (o : Options) (found : Finding) (left : ℕ) (f : File) (g : Gathered) (p : IsFilePlan o found left f g)
    → AreStored f (pages_in f) (trunk_of o found) p.fates p.orphans p.cells
stored_of o found left f g p = record {
  rows = g.schema.items;
  readings = p.readings;
  tables = p.tables;
  indexes = p.indexes;
  turns = p.turns;
  once = pages_are_once f;
  order = p.order;
  fates_are = p.fates_are;
  orphans_are = p.orphans_are;
}

plan_holds : (o : Options) (found : Finding) (left : ℕ) (f : File) (g : Gathered) → IsFilePlan o found left f g → PlanHolds o found left f g
plan_holds o found left f g p =
    let s : AreStored f (pages_in f) (trunk_of o found) p.fates p.orphans p.cells = stored_of o found left f g p in
    let into : AreAmong (flat_map fate_lines p.fates) g.lines.items = among g.lines.items
    (front_lines found left (bad_rows f (pages_in f)) (schema_notes f (pages_in f))) (flat_map fate_lines p.fates)
    (orphan_lines p.orphans p.cells ++ lost_lines (lost_tables o.lost (schema_names g.schema.items) p.lost)) p.lines in
    record {
      plan = p;
      cells = salvage_holds f (pages_in f) (trunk_of o found) p.fates p.orphans p.cells s;
      told = lost_are_told f (pages_in f) (trunk_of o found) p.fates p.orphans p.cells s g.lines.items into;
      clear = rows_come_back f (trunk_of o found) p.fates p.orphans p.cells s g.lines.items into;
    }

input_holds : (o : Options) (all : List ℕ) (pages : Result (Option Finding) InputFault) (g : Gathered) → IsPlanBy o all pages g → HoldsBy o all pages g
input_holds o all (Ok None) g p = tt
input_holds o all (Ok (Some f)) g p = plan_holds o f _ _ g p.1
input_holds o all (Err fault) g p = tt

pub told_holds : (o : Options) (told : Option (List ℕ)) (g : Gathered) → IfSome told (λ all. IsPlan o all g) → IfSome told (λ all. Holds o all g)
told_holds o None g p = tt
told_holds o (Some all) g p = input_holds o all (input_of o all) g p
