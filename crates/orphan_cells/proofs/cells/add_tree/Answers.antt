use Rattle.std.proofs.Common.{List, ◌++◌, ◌∙◌, ap, map}
use Rattle.std.specs.List.{flat_map}
use Rattle.std.proofs.lemmas.Result.{on_ok_weaker}
use Rattle.page_walk.specs.Cells.{Row}
use Rattle.page_walk.specs.InTurn.{turn_of}
use Rattle.report_text.specs.declared.ReportLine.{ReportLine}
use Rattle.table_parts.specs.Lines.{note_lines}
use Rattle.salvaged_tables.specs.Fates.{failed_on}
use Rattle.salvaged_tables.specs.Salvaged.{failed_seen, lost_seen}
use Rattle.salvaged_tables.proofs.Gaining.{few_turns}
use Rattle.orphan_cells.proofs.cells.add_tree.Goals as goal

pub cells_of-requires : goal.cells_of-requires
cells_of-requires c = few_turns c.args.turns.items c.requires

pub returns : goal.returns
returns c =
    on_ok_weaker c.add_lost.result (λ gained. record {
      lost = gained ∙ ap (λ (rows : List Row). map lost_seen c.args.found.now.lost.items ++ map (λ (r : Row). (c.args.root, r)) rows) c.in_ok-cells.ensures.cells;
      failed = c.in_ok-add_failed.ensures
          ∙ ap (λ turns. map failed_seen c.args.found.now.failed.items ++ flat_map (failed_on c.args.root) (map turn_of turns)) c.deref.ensures.value;
      lines = c.in_ok-append.ensures.items
          ∙ ap (λ (lines : List ReportLine). c.args.found.now.lines.items ++ lines)
          (c.in_ok-lines.ensures ∙ ap note_lines (c.deref-2.ensures.value ∙ c.in_ok-cells.ensures.notes));
    }) c.add_lost.ensures
