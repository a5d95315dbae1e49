use Rattle.std.proofs.Common.{◌∙◌, ◌++◌, List, ap, length, map, refl, subst}
use Rattle.std.specs.List.{flat_map}
use Rattle.std.proofs.lemmas.Result.{on_ok_weaker}
use Rattle.page_walk.specs.Cells.{Row}
use Rattle.page_walk.specs.InTurn.{turn_of}
use Rattle.table_parts.specs.Lines.{table_lines}
use Rattle.table_parts.specs.Parts.{IsPart}
use Rattle.salvaged_tables.specs.Fates.{failed_on}
use Rattle.salvaged_tables.specs.Salvaged.{failed_seen}
use Rattle.salvaged_tables.proofs.Gaining.{few_turns, gains_table}
use Rattle.salvaged_tables.proofs.salvage.add_table.Goals as goal

pub cells_of-requires : goal.cells_of-requires
cells_of-requires c = few_turns c.args.turns.items c.requires

pub returns : goal.returns
returns c =
    on_ok_weaker c.add_part.result (λ gains. gains_table c.args.row.now c.args.reading c.args.pages.now c.args.turns.items c.root_of-root.result c.in_ok-part.part
    c.args.found.now _ c.add_part.new.found c.root_of-root.ensures
    (subst (λ (rows : List Row). IsPart c.args.reading rows c.in_ok-part.part)
    c.in_ok-cells.ensures.cells c.in_ok-part.ensures)
    (c.in_ok-add_failed.ensures
    ∙ ap (λ turns. map failed_seen c.args.found.now.failed.items ++ flat_map (failed_on c.root_of-root.result) (map turn_of turns)) c.deref.ensures.value)
    (c.in_ok-append.ensures.items ∙ ap (λ lines. c.args.found.now.lines.items ++ lines) (c.in_ok-lines.ensures
    ∙ ap (table_lines c.args.row.now.name (length c.args.pages.now) c.in_ok-part.part)
    (c.deref-2.ensures.value ∙ c.in_ok-cells.ensures.notes)))
    refl refl refl refl gains) c.add_part.ensures
