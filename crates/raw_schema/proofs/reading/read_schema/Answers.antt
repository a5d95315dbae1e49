use Rattle.std.proofs.Common.{◌≡◌, ap, map, arith}
use Rattle.std.specs.List.{AllByRecursion, flat_map}
use Rattle.page_walk.specs.Evidence.{Evidence}
use Rattle.page_lists.specs.Table.{all_moved}
use Rattle.page_lists.proofs.Uses.{Moves-partition}
use Rattle.raw_schema.specs.declared.TheConstants.{SCHEMA_LIST}
use Rattle.overflow_chain.specs.declared.TheConstants.{OVERFLOW_LIST}
use Rattle.page_walk.specs.Cells.{row_of}
use Rattle.page_walk.specs.Turns.{chains_on, turns_on}
use Rattle.raw_schema.specs.Schema.{after_schema, bad_in, bad_rows, cells_in, entries_in, noted, schema_notes, schema_rows}
use Rattle.raw_schema.proofs.Tree.{at_tree, chains_read, front_of_chains, front_of_tree, no_chains, reads_at_err, reads_in_all}
use Rattle.raw_schema.proofs.reading.read_schema.Goals as goal

pub returns-in_err-pages-clause-reads : goal.returns-in_err-pages-clause-reads
returns-in_err-pages-clause-reads g c =
    reads_at_err _ _ c.args.geo.now _ _ _ _ c.from_residual.ensures.0 c.walk_tree.ensures.moves c.in_err-pages.ensures.reads

pub returns-clause-rows : goal.returns-clause-rows
unfolding schema_rows
returns-clause-rows g c =
    at_tree c.read_pages.result _ _ c.args.geo.now _ _ _
    (λ s f ps u t. s.rows.items ≡ entries_in (cells_in (turns_on f ps u)))
    c.walk_tree.ensures.kept.told c.in_ok-pages.ensures.value c.in_ok-pages.ensures.moved c.read_pages.ensures.rows

pub returns-clause-bad : goal.returns-clause-bad
unfolding bad_rows
returns-clause-bad g c =
    at_tree c.read_pages.result _ _ c.args.geo.now _ _ _
    (λ s f ps u t. map row_of s.bad.items ≡ bad_in (cells_in (turns_on f ps u)))
    c.walk_tree.ensures.kept.told c.in_ok-pages.ensures.value c.in_ok-pages.ensures.moved c.read_pages.ensures.bad

pub returns-clause-notes : goal.returns-clause-notes
unfolding schema_notes
returns-clause-notes g c =
    at_tree c.read_pages.result _ _ c.args.geo.now _ _ _
    (λ s f ps u t. s.notes.items ≡ flat_map noted (turns_on f ps u))
    c.walk_tree.ensures.kept.told c.in_ok-pages.ensures.value c.in_ok-pages.ensures.moved c.read_pages.ensures.notes

pub returns-clause-evidence : goal.returns-clause-evidence
returns-clause-evidence g c =
    at_tree c.read_pages.result _ _ c.args.geo.now _ _ _
    (λ s f ps u t. AllByRecursion (Evidence f) (cells_in (turns_on f ps u)))
    c.walk_tree.ensures.kept.told c.in_ok-pages.ensures.value c.in_ok-pages.ensures.moved c.read_pages.ensures.evidence

pub returns-clause-table : goal.returns-clause-table
unfolding after_schema
returns-clause-table g c =
    at_tree c.read_pages.result _ _ c.args.geo.now _ _ _
    (λ s f ps u t. c.read_pages.new.table ≡ all_moved (chains_on f ps u) OVERFLOW_LIST t)
    c.walk_tree.ensures.kept.told c.in_ok-pages.ensures.value c.in_ok-pages.ensures.moved c.read_pages.ensures.table

pub returns-in_err-pages-clause-front : goal.returns-in_err-pages-clause-front
returns-in_err-pages-clause-front g c = front_of_tree _ c.args.geo.now c.args.table.now c.walk_tree.new.table c.walk_tree.ensures.front

pub returns-clause-front : goal.returns-clause-front
returns-clause-front g c =
    front_of_chains _ _ c.args.geo.now _ _ _ c.read_pages.new.table
    c.walk_tree.ensures.kept.told c.in_ok-pages.ensures.value c.in_ok-pages.ensures.moved c.read_pages.ensures.front

pub returns-clause-reads : goal.returns-clause-reads
returns-clause-reads g c =
    reads_in_all _ _ c.args.geo.now c.in_ok-pages.pages.items c.args.table.now c.walk_tree.new.table c.read_pages.new.table _ _ _ _
    c.walk_tree.ensures.kept.told c.in_ok-pages.ensures.part c.in_ok-pages.ensures.moved c.read_pages.ensures.moves
    c.in_ok-pages.ensures.reads c.read_pages.ensures.reads

pub read_pages-requires-clause-partition : goal.read_pages-requires-clause-partition
read_pages-requires-clause-partition g c =
    Moves-partition SCHEMA_LIST c.args.table.now c.walk_tree.new.table (omega arith) (omega (arith, c.requires.lists)) c.walk_tree.ensures.moves
    c.pages-pages.ensures.partition

pub returns-in_err-pages-clause-full : goal.returns-in_err-pages-clause-full
returns-in_err-pages-clause-full g c = λ all.
    let step = c.in_err-pages.ensures.full all in (
      step.0,
      no_chains c.from_residual.result _ c.args.geo.now c.args.table.now c.walk_tree.new.table _ _ 1 c.pages-pages.ensures.partition c.requires.lists
          c.walk_tree.ensures.moves (ap g.S.Source.reads step.1),
    )

pub returns-clause-full : goal.returns-clause-full
returns-clause-full g c = λ all.
    let step = c.in_ok-pages.ensures.full all in
    let last = c.read_pages.ensures.full step.0 in (
      last.0,
      chains_read _ _ c.args.geo.now c.args.table.now c.walk_tree.new.table c.read_pages.new.table _ _ _ _ c.walk_tree.ensures.kept.told
          c.pages-pages.ensures.partition (Moves-partition SCHEMA_LIST c.args.table.now c.walk_tree.new.table (omega arith) (omega (arith, c.requires.lists)) c.walk_tree.ensures.moves
          c.pages-pages.ensures.partition) c.requires.lists c.walk_tree.ensures.moves c.read_pages.ensures.moves
          (ap g.S.Source.reads step.1) last.1,
    )
