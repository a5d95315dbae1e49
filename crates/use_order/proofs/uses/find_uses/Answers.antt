use Rattle.std.proofs.Common.{◌≡◌, ◌+◌, ◌<◌, ◌^◌, List, ◌∙◌, ap, length, map, subst, sym, arith}
use Rattle.std.specs.List.{AllByRecursion}
use Rattle.std.proofs.lemmas.List.{length-map}
use Rattle.std.proofs.lemmas.Option.{IfSome_then}
use Rattle.page_access.specs.Files.{file_of}
use Rattle.page_lists.specs.Table.{unused}
use Rattle.overflow_chain.specs.declared.TheConstants.{OVERFLOW_LIST}
use Rattle.page_walk.specs.Turns.{ReadsEach}
use Rattle.raw_schema.specs.Bounds.{sql_len}
use Rattle.raw_schema.specs.declared.rows.SchemaRow.{SchemaRow}
use Rattle.tree_uses.specs.Trees.{HaveTurns, Tree, pages_in, tree_of, turns_in, turns_of, walks, wanted_row}
use Rattle.tree_uses.specs.declared.walks.TreeUse.{TreeUse}
use Rattle.tree_uses.specs.declared.walks.WantedTree.{WantedTree}
use Rattle.schema_texts.specs.Readings.{AreReadings}
use Rattle.use_order.specs.Order.{index_trees, table_tree}
use Rattle.use_order.proofs.Limits.{all_short, few_rows}
use Rattle.use_order.specs.declared.TheConstants.{INDEX_LIST, TABLE_LIST}
use Rattle.use_order.proofs.Matched.{matched}
use Rattle.use_order.proofs.Ordered.{few_part, in_order, moved_more, moved_once, schema_is, schema_moved, table_is, trees_part}
use Rattle.use_order.proofs.Reading.{chains_each, each_err, each_then, reads_of_trees, reads_then, twice_err, twice_more}
use Rattle.use_order.proofs.uses.find_uses.Goals as goal

pub read_tables-requires-clause-few : goal.read_tables-requires-clause-few
read_tables-requires-clause-few g c =
    subst (λ (rows : List SchemaRow). length rows < 2 ^ 32) (sym c.deref.ensures.value)
    (few_rows (length c.in_ok-schema.schema.rows.items) (length c.in_ok-schema.schema.bad.items) (length c.in_ok-schema.schema.pages.items)
    c.args.geo.now.pages c.args.geo.now.usable c.args.geo.now.page_size c.in_ok-schema.ensures.small.few
    (omega (arith, few_part c.args.table.now c.in_ok-schema.schema.pages.items c.pages-pages.ensures.partition c.in_ok-schema.ensures.part, c.requires.same_pages))
    c.args.geo.now.usable_most c.requires.few)

pub read_tables-requires-clause-short : goal.read_tables-requires-clause-short
read_tables-requires-clause-short g c =
    subst (AllByRecursion (λ (r : SchemaRow). sql_len r.sql < 2 ^ 32)) (sym c.deref.ensures.value)
    (all_short c.args.geo.now.pages c.args.geo.now.usable c.args.geo.now.page_size c.in_ok-schema.schema.rows.items c.args.geo.now.usable_most
    c.requires.few c.in_ok-schema.ensures.small.entries)

pub index_trees-requires : goal.index_trees-requires
index_trees-requires g c =
    subst (λ (rows : List SchemaRow). length rows < 2 ^ 32) (sym c.deref-4.ensures.value)
    (few_rows (length c.in_ok-schema.schema.rows.items) (length c.in_ok-schema.schema.bad.items) (length c.in_ok-schema.schema.pages.items)
    c.args.geo.now.pages c.args.geo.now.usable c.args.geo.now.page_size c.in_ok-schema.ensures.small.few
    (omega (arith, few_part c.args.table.now c.in_ok-schema.schema.pages.items c.pages-pages.ensures.partition c.in_ok-schema.ensures.part, c.requires.same_pages))
    c.args.geo.now.usable_most c.requires.few)

pub returns-clause-order : goal.returns-clause-order
returns-clause-order g c =
    let rows = c.in_ok-schema.schema.rows.items in
    let rs = c.in_ok-readings.readings.items in
    let geo = c.args.geo.now in
    let told = g.S.Source.bytes in
    let wanted : c.deref-3.result.now ≡ map table_tree rs = c.deref-3.ensures.value ∙ c.in_ok-wanted.ensures ∙ ap (map table_tree) c.deref-2.ensures.value in
    let named : c.deref-5.result.now ≡ index_trees 0 rows = c.deref-5.ensures.value ∙ c.in_ok-named.ensures ∙ ap (index_trees 0) c.deref-4.ensures.value in
    in_order (told c.args.src.now) (told c.read_schema.new.src) (told c.walk_trees.new.src) (told c.walk_trees-2.new.src) geo
    c.args.table.now c.read_schema.new.table c.walk_trees.new.table c.walk_trees-2.new.table c.args.survey.now rows rs
    (map tree_of c.in_ok-tables.tables.items) (map tree_of c.in_ok-indexes.indexes.items) (map turns_of c.in_ok-turns.turns.items)
    c.read_schema.ensures.kept.told (c.walk_trees.ensures.kept.told ∙ c.read_schema.ensures.kept.told)
    (c.walk_trees-2.ensures.kept.told ∙ c.walk_trees.ensures.kept.told ∙ c.read_schema.ensures.kept.told)
    c.requires.kinds c.in_ok-schema.ensures.rows c.in_ok-schema.ensures.table
    (subst (λ (xs : List SchemaRow). AreReadings c.args.survey.now geo.pages xs rs) c.deref.ensures.value c.in_ok-readings.ensures)
    (IfSome_then (told c.read_schema.new.src)
    {P = λ all. map tree_of c.in_ok-tables.tables.items ≡ walks (file_of all geo) 2 c.deref-3.result.now (unused c.read_schema.new.table)}
    {Q = λ all. map tree_of c.in_ok-tables.tables.items ≡ walks (file_of all geo) 2 (map table_tree rs) (unused c.read_schema.new.table)}
    c.in_ok-tables.ensures.value
    (λ all p. p ∙ ap (λ (ws : List WantedTree). walks (file_of all geo) 2 ws (unused c.read_schema.new.table)) wanted))
    c.in_ok-tables.ensures.moved
    (IfSome_then (told c.walk_trees.new.src)
    {P = λ all. map tree_of c.in_ok-indexes.indexes.items ≡ walks (file_of all geo) 3 c.deref-5.result.now (unused c.walk_trees.new.table)}
    {Q = λ all. map tree_of c.in_ok-indexes.indexes.items ≡ walks (file_of all geo) 3 (index_trees 0 rows) (unused c.walk_trees.new.table)}
    c.in_ok-indexes.ensures.value
    (λ all p. p ∙ ap (λ (ws : List WantedTree). walks (file_of all geo) 3 ws (unused c.walk_trees.new.table)) named))
    c.in_ok-indexes.ensures.moved
    (IfSome_then (told c.walk_trees-2.new.src)
    {P = λ all. map turns_of c.in_ok-turns.turns.items ≡ turns_in (file_of all geo) (map tree_of c.deref-6.result.now) (unused c.walk_trees-2.new.table)}
    {Q = λ all. map turns_of c.in_ok-turns.turns.items ≡ turns_in (file_of all geo) (map tree_of c.in_ok-tables.tables.items) (unused c.walk_trees-2.new.table)}
    c.in_ok-turns.ensures.value
    (λ all p. p ∙ ap (λ (ts : List Tree). turns_in (file_of all geo) ts (unused c.walk_trees-2.new.table)) (ap (map tree_of) c.deref-6.ensures.value)))

pub returns-in_err-schema-clause-moves : goal.returns-in_err-schema-clause-moves
returns-in_err-schema-clause-moves g c =
    schema_moved c.args.table.now c.read_schema.new.table c.read_schema.ensures.moves

pub returns-in_err-readings-clause-moves : goal.returns-in_err-readings-clause-moves
returns-in_err-readings-clause-moves g c =
    schema_moved c.args.table.now c.read_schema.new.table c.read_schema.ensures.moves

pub returns-in_err-wanted-clause-moves : goal.returns-in_err-wanted-clause-moves
returns-in_err-wanted-clause-moves g c =
    schema_moved c.args.table.now c.read_schema.new.table c.read_schema.ensures.moves

pub returns-in_err-tables-clause-moves : goal.returns-in_err-tables-clause-moves
returns-in_err-tables-clause-moves g c =
    moved_more c.args.table.now c.read_schema.new.table c.walk_trees.new.table (schema_moved c.args.table.now c.read_schema.new.table c.read_schema.ensures.moves)
    (moved_once TABLE_LIST c.read_schema.new.table c.walk_trees.new.table (omega arith) c.walk_trees.ensures.moves)

pub returns-in_err-named-clause-moves : goal.returns-in_err-named-clause-moves
returns-in_err-named-clause-moves g c =
    moved_more c.args.table.now c.read_schema.new.table c.walk_trees.new.table (schema_moved c.args.table.now c.read_schema.new.table c.read_schema.ensures.moves)
    (moved_once TABLE_LIST c.read_schema.new.table c.walk_trees.new.table (omega arith) c.walk_trees.ensures.moves)

pub returns-in_err-indexes-clause-moves : goal.returns-in_err-indexes-clause-moves
returns-in_err-indexes-clause-moves g c =
    moved_more c.args.table.now c.walk_trees.new.table c.walk_trees-2.new.table (moved_more c.args.table.now c.read_schema.new.table c.walk_trees.new.table (schema_moved c.args.table.now c.read_schema.new.table c.read_schema.ensures.moves)
    (moved_once TABLE_LIST c.read_schema.new.table c.walk_trees.new.table (omega arith) c.walk_trees.ensures.moves))
    (moved_once INDEX_LIST c.walk_trees.new.table c.walk_trees-2.new.table (omega arith) c.walk_trees-2.ensures.moves)

pub returns-in_err-turns-clause-moves : goal.returns-in_err-turns-clause-moves
returns-in_err-turns-clause-moves g c =
    moved_more c.args.table.now c.walk_trees-2.new.table c.read_trees.new.table (moved_more c.args.table.now c.walk_trees.new.table c.walk_trees-2.new.table (moved_more c.args.table.now c.read_schema.new.table c.walk_trees.new.table (schema_moved c.args.table.now c.read_schema.new.table c.read_schema.ensures.moves)
    (moved_once TABLE_LIST c.read_schema.new.table c.walk_trees.new.table (omega arith) c.walk_trees.ensures.moves))
    (moved_once INDEX_LIST c.walk_trees.new.table c.walk_trees-2.new.table (omega arith) c.walk_trees-2.ensures.moves))
    (moved_once OVERFLOW_LIST c.walk_trees-2.new.table c.read_trees.new.table (omega arith) c.read_trees.ensures.moves)

pub returns-clause-moves : goal.returns-clause-moves
returns-clause-moves g c =
    moved_more c.args.table.now c.walk_trees-2.new.table c.read_trees.new.table (moved_more c.args.table.now c.walk_trees.new.table c.walk_trees-2.new.table (moved_more c.args.table.now c.read_schema.new.table c.walk_trees.new.table (schema_moved c.args.table.now c.read_schema.new.table c.read_schema.ensures.moves)
    (moved_once TABLE_LIST c.read_schema.new.table c.walk_trees.new.table (omega arith) c.walk_trees.ensures.moves))
    (moved_once INDEX_LIST c.walk_trees.new.table c.walk_trees-2.new.table (omega arith) c.walk_trees-2.ensures.moves))
    (moved_once OVERFLOW_LIST c.walk_trees-2.new.table c.read_trees.new.table (omega arith) c.read_trees.ensures.moves)

pub returns-clause-schema : goal.returns-clause-schema
returns-clause-schema g c =
    schema_is (g.S.Source.bytes c.args.src.now) c.args.geo.now (unused c.args.table.now) c.in_ok-schema.schema
    c.in_ok-schema.ensures.rows c.in_ok-schema.ensures.bad c.in_ok-schema.ensures.pages c.in_ok-schema.ensures.notes

pub returns-clause-table : goal.returns-clause-table
returns-clause-table g c =
    table_is (g.S.Source.bytes c.args.src.now) c.args.geo.now c.args.table.now c.read_schema.new.table c.walk_trees.new.table c.walk_trees-2.new.table
    c.read_trees.new.table (map tree_of c.in_ok-tables.tables.items) (map tree_of c.in_ok-indexes.indexes.items) (map turns_of c.in_ok-turns.turns.items)
    c.in_ok-schema.ensures.table c.in_ok-tables.ensures.moved c.in_ok-indexes.ensures.moved c.in_ok-turns.ensures.moved

pub returns-clause-readings : goal.returns-clause-readings
returns-clause-readings g c =
    subst (λ (xs : List SchemaRow). AreReadings c.args.survey.now c.args.geo.now.pages xs c.in_ok-readings.readings.items) c.deref.ensures.value c.in_ok-readings.ensures

pub returns-clause-matched : goal.returns-clause-matched
returns-clause-matched g c =
    let rows = c.in_ok-schema.schema.rows.items in
    let rs = c.in_ok-readings.readings.items in
    let wanted : c.deref-3.result.now ≡ map table_tree rs = c.deref-3.ensures.value ∙ c.in_ok-wanted.ensures ∙ ap (map table_tree) c.deref-2.ensures.value in
    let named : c.deref-5.result.now ≡ index_trees 0 rows = c.deref-5.ensures.value ∙ c.in_ok-named.ensures ∙ ap (index_trees 0) c.deref-4.ensures.value in
    matched c.args.survey.now c.args.geo.now.pages rows rs (map tree_of c.in_ok-tables.tables.items) (map tree_of c.in_ok-indexes.indexes.items)
    (map turns_of c.in_ok-turns.turns.items)
    (subst (λ (xs : List SchemaRow). AreReadings c.args.survey.now c.args.geo.now.pages xs rs) c.deref.ensures.value c.in_ok-readings.ensures)
    (c.in_ok-tables.ensures.rows ∙ ap (map wanted_row) wanted) (c.in_ok-indexes.ensures.rows ∙ ap (map wanted_row) named)
    (length-map c.in_ok-turns.turns.items turns_of ∙ c.in_ok-turns.ensures.len ∙ ap length c.deref-6.ensures.value
    ∙ sym (length-map c.in_ok-tables.tables.items tree_of))

pub returns-clause-trees : goal.returns-clause-trees
returns-clause-trees g c =
    let wanted : c.deref-3.result.now ≡ map table_tree c.in_ok-readings.readings.items =
    c.deref-3.ensures.value ∙ c.in_ok-wanted.ensures ∙ ap (map table_tree) c.deref-2.ensures.value in
    c.in_ok-tables.ensures.len ∙ ap length wanted ∙ length-map c.in_ok-readings.readings.items table_tree

pub returns-clause-part : goal.returns-clause-part
returns-clause-part g c = record {
  schema = c.in_ok-schema.ensures.part;
  trees = trees_part c.args.table.now c.read_schema.new.table c.walk_trees.new.table (map tree_of c.in_ok-tables.tables.items)
      (map tree_of c.in_ok-indexes.indexes.items) (schema_moved c.args.table.now c.read_schema.new.table c.read_schema.ensures.moves)
      c.in_ok-tables.ensures.moved c.in_ok-tables.ensures.part c.in_ok-indexes.ensures.part;
}

pub returns-clause-each : goal.returns-clause-each
returns-clause-each g c =
    subst (λ (ts : List TreeUse). HaveTurns (map tree_of ts) (map turns_of c.in_ok-turns.turns.items)) c.deref-6.ensures.value c.in_ok-turns.ensures.each

pub returns-in_err-tables-clause-reads : goal.returns-in_err-tables-clause-reads
returns-in_err-tables-clause-reads g c =
    let geo = c.args.geo.now in
    let o = g.S.Source.bytes c.args.src.now in
    twice_err c.from_residual-in_err-tables.result o geo c.args.table.now c.walk_trees.new.table (g.S.Source.reads c.args.src.now) (g.S.Source.reads c.walk_trees.new.src) 1 c.from_residual-in_err-tables.ensures.0 (omega arith)
    (reads_then o (g.S.Source.bytes c.read_schema.new.src) geo c.args.table.now c.read_schema.new.table c.walk_trees.new.table (g.S.Source.reads c.args.src.now) (g.S.Source.reads c.read_schema.new.src) (g.S.Source.reads c.walk_trees.new.src) 1 c.read_schema.ensures.kept.told (moved_once TABLE_LIST c.read_schema.new.table c.walk_trees.new.table (omega arith) c.walk_trees.ensures.moves) c.in_ok-schema.ensures.reads c.in_err-tables.ensures.reads)

pub returns-in_err-named-clause-reads : goal.returns-in_err-named-clause-reads
returns-in_err-named-clause-reads g c =
    let geo = c.args.geo.now in
    let o = g.S.Source.bytes c.args.src.now in
    twice_err c.from_residual-in_err-named.result o geo c.args.table.now c.walk_trees.new.table (g.S.Source.reads c.args.src.now) (g.S.Source.reads c.walk_trees.new.src) 0 c.from_residual-in_err-named.ensures.0 (omega arith)
    (reads_then o (g.S.Source.bytes c.read_schema.new.src) geo c.args.table.now c.read_schema.new.table c.walk_trees.new.table (g.S.Source.reads c.args.src.now) (g.S.Source.reads c.read_schema.new.src) (g.S.Source.reads c.walk_trees.new.src) 0 c.read_schema.ensures.kept.told (moved_once TABLE_LIST c.read_schema.new.table c.walk_trees.new.table (omega arith) c.walk_trees.ensures.moves) c.in_ok-schema.ensures.reads c.in_ok-tables.ensures.reads)

pub returns-in_err-indexes-clause-reads : goal.returns-in_err-indexes-clause-reads
returns-in_err-indexes-clause-reads g c =
    let geo = c.args.geo.now in
    let o = g.S.Source.bytes c.args.src.now in
    twice_err c.from_residual-in_err-indexes.result o geo c.args.table.now c.walk_trees-2.new.table (g.S.Source.reads c.args.src.now) (g.S.Source.reads c.walk_trees-2.new.src) 1 c.from_residual-in_err-indexes.ensures.0 (omega arith)
    (reads_then o (g.S.Source.bytes c.walk_trees.new.src) geo c.args.table.now c.walk_trees.new.table c.walk_trees-2.new.table (g.S.Source.reads c.args.src.now) (g.S.Source.reads c.walk_trees.new.src) (g.S.Source.reads c.walk_trees-2.new.src) 1 (c.walk_trees.ensures.kept.told ∙ c.read_schema.ensures.kept.told) (moved_once INDEX_LIST c.walk_trees.new.table c.walk_trees-2.new.table (omega arith) c.walk_trees-2.ensures.moves)
    (reads_then o (g.S.Source.bytes c.read_schema.new.src) geo c.args.table.now c.read_schema.new.table c.walk_trees.new.table (g.S.Source.reads c.args.src.now) (g.S.Source.reads c.read_schema.new.src) (g.S.Source.reads c.walk_trees.new.src) 0 c.read_schema.ensures.kept.told (moved_once TABLE_LIST c.read_schema.new.table c.walk_trees.new.table (omega arith) c.walk_trees.ensures.moves) c.in_ok-schema.ensures.reads c.in_ok-tables.ensures.reads) c.in_err-indexes.ensures.reads)

pub returns-in_err-turns-clause-reads : goal.returns-in_err-turns-clause-reads
returns-in_err-turns-clause-reads g c =
    let geo = c.args.geo.now in
    let o = g.S.Source.bytes c.args.src.now in
    twice_err c.from_residual-in_err-turns.result o geo c.args.table.now c.read_trees.new.table (g.S.Source.reads c.args.src.now) (g.S.Source.reads c.read_trees.new.src) 1 c.from_residual-in_err-turns.ensures.0 (omega arith)
    (twice_more o geo c.args.table.now c.read_schema.new.table c.read_trees.new.table (g.S.Source.reads c.args.src.now) (g.S.Source.reads c.read_schema.new.src) (g.S.Source.reads c.read_trees.new.src) 1 c.in_ok-schema.ensures.reads
    (reads_of_trees o (g.S.Source.bytes c.read_schema.new.src) (g.S.Source.bytes c.walk_trees.new.src) (g.S.Source.bytes c.walk_trees-2.new.src) geo c.read_schema.new.table c.walk_trees.new.table c.walk_trees-2.new.table c.read_trees.new.table c.deref-3.result.now (map tree_of c.in_ok-tables.tables.items)
    (g.S.Source.reads c.read_schema.new.src) (g.S.Source.reads c.walk_trees.new.src) (g.S.Source.reads c.walk_trees-2.new.src) (g.S.Source.reads c.read_trees.new.src) 1 c.read_schema.ensures.kept.told (c.walk_trees.ensures.kept.told ∙ c.read_schema.ensures.kept.told) (c.walk_trees-2.ensures.kept.told ∙ c.walk_trees.ensures.kept.told ∙ c.read_schema.ensures.kept.told) (moved_once INDEX_LIST c.walk_trees.new.table c.walk_trees-2.new.table (omega arith) c.walk_trees-2.ensures.moves) (moved_once OVERFLOW_LIST c.walk_trees-2.new.table c.read_trees.new.table (omega arith) c.read_trees.ensures.moves) c.in_ok-tables.ensures.value c.in_ok-tables.ensures.moved
    c.in_ok-tables.ensures.reads c.in_ok-indexes.ensures.reads
    (subst (λ (ts : List TreeUse). ReadsEach (g.S.Source.bytes c.walk_trees-2.new.src) geo c.walk_trees-2.new.table c.read_trees.new.table (g.S.Source.reads c.walk_trees-2.new.src) (g.S.Source.reads c.read_trees.new.src) (length (pages_in (map tree_of ts)) + 1))
    c.deref-6.ensures.value c.in_err-turns.ensures.reads)))

pub returns-clause-reads : goal.returns-clause-reads
returns-clause-reads g c =
    let geo = c.args.geo.now in
    let o = g.S.Source.bytes c.args.src.now in
    twice_more o geo c.args.table.now c.read_schema.new.table c.read_trees.new.table (g.S.Source.reads c.args.src.now) (g.S.Source.reads c.read_schema.new.src) (g.S.Source.reads c.read_trees.new.src) 0 c.in_ok-schema.ensures.reads
    (reads_of_trees o (g.S.Source.bytes c.read_schema.new.src) (g.S.Source.bytes c.walk_trees.new.src) (g.S.Source.bytes c.walk_trees-2.new.src) geo c.read_schema.new.table c.walk_trees.new.table c.walk_trees-2.new.table c.read_trees.new.table c.deref-3.result.now (map tree_of c.in_ok-tables.tables.items)
    (g.S.Source.reads c.read_schema.new.src) (g.S.Source.reads c.walk_trees.new.src) (g.S.Source.reads c.walk_trees-2.new.src) (g.S.Source.reads c.read_trees.new.src) 0 c.read_schema.ensures.kept.told (c.walk_trees.ensures.kept.told ∙ c.read_schema.ensures.kept.told) (c.walk_trees-2.ensures.kept.told ∙ c.walk_trees.ensures.kept.told ∙ c.read_schema.ensures.kept.told) (moved_once INDEX_LIST c.walk_trees.new.table c.walk_trees-2.new.table (omega arith) c.walk_trees-2.ensures.moves) (moved_once OVERFLOW_LIST c.walk_trees-2.new.table c.read_trees.new.table (omega arith) c.read_trees.ensures.moves) c.in_ok-tables.ensures.value c.in_ok-tables.ensures.moved
    c.in_ok-tables.ensures.reads c.in_ok-indexes.ensures.reads
    (subst (λ (ts : List TreeUse). ReadsEach (g.S.Source.bytes c.walk_trees-2.new.src) geo c.walk_trees-2.new.table c.read_trees.new.table (g.S.Source.reads c.walk_trees-2.new.src) (g.S.Source.reads c.read_trees.new.src) (length (pages_in (map tree_of ts)) + 0))
    c.deref-6.ensures.value c.in_ok-turns.ensures.reads))

pub returns-in_err-schema-clause-full : goal.returns-in_err-schema-clause-full
returns-in_err-schema-clause-full g c =
    let geo = c.args.geo.now in
    let o = g.S.Source.bytes c.args.src.now in
    λ all.
    let s = c.in_err-schema.ensures.full all in
    (s.0, each_err c.from_residual.result o geo c.args.table.now c.read_schema.new.table (g.S.Source.reads c.args.src.now) (g.S.Source.reads c.read_schema.new.src) 1 c.from_residual.ensures.0 (omega arith) (chains_each o geo c.args.table.now c.read_schema.new.table (g.S.Source.reads c.args.src.now) (g.S.Source.reads c.read_schema.new.src) 1 c.pages-pages.ensures.partition c.requires.lists c.read_schema.ensures.moves s.1))

pub returns-in_err-readings-clause-full : goal.returns-in_err-readings-clause-full
returns-in_err-readings-clause-full g c =
    let geo = c.args.geo.now in
    let o = g.S.Source.bytes c.args.src.now in
    λ all.
    let s = c.in_ok-schema.ensures.full all in
    (s.0, each_err c.from_residual-in_err-readings.result o geo c.args.table.now c.read_schema.new.table (g.S.Source.reads c.args.src.now) (g.S.Source.reads c.read_schema.new.src) 0 c.from_residual-in_err-readings.ensures.0 (omega arith) (chains_each o geo c.args.table.now c.read_schema.new.table (g.S.Source.reads c.args.src.now) (g.S.Source.reads c.read_schema.new.src) 0 c.pages-pages.ensures.partition c.requires.lists c.read_schema.ensures.moves s.1))

pub returns-in_err-wanted-clause-full : goal.returns-in_err-wanted-clause-full
returns-in_err-wanted-clause-full g c =
    let geo = c.args.geo.now in
    let o = g.S.Source.bytes c.args.src.now in
    λ all.
    let s = c.in_ok-schema.ensures.full all in
    (s.0, each_err c.from_residual-in_err-wanted.result o geo c.args.table.now c.read_schema.new.table (g.S.Source.reads c.args.src.now) (g.S.Source.reads c.read_schema.new.src) 0 c.from_residual-in_err-wanted.ensures.0 (omega arith) (chains_each o geo c.args.table.now c.read_schema.new.table (g.S.Source.reads c.args.src.now) (g.S.Source.reads c.read_schema.new.src) 0 c.pages-pages.ensures.partition c.requires.lists c.read_schema.ensures.moves s.1))

pub returns-in_err-tables-clause-full : goal.returns-in_err-tables-clause-full
returns-in_err-tables-clause-full g c =
    let geo = c.args.geo.now in
    let o = g.S.Source.bytes c.args.src.now in
    λ all.
    let s = c.in_ok-schema.ensures.full all in
    let t = c.in_err-tables.ensures.full s.0 in
    (t.0, each_err c.from_residual-in_err-tables.result o geo c.args.table.now c.walk_trees.new.table (g.S.Source.reads c.args.src.now) (g.S.Source.reads c.walk_trees.new.src) 0 c.from_residual-in_err-tables.ensures.0 (omega arith) (each_then o (g.S.Source.bytes c.read_schema.new.src) geo c.args.table.now c.read_schema.new.table c.walk_trees.new.table (g.S.Source.reads c.args.src.now) (g.S.Source.reads c.read_schema.new.src) (g.S.Source.reads c.walk_trees.new.src) 0 c.read_schema.ensures.kept.told (chains_each o geo c.args.table.now c.read_schema.new.table (g.S.Source.reads c.args.src.now) (g.S.Source.reads c.read_schema.new.src) 0 c.pages-pages.ensures.partition c.requires.lists c.read_schema.ensures.moves s.1) t.1))

pub returns-in_err-named-clause-full : goal.returns-in_err-named-clause-full
returns-in_err-named-clause-full g c =
    let geo = c.args.geo.now in
    let o = g.S.Source.bytes c.args.src.now in
    λ all.
    let s = c.in_ok-schema.ensures.full all in
    let t = c.in_ok-tables.ensures.full s.0 in
    (t.0, each_err c.from_residual-in_err-named.result o geo c.args.table.now c.walk_trees.new.table (g.S.Source.reads c.args.src.now) (g.S.Source.reads c.walk_trees.new.src) 0 c.from_residual-in_err-named.ensures.0 (omega arith) (each_then o (g.S.Source.bytes c.read_schema.new.src) geo c.args.table.now c.read_schema.new.table c.walk_trees.new.table (g.S.Source.reads c.args.src.now) (g.S.Source.reads c.read_schema.new.src) (g.S.Source.reads c.walk_trees.new.src) 0 c.read_schema.ensures.kept.told (chains_each o geo c.args.table.now c.read_schema.new.table (g.S.Source.reads c.args.src.now) (g.S.Source.reads c.read_schema.new.src) 0 c.pages-pages.ensures.partition c.requires.lists c.read_schema.ensures.moves s.1) t.1))

pub returns-in_err-indexes-clause-full : goal.returns-in_err-indexes-clause-full
returns-in_err-indexes-clause-full g c =
    let geo = c.args.geo.now in
    let o = g.S.Source.bytes c.args.src.now in
    λ all.
    let s = c.in_ok-schema.ensures.full all in
    let t = c.in_ok-tables.ensures.full s.0 in
    let i = c.in_err-indexes.ensures.full t.0 in
    (i.0, each_err c.from_residual-in_err-indexes.result o geo c.args.table.now c.walk_trees-2.new.table (g.S.Source.reads c.args.src.now) (g.S.Source.reads c.walk_trees-2.new.src) 0 c.from_residual-in_err-indexes.ensures.0 (omega arith) (each_then o (g.S.Source.bytes c.walk_trees.new.src) geo c.args.table.now c.walk_trees.new.table c.walk_trees-2.new.table (g.S.Source.reads c.args.src.now) (g.S.Source.reads c.walk_trees.new.src) (g.S.Source.reads c.walk_trees-2.new.src) 0 (c.walk_trees.ensures.kept.told ∙ c.read_schema.ensures.kept.told) (each_then o (g.S.Source.bytes c.read_schema.new.src) geo c.args.table.now c.read_schema.new.table c.walk_trees.new.table (g.S.Source.reads c.args.src.now) (g.S.Source.reads c.read_schema.new.src) (g.S.Source.reads c.walk_trees.new.src) 0 c.read_schema.ensures.kept.told (chains_each o geo c.args.table.now c.read_schema.new.table (g.S.Source.reads c.args.src.now) (g.S.Source.reads c.read_schema.new.src) 0 c.pages-pages.ensures.partition c.requires.lists c.read_schema.ensures.moves s.1) t.1) i.1))

pub returns-in_err-turns-clause-full : goal.returns-in_err-turns-clause-full
returns-in_err-turns-clause-full g c =
    let geo = c.args.geo.now in
    let o = g.S.Source.bytes c.args.src.now in
    λ all.
    let s = c.in_ok-schema.ensures.full all in
    let t = c.in_ok-tables.ensures.full s.0 in
    let i = c.in_ok-indexes.ensures.full t.0 in
    let u = c.in_err-turns.ensures.full i.0 in
    (u.0, each_err c.from_residual-in_err-turns.result o geo c.args.table.now c.read_trees.new.table (g.S.Source.reads c.args.src.now) (g.S.Source.reads c.read_trees.new.src) 1 c.from_residual-in_err-turns.ensures.0 (omega arith) (each_then o (g.S.Source.bytes c.walk_trees-2.new.src) geo c.args.table.now c.walk_trees-2.new.table c.read_trees.new.table (g.S.Source.reads c.args.src.now) (g.S.Source.reads c.walk_trees-2.new.src) (g.S.Source.reads c.read_trees.new.src) 1 (c.walk_trees-2.ensures.kept.told ∙ c.walk_trees.ensures.kept.told ∙ c.read_schema.ensures.kept.told) (each_then o (g.S.Source.bytes c.walk_trees.new.src) geo c.args.table.now c.walk_trees.new.table c.walk_trees-2.new.table (g.S.Source.reads c.args.src.now) (g.S.Source.reads c.walk_trees.new.src) (g.S.Source.reads c.walk_trees-2.new.src) 0 (c.walk_trees.ensures.kept.told ∙ c.read_schema.ensures.kept.told) (each_then o (g.S.Source.bytes c.read_schema.new.src) geo c.args.table.now c.read_schema.new.table c.walk_trees.new.table (g.S.Source.reads c.args.src.now) (g.S.Source.reads c.read_schema.new.src) (g.S.Source.reads c.walk_trees.new.src) 0 c.read_schema.ensures.kept.told (chains_each o geo c.args.table.now c.read_schema.new.table (g.S.Source.reads c.args.src.now) (g.S.Source.reads c.read_schema.new.src) 0 c.pages-pages.ensures.partition c.requires.lists c.read_schema.ensures.moves s.1) t.1) i.1) u.1))

pub returns-clause-full : goal.returns-clause-full
returns-clause-full g c =
    let geo = c.args.geo.now in
    let o = g.S.Source.bytes c.args.src.now in
    λ all.
    let s = c.in_ok-schema.ensures.full all in
    let t = c.in_ok-tables.ensures.full s.0 in
    let i = c.in_ok-indexes.ensures.full t.0 in
    let u = c.in_ok-turns.ensures.full i.0 in
    (u.0, each_then o (g.S.Source.bytes c.walk_trees-2.new.src) geo c.args.table.now c.walk_trees-2.new.table c.read_trees.new.table (g.S.Source.reads c.args.src.now) (g.S.Source.reads c.walk_trees-2.new.src) (g.S.Source.reads c.read_trees.new.src) 0 (c.walk_trees-2.ensures.kept.told ∙ c.walk_trees.ensures.kept.told ∙ c.read_schema.ensures.kept.told) (each_then o (g.S.Source.bytes c.walk_trees.new.src) geo c.args.table.now c.walk_trees.new.table c.walk_trees-2.new.table (g.S.Source.reads c.args.src.now) (g.S.Source.reads c.walk_trees.new.src) (g.S.Source.reads c.walk_trees-2.new.src) 0 (c.walk_trees.ensures.kept.told ∙ c.read_schema.ensures.kept.told) (each_then o (g.S.Source.bytes c.read_schema.new.src) geo c.args.table.now c.read_schema.new.table c.walk_trees.new.table (g.S.Source.reads c.args.src.now) (g.S.Source.reads c.read_schema.new.src) (g.S.Source.reads c.walk_trees.new.src) 0 c.read_schema.ensures.kept.told (chains_each o geo c.args.table.now c.read_schema.new.table (g.S.Source.reads c.args.src.now) (g.S.Source.reads c.read_schema.new.src) 0 c.pages-pages.ensures.partition c.requires.lists c.read_schema.ensures.moves s.1) t.1) i.1) u.1)
