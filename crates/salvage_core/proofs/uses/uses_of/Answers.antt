use Rattle.std.proofs.Common.{◌∙◌, ◌++◌, ap, arith, length, length-append, map}
use Rattle.std.proofs.lemmas.List.{length-map}
use Rattle.page_access.proofs.Keeps.{not_failed}
use Rattle.page_access.specs.Cache.{HasAll}
use Rattle.tree_uses.specs.Trees.{pages_in, tree_of, turns_of}
use Rattle.orphan_trees.specs.Orphans.{orphan_of, pages_in as orphan_pages}
use Rattle.salvage_core.proofs.Reading.{orphans_read, uses_read}
use Rattle.salvage_core.proofs.Sizing.{cells_within}
use Rattle.salvage_core.proofs.Using.{are_uses, caused, fresh_few}
use Rattle.salvage_core.proofs.uses.uses_of.Goals as goal

pub returns-in_err-orphans-clause-cause : goal.returns-in_err-orphans-clause-cause
returns-in_err-orphans-clause-cause g c =
    let faults = g.S.Source.faults in
    caused c.from_residual-in_err-orphans.result c.in_err-orphans.field-0.0 (faults c.args.src.now) (faults c.find_uses.new.src) (faults c.find_orphans.new.src)
    (not_failed c.in_ok-uses.ensures.cause.steady ∙ not_failed c.in_ok-kinds.ensures.cause.steady) c.in_err-orphans.ensures.cause
    c.from_residual-in_err-orphans.ensures.0 c.from_residual-in_err-orphans.ensures.1

pub returns-clause-uses : goal.returns-clause-uses
returns-clause-uses g c =
    are_uses (g.S.Source.bytes c.args.src.now) (g.S.Source.bytes c.survey.new.src) (g.S.Source.bytes c.find_uses.new.src) c.args.geo.now
    c.in_ok-table.table c.find_uses.new.table c.find_orphans.new.table c.args.first_trunk c.in_ok-uses.uses c.in_ok-orphans.orphans
    c.in_ok-table.ensures.value c.survey.ensures.kept.told (c.find_uses.ensures.kept.told ∙ c.survey.ensures.kept.told)
    c.in_ok-uses.ensures.order c.in_ok-uses.ensures.schema c.in_ok-uses.ensures.table c.in_ok-orphans.ensures.order c.in_ok-orphans.ensures.table

pub returns-clause-readings : goal.returns-clause-readings
returns-clause-readings g c = record {
  kinds = c.in_ok-kinds.kinds;
  readings = c.in_ok-uses.ensures.readings;
  trees = c.in_ok-uses.ensures.trees;
  turns = omega (
    arith,
    c.in_ok-uses.ensures.matched.turns_are,
    c.in_ok-uses.ensures.trees,
    length-map c.in_ok-uses.uses.turns.items turns_of,
    length-map c.in_ok-uses.uses.tables.items tree_of,
  );
  small = c.in_ok-uses.ensures.turns;
  bad = c.in_ok-uses.ensures.small.others;
  matched = c.in_ok-uses.ensures.matched;
  tables = c.in_ok-uses.ensures.tables;
  indexes = c.in_ok-uses.ensures.indexes;
  each = c.in_ok-uses.ensures.each;
  few =
      let tables = pages_in (map tree_of c.in_ok-uses.uses.tables.items) in
      let indexes = pages_in (map tree_of c.in_ok-uses.uses.indexes.items) in
      omega (
        arith,
        length-append tables indexes,
        fresh_few c.args.geo.now.pages 6 c.in_ok-table.table (tables ++ indexes) c.in_ok-table.ensures.value c.in_ok-uses.ensures.part.trees,
      );
  few_bad =
      let schema = c.in_ok-uses.uses.schema in
      cells_within c.args.geo.now.usable c.args.geo.now.pages (length schema.bad.items) (length schema.pages.items)
      (omega (arith, c.in_ok-uses.ensures.small.few))
      (fresh_few c.args.geo.now.pages 6 c.in_ok-table.table schema.pages.items c.in_ok-table.ensures.value c.in_ok-uses.ensures.part.schema);
}

pub returns-clause-orphans : goal.returns-clause-orphans
returns-clause-orphans g c = record {
  trees = c.in_ok-orphans.ensures.bound;
  turns = c.in_ok-orphans.ensures.len;
  small = c.in_ok-orphans.ensures.turns;
  each = c.in_ok-orphans.ensures.each;
  few = fresh_few c.args.geo.now.pages 6 c.in_ok-table.table (orphan_pages (map orphan_of c.in_ok-orphans.orphans.trees.items)) c.in_ok-table.ensures.value
      (λ q. omega (arith, c.in_ok-orphans.ensures.part q, c.find_uses.ensures.moves.left q));
}

pub returns-in_err-uses-clause-reads : goal.returns-in_err-uses-clause-reads
returns-in_err-uses-clause-reads g c =
    let reads = g.S.Source.reads in
    uses_read (g.S.Source.bytes c.args.src.now) (g.S.Source.bytes c.survey.new.src) c.args.geo.now c.in_ok-table.table c.find_uses.new.table
    c.in_ok-cache.cache.slots (reads c.args.src.now) (reads c.survey.new.src) (reads c.find_uses.new.src) 1 (HasAll c.survey.new.cache) (HasAll c.find_uses.new.cache)
    c.in_ok-table.ensures.value (ap (λ k. k.slots) c.in_ok-cache.ensures) c.survey.ensures.kept.told (omega arith)
    c.survey.ensures.reads c.in_ok-kinds.ensures.has c.in_err-uses.ensures.reads c.in_err-uses.ensures.full

pub returns-in_err-orphans-clause-reads : goal.returns-in_err-orphans-clause-reads
returns-in_err-orphans-clause-reads g c =
    let reads = g.S.Source.reads in
    orphans_read (g.S.Source.bytes c.args.src.now) (g.S.Source.bytes c.survey.new.src) (g.S.Source.bytes c.find_uses.new.src) c.args.geo.now
    c.in_ok-table.table c.find_uses.new.table c.find_orphans.new.table
    c.in_ok-cache.cache.slots (reads c.args.src.now) (reads c.survey.new.src) (reads c.find_uses.new.src) (reads c.find_orphans.new.src) 1
    (HasAll c.survey.new.cache) (HasAll c.find_uses.new.cache) (HasAll c.find_orphans.new.cache)
    c.in_ok-table.ensures.value (ap (λ k. k.slots) c.in_ok-cache.ensures) c.survey.ensures.kept.told (c.find_uses.ensures.kept.told ∙ c.survey.ensures.kept.told)
    (omega arith) c.survey.ensures.reads c.in_ok-kinds.ensures.has c.find_uses.ensures.moves c.in_ok-uses.ensures.reads c.in_ok-uses.ensures.full
    c.in_err-orphans.ensures.reads c.in_err-orphans.ensures.full

pub returns-clause-reads : goal.returns-clause-reads
returns-clause-reads g c =
    let reads = g.S.Source.reads in
    orphans_read (g.S.Source.bytes c.args.src.now) (g.S.Source.bytes c.survey.new.src) (g.S.Source.bytes c.find_uses.new.src) c.args.geo.now
    c.in_ok-table.table c.find_uses.new.table c.find_orphans.new.table
    c.in_ok-cache.cache.slots (reads c.args.src.now) (reads c.survey.new.src) (reads c.find_uses.new.src) (reads c.find_orphans.new.src) 0
    (HasAll c.survey.new.cache) (HasAll c.find_uses.new.cache) (HasAll c.find_orphans.new.cache)
    c.in_ok-table.ensures.value (ap (λ k. k.slots) c.in_ok-cache.ensures) c.survey.ensures.kept.told (c.find_uses.ensures.kept.told ∙ c.survey.ensures.kept.told)
    (omega arith) c.survey.ensures.reads c.in_ok-kinds.ensures.has c.find_uses.ensures.moves c.in_ok-uses.ensures.reads c.in_ok-uses.ensures.full
    c.in_ok-orphans.ensures.reads c.in_ok-orphans.ensures.full
