use Rattle.std.proofs.Common.{◌≡◌, ◌∙◌, ◌+◌, ◌++◌, List, [], ap, sym, subst, refl, arith, take, add-one}
use Rattle.std.specs.List.{AllZip}
use Rattle.std.proofs.lemmas.List.{take_all}
use Rattle.table_shape.specs.declared.rows.OutTable.{OutTable}
use Rattle.db_builder.specs.declared.plans.PlannedTree.{PlannedTree}
use Rattle.db_builder.specs.Layout.{pages_of_trees}
use Rattle.db_builder.specs.Prepared.{IsPlanned}
use Rattle.db_builder.specs.SoFar.{IsSoFar}
use Rattle.db_builder.specs.Trees.{Tree, table_trees, trees_of}
use Rattle.db_builder.proofs.Planned.{rows_are}
use Rattle.db_builder.proofs.Taking.{flat_more, tables_pages}
use Rattle.db_builder.proofs.plans.plan_trees.Goals as goal

pub loop-i-init : goal.loop-i-init
loop-i-init c = (
  refl,
  record {
    planned = subst (λ (ts : List PlannedTree). AllZip (IsPlanned c.args.page_size c.args.tables.now 0) [] ts) (sym c.new.ensures.items) tt;
    before = refl;
  },
)

pub loop-i-preserved : goal.loop-i-preserved
loop-i-preserved c = (
  c.in_ok-add_table.ensures.size ∙ c.loop-i.invariant.0,
  (let tables = c.args.tables.now in
      let i = c.loop-i.i in
      let t = c.index-tables-i.result in
      let more : trees_of (take (i + 1) tables) ≡ trees_of (take i tables) ++ table_trees t =
      ap (λ n. trees_of (take n tables)) (add-one i) ∙ flat_more table_trees tables i t (omega arith) c.index-tables-i.is in
      subst (λ (xs : List Tree). IsSoFar tables xs c.add_table.new.self) (sym more)
      (c.in_ok-add_table.ensures.trees tables (trees_of (take i tables)) (omega arith) (rows_are tables i t (omega arith) c.index-tables-i.is) c.loop-i.invariant.1)),
)

pub add_table-requires-clause-pages : goal.add_table-requires-clause-pages
add_table-requires-clause-pages c =
    let tables = c.args.tables.now in
    let t = c.index-tables-i.result in
    let size = c.loop-i.invariant.0 in
    omega (
      arith,
      c.loop-i.invariant.1.before,
      ap (λ n. pages_of_trees n (trees_of (take c.loop-i.i tables))) size,
      ap (λ n. pages_of_trees n (table_trees t)) size,
      tables_pages c.args.page_size tables c.loop-i.i t (omega arith) c.index-tables-i.is,
      c.requires.pages,
    )

pub returns : goal.returns
returns c = (
  c.loop-i.invariant.0,
  subst (λ (xs : List OutTable). IsSoFar c.args.tables.now (trees_of xs) c.loop-i.planner) (take_all c.loop-i.i c.args.tables.now c.loop-i-test.false) c.loop-i.invariant.1,
)
