use Rattle.std.proofs.Common.{◌≡◌, ◌∙◌, ℕ, List, ap, sym, subst, arith}
use Rattle.table_shape.specs.declared.rows.OutTable.{OutTable}
use Rattle.tree_writer.specs.Entry.{AreEntries}
use Rattle.tree_writer.specs.Trees.{schema_count}
use Rattle.db_builder.specs.declared.plans.Prepared.{Prepared}
use Rattle.db_builder.specs.Layout.{pages_of_trees, placed, schema_entries}
use Rattle.db_builder.specs.Prepared.{IsPlanned, IsPrepared, schema_seen}
use Rattle.db_builder.specs.SoFar.{IsSoFar}
use Rattle.db_builder.specs.Trees.{trees_of}
use Rattle.std.proofs.lemmas.Result.{IfOk-weaker}
use Rattle.db_builder.proofs.Taking.{placed_len}
use Rattle.std.proofs.lemmas.Slice.Zip.{AllZip-long}
use Rattle.db_builder.proofs.Whole.{seen_entries}
use Rattle.db_builder.proofs.plans.plan_file.Goals as goal

pub finish-requires : goal.finish-requires
finish-requires c =
    let p = c.in_ok-planner.planner in
    let tables = c.args.db.now.tables.items in
    let so : IsSoFar tables (trees_of tables) p = subst (λ (ts : List OutTable). IsSoFar ts (trees_of ts) p) c.as_slice.ensures.value c.in_ok-planner.ensures.1 in
    let es : schema_seen p.trees.items ≡ schema_entries c.args.page_size (trees_of tables) =
    seen_entries p.page_size p.longest tables (trees_of tables) p.trees.items so.planned ∙ ap (λ n. schema_entries n (trees_of tables)) c.in_ok-planner.ensures.0 in
    record {
      few = omega (
        arith,
        c.requires.can.few,
        placed_len p.page_size 0 (trees_of tables),
        AllZip-long (IsPlanned p.page_size tables p.longest) (placed p.page_size 0 (trees_of tables)) p.trees.items so.planned,
      );
      entries = subst AreEntries (sym es) c.requires.can.schema;
      pages = omega (
        arith,
        so.before,
        ap (λ n. pages_of_trees n (trees_of tables)) c.in_ok-planner.ensures.0,
        ap (schema_count p.page_size) es,
        ap (λ n. schema_count n (schema_entries c.args.page_size (trees_of tables))) c.in_ok-planner.ensures.0,
        c.requires.can.pages,
      );
    }

pub returns : goal.returns
returns c =
    let p = c.in_ok-planner.planner in
    let db = c.args.db.now in
    let tables = db.tables.items in
    let so : IsSoFar tables (trees_of tables) p = subst (λ (ts : List OutTable). IsSoFar ts (trees_of ts) p) c.as_slice.ensures.value c.in_ok-planner.ensures.1 in
    record {
      size = IfOk-weaker c.finish.result _ _ (λ (x : Prepared) h. (h db so).size_is ∙ c.in_ok-planner.ensures.0) c.finish.ensures;
      prepared = IfOk-weaker c.finish.result _ _ (λ (x : Prepared) h. subst (λ (n : ℕ). IsPrepared n db x) (sym (h db so).size_is) (h db so)) c.finish.ensures;
    }
