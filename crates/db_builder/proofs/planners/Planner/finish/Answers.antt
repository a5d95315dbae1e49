use Rattle.std.proofs.Common.{◌≡◌, ◌∙◌, ◌+◌, ◌-◌, List, ap, subst, refl, arith, length}
use Rattle.tree_writer.specs.Entry.{Entry}
use Rattle.tree_writer.specs.Numbers.{number_of}
use Rattle.tree_writer.specs.Trees.{IsSchemaPlan, schema_count}
use Rattle.db_builder.specs.Layout.{lock_of, page_total, placed, schema_entries, start_of}
use Rattle.db_builder.specs.Prepared.{HaveAtMost, records_of, schema_seen}
use Rattle.db_builder.specs.Trees.{trees_of}
use Rattle.db_builder.proofs.Taking.{all_longer, numbered_rise}
use Rattle.db_builder.proofs.Whole.{seen_entries}
use Rattle.std.specs.Prelude.{None}
use Rattle.db_builder.proofs.planners.Planner.finish.Goals as goal

pub schema-requires-clause-rowids : goal.schema-requires-clause-rowids
schema-requires-clause-rowids c = numbered_rise None 1 (records_of c.as_slice.result.now) tt

pub returns : goal.returns
returns c = λ db so.
    let self = c.args.self in
    let size = self.page_size in
    let all = trees_of db.tables.items in
    let lent = length c.in_ok-scratch.scratch.items in
    let len : lent ≡ c.max-most.result = omega (arith, c.in_ok-scratch.ensures.len, c.in_ok-scratch.scratch.ok.0) in
    let es : schema_seen c.as_slice.result.now ≡ schema_entries size all = ap schema_seen c.as_slice.ensures.value
    ∙ seen_entries size self.longest db.tables.items all self.trees.items so.planned in
    let short : HaveAtMost lent (schema_seen c.as_slice.result.now) = λ i lt. let h = c.longest.ensures i lt in omega (arith, h, len, c.max-most.ensures) in
    let schema : IsSchemaPlan size (schema_entries size all) c.in_ok-schema.schema = subst (λ (xs : List Entry). IsSchemaPlan size xs c.in_ok-schema.schema) es c.in_ok-schema.ensures in
    let last : self.before + c.page_count.result - 1 ≡ page_total size all - 1 = omega (arith, so.before, c.page_count.ensures.value, schema.count) in
    record {
      size_is = refl;
      least = self.least;
      most = self.most;
      trees = all_longer size self.longest lent db.tables.items (placed size 0 all) self.trees.items (omega (arith, len, c.max-most.ensures)) so.planned;
      few = c.requires.few;
      schema = schema;
      short = subst (HaveAtMost lent) es short;
      start = c.numbers-numbers.ensures.start ∙ ap (start_of size) so.before;
      start_least = c.numbers-numbers.ensures.least;
      start_most = omega (arith, c.numbers-numbers.ensures.most, schema.count, ap (schema_count size) es, ap (λ ts. schema_count size (schema_seen ts)) c.as_slice.ensures.value, c.requires.pages);
      pages = c.number-pages.ensures ∙ ap (λ l. number_of 1 l (self.before + c.page_count.result - 1)) c.numbers-numbers.ensures.lock ∙ ap (number_of 1 (lock_of size)) last;
      page = omega (arith, c.in_ok-page.ensures.len, c.in_ok-page.page.ok.0);
    }
