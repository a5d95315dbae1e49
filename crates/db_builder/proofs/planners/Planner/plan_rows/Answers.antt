use Rattle.std.proofs.Common.{◌≡◌, ◌∙◌, Bool, true, false, List, ap, sym, subst, refl}
use Rattle.cell_reader.specs.declared.shapes.Kind.{Kind}
use Rattle.cell_reader.specs.declared.shapes.Kind.TheVariants.{Table, Index}
use Rattle.record_core.specs.Shortest.{IsWritable}
use Rattle.tree_writer.specs.Entry.{AreEntries, Entry, HaveNoRowids, RowidsRise}
use Rattle.tree_writer.specs.Levels.{tree_line}
use Rattle.tree_writer.specs.Trees.{IsTreePlan}
use Rattle.std.specs.Prelude.{None}
use Rattle.db_builder.specs.Prepared.{HaveAtMost}
use Rattle.db_builder.specs.Trees.{kind_of, table_tree}
use Rattle.db_builder.specs.Views.{row_entries}
use Rattle.db_builder.proofs.Made.{made_is, record_is_row, root_small, start_most}
use Rattle.db_builder.proofs.planners.Planner.plan_rows.Goals as goal

of_table : (w : Bool) → kind_of w ≡ Table → w ≡ false
of_table true e = absurd cc
of_table false e = refl

of_index : (w : Bool) → kind_of w ≡ Index → w ≡ true
of_index true e = refl
of_index false e = absurd cc

pub plan_of-requires : goal.plan_of-requires
plan_of-requires c =
    let t = c.args.table.now in
    let w = t.shape.without_rowid in
    let es : row_entries c.as_slice.result.now ≡ (table_tree t).entries = ap row_entries c.as_slice.ensures.value in
    record {
      least = c.args.self.now.least;
      most = c.args.self.now.most;
      entries = subst AreEntries (sym es) c.requires.can.entries;
      rowids = λ e. subst (RowidsRise None) (sym es) (c.requires.can.rowids (of_table w (sym c.kind_of.ensures ∙ e)));
      none = λ e. subst HaveNoRowids (sym es) (c.requires.can.no_rowids (of_index w (sym c.kind_of.ensures ∙ e)));
    }

pub number-requires-clause-most : goal.number-requires-clause-most
number-requires-clause-most c =
    let es = row_entries c.as_slice.result.now in
    let tree = table_tree c.args.table.now in
    root_small c.args.self.now.page_size c.kind_of.result es c.in_ok-plan.plan c.root.result c.numbers-numbers.result.start c.in_ok-plan.ensures
    (c.root.ensures.tree c.args.self.now.page_size c.kind_of.result es c.in_ok-plan.ensures)
    (start_most c.args.self.now tree c.kind_of.result es c.in_ok-plan.plan c.numbers-numbers.result.start c.requires.pages c.kind_of.ensures (ap row_entries c.as_slice.ensures.value) c.in_ok-plan.ensures c.numbers-numbers.ensures.most)

pub record_of-requires : goal.record_of-requires
record_of-requires c = subst IsWritable (sym (c.as_slice-2.ensures.value ∙ c.in_ok-values.ensures)) (c.requires.can.label c.number.result)

pub returns : goal.returns
returns c =
    let self = c.args.self.now in
    let size = self.page_size in
    let t = c.args.table.now in
    let k = c.kind_of.result in
    let seen = row_entries c.as_slice.result.now in
    let es : seen ≡ (table_tree t).entries = ap row_entries c.as_slice.ensures.value in
    made_is self c.args.number t.rows.items (table_tree t) _ (table_tree t).entries refl c.requires.can.rows refl refl
    (subst (HaveAtMost c.longest-longest.result) es c.longest-longest.ensures)
    (subst (λ (x : Kind). IsTreePlan size x (table_tree t).entries c.in_ok-plan.plan) c.kind_of.ensures
    (subst (λ (xs : List Entry). IsTreePlan size k xs c.in_ok-plan.plan) es c.in_ok-plan.ensures))
    c.numbers-numbers.ensures.start c.numbers-numbers.ensures.least
    (start_most self (table_tree t) k seen c.in_ok-plan.plan c.numbers-numbers.result.start c.requires.pages c.kind_of.ensures es c.in_ok-plan.ensures c.numbers-numbers.ensures.most)
    (record_is_row self (table_tree t) c.in_ok-record_of.field-0 c.as_slice-2.result.now c.numbers-numbers.result.start c.numbers-numbers.result.lock c.root.result c.number.result
    c.numbers-numbers.ensures.start c.numbers-numbers.ensures.lock
    (c.root.ensures.tree size k seen c.in_ok-plan.ensures ∙ ap (λ (xs : List Entry). (tree_line size k 0 xs).right) es ∙ ap (λ (x : Kind). (tree_line size x 0 (table_tree t).entries).right) c.kind_of.ensures)
    c.number.ensures (c.as_slice-2.ensures.value ∙ c.in_ok-values.ensures) c.in_ok-record_of.ensures)
