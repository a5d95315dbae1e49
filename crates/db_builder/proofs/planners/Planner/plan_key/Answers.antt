use Rattle.std.proofs.Common.{◌≡◌, ◌∙◌, List, ap, sym, subst, refl, length}
use Rattle.cell_reader.specs.declared.shapes.Kind.TheVariants.{Index}
use Rattle.table_shape.specs.declared.keys.KeyPart.{KeyPart}
use Rattle.table_shape.specs.declared.rows.OutRow.{OutRow}
use Rattle.table_shape.specs.Entries.{entry_parts}
use Rattle.table_shape.specs.Keys.{Keys, parts_seen}
use Rattle.tree_writer.specs.Entry.{AreEntries, Entry}
use Rattle.record_core.specs.Shortest.{IsWritable}
use Rattle.tree_writer.specs.Levels.{tree_line}
use Rattle.tree_writer.specs.Trees.{IsTreePlan}
use Rattle.db_builder.specs.Prepared.{HaveAtMost}
use Rattle.db_builder.specs.Trees.{key_tree, keys_in}
use Rattle.db_builder.specs.Views.{HaveIndexRecords, NamesRows, index_entries}
use Rattle.db_builder.proofs.Made.{index_told, made_is, no_rowids, record_is_row, root_small, start_most}
use Rattle.db_builder.proofs.planners.Planner.plan_key.Goals as goal

pub plan_of-requires-clause-entries : goal.plan_of-requires-clause-entries
plan_of-requires-clause-entries c =
    let t = c.args.table.now in
    let key = parts_seen c.args.key.now in
    let parts : c.in_ok-parts.parts.items ≡ entry_parts (keys_in t) key = c.in_ok-parts.ensures ∙ ap (λ (k : Keys). entry_parts k key) c.requires.keys in
    let es = index_told t key c.as_slice.result.now c.as_slice-2.result.now c.as_slice-rows.result.now c.in_ok-order.order.items c.as_slice-3.result.now
    (c.as_slice.ensures.value ∙ parts) (c.as_slice-2.ensures.value ∙ parts) c.as_slice-rows.ensures.value c.as_slice-3.ensures.value c.in_ok-order.ensures.order in
    subst AreEntries (sym es) c.requires.key.entries

pub plan_of-requires-clause-none : goal.plan_of-requires-clause-none
plan_of-requires-clause-none c = λ e. no_rowids c.as_slice-2.result.now c.as_slice-rows.result.now c.as_slice-3.result.now

pub number-requires-clause-most : goal.number-requires-clause-most
number-requires-clause-most c =
    let es = index_entries c.as_slice-2.result.now c.as_slice-rows.result.now c.as_slice-3.result.now in
    let t = c.args.table.now in
    let key = parts_seen c.args.key.now in
    let parts : c.in_ok-parts.parts.items ≡ entry_parts (keys_in t) key = c.in_ok-parts.ensures ∙ ap (λ (k : Keys). entry_parts k key) c.requires.keys in
    let same : es ≡ (key_tree t key).entries = index_told t key c.as_slice.result.now c.as_slice-2.result.now c.as_slice-rows.result.now c.in_ok-order.order.items c.as_slice-3.result.now
    (c.as_slice.ensures.value ∙ parts) (c.as_slice-2.ensures.value ∙ parts) c.as_slice-rows.ensures.value c.as_slice-3.ensures.value c.in_ok-order.ensures.order in
    root_small c.args.self.now.page_size Index es c.in_ok-plan.plan c.root.result c.numbers-numbers.result.start c.in_ok-plan.ensures
    (c.root.ensures.tree c.args.self.now.page_size Index es c.in_ok-plan.ensures)
    (start_most c.args.self.now (key_tree t key) Index es c.in_ok-plan.plan c.numbers-numbers.result.start c.requires.pages refl same c.in_ok-plan.ensures c.numbers-numbers.ensures.most)

pub record_of-requires : goal.record_of-requires
record_of-requires c = subst IsWritable (sym (c.as_slice-4.ensures.value ∙ c.in_ok-values.ensures)) (c.requires.key.label c.number.result)

pub returns : goal.returns
returns c =
    let self = c.args.self.now in
    let size = self.page_size in
    let t = c.args.table.now in
    let key = parts_seen c.args.key.now in
    let vp = c.in_ok-parts.parts.items in
    let vo = c.in_ok-order.order.items in
    let parts : vp ≡ entry_parts (keys_in t) key = c.in_ok-parts.ensures ∙ ap (λ (k : Keys). entry_parts k key) c.requires.keys in
    let seen = index_entries c.as_slice-2.result.now c.as_slice-rows.result.now c.as_slice-3.result.now in
    let es : seen ≡ (key_tree t key).entries = index_told t key c.as_slice.result.now c.as_slice-2.result.now c.as_slice-rows.result.now vo c.as_slice-3.result.now
    (c.as_slice.ensures.value ∙ parts) (c.as_slice-2.ensures.value ∙ parts) c.as_slice-rows.ensures.value c.as_slice-3.ensures.value c.in_ok-order.ensures.order in
    let kept : index_entries vp t.rows.items vo ≡ (key_tree t key).entries = ap (λ (rs : List OutRow). index_entries vp rs vo) (sym c.as_slice-rows.ensures.value)
    ∙ index_told t key c.as_slice.result.now vp c.as_slice-rows.result.now vo vo
    (c.as_slice.ensures.value ∙ parts) parts c.as_slice-rows.ensures.value refl c.in_ok-order.ensures.order in
    made_is self c.args.number t.rows.items (key_tree t key) _ (key_tree t key).entries refl
    (record {
      few = c.in_ok-order.ensures.few;
      there = subst (λ (rs : List OutRow). NamesRows vo (length rs)) c.as_slice-rows.ensures.value c.in_ok-order.ensures.there;
      writable = subst (λ (ps : List KeyPart). HaveIndexRecords ps t.rows.items) (sym parts) c.requires.key.records;
    })
    kept refl (subst (HaveAtMost c.longest-longest.result) es c.longest-longest.ensures)
    (subst (λ (xs : List Entry). IsTreePlan size Index xs c.in_ok-plan.plan) es c.in_ok-plan.ensures)
    c.numbers-numbers.ensures.start c.numbers-numbers.ensures.least
    (start_most self (key_tree t key) Index seen c.in_ok-plan.plan c.numbers-numbers.result.start c.requires.pages refl es c.in_ok-plan.ensures c.numbers-numbers.ensures.most)
    (record_is_row self (key_tree t key) c.in_ok-record_of.field-0 c.as_slice-4.result.now c.numbers-numbers.result.start c.numbers-numbers.result.lock c.root.result c.number.result
    c.numbers-numbers.ensures.start c.numbers-numbers.ensures.lock
    (c.root.ensures.tree size Index seen c.in_ok-plan.ensures ∙ ap (λ (xs : List Entry). (tree_line size Index 0 xs).right) es)
    c.number.ensures (c.as_slice-4.ensures.value ∙ c.in_ok-values.ensures) c.in_ok-record_of.ensures)
