-- One page after another is put, and all are the layout.
use Rattle.std.proofs.Common.{◌≡◌, ◌∙◌, ◌++◌, [], ap, sym, subst, drop, length}
use Rattle.std.specs.List.{flat_map}
use Rattle.std.proofs.lemmas.List.{append-nil}
use Rattle.page_access.proofs.Gains.{front_as, front_end, front_out, front_start, front_step, writes_same}
use Rattle.tree_writer.specs.Layout.{schema_pages}
use Rattle.tree_writer.specs.Numbers.{number_of}
use Rattle.tree_writer.specs.Trees.{OfSchema}
use Rattle.db_builder.specs.Layout.{layout, paged, placed, tree_bytes}
use Rattle.db_builder.specs.Prepared.{HaveAtMost, schema_seen}
use Rattle.db_builder.specs.Trees.{trees_of}
use Rattle.db_builder.proofs.Whole.{schema_asks, zip_by}
use Rattle.db_builder.proofs.plans.Prepared.write.Goals as goal

pub put_first-requires-clause-plan : goal.put_first-requires-clause-plan
put_first-requires-clause-plan g c =
    let p = c.args.self.now in
    let size = p.page_size in
    let db = c.args.db.now in
    let trees = c.as_slice.result.now in
    let a = schema_asks size db p trees c.lock_of.result c.requires c.as_slice.ensures.value c.lock_of.ensures.value in
    a.schema

pub put_first-requires-clause-room : goal.put_first-requires-clause-room
put_first-requires-clause-room g c =
    let p = c.args.self.now in
    let size = p.page_size in
    let db = c.args.db.now in
    let trees = c.as_slice.result.now in
    let a = schema_asks size db p trees c.lock_of.result c.requires c.as_slice.ensures.value c.lock_of.ensures.value in
    subst (λ n. HaveAtMost n (schema_seen trees)) (sym (ap length c.as_mut_slice-scratch.ensures.value)) a.room

pub put_pages-requires-clause-plan : goal.put_pages-requires-clause-plan
put_pages-requires-clause-plan g c =
    let p = c.args.self.now in
    let size = p.page_size in
    let db = c.args.db.now in
    let trees = c.as_slice.result.now in
    let a = schema_asks size db p trees c.lock_of.result c.requires c.as_slice.ensures.value c.lock_of.ensures.value in
    OfSchema size a.schema

pub put_pages-requires-clause-room : goal.put_pages-requires-clause-room
put_pages-requires-clause-room g c =
    let p = c.args.self.now in
    let size = p.page_size in
    let db = c.args.db.now in
    let trees = c.as_slice.result.now in
    let a = schema_asks size db p trees c.lock_of.result c.requires c.as_slice.ensures.value c.lock_of.ensures.value in
    let page1 : length c.put_first.new.page ≡ size = c.put_first.auto.page ∙ ap length c.as_mut_slice-page.ensures.value ∙ c.requires.page in
    let room1 : length c.put_first.new.scratch ≡ length p.scratch.items = c.put_first.auto.scratch ∙ ap length c.as_mut_slice-scratch.ensures.value in
    subst (λ n. HaveAtMost n (schema_seen trees)) (sym (c.put_trees.auto.scratch ∙ room1)) a.room

pub returns-in_err-put_first-clause-writes : goal.returns-in_err-put_first-clause-writes
returns-in_err-put_first-clause-writes g c =
    let p = c.args.self.now in
    let size = p.page_size in
    let db = c.args.db.now in
    let trees = c.as_slice.result.now in
    let a = schema_asks size db p trees c.lock_of.result c.requires c.as_slice.ensures.value c.lock_of.ensures.value in
    let ps = placed size 0 (trees_of db.tables.items) in
    let last = paged size (number_of p.start c.lock_of.result) 0 (drop 1 (schema_pages [] size (number_of p.start c.lock_of.result) (schema_seen trees))) in
    let rest = flat_map (tree_bytes size) ps ++ last in
    let began = front_as a.whole (front_start (g.O.Sink.bytes c.args.out.now) (g.O.Sink.faults c.args.out.now) (layout size db)) in
    front_out rest c.from_residual.ensures.0 began (writes_same a.first c.in_err-put_first.ensures.writes)

pub returns-in_err-put_trees-clause-writes : goal.returns-in_err-put_trees-clause-writes
returns-in_err-put_trees-clause-writes g c =
    let p = c.args.self.now in
    let size = p.page_size in
    let db = c.args.db.now in
    let trees = c.as_slice.result.now in
    let a = schema_asks size db p trees c.lock_of.result c.requires c.as_slice.ensures.value c.lock_of.ensures.value in
    let page1 : length c.put_first.new.page ≡ size = c.put_first.auto.page ∙ ap length c.as_mut_slice-page.ensures.value ∙ c.requires.page in
    let room1 : length c.put_first.new.scratch ≡ length p.scratch.items = c.put_first.auto.scratch ∙ ap length c.as_mut_slice-scratch.ensures.value in
    let ps = placed size 0 (trees_of db.tables.items) in
    let last = paged size (number_of p.start c.lock_of.result) 0 (drop 1 (schema_pages [] size (number_of p.start c.lock_of.result) (schema_seen trees))) in
    let rest = flat_map (tree_bytes size) ps ++ last in
    let began = front_as a.whole (front_start (g.O.Sink.bytes c.args.out.now) (g.O.Sink.faults c.args.out.now) (layout size db)) in
    let one = front_step rest began (writes_same a.first c.in_ok-put_first.ensures.writes) in
    let all = zip_by size (length p.scratch.items) (length c.put_first.new.page) (length c.put_first.new.scratch) db.tables.items c.as_slice-tables.result.now ps p.trees.items trees
    (sym page1) (sym room1) (sym c.as_slice-tables.ensures.value) (sym c.as_slice.ensures.value) c.requires.trees in
    front_out last c.from_residual-in_err-put_trees.ensures.0 one (writes_same (ap (λ s. flat_map (tree_bytes s) ps) page1) (c.in_err-put_trees.ensures.writes ps all))

pub returns-in_err-put_pages-clause-writes : goal.returns-in_err-put_pages-clause-writes
returns-in_err-put_pages-clause-writes g c =
    let p = c.args.self.now in
    let size = p.page_size in
    let db = c.args.db.now in
    let trees = c.as_slice.result.now in
    let a = schema_asks size db p trees c.lock_of.result c.requires c.as_slice.ensures.value c.lock_of.ensures.value in
    let page1 : length c.put_first.new.page ≡ size = c.put_first.auto.page ∙ ap length c.as_mut_slice-page.ensures.value ∙ c.requires.page in
    let room1 : length c.put_first.new.scratch ≡ length p.scratch.items = c.put_first.auto.scratch ∙ ap length c.as_mut_slice-scratch.ensures.value in
    let ps = placed size 0 (trees_of db.tables.items) in
    let last = paged size (number_of p.start c.lock_of.result) 0 (drop 1 (schema_pages [] size (number_of p.start c.lock_of.result) (schema_seen trees))) in
    let rest = flat_map (tree_bytes size) ps ++ last in
    let began = front_as a.whole (front_start (g.O.Sink.bytes c.args.out.now) (g.O.Sink.faults c.args.out.now) (layout size db)) in
    let one = front_step rest began (writes_same a.first c.in_ok-put_first.ensures.writes) in
    let all = zip_by size (length p.scratch.items) (length c.put_first.new.page) (length c.put_first.new.scratch) db.tables.items c.as_slice-tables.result.now ps p.trees.items trees
    (sym page1) (sym room1) (sym c.as_slice-tables.ensures.value) (sym c.as_slice.ensures.value) c.requires.trees in
    let two = front_step last one (writes_same (ap (λ s. flat_map (tree_bytes s) ps) page1) (c.in_ok-put_trees.ensures.writes ps all)) in
    let pages = drop 1 (schema_pages [] size (number_of p.start c.lock_of.result) (schema_seen trees)) in
    front_out [] c.from_residual-in_err-put_pages.ensures.0 (front_as (sym (append-nil last)) two)
    (writes_same (ap (λ s. paged s (number_of p.start c.lock_of.result) 0 pages) (c.put_trees.auto.page ∙ page1)) (c.in_err-put_pages.ensures.writes pages a.others))

pub returns-clause-writes : goal.returns-clause-writes
returns-clause-writes g c =
    let p = c.args.self.now in
    let size = p.page_size in
    let db = c.args.db.now in
    let trees = c.as_slice.result.now in
    let a = schema_asks size db p trees c.lock_of.result c.requires c.as_slice.ensures.value c.lock_of.ensures.value in
    let page1 : length c.put_first.new.page ≡ size = c.put_first.auto.page ∙ ap length c.as_mut_slice-page.ensures.value ∙ c.requires.page in
    let room1 : length c.put_first.new.scratch ≡ length p.scratch.items = c.put_first.auto.scratch ∙ ap length c.as_mut_slice-scratch.ensures.value in
    let ps = placed size 0 (trees_of db.tables.items) in
    let last = paged size (number_of p.start c.lock_of.result) 0 (drop 1 (schema_pages [] size (number_of p.start c.lock_of.result) (schema_seen trees))) in
    let rest = flat_map (tree_bytes size) ps ++ last in
    let began = front_as a.whole (front_start (g.O.Sink.bytes c.args.out.now) (g.O.Sink.faults c.args.out.now) (layout size db)) in
    let one = front_step rest began (writes_same a.first c.in_ok-put_first.ensures.writes) in
    let all = zip_by size (length p.scratch.items) (length c.put_first.new.page) (length c.put_first.new.scratch) db.tables.items c.as_slice-tables.result.now ps p.trees.items trees
    (sym page1) (sym room1) (sym c.as_slice-tables.ensures.value) (sym c.as_slice.ensures.value) c.requires.trees in
    let two = front_step last one (writes_same (ap (λ s. flat_map (tree_bytes s) ps) page1) (c.in_ok-put_trees.ensures.writes ps all)) in
    let pages = drop 1 (schema_pages [] size (number_of p.start c.lock_of.result) (schema_seen trees)) in
    front_end (front_step [] (front_as (sym (append-nil last)) two)
    (writes_same (ap (λ s. paged s (number_of p.start c.lock_of.result) 0 pages) (c.put_trees.auto.page ∙ page1)) (c.in_ok-put_pages.ensures.writes pages a.others)))
