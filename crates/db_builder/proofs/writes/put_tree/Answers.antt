use Rattle.std.proofs.Common.{ℕ, ◌<◌, List, length, ap, sym, subst, arith}
use Rattle.page_access.proofs.Gains.{writes_same}
use Rattle.table_shape.specs.declared.rows.OutRow.{OutRow}
use Rattle.table_shape.specs.declared.keys.KeyPart.{KeyPart}
use Rattle.tree_writer.specs.Layout.{tree_pages}
use Rattle.db_builder.specs.Layout.{number_in, paged}
use Rattle.db_builder.specs.Views.{HaveIndexRecords, NamesRows}
use Rattle.db_builder.proofs.Planned.{asks_index, asks_rows, can_index, rows_there}
use Rattle.db_builder.proofs.writes.put_tree.Goals as goal

pub put_pages-requires : goal.put_pages-requires
put_pages-requires g c =
    let tables = c.args.tables.now in
    let p = c.requires.planned.0 in
    let is = c.requires.planned.1 in
    let there = rows_there _ _ tables c.index-tables-tree.result c.as_slice-rows.result.now p c.args.tree.now is c.index-tables-tree.is c.as_slice-rows.ensures.value in
    let a = asks_rows _ _ c.args.lock tables _ p c.args.tree.now is c.requires.lock c.in-None.is there in
    record { plan = a.plan; size = a.usable; room = a.room; lock = c.requires.lock; least = a.least; most = a.most; first = omega arith }

pub invariant_of-entries-in-Some : goal.invariant_of-entries-in-Some
invariant_of-entries-in-Some g c =
    let tables = c.args.tables.now in
    let p = c.requires.planned.0 in
    let is = c.requires.planned.1 in
    let there = rows_there _ _ tables c.index-tables-tree.result c.as_slice-rows.result.now p c.args.tree.now is c.index-tables-tree.is c.as_slice-rows.ensures.value in
    let can = can_index _ _ tables p c.args.tree.now c.in-Some.index is c.in-Some.is in
    record {
      few = subst (λ (xs : List ℕ). length xs < 4294967296) (sym c.as_slice-in-Some.ensures.value) can.few;
      there = subst (λ (xs : List ℕ). NamesRows xs (length c.as_slice-rows.result.now)) (sym c.as_slice-in-Some.ensures.value)
          (subst (λ (rs : List OutRow). NamesRows c.in-Some.index.order.items (length rs)) (sym there) can.there);
      writable = subst (λ (ps : List KeyPart). HaveIndexRecords ps c.as_slice-rows.result.now) (sym c.as_slice.ensures.value)
          (subst (λ (rs : List OutRow). HaveIndexRecords c.in-Some.index.parts.items rs) (sym there) can.writable);
    }

pub put_pages-requires-in-Some : goal.put_pages-requires-in-Some
put_pages-requires-in-Some g c =
    let tables = c.args.tables.now in
    let p = c.requires.planned.0 in
    let is = c.requires.planned.1 in
    let there = rows_there _ _ tables c.index-tables-tree.result c.as_slice-rows.result.now p c.args.tree.now is c.index-tables-tree.is c.as_slice-rows.ensures.value in
    let a = asks_index _ _ c.args.lock tables _ p c.args.tree.now _ _ _ is c.requires.lock c.in-Some.is c.as_slice.ensures.value c.as_slice-in-Some.ensures.value there in
    record { plan = a.plan; size = a.usable; room = a.room; lock = c.requires.lock; least = a.least; most = a.most; first = omega arith }

pub returns-in-None-clause-writes : goal.returns-in-None-clause-writes
returns-in-None-clause-writes g c = λ p is.
    let size = length c.args.page.now in
    let tables = c.args.tables.now in
    let there = rows_there _ _ tables c.index-tables-tree.result c.as_slice-rows.result.now p c.args.tree.now is c.index-tables-tree.is c.as_slice-rows.ensures.value in
    let a = asks_rows _ _ c.args.lock tables _ p c.args.tree.now is c.requires.lock c.in-None.is there in
    let pages = tree_pages size p.tree.kind (number_in size p) p.tree.entries in
    writes_same (ap (λ (f : ℕ → ℕ). paged size f 0 pages) a.number) (c.put_pages.ensures.writes pages a.pages)

pub returns-in-Some-clause-writes : goal.returns-in-Some-clause-writes
returns-in-Some-clause-writes g c = λ p is.
    let size = length c.args.page.now in
    let tables = c.args.tables.now in
    let there = rows_there _ _ tables c.index-tables-tree.result c.as_slice-rows.result.now p c.args.tree.now is c.index-tables-tree.is c.as_slice-rows.ensures.value in
    let a = asks_index _ _ c.args.lock tables _ p c.args.tree.now _ _ _ is c.requires.lock c.in-Some.is c.as_slice.ensures.value c.as_slice-in-Some.ensures.value there in
    let pages = tree_pages size p.tree.kind (number_in size p) p.tree.entries in
    writes_same (ap (λ (f : ℕ → ℕ). paged size f 0 pages) a.number) (c.put_pages-in-Some.ensures.writes pages a.pages)
