-- A prepared database, and the whole file.
use Rattle.std.proofs.Common.{◌≡◌, ◌≤◌, ◌++◌, ℕ, List, [], ◌∷◌, length, get_or, drop, map, sym, ap, ◌∙◌, refl, subst, arith}
use Rattle.std.specs.List.{AllZip, flat_map}
use Rattle.table_shape.specs.declared.rows.OutTable.{OutTable}
use Rattle.tree_writer.specs.Entry.{Entry}
use Rattle.tree_writer.specs.Layout.{schema_pages}
use Rattle.tree_writer.specs.Numbers.{number_of}
use Rattle.tree_writer.specs.Trees.{IsSchemaPlan}
use Rattle.db_builder.specs.declared.databases.OutDb.{OutDb}
use Rattle.db_builder.specs.declared.plans.PlannedTree.{PlannedTree}
use Rattle.db_builder.specs.declared.plans.Prepared.{Prepared}
use Rattle.db_builder.specs.Layout.{Placed, layout, lock_of, numbered, paged, pages_of_schema, pages_of_trees, placed, schema_entries, schema_record, start_of, tree_bytes}
use Rattle.db_builder.specs.Header.{header_bytes}
use Rattle.db_builder.specs.Prepared.{HaveAtMost, IsPlanned, IsPrepared, records_of, schema_seen}
use Rattle.db_builder.specs.Trees.{Tree, trees_of}
use Rattle.db_builder.specs.Written.{ArePages, OfSchema}

-- the records of planned trees are those of the schema
pub records_are : (size longest : ℕ) (tables : List OutTable) (ps : List Placed) (ts : List PlannedTree) → AllZip (IsPlanned size tables longest) ps ts
    → records_of ts ≡ map (schema_record size) ps
records_are size longest tables [] [] all = refl
records_are size longest tables [] (t ∷ ts) all = absurd all
records_are size longest tables (p ∷ ps) [] all = absurd all
records_are size longest tables (p ∷ ps) (t ∷ ts) all =
    ap (λ b. b ∷ records_of ts) all.0.row ∙ ap (λ bs. schema_record size p ∷ bs) (records_are size longest tables ps ts all.1)

abbrev pub header_by : ℕ → ℕ → OutDb → List ℕ
header_by size pages db = header_bytes (record {
  size = size;
  pages = pages;
  user_version = db.user_version;
  application_id = db.application_id;
})

-- what the calls that put the schema's pages ask, and what its pages are
pub record SchemaAsks (size : ℕ) (db : OutDb) (p : Prepared) (trees : List PlannedTree) (lock : ℕ) : Type 0 where
  pub schema : IsSchemaPlan size (schema_seen trees) p.schema
  pub room : HaveAtMost (length p.scratch.items) (schema_seen trees)
  pub first : get_or (schema_pages (header_by size p.pages db) size (number_of p.start lock) (schema_seen trees)) 0 [] ≡ get_or (pages_of_schema size db) 0 []
  pub others : ArePages (schema_seen trees) (number_of p.start lock) p.schema 1 (drop 1 (schema_pages [] size (number_of p.start lock) (schema_seen trees)))
  pub whole : layout size db ≡ get_or (pages_of_schema size db) 0 [] ++ (flat_map (tree_bytes size) (placed size 0 (trees_of db.tables.items))
      ++ paged size (number_of p.start lock) 0 (drop 1 (schema_pages [] size (number_of p.start lock) (schema_seen trees))))
  pub some : 1 ≤ p.schema.count

pub schema_asks : (size : ℕ) (db : OutDb) (p : Prepared) (trees : List PlannedTree) (lock : ℕ) → IsPrepared size db p → trees ≡ p.trees.items → lock ≡ lock_of size
    → SchemaAsks size db p trees lock
unfolding layout
schema_asks size db p trees lock is same locked =
    let all = trees_of db.tables.items in
    let es : schema_seen trees ≡ schema_entries size all =
    ap schema_seen same ∙ ap (numbered 1) (records_are size (length p.scratch.items) db.tables.items (placed size 0 all) p.trees.items is.trees) in
    let number : number_of p.start lock ≡ number_of (start_of size (pages_of_trees size all)) (lock_of size) =
    ap (λ s. number_of s lock) is.start ∙ ap (number_of (start_of size (pages_of_trees size all))) locked in
    let pages : (front : List ℕ) → schema_pages front size (number_of p.start lock) (schema_seen trees)
    ≡ schema_pages front size (number_of (start_of size (pages_of_trees size all)) (lock_of size)) (schema_entries size all) =
    λ front. ap (λ (f : ℕ → ℕ). schema_pages front size f (schema_seen trees)) number
    ∙ ap (schema_pages front size (number_of (start_of size (pages_of_trees size all)) (lock_of size))) es in
    let schema : IsSchemaPlan size (schema_seen trees) p.schema = subst (λ (xs : List Entry). IsSchemaPlan size xs p.schema) (sym es) is.schema in
    record {
      schema = schema;
      room = subst (HaveAtMost (length p.scratch.items)) (sym es) is.short;
      first = ap (λ ps. get_or ps 0 []) (pages (header_by size p.pages db))
          ∙ ap (λ n. get_or (schema_pages (header_by size n db) size (number_of (start_of size (pages_of_trees size all)) (lock_of size)) (schema_entries size all)) 0 []) is.pages;
      others = OfSchema size schema refl refl;
      whole = ap (λ ps. get_or (pages_of_schema size db) 0 [] ++ (flat_map (tree_bytes size) (placed size 0 all) ++ ps))
          (ap (λ ps. paged size (number_of (start_of size (pages_of_trees size all)) (lock_of size)) 0 (drop 1 ps)) (sym (pages []))
          ∙ ap (λ (f : ℕ → ℕ). paged size f 0 (drop 1 (schema_pages [] size (number_of p.start lock) (schema_seen trees)))) (sym number));
      some = omega (arith, is.schema.count);
    }

-- the same trees, told otherwise
pub zip_by : (size longest s l : ℕ) (tables tables' : List OutTable) (ps : List Placed) (ts ts' : List PlannedTree) → size ≡ s → longest ≡ l → tables ≡ tables' → ts ≡ ts'
    → AllZip (IsPlanned size tables longest) ps ts → AllZip (IsPlanned s tables' l) ps ts'
zip_by size longest s l tables tables' ps ts ts' a b c d all =
    subst (λ n. AllZip (IsPlanned n tables' l) ps ts') a (subst (λ n. AllZip (IsPlanned size tables' n) ps ts') b
    (subst (λ (x : List OutTable). AllZip (IsPlanned size x longest) ps ts') c (subst (AllZip (IsPlanned size tables longest) ps) d all)))

-- the entries of the schema are the records of the planned trees
pub seen_entries : (size longest : ℕ) (tables : List OutTable) (all : List Tree) (ts : List PlannedTree) → AllZip (IsPlanned size tables longest) (placed size 0 all) ts
    → schema_seen ts ≡ schema_entries size all
seen_entries size longest tables all ts zip = ap (numbered 1) (records_are size longest tables (placed size 0 all) ts zip)
