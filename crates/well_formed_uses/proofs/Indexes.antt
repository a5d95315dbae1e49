-- The trees that the index rows of a well-formed file want are those that it has.
use Rattle.std.proofs.Common.{◌≡◌, ◌≤◌, ℕ, suc, ◌+◌, true, false, Option, Some, None, List, [], ◌∷◌, ◌++◌, length, map, refl, sym, ap, ◌∙◌, subst, inl, inr, arith, length-append}
use Rattle.std.specs.Prelude.{pos, is_none, is_some}
use Rattle.std.specs.List.{AllByRecursion, AllZip, concat, flat_map}
use Rattle.std.proofs.lemmas.Bool.{cases_Bool, false≢true}
use Rattle.std.proofs.lemmas.Grind.{flat_map-append}
use Rattle.std.proofs.lemmas.List.Folds.{concat-append}
use Rattle.page_access.specs.Pages.{File}
use Rattle.page_lists.specs.Lists.{count}
use Rattle.page_lists.proofs.Counts.{count-append}
use Rattle.page_walk.proofs.Going.{all_append}
use Rattle.cell_reader.specs.declared.shapes.Kind.{Kind}
use Rattle.cell_reader.specs.declared.shapes.Kind.TheVariants as kinds
use Rattle.raw_schema.specs.declared.rows.SchemaKind.{SchemaKind}
use Rattle.raw_schema.specs.declared.rows.SchemaKind.TheVariants.{Table, Index, View, Trigger}
use Rattle.raw_schema.specs.declared.rows.SchemaRow.{SchemaRow}
use Rattle.table_shape.specs.Keys.{KeyParts, Keys, keys_of}
use Rattle.tree_uses.specs.declared.walks.WantedTree.{WantedTree}
use Rattle.use_order.specs.Order.{index_trees, is_index}
use Rattle.well_formed.specs.Database.{TableRows}
use Rattle.well_formed.specs.Indexes.{AreKeyIndexes, HaveIndexes, IsKeyIndex, IsOtherIndex, automatic_rows, is_index_of, named_index_rows}
use Rattle.well_formed.specs.Spells.{all_keys}
use Rattle.well_formed.specs.Tables.{is_of}
use Rattle.well_formed_uses.specs.Trees.{IsGrown, IsWanted, StoredTree, own_chains, own_pages}
use Rattle.well_formed_uses.proofs.Arranging.{IsKeyTree, KeyTree, arranged, count_moved, key_chains, key_pages, key_row}
use Rattle.well_formed_uses.proofs.Stored.{all_moved, stored_is, tree_in}

-- ---- the keys of all tables, one after another

-- so many keys, each with its row and its tree, and the pages of these
record Keyed (f : File) (rows : List SchemaRow) (used : List (List ℕ)) : Type 0 where
  keys : List KeyTree
  are : AllByRecursion (IsKeyTree f rows) keys
  many : length keys ≡ length used
  used_are : (q : ℕ) → count q (concat used) ≡ count q (flat_map (key_pages f) keys) + count q (flat_map (key_chains f) keys)

key_tree : (f : File) (rows : List SchemaRow) (t : TableRows) (ks : Keys) (key : KeyParts) (used : List ℕ) → IsKeyIndex f rows t ks key used → KeyTree
key_tree f rows t ks key used is = record { test = is_index_of t.name key.number; row = is.row; tree = tree_in is.stored }

one_keyed : (f : File) (rows : List SchemaRow) (t : TableRows) (ks : Keys) (key : KeyParts) (x : List ℕ) (used : List (List ℕ))
    → IsKeyIndex f rows t ks key x → Keyed f rows used → Keyed f rows (x ∷ used)
unfolding key_tree
one_keyed f rows t ks key x used is k =
    let w = stored_is is.stored in
    let one : KeyTree = key_tree f rows t ks key x is in
    record {
      keys = one ∷ k.keys;
      are = (record { one = is.one; root_is = is.root_is; kind_is = refl; grown = w.grown }, k.are);
      many = ap suc k.many;
      used_are = λ q. omega (
        arith,
        count-append q x (concat used),
        w.used_are q,
        k.used_are q,
        count-append q (key_pages f one) (flat_map (key_pages f) k.keys),
        count-append q (key_chains f one) (flat_map (key_chains f) k.keys),
      );
    }

keyed_table : (f : File) (rows : List SchemaRow) (t : TableRows) (ks : Keys) (keys : List KeyParts) (used : List (List ℕ))
    → AreKeyIndexes f rows t ks keys used → Keyed f rows used
keyed_table f rows t ks [] [] are = record { keys = []; are = tt; many = refl; used_are = λ q. refl }
keyed_table f rows t ks [] (x ∷ used) are = absurd are
keyed_table f rows t ks (key ∷ keys) [] are = absurd are
keyed_table f rows t ks (key ∷ keys) (x ∷ used) are =
    one_keyed f rows t ks key x used are.0 (keyed_table f rows t ks keys used are.1)

both_keyed : (f : File) (rows : List SchemaRow) (used more : List (List ℕ)) → Keyed f rows used → Keyed f rows more → Keyed f rows (used ++ more)
both_keyed f rows used more a b = record {
  keys = a.keys ++ b.keys;
  are = all_append (IsKeyTree f rows) a.keys b.keys a.are b.are;
  many = omega (arith, a.many, b.many, length-append a.keys b.keys, length-append used more);
  used_are = λ q. omega (
    arith,
    ap (count q) (concat-append used more),
    count-append q (concat used) (concat more),
    a.used_are q,
    b.used_are q,
    ap (count q) (flat_map-append (key_pages f) a.keys b.keys),
    count-append q (flat_map (key_pages f) a.keys) (flat_map (key_pages f) b.keys),
    ap (count q) (flat_map-append (key_chains f) a.keys b.keys),
    count-append q (flat_map (key_chains f) a.keys) (flat_map (key_chains f) b.keys),
  );
}

keyed : (f : File) (rows : List SchemaRow) (ts : List TableRows) (used : List (List (List ℕ))) → HaveIndexes f rows ts used → Keyed f rows (all_keys used)
keyed f rows [] [] have = record { keys = []; are = tt; many = refl; used_are = λ q. refl }
keyed f rows [] (x ∷ used) have = absurd have
keyed f rows (t ∷ ts) [] have = absurd have
keyed f rows (t ∷ ts) (x ∷ used) have =
    both_keyed f rows x (all_keys used) (keyed_table f rows t (keys_of have.0.shape) (keys_of have.0.shape).keys x have.0.indexes) (keyed f rows ts used have.1)

-- ---- the index rows in the order of the schema

-- an index row and its tree
abbrev IsIndexTree : File → SchemaRow → StoredTree → Type 0
IsIndexTree f row t = (row.root ≡ pos t.root) × (t.kind ≡ kinds.Index) × IsGrown f t

-- the trees of some index rows, and the pages of these
pub record IndexTrees (f : File) (rows : List SchemaRow) (used : List (List ℕ)) : Type 0 where
  pub trees : List StoredTree
  pub are : AllZip (IsIndexTree f) rows trees
  pub used_are : (q : ℕ) → count q (concat used) ≡ count q (flat_map (own_pages f) trees) + count q (flat_map (own_chains f) trees)

automatic : (f : File) (all : List SchemaRow) (keys : List KeyTree) → AllByRecursion (IsKeyTree f all) keys
    → AllZip (IsIndexTree f) (map key_row keys) (map (λ (k : KeyTree). k.tree) keys)
automatic f all [] are = tt
automatic f all (k ∷ keys) are = ((are.0.root_is, are.0.kind_is, are.0.grown), automatic f all keys are.1)

key_lists : (g : StoredTree → List ℕ) (keys : List KeyTree) → flat_map g (map (λ (k : KeyTree). k.tree) keys) ≡ flat_map (λ (k : KeyTree). g k.tree) keys
key_lists g [] = refl
key_lists g (k ∷ keys) = ap (λ (xs : List ℕ). g k.tree ++ xs) (key_lists g keys)

automatic_trees : (f : File) (all : List SchemaRow) (ts : List TableRows) (used : List (List (List ℕ))) → HaveIndexes f all ts used
    → length all ≡ length (all_keys used) → ((q : ℕ) → count q (concat (all_keys used)) ≤ 1) → IndexTrees f all (all_keys used)
automatic_trees f all ts used have many once =
    let k = keyed f all ts used have in
    let a = arranged f all k.keys k.are (λ q. omega (arith, once q, k.used_are q)) (many ∙ sym k.many) in
    let trees : List StoredTree = map (λ (j : KeyTree). j.tree) a.keys in
    record {
      trees = trees;
      are = subst (λ (rs : List SchemaRow). AllZip (IsIndexTree f) rs trees) a.rows_are
          (automatic f all a.keys (all_moved (IsKeyTree f all) k.keys a.keys a.moved k.are));
      used_are = λ q. omega (
        arith,
        k.used_are q,
        count_moved (key_pages f) q k.keys a.keys a.moved,
        count_moved (key_chains f) q k.keys a.keys a.moved,
        ap (count q) (key_lists (own_pages f) a.keys),
        ap (count q) (key_lists (own_chains f) a.keys),
      );
    }

other_trees : (f : File) (rows : List SchemaRow) (used : List (List ℕ)) → AllZip (IsOtherIndex f) rows used → IndexTrees f rows used
other_trees f [] [] are = record { trees = []; are = tt; used_are = λ q. refl }
other_trees f [] (x ∷ used) are = absurd are
other_trees f (row ∷ rows) [] are = absurd are
other_trees f (row ∷ rows) (x ∷ used) are =
    let w = stored_is are.0.stored in
    let t : StoredTree = tree_in are.0.stored in
    let more = other_trees f rows used are.1 in
    record {
      trees = t ∷ more.trees;
      are = ((are.0.root_is, refl, w.grown), more.are);
      used_are = λ q. omega (
        arith,
        count-append q x (concat used),
        w.used_are q,
        more.used_are q,
        count-append q (own_pages f t) (flat_map (own_pages f) more.trees),
        count-append q (own_chains f t) (flat_map (own_chains f) more.trees),
      );
    }

-- ---- both in one order

index_sort : (kind : SchemaKind) → is_of Index kind ≡ is_index kind
index_sort Table = refl
index_sort Index = refl
index_sort View = refl
index_sort Trigger = refl

-- the index rows from row i on with their trees, which are those of both sorts
record Merged (f : File) (i : ℕ) (rows : List SchemaRow) (autos others : List StoredTree) : Type 0 where
  trees : List StoredTree
  are : AllZip (IsWanted f) (index_trees i rows) (map (λ (t : StoredTree). Some t) trees)
  pages_are : (q : ℕ) → count q (flat_map (own_pages f) trees) ≡ count q (flat_map (own_pages f) autos) + count q (flat_map (own_pages f) others)
  chains_are : (q : ℕ) → count q (flat_map (own_chains f) trees) ≡ count q (flat_map (own_chains f) autos) + count q (flat_map (own_chains f) others)

other_step : (row : SchemaRow) (rows : List SchemaRow) (i : ℕ) → is_index row.kind ≡ false
    → (index_trees i (row ∷ rows) ≡ index_trees (i + 1) rows) × (automatic_rows (row ∷ rows) ≡ automatic_rows rows) × (named_index_rows (row ∷ rows) ≡ named_index_rows rows)
other_step row rows i e = let sort : is_of Index row.kind ≡ false = index_sort row.kind ∙ e in (rw e refl, rw sort refl, rw sort refl)

index_step : (row : SchemaRow) (rows : List SchemaRow) (i : ℕ) → is_index row.kind ≡ true
    → index_trees i (row ∷ rows) ≡ record { row = i; root = row.root; kind = Some kinds.Index } ∷ index_trees (i + 1) rows
index_step row rows i e = rw e refl

some_none : (sql : Option (List ℕ)) → is_none sql ≡ true → is_some sql ≡ false
some_none None e = refl
some_none (Some text) e = absurd (false≢true e)

none_some : (sql : Option (List ℕ)) → is_none sql ≡ false → is_some sql ≡ true
none_some None e = absurd (false≢true (sym e))
none_some (Some text) e = refl

automatic_step : (row : SchemaRow) (rows : List SchemaRow) → is_index row.kind ≡ true → is_none row.sql ≡ true
    → (automatic_rows (row ∷ rows) ≡ row ∷ automatic_rows rows) × (named_index_rows (row ∷ rows) ≡ named_index_rows rows)
automatic_step row rows e none =
    let sort : is_of Index row.kind ≡ true = index_sort row.kind ∙ e in (rw (sort, none) refl, rw (sort, some_none row.sql none) refl)

named_step : (row : SchemaRow) (rows : List SchemaRow) → is_index row.kind ≡ true → is_none row.sql ≡ false
    → (automatic_rows (row ∷ rows) ≡ automatic_rows rows) × (named_index_rows (row ∷ rows) ≡ row ∷ named_index_rows rows)
named_step row rows e some =
    let sort : is_of Index row.kind ≡ true = index_sort row.kind ∙ e in (rw (sort, some) refl, rw (sort, none_some row.sql some) refl)

wanted_tree : (f : File) (row : SchemaRow) (i : ℕ) (t : StoredTree) → IsIndexTree f row t → IsWanted f (record { row = i; root = row.root; kind = Some kinds.Index }) (Some t)
wanted_tree f row i t is = (is.0, ap (λ (k : Kind). Some k) (sym is.1), is.2)

first_auto : (f : File) (row : SchemaRow) (rows : List SchemaRow) (i : ℕ) (autos others : List StoredTree) → is_index row.kind ≡ true
    → ((xs ys : List StoredTree) → AllZip (IsIndexTree f) (automatic_rows rows) xs → AllZip (IsIndexTree f) (named_index_rows rows) ys → Merged f (i + 1) rows xs ys)
    → AllZip (IsIndexTree f) (row ∷ automatic_rows rows) autos → AllZip (IsIndexTree f) (named_index_rows rows) others → Merged f i (row ∷ rows) autos others
first_auto f row rows i [] others e below a b = absurd a
first_auto f row rows i (t ∷ autos) others e below a b =
    let m = below autos others a.1 b in
    record {
      trees = t ∷ m.trees;
      are = subst (λ (ws : List WantedTree). AllZip (IsWanted f) ws (map (λ (x : StoredTree). Some x) (t ∷ m.trees))) (sym (index_step row rows i e))
          (wanted_tree f row i t a.0, m.are);
      pages_are = λ q. omega (arith, m.pages_are q, count-append q (own_pages f t) (flat_map (own_pages f) m.trees), count-append q (own_pages f t) (flat_map (own_pages f) autos));
      chains_are = λ q. omega (arith, m.chains_are q, count-append q (own_chains f t) (flat_map (own_chains f) m.trees), count-append q (own_chains f t) (flat_map (own_chains f) autos));
    }

first_named : (f : File) (row : SchemaRow) (rows : List SchemaRow) (i : ℕ) (autos others : List StoredTree) → is_index row.kind ≡ true
    → ((xs ys : List StoredTree) → AllZip (IsIndexTree f) (automatic_rows rows) xs → AllZip (IsIndexTree f) (named_index_rows rows) ys → Merged f (i + 1) rows xs ys)
    → AllZip (IsIndexTree f) (automatic_rows rows) autos → AllZip (IsIndexTree f) (row ∷ named_index_rows rows) others → Merged f i (row ∷ rows) autos others
first_named f row rows i autos [] e below a b = absurd b
first_named f row rows i autos (t ∷ others) e below a b =
    let m = below autos others a b.1 in
    record {
      trees = t ∷ m.trees;
      are = subst (λ (ws : List WantedTree). AllZip (IsWanted f) ws (map (λ (x : StoredTree). Some x) (t ∷ m.trees))) (sym (index_step row rows i e))
          (wanted_tree f row i t b.0, m.are);
      pages_are = λ q. omega (arith, m.pages_are q, count-append q (own_pages f t) (flat_map (own_pages f) m.trees), count-append q (own_pages f t) (flat_map (own_pages f) others));
      chains_are = λ q. omega (arith, m.chains_are q, count-append q (own_chains f t) (flat_map (own_chains f) m.trees), count-append q (own_chains f t) (flat_map (own_chains f) others));
    }

no_trees : (f : File) (autos others : List StoredTree) (i : ℕ) → AllZip (IsIndexTree f) [] autos → AllZip (IsIndexTree f) [] others → Merged f i [] autos others
no_trees f [] [] i a b = record { trees = []; are = tt; pages_are = λ q. refl; chains_are = λ q. refl }
no_trees f [] (t ∷ others) i a b = absurd b
no_trees f (t ∷ autos) others i a b = absurd a

merged : (f : File) (rows : List SchemaRow) (i : ℕ) (autos others : List StoredTree) → AllZip (IsIndexTree f) (automatic_rows rows) autos
    → AllZip (IsIndexTree f) (named_index_rows rows) others → Merged f i rows autos others
merged f [] i autos others a b = no_trees f autos others i a b
merged f (row ∷ rows) i autos others a b =
    elim (cases_Bool (is_index row.kind)) [
      | inl e ↦
          elim (cases_Bool (is_none row.sql)) [
            | inl none ↦
                let step = automatic_step row rows e none in
                first_auto f row rows i autos others e (λ xs ys x y. merged f rows (i + 1) xs ys x y)
                (subst (λ (rs : List SchemaRow). AllZip (IsIndexTree f) rs autos) step.0 a)
                (subst (λ (rs : List SchemaRow). AllZip (IsIndexTree f) rs others) step.1 b)
            | inr some ↦
                let step = named_step row rows e some in
                first_named f row rows i autos others e (λ xs ys x y. merged f rows (i + 1) xs ys x y)
                (subst (λ (rs : List SchemaRow). AllZip (IsIndexTree f) rs autos) step.0 a)
                (subst (λ (rs : List SchemaRow). AllZip (IsIndexTree f) rs others) step.1 b)
          ]
      | inr e ↦
          let step = other_step row rows i e in
          let m = merged f rows (i + 1) autos others (subst (λ (rs : List SchemaRow). AllZip (IsIndexTree f) rs autos) step.1 a)
          (subst (λ (rs : List SchemaRow). AllZip (IsIndexTree f) rs others) step.2 b) in
          record {
            trees = m.trees;
            are = subst (λ (ws : List WantedTree). AllZip (IsWanted f) ws (map (λ (x : StoredTree). Some x) m.trees)) (sym step.0) m.are;
            pages_are = m.pages_are;
            chains_are = m.chains_are;
          }
    ]

-- the trees of all index rows, as these want them, and the pages of these
pub record IndexesWanted (f : File) (rows : List SchemaRow) (keys others : List (List ℕ)) : Type 0 where
  pub trees : List StoredTree
  pub are : AllZip (IsWanted f) (index_trees 0 rows) (map (λ (t : StoredTree). Some t) trees)
  pub used_are : (q : ℕ) → count q (concat keys) + count q (concat others) ≡ count q (flat_map (own_pages f) trees) + count q (flat_map (own_chains f) trees)

pub indexes_wanted : (f : File) (rows : List SchemaRow) (ts : List TableRows) (keys : List (List (List ℕ))) (others : List (List ℕ)) → HaveIndexes f (automatic_rows rows) ts keys
    → length (automatic_rows rows) ≡ length (all_keys keys) → AllZip (IsOtherIndex f) (named_index_rows rows) others
    → ((q : ℕ) → count q (concat (all_keys keys)) ≤ 1) → IndexesWanted f rows (all_keys keys) others
indexes_wanted f rows ts keys others have many named once =
    let a = automatic_trees f (automatic_rows rows) ts keys have many once in
    let b = other_trees f (named_index_rows rows) others named in
    let m = merged f rows 0 a.trees b.trees a.are b.are in
    record {
      trees = m.trees;
      are = m.are;
      used_are = λ q. omega (arith, a.used_are q, b.used_are q, m.pages_are q, m.chains_are q);
    }
