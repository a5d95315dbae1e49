use Rattle.std.proofs.Common.{◌≡◌, ℕ, arith, ◌∙◌, ◌+◌, ◌++◌, List, [], ◌∷◌, ap, sym, subst, map, take, append_assoc}
use Rattle.std.proofs.lemmas.List.{map_more, take_all}
use Rattle.std.proofs.lemmas.List.Sums.{sum_by-cons}
use Rattle.table_shape.specs.declared.keys.KeyPlan.{KeyPlan}
use Rattle.table_shape.specs.declared.keys.TablePlan.{TablePlan}
use Rattle.table_shape.specs.declared.rows.OutRow.{OutRow}
use Rattle.table_shape.specs.declared.rows.OutTable.{OutTable}
use Rattle.table_shape.specs.Keys.{Keys, keys_seen, parts_seen}
use Rattle.std.specs.List.{AllByRecursion}
use Rattle.tree_writer.specs.Trees.{tree_count}
use Rattle.db_builder.specs.Layout.{pages_of_trees}
use Rattle.db_builder.specs.Plannable.{IsKeyPlannable}
use Rattle.db_builder.specs.SoFar.{IsMade, IsSoFar}
use Rattle.db_builder.specs.Trees.{Tree, key_tree, keys_in, table_tree}
use Rattle.tree_writer.proofs.Adding.{map_map}
use Rattle.db_builder.proofs.Taking.{all_at, keys_more, keys_pages}
use Rattle.db_builder.proofs.planners.Planner.add_table.Goals as goal

abbrev count : ℕ → Tree → ℕ
count size t = tree_count size t.kind t.entries

-- the trees of the keys of the plan are those of the keys of the table
trees_are : (t : OutTable) (plan : TablePlan) (items : List KeyPlan) → items ≡ plan.keys.items → keys_seen plan ≡ keys_in t
    → map (λ k. key_tree t (parts_seen k)) items ≡ map (key_tree t) (keys_in t).keys
trees_are t plan items e same = ap (map (λ (k : KeyPlan). key_tree t (parts_seen k))) e ∙ sym (map_map (key_tree t) parts_seen plan.keys.items)
    ∙ ap (λ (ks : Keys). map (key_tree t) ks.keys) same

pub loop-key-init : goal.loop-key-init
loop-key-init c = (
  c.in_ok-add.ensures.size,
  λ tables done lt same so.
      c.in_ok-add.ensures.trees tables done c.args.number (table_tree c.args.table.now) lt
      (subst (λ (rs : List OutRow). IsMade c.args.self.now c.args.number rs (table_tree c.args.table.now) c.in_ok-rows.rows) (sym same) c.in_ok-rows.ensures) so,
  omega (arith, c.in_ok-add.ensures.before, c.in_ok-rows.ensures.count, sum_by-cons (count c.args.self.now.page_size) (table_tree c.args.table.now) []),
)

pub plan_rows-requires-clause-pages : goal.plan_rows-requires-clause-pages
plan_rows-requires-clause-pages c =
    let t = c.args.table.now in
    omega (arith, c.requires.pages, sum_by-cons (count c.args.self.now.page_size) (table_tree t) (map (key_tree t) (keys_in t).keys))

pub add-requires : goal.add-requires
add-requires c =
    let t = c.args.table.now in
    omega (arith, c.requires.pages, c.in_ok-rows.ensures.count, sum_by-cons (count c.args.self.now.page_size) (table_tree t) (map (key_tree t) (keys_in t).keys))

pub add-requires-in-loop-key : goal.add-requires-in-loop-key
add-requires-in-loop-key c =
    let t = c.args.table.now in
    let f : KeyPlan → Tree = λ k. key_tree t (parts_seen k) in
    let size = c.args.self.now.page_size in
    let key = c.key-item.result in
    omega (
      arith,
      c.in_ok-tree.ensures.count,
      c.loop-key.invariant.2,
      c.requires.pages,
      keys_pages size (table_tree t) f c.as_slice-key-items.result.now c.loop-key.key-index key c.loop-key-test.true c.key-item.is,
      ap (λ ts. pages_of_trees size (table_tree t ∷ ts)) (trees_are t c.in_ok-keys.keys c.as_slice-key-items.result.now c.as_slice-key-items.ensures.value c.in_ok-keys.ensures),
      ap (λ n. count n (f key)) c.loop-key.invariant.0,
    )

pub plan_key-requires : goal.plan_key-requires
plan_key-requires c =
    let t = c.args.table.now in
    let items : (c.in_ok-keys.keys.keys.items) ≡ c.as_slice-key-items.result.now = sym c.as_slice-key-items.ensures.value in
    let all : AllByRecursion (IsKeyPlannable t) (map parts_seen c.as_slice-key-items.result.now) =
    subst (λ (ks : List KeyPlan). AllByRecursion (IsKeyPlannable t) (map parts_seen ks)) items
    (subst (λ (ks : Keys). AllByRecursion (IsKeyPlannable t) ks.keys) (sym c.in_ok-keys.ensures) c.requires.can.keys) in
    record {
      rows = c.requires.can.rows.few;
      keys = c.in_ok-keys.ensures;
      key = all_at (IsKeyPlannable t) parts_seen c.as_slice-key-items.result.now c.loop-key.key-index c.key-item.result all c.loop-key-test.true c.key-item.is;
      pages =
          let f : KeyPlan → Tree = λ k. key_tree t (parts_seen k) in
          let size = c.args.self.now.page_size in
          let key = c.key-item.result in
          omega (
            arith,
            c.loop-key.invariant.2,
            c.requires.pages,
            keys_pages size (table_tree t) f c.as_slice-key-items.result.now c.loop-key.key-index key c.loop-key-test.true c.key-item.is,
            ap (λ ts. pages_of_trees size (table_tree t ∷ ts)) (trees_are t c.in_ok-keys.keys c.as_slice-key-items.result.now c.as_slice-key-items.ensures.value c.in_ok-keys.ensures),
            ap (λ n. count n (f key)) c.loop-key.invariant.0,
          );
    }

pub loop-key-preserved : goal.loop-key-preserved
loop-key-preserved c = (
  c.in_ok-add-2.ensures.size ∙ c.loop-key.invariant.0,
  λ tables done lt same so.
      let t = c.args.table.now in
      let f : KeyPlan → Tree = λ k. key_tree t (parts_seen k) in
      let items = c.as_slice-key-items.result.now in
      let i = c.loop-key.key-index in
      let key = c.key-item.result in
      let front = map f (take i items) in
      let more : map f (take (i + 1) items) ≡ front ++ f key ∷ [] = map_more f items i key c.loop-key-test.true ∙ ap (λ k. front ++ f k ∷ []) (sym c.key-item.is) in
      subst (λ (xs : List Tree). IsSoFar tables xs c.add-in-loop-key.new.self)
      (append_assoc done (table_tree t ∷ front) (f key ∷ []) ∙ ap (λ l. done ++ table_tree t ∷ l) (sym more))
      (c.in_ok-add-2.ensures.trees tables (done ++ table_tree t ∷ front) c.args.number (f key) lt
      (subst (λ (rs : List OutRow). IsMade c.loop-key.self c.args.number rs (f key) c.in_ok-tree.tree) (sym same) c.in_ok-tree.ensures)
      (c.loop-key.invariant.1 tables done lt same so)),
  (let t = c.args.table.now in
      let f : KeyPlan → Tree = λ k. key_tree t (parts_seen k) in
      let key = c.key-item.result in
      omega (
        arith,
        c.in_ok-add-2.ensures.before,
        c.in_ok-tree.ensures.count,
        c.loop-key.invariant.2,
        keys_more c.args.self.now.page_size (table_tree t) f c.as_slice-key-items.result.now c.loop-key.key-index key c.loop-key-test.true c.key-item.is,
        ap (λ n. count n (f key)) c.loop-key.invariant.0,
      )),
)

pub returns : goal.returns
returns c = record {
  size = c.loop-key.invariant.0;
  trees = λ tables done lt same so.
      let t = c.args.table.now in
      let f : KeyPlan → Tree = λ k. key_tree t (parts_seen k) in
      let items = c.as_slice-key-items.result.now in
      let i = c.loop-key.key-index in
      let whole : map f (take i items) ≡ map (key_tree t) (keys_in t).keys =
      ap (map f) (take_all i items c.loop-key-test.false) ∙ trees_are t c.in_ok-keys.keys items c.as_slice-key-items.ensures.value c.in_ok-keys.ensures in
      subst (λ (xs : List Tree). IsSoFar tables xs c.loop-key.self) (ap (λ l. done ++ table_tree t ∷ l) whole) (c.loop-key.invariant.1 tables done lt same so);
}
