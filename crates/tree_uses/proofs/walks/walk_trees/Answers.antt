use Rattle.std.proofs.Common.{ℕ, List, ◌+◌, ◌∷◌, [], ◌∙◌, ap, map, drop, sym}
use Rattle.std.proofs.lemmas.List.{drop_more, map-append}
use Rattle.page_access.proofs.Keeps.{not_failed}
use Rattle.page_lists.proofs.Uses.{Moves-append}
use Rattle.tree_uses.specs.Trees.{pages_of, tree_of, tree_row, wanted_row}
use Rattle.tree_uses.specs.declared.walks.TreeUse.{TreeUse}
use Rattle.tree_uses.proofs.Parts.{part_more}
use Rattle.tree_uses.proofs.Splits.{one_more}
use Rattle.page_walk.proofs.InTurn.{stepping_more}
use Rattle.tree_uses.proofs.walks.walk_trees.Goals as goal

pub returns-in_err-pages-clause-moves : goal.returns-in_err-pages-clause-moves
returns-in_err-pages-clause-moves g c =
    Moves-append c.args.list c.args.table.now c.loop-tree.table c.walk_one.new.table c.requires.list_least c.loop-tree.invariant.steps.moves c.walk_one.ensures.moves

pub returns-in_err-push-clause-moves : goal.returns-in_err-push-clause-moves
returns-in_err-push-clause-moves g c =
    Moves-append c.args.list c.args.table.now c.loop-tree.table c.walk_one.new.table c.requires.list_least c.loop-tree.invariant.steps.moves c.walk_one.ensures.moves

pub loop-tree-preserved : goal.loop-tree-preserved
loop-tree-preserved g c = record {
  steps = stepping_more (record { src = c.walk_one.new.src; cache = c.walk_one.new.cache; table = c.walk_one.new.table })
      _ (drop (c.loop-tree.tree-index + 1) c.args.wanted.now) (tree_of c.in_ok-pages.pages)
      (map tree_of c.push.new.self.items) c.loop-tree.invariant.steps c.requires.list_least
      (drop_more c.args.wanted.now c.loop-tree.tree-index _ c.loop-tree-test.true)
      (ap (map tree_of) c.in_ok-push.ensures.items ∙ map-append tree_of c.loop-tree.trees.items (c.in_ok-pages.pages ∷ []))
      (record {
        kept = c.walk_one.ensures.kept;
        steady = not_failed c.in_ok-pages.ensures.cause.steady;
        cached = c.walk_one.ensures.cached;
        moves = c.walk_one.ensures.moves;
        moved = c.in_ok-pages.ensures.moved;
        good = c.in_ok-pages.ensures.bound;
        read = c.in_ok-pages.ensures.reads;
        full = c.walk_one.ensures.full;
        value = c.in_ok-pages.ensures.value;
      });
  part = part_more pages_of c.args.list c.args.table.now c.loop-tree.table (map tree_of c.loop-tree.trees.items) (tree_of c.in_ok-pages.pages)
      (map tree_of c.push.new.self.items) c.requires.list_least c.loop-tree.invariant.steps.moved
      (ap (map tree_of) c.in_ok-push.ensures.items ∙ map-append tree_of c.loop-tree.trees.items (c.in_ok-pages.pages ∷ []))
      c.loop-tree.invariant.part c.in_ok-pages.ensures.part;
  rows = one_more (map tree_row (map tree_of c.loop-tree.trees.items)) (map tree_row (map tree_of c.push.new.self.items))
      (map wanted_row (drop c.loop-tree.tree-index c.args.wanted.now)) (map wanted_row (drop (c.loop-tree.tree-index + 1) c.args.wanted.now)) _ _
      (ap (λ (ts : List TreeUse). map tree_row (map tree_of ts)) c.in_ok-push.ensures.items
      ∙ ap (map tree_row) (map-append tree_of c.loop-tree.trees.items (c.in_ok-pages.pages ∷ []))
      ∙ map-append tree_row (map tree_of c.loop-tree.trees.items) (tree_of c.in_ok-pages.pages ∷ []))
      (ap (map wanted_row) (drop_more c.args.wanted.now c.loop-tree.tree-index _ c.loop-tree-test.true)
      ∙ ap (λ (n : ℕ). n ∷ map wanted_row (drop (c.loop-tree.tree-index + 1) c.args.wanted.now)) (sym c.in_ok-pages.ensures.row))
      c.loop-tree.invariant.rows;
}
