-- The walk of a tree has its pages and its cells.
use Rattle.std.proofs.Common.{◌≡◌, ℕ, List, sym, ap, ◌∙◌, subst, arith}
use Rattle.std.specs.Prelude.{pos}
use Rattle.std.specs.List.Sorted.{IsPermutation}
use Rattle.page_lists.specs.Lists.{count}
use Rattle.page_walk.specs.Walk.{walk}
use Rattle.tree_forms.specs.Node.{Held}
use Rattle.tree_walks.specs.Laws.{IsWalkOfTree, WalksHaveTrees}
use Rattle.tree_walks.specs.Rows.{all_entries, entries_in, tree_pages}
use Rattle.tree_walks.proofs.Levels.{trees_are_walked}
use Rattle.tree_walks.proofs.Ordering.{trees_are_rows}

pub walks_have_trees : WalksHaveTrees
walks_have_trees f kind p items pages unused t part =
    let d : ℕ = t.depth in
    let rows = trees_are_rows f kind p d t.is_tree in
    let same : (q : ℕ) → count q (tree_pages f d p) ≡ count q pages = λ q. sym (ap (count q) t.pages_are ∙ rows.pages q) in
    let walked : walk f unused (pos p) kind ≡ tree_pages f d p = trees_are_walked f kind p d unused t.is_tree (λ q. omega (arith, part q, same q)) in
    subst (IsWalkOfTree f kind items pages) (sym walked) (record {
      same_pages = same;
      same_entries = subst (λ (hs : List Held). IsPermutation (entries_in hs) (all_entries f (tree_pages f d p))) (sym t.items_are) rows.entries;
      in_order = λ table. ap entries_in t.items_are ∙ rows.in_order table;
    })
