-- A tree with its cells and its pages, as well-formed files have it, is one that a walk meets.
use Rattle.std.proofs.Common.{◌≡◌, ℕ, ◌==◌, List, [], ◌∷◌, map, refl, sym, ap, ◌∙◌, subst, inl, inr}
use Rattle.std.specs.List.{AllByRecursion}
use Rattle.std.specs.List.Sorted.{IsPermutation}
use Rattle.std.proofs.lemmas.Bool.{cases_Bool}
use Rattle.std.proofs.lemmas.List.Elements.{All-from_recursion, recursion_from_All}
use Rattle.std.proofs.lemmas.List.Sorted.{All-permutation}
use Rattle.page_access.specs.Pages.{File}
use Rattle.page_lists.specs.Lists.{count}
use Rattle.cell_reader.specs.declared.shapes.Kind.{Kind}
use Rattle.tree_forms.specs.Node.{Held}
use Rattle.tree_forms.specs.Payload.{HasChain}
use Rattle.tree_forms.specs.Tree.{bare, entries}
use Rattle.tree_walks.specs.Rows.{all_entries, entries_in, tree_pages}
use Rattle.tree_walks.proofs.Ordering.{trees_are_rows}
use Rattle.well_formed.specs.Stored.{IsStored}
use Rattle.well_formed_uses.specs.Trees.{IsTreeWith, StoredTree}

-- the entries among cells, without their children
bare_entries : (hs : List Held) → map bare (entries hs) ≡ entries_in hs
bare_entries [] = refl
bare_entries (h ∷ hs) =
    elim (cases_Bool (h.total == 0)) [
      | inl none ↦ rw none (bare_entries hs)
      | inr some ↦ rw some (ap (λ (gs : List Held). bare h ∷ gs) (bare_entries hs))
    ]

bare_chains : (f : File) (hs : List Held) → AllByRecursion (HasChain f) hs → AllByRecursion (HasChain f) (map bare hs)
bare_chains f [] all = tt
bare_chains f (h ∷ hs) all = (all.0, bare_chains f hs all.1)

-- what holds of each element holds in another order
pub all_moved : {X : Type 0} (P : X → Type 0) (xs ys : List X) → IsPermutation xs ys → AllByRecursion P xs → AllByRecursion P ys
all_moved P xs ys moved all = recursion_from_All P ys (All-permutation P xs ys moved (All-from_recursion P xs all))

abbrev pub tree_in : {f : File} {kind : Kind} {p : ℕ} {cells : List Held} {used : List ℕ} → IsStored f kind p cells used → StoredTree
tree_in {kind = kind} {p = p} s = record { kind = kind; root = p; depth = s.tree.depth }

pub stored_is : {f : File} {kind : Kind} {p : ℕ} {cells : List Held} {used : List ℕ} (s : IsStored f kind p cells used)
    → IsTreeWith f kind p cells used (tree_in s)
stored_is {f} {kind} {p} {cells} {used} s =
    let d : ℕ = s.tree.depth in
    let rows = trees_are_rows f kind p d s.tree.is_tree in
    let bared : map bare cells ≡ entries_in s.items = ap (map bare) s.cells_are ∙ bare_entries s.items in
    let cells_are : IsPermutation (map bare cells) (all_entries f (tree_pages f d p)) =
    subst (λ (hs : List Held). IsPermutation hs (all_entries f (tree_pages f d p))) (ap entries_in (sym s.tree.items_are) ∙ sym bared) rows.entries in
    record {
      kind_is = refl;
      root_is = refl;
      grown = record {
        tree = s.tree.is_tree;
        chains = all_moved (HasChain f) (map bare cells) (all_entries f (tree_pages f d p)) cells_are (bare_chains f cells s.chains);
      };
      used_are = λ q. ap (count q) s.tree.pages_are ∙ rows.used q;
      cells_are = cells_are;
      in_order = λ table. bared ∙ ap entries_in s.tree.items_are ∙ rows.in_order table;
    }
