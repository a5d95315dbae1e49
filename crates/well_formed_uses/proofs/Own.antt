-- Each use of a well-formed file takes its own pages.
use Rattle.std.proofs.Common.{◌≡◌, ℕ, ◌+◌, Some, List, [], ◌∷◌, map, ap, arith}
use Rattle.std.specs.List.{AllByRecursion, AllZip, concat, flat_map}
use Rattle.page_access.specs.Pages.{File}
use Rattle.page_lists.specs.Lists.{count}
use Rattle.raw_schema.specs.Schema.{schema_pages}
use Rattle.use_order.specs.Laws.{schema_chains}
use Rattle.tree_uses.specs.declared.walks.WantedTree.{WantedTree}
use Rattle.tree_uses.specs.Trees.{chains_in, pages_in, pages_of}
use Rattle.well_formed.specs.Header.{file_in}
use Rattle.well_formed_uses.specs.Laws.{UsesTakeOwn}
use Rattle.well_formed_uses.specs.Trees.{IsGrown, IsWanted, StoredTree, own_pages, pages_if}
use Rattle.well_formed_uses.proofs.Phases.{same_joined}
use Rattle.well_formed_uses.proofs.Stored.{stored_is}
use Rattle.well_formed_uses.proofs.Uses.{uses_of}
use Rattle.well_formed_uses.proofs.Wanting.{trees_of}

pub grown_trees : (f : File) (ws : List WantedTree) (ts : List StoredTree) → AllZip (IsWanted f) ws (map (λ (t : StoredTree). Some t) ts) → AllByRecursion (IsGrown f) ts
grown_trees f [] [] are = tt
grown_trees f [] (t ∷ ts) are = absurd are
grown_trees f (w ∷ ws) [] are = absurd are
grown_trees f (w ∷ ws) (t ∷ ts) are = (are.0.2, grown_trees f ws ts are.1)

pub uses_take_own : UsesTakeOwn
uses_take_own bytes db s =
    let f : File = file_in bytes in
    let w = s.formed in
    let u = uses_of bytes db s in
    let sw = stored_is w.schema.stored in
    let m = u.tables_match in
    let x = u.indexes_want in
    let tjoined : pages_in s.tables ≡ flat_map (pages_if f) (trees_of f w.rows s.readings m.rows) =
    same_joined pages_of (pages_if f) s.tables (trees_of f w.rows s.readings m.rows) u.tables_are in
    let ijoined : pages_in s.indexes ≡ flat_map (own_pages f) x.trees = same_joined pages_of (own_pages f) s.indexes x.trees u.indexes_are in
    let schema : (q : ℕ) → count q (schema_pages f s.unused) + count q (schema_chains f s.unused) ≡ count q w.schema_used =
    λ q. omega (arith, ap (count q) u.schema.pages_are, ap (count q) u.schema.chains_are, sw.used_are q) in
    let own : (q : ℕ) → count q (pages_in s.tables) + count q (flat_map chains_in s.turns) ≡ count q (concat w.tables_used) =
    λ q. omega (arith, ap (count q) tjoined, ap (count q) u.chains_are, m.used_are q) in
    record {
      schema = schema;
      times = λ q. omega (arith, schema q, own q);
      found = record { rows_are = u.schema.rows_are; none_bad = u.schema.none_bad; none_unread = u.schema.no_notes };
      tables_are = own;
      index_trees = x.trees;
      grown = grown_trees f _ x.trees x.are;
      indexes_are = u.indexes_are;
      index_used = λ q. omega (arith, x.used_are q, ap (count q) ijoined);
      left = u.left;
    }
