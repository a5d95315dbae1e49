-- The uses of the pages of a well-formed file, one after another: each takes exactly its own pages.
use Rattle.std.proofs.Common.{◌≡◌, ℕ, Option, Some, None, List, [], ◌∷◌, ◌++◌, map, refl, sym, ap, ◌∙◌, subst, arith}
use Rattle.std.specs.Prelude.{ℤ, pos}
use Rattle.std.specs.List.{AllByRecursion, AllZip, flat_map}
use Rattle.std.proofs.lemmas.Grind.{flat_map-append}
use Rattle.page_access.specs.Pages.{File}
use Rattle.page_lists.specs.Lists.{IsPartOf, minus}
use Rattle.page_lists.proofs.Counts.{count-append, count-minus}
use Rattle.cell_reader.specs.declared.shapes.Kind.TheVariants as kinds
use Rattle.page_walk.specs.Cells.{Row}
use Rattle.page_walk.specs.Evidence.{AreOnce}
use Rattle.page_walk.specs.Turns.{chains_on, turns_on}
use Rattle.page_walk.proofs.Going.{all_append}
use Rattle.page_walk.proofs.Witness.{fewer_minus}
use Rattle.raw_schema.specs.declared.rows.SchemaRow.{SchemaRow}
use Rattle.raw_schema.specs.Schema.{bad_in, bad_rows, cells_in, entries_in, noted, schema_notes, schema_pages, schema_rows, schema_turns}
use Rattle.tree_forms.specs.Node.{Held}
use Rattle.tree_forms.specs.Payload.{HasChain}
use Rattle.tree_uses.specs.declared.walks.WantedTree.{WantedTree}
use Rattle.tree_uses.specs.Trees.{pages_of, walk_for, walks}
use Rattle.tree_walks.specs.Read.{read_on, rows_on}
use Rattle.tree_walks.specs.Rows.{all_chains, all_entries, chains_at, entries_on, tree_pages}
use Rattle.tree_walks.proofs.Levels.{trees_are_walked}
use Rattle.tree_walks.proofs.Turning.{Says, pages_turned, rows_say}
use Rattle.use_order.specs.Laws.{schema_chains}
use Rattle.well_formed.specs.Spells.{IsSchema}
use Rattle.well_formed.specs.Stored.{SpellsEntry}
use Rattle.well_formed_uses.specs.Rows.{all_unplaced}
use Rattle.well_formed_uses.specs.Trees.{IsGrown, IsWanted, StoredTree, chains_if, own_chains, own_pages, pages_if}
use Rattle.well_formed_uses.proofs.Schema.{cells_read, no_notes, pages_found, records_there, spelled_bare}
use Rattle.well_formed_uses.proofs.Stored.{stored_is, tree_in}

-- ---- trees that are wanted are walked

walk_is : (f : File) (unused : List ℕ) (w : WantedTree) (o : Option StoredTree) → IsWanted f w o → IsPartOf (pages_if f o) unused
    → walk_for f unused w.root w.kind ≡ pages_if f o
walk_is f unused w None is part = ap (walk_for f unused w.root) is
walk_is f unused w (Some t) is part =
    ap (λ (z : ℤ). walk_for f unused z w.kind) is.0
    ∙ ap (walk_for f unused (pos t.root)) is.1
    ∙ trees_are_walked f t.kind t.root t.depth unused is.2.tree part

pub walks_are : (f : File) (list : ℕ) (ws : List WantedTree) (os : List (Option StoredTree)) (unused : List ℕ) → AllZip (IsWanted f) ws os
    → IsPartOf (flat_map (pages_if f) os) unused → map pages_of (walks f list ws unused) ≡ map (pages_if f) os
walks_are f list [] [] unused are part = refl
walks_are f list [] (o ∷ os) unused are part = absurd are
walks_are f list (w ∷ ws) [] unused are part = absurd are
walks_are f list (w ∷ ws) (o ∷ os) unused are part =
    let first : IsPartOf (pages_if f o) unused = λ q. omega (arith, part q, count-append q (pages_if f o) (flat_map (pages_if f) os)) in
    let here : walk_for f unused w.root w.kind ≡ pages_if f o = walk_is f unused w o are.0 first in
    let later : IsPartOf (flat_map (pages_if f) os) (minus unused (pages_if f o)) =
    λ q. omega (arith, part q, count-append q (pages_if f o) (flat_map (pages_if f) os), count-minus q unused (pages_if f o) first) in
    ap (λ (ps : List ℕ). ps ∷ map pages_of (walks f list ws (minus unused ps))) here
    ∙ ap (λ (pss : List (List ℕ)). pages_if f o ∷ pss) (walks_are f list ws os (minus unused (pages_if f o)) are.1 later)

-- lists that are the same one by one are the same joined
joined : {X : Type 0} (g : X → List ℕ) (xs : List X) → flat_map g xs ≡ flat_map (λ (ps : List ℕ). ps) (map g xs)
joined g [] = refl
joined g (x ∷ xs) = ap (λ (ps : List ℕ). g x ++ ps) (joined g xs)

pub same_joined : {X Y : Type 0} (g : X → List ℕ) (h : Y → List ℕ) (xs : List X) (ys : List Y) → map g xs ≡ map h ys → flat_map g xs ≡ flat_map h ys
same_joined g h xs ys is = joined g xs ∙ ap (flat_map (λ (ps : List ℕ). ps)) is ∙ sym (joined h ys)

-- ---- their cells have turns

IsGrownIf : File → Option StoredTree → Type 0
IsGrownIf f None = Unit {0}
IsGrownIf f (Some t) = IsGrown f t

-- the pages of trees say something, and their entries have chains
pub record CanTurn (f : File) (ps : List ℕ) : Type 0 where
  pub say : AllByRecursion (Says f) ps
  pub chains : AllByRecursion (HasChain f) (all_entries f ps)

tree_turns : (f : File) (t : StoredTree) → IsGrown f t → CanTurn f (own_pages f t)
unfolding tree_pages
tree_turns f t g = record { say = rows_say f t.kind t.root t.depth (t.root ∷ []) (g.tree, tt); chains = g.chains }

both_turn : (f : File) (ps qs : List ℕ) → CanTurn f ps → CanTurn f qs → CanTurn f (ps ++ qs)
both_turn f ps qs a b = record {
  say = all_append (Says f) ps qs a.say b.say;
  chains = subst (AllByRecursion (HasChain f)) (sym (flat_map-append (entries_on f) ps qs)) (all_append (HasChain f) (all_entries f ps) (all_entries f qs) a.chains b.chains);
}

pub wanted_turn : (f : File) (ws : List WantedTree) (os : List (Option StoredTree)) → AllZip (IsWanted f) ws os → CanTurn f (flat_map (pages_if f) os)
wanted_turn f [] [] are = record { say = tt; chains = tt }
wanted_turn f [] (o ∷ os) are = absurd are
wanted_turn f (w ∷ ws) [] are = absurd are
wanted_turn f (w ∷ ws) (None ∷ os) are = wanted_turn f ws os are.1
wanted_turn f (w ∷ ws) (Some t ∷ os) are = both_turn f (own_pages f t) (flat_map (pages_if f) os) (tree_turns f t are.0.2) (wanted_turn f ws os are.1)

pub chains_joined : (f : File) (os : List (Option StoredTree)) → all_chains f (flat_map (pages_if f) os) ≡ flat_map (chains_if f) os
chains_joined f [] = refl
chains_joined f (None ∷ os) = chains_joined f os
chains_joined f (Some t ∷ os) =
    flat_map-append (chains_at f) (own_pages f t) (flat_map (pages_if f) os) ∙ ap (λ (xs : List ℕ). own_chains f t ++ xs) (chains_joined f os)

pub some_pages : (f : File) (ts : List StoredTree) → map (pages_if f) (map (λ (t : StoredTree). Some t) ts) ≡ map (own_pages f) ts
some_pages f [] = refl
some_pages f (t ∷ ts) = ap (λ (pss : List (List ℕ)). own_pages f t ∷ pss) (some_pages f ts)

-- ---- the schema

-- the schema's tree, its chains and its rows
pub record SchemaIs (f : File) (unused : List ℕ) (rows : List SchemaRow) (t : StoredTree) : Type 0 where
  pub pages_are : schema_pages f unused ≡ own_pages f t
  pub chains_are : schema_chains f unused ≡ own_chains f t
  pub rows_are : all_unplaced (schema_rows f unused) ≡ rows
  pub none_bad : bad_rows f unused ≡ []
  pub no_notes : schema_notes f unused ≡ []

pub schema_is : (f : File) (unused : List ℕ) (rows : List SchemaRow) (used : List ℕ) (s : IsSchema f rows used) → AreOnce f.pages unused → IsPartOf used unused
    → SchemaIs f unused rows (tree_in s.stored)
unfolding schema_rows bad_rows schema_notes
schema_is f unused rows used s once part =
    let t : StoredTree = tree_in s.stored in
    let w = stored_is s.stored in
    let first : IsPartOf (own_pages f t) unused = λ q. omega (arith, part q, w.used_are q) in
    let pages : schema_pages f unused ≡ own_pages f t = trees_are_walked f kinds.Table 1 t.depth unused w.grown.tree first in
    let left : List ℕ = minus unused (own_pages f t) in
    let can = tree_turns f t w.grown in
    let spelled : AllZip (SpellsEntry f) (all_entries f (own_pages f t)) rows =
    subst (λ (hs : List Held). AllZip (SpellsEntry f) hs rows) (w.in_order refl) (spelled_bare f s.cells rows s.are) in
    let turned = pages_turned f (own_pages f t) left can.say can.chains (λ q. omega (arith, once q, fewer_minus q unused (own_pages f t)))
    (λ q. omega (arith, part q, w.used_are q, count-minus q unused (own_pages f t) first)) in
    let turns : schema_turns f unused ≡ map (read_on f) (own_pages f t) =
    ap (λ (ps : List ℕ). turns_on f ps (minus unused ps)) pages ∙ turned.turns (records_there f (all_entries f (own_pages f t)) rows spelled) in
    let cells : cells_in (schema_turns f unused) ≡ flat_map (rows_on f) (own_pages f t) = ap cells_in turns ∙ cells_read f (own_pages f t) in
    let found = pages_found f (own_pages f t) rows spelled in
    record {
      pages_are = pages;
      chains_are = ap (λ (ps : List ℕ). chains_on f ps (minus unused ps)) pages ∙ turned.chains;
      rows_are = ap (λ (rs : List Row). all_unplaced (entries_in rs)) cells ∙ found.rows_are;
      none_bad = ap bad_in cells ∙ found.none_bad;
      no_notes = ap (flat_map noted) turns ∙ no_notes f (own_pages f t);
    }
