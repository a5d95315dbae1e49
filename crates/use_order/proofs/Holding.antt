-- Each page has one use at most, and the readable cells of the tables have their evidence.
use Rattle.std.proofs.Common.{◌≡◌, ◌≤◌, inl, inr, ℕ, ◌+◌, Bool, List, [], ◌∷◌, ◌++◌, map, refl, sym, ◌∙◌, ap, subst, arith}
use Rattle.std.specs.Prelude.{pos, if◌then◌else◌}
use Rattle.std.specs.List.{AllByRecursion, flat_map}
use Rattle.std.proofs.lemmas.Bool.{cases_Bool}
use Rattle.std.proofs.lemmas.Grind.{flat_map-append}
use Rattle.page_access.specs.Pages.{File}
use Rattle.page_lists.specs.Lists.{IsPartOf, count, minus}
use Rattle.page_lists.specs.Table.{is_page}
use Rattle.page_lists.proofs.Counts.{at_most_one, count_in, count-minus, in_head}
use Rattle.page_lists.proofs.Moves.{page_bounds}
use Rattle.cell_reader.specs.declared.shapes.Kind.TheVariants as kinds
use Rattle.page_walk.specs.Bounds.{ArePages}
use Rattle.page_walk.specs.Cells.{Outcome, Row}
use Rattle.page_walk.specs.Evidence.{AreOnce, Evidence}
use Rattle.page_walk.specs.Turns.{chains_on, turns_on}
use Rattle.page_walk.proofs.Chains.{chains_are_unused, walks_are_unused}
use Rattle.page_walk.proofs.Witness.{pages_have_evidence}
use Rattle.raw_schema.specs.Schema.{cells_in, schema_pages}
use Rattle.tree_uses.specs.Trees.{Tree, chains_in, pages_in, turns_in}
use Rattle.tree_uses.proofs.Splits.{trees_are_unused, trees_take_turns}
use Rattle.use_order.proofs.Apart.{turns_chains, turns_pages, turns_times}
use Rattle.use_order.specs.Laws.{UsesAlwaysHold, schema_chains, table_cells}
use Rattle.use_order.specs.Apart.{AreApart}
use Rattle.use_order.specs.Order.{behind_schema, index_trees, table_tree}

-- the cells of trees, joined
cells_joined : (tss : List (List (ℕ × List Outcome))) → table_cells tss ≡ cells_in (flat_map (λ (ts : List (ℕ × List Outcome)). ts) tss)
cells_joined [] = refl
cells_joined (ts ∷ tss) =
    ap (λ (rows : List Row). cells_in ts ++ rows) (cells_joined tss)
    ∙ sym (flat_map-append _ ts (flat_map (λ (us : List (ℕ × List Outcome)). us) tss))

-- pages among unused ones are pages of the file
pub are_pages : (n : ℕ) (ps unused : List ℕ) → AreOnce n unused → ((q : ℕ) → count q ps ≤ count q unused) → ArePages n ps
are_pages n [] unused once part = tt
are_pages n (p ∷ ps) unused once part =
    elim (cases_Bool (is_page n p)) [
      | inl is ↦ (page_bounds n p is, are_pages n ps unused once (λ q. omega (arith, part q)))
      | inr isnt ↦ absurd (omega (arith, part p, once p, ap {B = ℕ} (λ (b : Bool). if b then 1 else 0) isnt, count_in p (p ∷ ps) (in_head p ps)))
    ]

-- the rows of pages that have no other use, and whose chains have none
rows_apart : (f : File) (ps unused : List ℕ) → ((q : ℕ) → count q ps + count q (chains_on f ps unused) ≤ 1) → AreApart (cells_in (turns_on f ps unused))
rows_apart f ps u once = record {
  places = λ q i. omega (arith, turns_times f ps q i u, once q);
  chains = λ q. omega (arith, turns_chains f ps q u, once q);
  holds = λ q some. turns_pages f ps q u (omega (arith, some, turns_chains f ps q u, once q));
}

pub uses_hold : UsesAlwaysHold
uses_hold f u rows rs tables indexes turns o =
    let s : List ℕ = schema_pages f u in
    let a : List ℕ = minus u s in
    let b : List ℕ = behind_schema f u in
    let c : List ℕ = minus b (pages_in tables) in
    let d : List ℕ = minus c (pages_in indexes) in
    let first : IsPartOf s u = (walks_are_unused f u (pos 1) kinds.Table).part in
    let second : IsPartOf (schema_chains f u) a = chains_are_unused f s a in
    let third : IsPartOf (pages_in tables) b =
    subst (λ (ts : List Tree). IsPartOf (pages_in ts) b) (sym o.tables_are) (trees_are_unused f _ (map table_tree rs) b) in
    let fourth : IsPartOf (pages_in indexes) c =
    subst (λ (ts : List Tree). IsPartOf (pages_in ts) c) (sym o.indexes_are) (trees_are_unused f _ (index_trees 0 rows) c) in
    let chains : flat_map chains_in turns ≡ chains_on f (pages_in tables) d =
    ap (flat_map chains_in) o.turns_are ∙ (trees_take_turns f tables d).chains in
    let fifth : IsPartOf (flat_map chains_in turns) d = subst (λ (ps : List ℕ). IsPartOf ps d) (sym chains) (chains_are_unused f (pages_in tables) d) in
    let cells : table_cells turns ≡ cells_in (turns_on f (pages_in tables) d) =
    ap table_cells o.turns_are ∙ cells_joined (turns_in f tables d) ∙ ap cells_in (trees_take_turns f tables d).turns in
    let fewer : (q : ℕ) → count q d + (count q s + (count q (schema_chains f u) + (count q (pages_in tables) + count q (pages_in indexes)))) ≡ count q u =
    λ q. omega (
      arith,
      count-minus q u s first,
      count-minus q a (schema_chains f u) second,
      count-minus q b (pages_in tables) third,
      count-minus q c (pages_in indexes) fourth,
    ) in
    record {
      once = λ q. omega (arith, fewer q, fifth q);
      evidence = λ once. subst (AllByRecursion (Evidence f)) (sym cells)
          (pages_have_evidence f (pages_in tables) d (are_pages f.pages (pages_in tables) u once (λ q. omega (arith, fewer q)))
          (λ q. omega (arith, once q, fewer q)));
      apart = λ once. subst AreApart (sym cells)
          (rows_apart f (pages_in tables) d (λ q. omega (arith, at_most_one (is_page f.pages q), once q, fewer q, fifth q, ap (count q) chains)));
    }
