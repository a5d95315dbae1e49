-- Each page has one use at most, and the readable cells of the orphan trees have their evidence.
use Rattle.std.proofs.Common.{◌≡◌, ℕ, ◌+◌, Bool, List, [], ◌∷◌, ◌++◌, sym, ◌∙◌, ap, subst, arith, refl}
use Rattle.std.specs.Prelude.{if◌then◌else◌, Option}
use Rattle.std.specs.List.{AllByRecursion, flat_map}
use Rattle.std.proofs.lemmas.Grind.{flat_map-append}
use Rattle.page_access.specs.Pages.{File}
use Rattle.page_lists.specs.Lists.{IsPartOf, count, minus}
use Rattle.page_lists.specs.Table.{is_page}
use Rattle.page_lists.proofs.Counts.{at_most_one, count-minus}
use Rattle.page_walk.specs.Cells.{Outcome, Row}
use Rattle.page_walk.specs.Evidence.{Evidence}
use Rattle.page_walk.specs.Turns.{chains_on, turns_on}
use Rattle.page_walk.proofs.Chains.{chains_are_unused}
use Rattle.page_walk.proofs.Witness.{pages_have_evidence}
use Rattle.raw_schema.specs.Schema.{cells_in}
use Rattle.schema_texts.specs.declared.readings.TableReading.{TableReading}
use Rattle.raw_schema.specs.declared.rows.SchemaRow.{SchemaRow}
use Rattle.tree_uses.specs.Trees as trees
use Rattle.tree_uses.proofs.Splits.{trees_take_turns}
use Rattle.orphan_trees.specs.Orphans.{Orphan, pages_in}
use Rattle.orphan_trees.proofs.Lists.{once_left}
use Rattle.orphan_trees.proofs.Rule.{orphans_hold}
use Rattle.use_order.specs.Laws.{table_cells}
use Rattle.use_order.specs.Order.{AreInOrder, behind_schema}
use Rattle.use_order.proofs.Holding.{are_pages}
use Rattle.orphan_uses.specs.Laws.{OrphanUsesAlwaysHold, orphan_rows}
use Rattle.orphan_uses.specs.Order.{AreOrphans, behind_free, free_of, orphan_turns}
use Rattle.orphan_uses.proofs.Parts.{frees_part, orphans_part, orphans_take_chains, orphans_take_turns}
use Rattle.orphan_uses.proofs.Within.{Within, within_apart, within_turns}

-- the readable cells of trees are those of their turns, joined
cells_joined : (tss : List (List (ℕ × List Outcome))) → flat_map cells_in tss ≡ cells_in (flat_map (λ (ts : List (ℕ × List Outcome)). ts) tss)
cells_joined [] = refl
cells_joined (ts ∷ tss) =
    ap (λ (rows : List Row). cells_in ts ++ rows) (cells_joined tss)
    ∙ sym (flat_map-append _ ts (flat_map (λ (us : List (ℕ × List Outcome)). us) tss))

-- the chains and the readable cells of orphan trees are those of their pages
pub orphan_chains : (f : File) (u : List ℕ) (trunk : Option ℕ) (ts : List Orphan) (turns : List (List (ℕ × List Outcome))) → AreOrphans f u trunk ts turns
    → flat_map trees.chains_in turns ≡ chains_on f (pages_in ts) (minus (behind_free f u trunk) (pages_in ts))
orphan_chains f u trunk ts turns o =
    ap (flat_map trees.chains_in) o.turns_are ∙ orphans_take_chains f ts (minus (behind_free f u trunk) (pages_in ts))

pub orphan_cells : (f : File) (u : List ℕ) (trunk : Option ℕ) (ts : List Orphan) (turns : List (List (ℕ × List Outcome))) → AreOrphans f u trunk ts turns
    → orphan_rows turns ≡ cells_in (turns_on f (pages_in ts) (minus (behind_free f u trunk) (pages_in ts)))
orphan_cells f u trunk ts turns o =
    let d : List ℕ = minus (behind_free f u trunk) (pages_in ts) in
    ap orphan_rows o.turns_are ∙ cells_joined (orphan_turns f ts d) ∙ ap cells_in (orphans_take_turns f ts d)

pub orphans_within : (f : File) (u : List ℕ) (trunk : Option ℕ) (ts : List Orphan) (turns : List (List (ℕ × List Outcome))) → AreOrphans f u trunk ts turns
    → Within (pages_in ts) (flat_map trees.chains_in turns) (orphan_rows turns)
orphans_within f u trunk ts turns o =
    subst (λ (cs : List ℕ). Within (pages_in ts) cs (orphan_rows turns)) (sym (orphan_chains f u trunk ts turns o))
    (subst (Within (pages_in ts) (chains_on f (pages_in ts) (minus (behind_free f u trunk) (pages_in ts)))) (sym (orphan_cells f u trunk ts turns o))
    (within_turns f (pages_in ts) (minus (behind_free f u trunk) (pages_in ts))))

-- the same of the tables' trees
pub tables_within : (f : File) (u : List ℕ) (rows : List SchemaRow) (rs : List TableReading) (tables indexes : List trees.Tree)
    (turns : List (List (ℕ × List Outcome))) → AreInOrder f u rows rs tables indexes turns
    → Within (trees.pages_in tables) (flat_map trees.chains_in turns) (table_cells turns)
tables_within f u rows rs tables indexes turns o =
    let d : List ℕ = minus (minus (behind_schema f u) (trees.pages_in tables)) (trees.pages_in indexes) in
    let chains : flat_map trees.chains_in turns ≡ chains_on f (trees.pages_in tables) d =
    ap (flat_map trees.chains_in) o.turns_are ∙ (trees_take_turns f tables d).chains in
    let cells : table_cells turns ≡ cells_in (turns_on f (trees.pages_in tables) d) =
    ap table_cells o.turns_are ∙ cells_joined (trees.turns_in f tables d) ∙ ap cells_in (trees_take_turns f tables d).turns in
    subst (λ (cs : List ℕ). Within (trees.pages_in tables) cs (table_cells turns)) (sym chains)
    (subst (Within (trees.pages_in tables) (chains_on f (trees.pages_in tables) d)) (sym cells) (within_turns f (trees.pages_in tables) d))

pub uses_hold : OrphanUsesAlwaysHold
uses_hold f u trunk ts turns o =
    let free : List ℕ = free_of f u trunk in
    let b : List ℕ = behind_free f u trunk in
    let d : List ℕ = minus b (pages_in ts) in
    let first : IsPartOf free u = frees_part f u trunk in
    let second : IsPartOf (pages_in ts) b = subst (λ (xs : List Orphan). IsPartOf (pages_in xs) b) (sym o.trees_are) (orphans_part f b) in
    let chains : flat_map trees.chains_in turns ≡ chains_on f (pages_in ts) d = orphan_chains f u trunk ts turns o in
    let third : IsPartOf (flat_map trees.chains_in turns) d = subst (λ (ps : List ℕ). IsPartOf ps d) (sym chains) (chains_are_unused f (pages_in ts) d) in
    let fewer : (q : ℕ) → count q d + (count q free + count q (pages_in ts)) ≡ count q u =
    λ q. omega (arith, count-minus q u free first, count-minus q b (pages_in ts) second) in
    record {
      once = λ q. omega (arith, fewer q, third q);
      each = λ once q. ap (λ (xs : List Orphan). count q (pages_in xs)) o.trees_are ∙ (orphans_hold f b (once_left f.pages u free once)).once q;
      evidence = λ once. subst (AllByRecursion (Evidence f)) (sym (orphan_cells f u trunk ts turns o))
          (pages_have_evidence f (pages_in ts) d (are_pages f.pages (pages_in ts) u once (λ q. omega (arith, fewer q)))
          (λ q. omega (arith, once q, fewer q)));
      apart = λ once. within_apart (pages_in ts) (flat_map trees.chains_in turns) (orphan_rows turns)
          (λ q. omega (arith, at_most_one (is_page f.pages q), once q, fewer q, third q)) (orphans_within f u trunk ts turns o);
    }
