-- The pages that the cells of orphan trees name are pages of the file, and the cells have few fields.
use Rattle.std.proofs.Common.{◌≡◌, ◌≤◌, ℕ, Bool, true, false, List, [], ◌∷◌, ◌++◌, length, map, refl, sym, subst}
use Rattle.std.specs.Prelude.{if◌then◌else◌}
use Rattle.std.specs.List.{AllByRecursion, flat_map}
use Rattle.page_walk.specs.Bounds.{IsSmall}
use Rattle.page_walk.specs.Cells.{Outcome, Read, Row, Unread}
use Rattle.page_walk.specs.InTurn.{IsSmallTurn}
use Rattle.page_walk.specs.Rows.{rows_of}
use Rattle.page_walk.proofs.Going.{all_append}
use Rattle.raw_schema.specs.Schema.{cells_in}
use Rattle.orphan_trees.specs.Orphans.{IsOrphanOf, Orphan}
use Rattle.salvaged_tables.specs.Bounds.{IsOn}
use Rattle.salvaged_tables.specs.Fates.{Failed, failed_cell, failed_on, failed_one, has_failed}
use Rattle.salvaged_tables.specs.Salvaged.{failed_seen, lost_seen}
use Rattle.salvaged_tables.proofs.Bare.{all_mapped}
use Rattle.salvaged_tables.proofs.Within.{all_failures_on, all_unmapped, cells_on}
use Rattle.orphan_cells.specs.Bounds.{AreOrphansOn, HaveFewFields, IsRootOn}
use Rattle.orphan_cells.specs.Orphaned.{AreOrphanCells, orphan_failed, orphan_lost, tree_failed, tree_lost}
use Rattle.orphan_cells.specs.declared.cells.OrphanCells.{OrphanCells}

-- ---- fields

abbrev HasFew : Row → Type 0
HasFew r = length r.fields ≤ 1996

rows_few : (usable pages page : ℕ) (os : List Outcome) → AllByRecursion (IsSmall usable pages page) os → AllByRecursion HasFew (rows_of os)
rows_few usable pages page [] small = tt
rows_few usable pages page (Read row ∷ os) small = (small.0.few, rows_few usable pages page os small.1)
rows_few usable pages page (Unread u ∷ os) small = rows_few usable pages page os small.1

cells_few : (usable pages : ℕ) (turns : List (ℕ × List Outcome)) → AllByRecursion (IsSmallTurn usable pages) turns → AllByRecursion HasFew (cells_in turns)
cells_few usable pages [] small = tt
cells_few usable pages (t ∷ turns) small =
    all_append HasFew (rows_of t.1) (cells_in turns) (rows_few usable pages t.0 t.1 small.0.small) (cells_few usable pages turns small.1)

lost_few : (usable pages : ℕ) (trees : List Orphan) (turns : List (List (ℕ × List Outcome))) → AllByRecursion (AllByRecursion (IsSmallTurn usable pages)) turns
    → AllByRecursion (λ (l : ℕ × Row). HasFew l.1) (orphan_lost trees turns)
lost_few usable pages [] turns small = tt
lost_few usable pages (t ∷ trees) [] small = tt
lost_few usable pages (t ∷ trees) (ts ∷ turns) small =
    all_append (λ (l : ℕ × Row). HasFew l.1) (tree_lost t.root ts) (orphan_lost trees turns)
    (all_mapped HasFew (λ (l : ℕ × Row). HasFew l.1) (λ (r : Row). (t.root, r)) (cells_in ts) (λ r few. few) (cells_few usable pages ts small.0))
    (lost_few usable pages trees turns small.1)

pub fields_few : (usable pages : ℕ) (trees : List Orphan) (turns : List (List (ℕ × List Outcome))) (v : OrphanCells)
    → AllByRecursion (AllByRecursion (IsSmallTurn usable pages)) turns → AreOrphanCells trees turns v → HaveFewFields v.lost.items
fields_few usable pages trees turns v small is =
    all_unmapped (λ (l : ℕ × Row). HasFew l.1) lost_seen v.lost.items
    (subst (AllByRecursion (λ (l : ℕ × Row). HasFew l.1)) (sym is.lost_are) (lost_few usable pages trees turns small))

-- ---- pages

-- a cell and its root are on pages of the file
abbrev LostOn : ℕ → ℕ × Row → Type 0
LostOn pages l = IsOn pages l.1.page l.1.chain × IsRootOn pages l.0

abbrev FailedOn : ℕ → Failed → Type 0
FailedOn pages f = IsOn pages f.page f.chain

lost_on : (usable pages : ℕ) (trees : List Orphan) (turns : List (List (ℕ × List Outcome))) → AllByRecursion (IsOrphanOf pages) trees
    → AllByRecursion (AllByRecursion (IsSmallTurn usable pages)) turns → AllByRecursion (LostOn pages) (orphan_lost trees turns)
lost_on usable pages [] turns roots small = tt
lost_on usable pages (t ∷ trees) [] roots small = tt
lost_on usable pages (t ∷ trees) (ts ∷ turns) roots small =
    all_append (LostOn pages) (tree_lost t.root ts) (orphan_lost trees turns)
    (all_mapped (λ (r : Row). IsOn pages r.page r.chain) (LostOn pages) (λ (r : Row). (t.root, r)) (cells_in ts)
    (λ r on. (on, (roots.0.low, roots.0.high))) (cells_on usable pages ts small.0))
    (lost_on usable pages trees turns roots.1 small.1)

failed_on_pages : (usable pages : ℕ) (trees : List Orphan) (turns : List (List (ℕ × List Outcome)))
    → AllByRecursion (AllByRecursion (IsSmallTurn usable pages)) turns → AllByRecursion (FailedOn pages) (orphan_failed trees turns)
failed_on_pages usable pages [] turns small = tt
failed_on_pages usable pages (t ∷ trees) [] small = tt
failed_on_pages usable pages (t ∷ trees) (ts ∷ turns) small =
    all_append (FailedOn pages) (tree_failed t.root ts) (orphan_failed trees turns) (all_failures_on usable pages t.root ts small.0)
    (failed_on_pages usable pages trees turns small.1)

abbrev RootOn : ℕ → Failed → Type 0
RootOn pages f = IsRootOn pages f.root

chosen_root : (pages : ℕ) (b : Bool) (f : Failed) → RootOn pages f → AllByRecursion (RootOn pages) (if b then f ∷ [] else [])
chosen_root pages true f is = (is, tt)
chosen_root pages false f is = tt

page_roots : (pages root page : ℕ) (os : List Outcome) → IsRootOn pages root → AllByRecursion (RootOn pages) (flat_map (failed_one root page) os)
page_roots pages root page [] is = tt
page_roots pages root page (Read row ∷ os) is = page_roots pages root page os is
page_roots pages root page (Unread u ∷ os) is =
    all_append (RootOn pages) (failed_one root page (Unread u)) (flat_map (failed_one root page) os) (chosen_root pages (has_failed u.cause) _ is)
    (page_roots pages root page os is)

pub turn_roots : (pages root : ℕ) (turns : List (ℕ × List Outcome)) → IsRootOn pages root → AllByRecursion (RootOn pages) (tree_failed root turns)
turn_roots pages root [] is = tt
turn_roots pages root (t ∷ turns) is =
    all_append (RootOn pages) (failed_on root t) (tree_failed root turns) (page_roots pages root t.0 t.1 is) (turn_roots pages root turns is)

roots_on : (pages : ℕ) (trees : List Orphan) (turns : List (List (ℕ × List Outcome))) → AllByRecursion (IsOrphanOf pages) trees
    → AllByRecursion (RootOn pages) (orphan_failed trees turns)
roots_on pages [] turns roots = tt
roots_on pages (t ∷ trees) [] roots = tt
roots_on pages (t ∷ trees) (ts ∷ turns) roots =
    all_append (RootOn pages) (tree_failed t.root ts) (orphan_failed trees turns) (turn_roots pages t.root ts (roots.0.low, roots.0.high))
    (roots_on pages trees turns roots.1)

all_weaker : {X : Type 0} (P Q : X → Type 0) (xs : List X) → ((x : X) → P x → Q x) → AllByRecursion P xs → AllByRecursion Q xs
all_weaker P Q [] weaker all = tt
all_weaker P Q (x ∷ xs) weaker all = (weaker x all.0, all_weaker P Q xs weaker all.1)

pub orphans_on : (usable pages : ℕ) (trees : List Orphan) (turns : List (List (ℕ × List Outcome))) (v : OrphanCells)
    → AllByRecursion (IsOrphanOf pages) trees → AllByRecursion (AllByRecursion (IsSmallTurn usable pages)) turns → AreOrphanCells trees turns v
    → AreOrphansOn pages v
orphans_on usable pages trees turns v roots small is =
    let lost : AllByRecursion (LostOn pages) (map lost_seen v.lost.items) =
    subst (AllByRecursion (LostOn pages)) (sym is.lost_are) (lost_on usable pages trees turns roots small) in
    record {
      lost = all_unmapped (λ (l : ℕ × Row). IsOn pages l.1.page l.1.chain) lost_seen v.lost.items
          (all_weaker (LostOn pages) (λ (l : ℕ × Row). IsOn pages l.1.page l.1.chain) (map lost_seen v.lost.items) (λ l on. on.0) lost);
      failed = all_unmapped (FailedOn pages) failed_seen v.failed.items
          (subst (AllByRecursion (FailedOn pages)) (sym is.failed_are) (failed_on_pages usable pages trees turns small));
      lost_roots = all_unmapped (λ (l : ℕ × Row). IsRootOn pages l.0) lost_seen v.lost.items
          (all_weaker (LostOn pages) (λ (l : ℕ × Row). IsRootOn pages l.0) (map lost_seen v.lost.items) (λ l on. on.1) lost);
      failed_roots = all_unmapped (RootOn pages) failed_seen v.failed.items
          (subst (AllByRecursion (RootOn pages)) (sym is.failed_are) (roots_on pages trees turns roots));
    }
