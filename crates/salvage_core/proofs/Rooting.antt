-- The roots of the trees of cells that are not read are pages of the file.
use Rattle.std.proofs.Common.{◌≡◌, ℕ, List, [], ◌∷◌, ◌++◌, length, map, sym, subst, arith}
use Rattle.std.specs.List.{AllByRecursion, flat_map}
use Rattle.page_walk.specs.Bounds.{ArePages}
use Rattle.page_walk.specs.Cells.{Outcome}
use Rattle.page_walk.proofs.Going.{all_append}
use Rattle.raw_schema.specs.declared.rows.SchemaRow.{SchemaRow}
use Rattle.tree_uses.specs.Trees.{HaveTurns, IsTreeOf, Tree}
use Rattle.schema_texts.specs.declared.readings.TableReading.{TableReading}
use Rattle.salvaged_tables.specs.Fates.{AreFates, Failed, TableFate, failed_of, failed_on, root_of}
use Rattle.salvaged_tables.specs.Salvaged.{IsSalvage, failed_seen}
use Rattle.salvaged_tables.specs.declared.places.FailedEntry.{FailedEntry}
use Rattle.salvaged_tables.specs.declared.salvage.SalvagedTables.{SalvagedTables}
use Rattle.salvaged_tables.proofs.Items.{front}
use Rattle.salvaged_tables.proofs.Within.{all_unmapped}
use Rattle.orphan_cells.specs.Bounds.{IsRootOn}
use Rattle.orphan_cells.proofs.Limits.{turn_roots}

abbrev RootOn : ℕ → Failed → Type 0
RootOn pages f = IsRootOn pages f.root

-- a tree with a turn has a page, and the first is its root
tree_roots : (pages : ℕ) (ps : List ℕ) (turns : List (ℕ × List Outcome)) → length turns ≡ length ps → ArePages pages ps
    → AllByRecursion (RootOn pages) (flat_map (failed_on (root_of ps)) turns)
tree_roots pages ps [] same are = tt
tree_roots pages [] (t ∷ turns) same are = absurd (omega (arith, same))
tree_roots pages (p ∷ ps) (t ∷ turns) same are = turn_roots pages p (t ∷ turns) are.0

fates_roots : (pages : ℕ) (rows : List SchemaRow) (rs : List TableReading) (trees : List Tree) (turns : List (List (ℕ × List Outcome)))
    (fates : List TableFate) → HaveTurns trees turns → AllByRecursion (IsTreeOf pages) trees → AreFates rows rs trees turns fates
    → AllByRecursion (RootOn pages) (flat_map failed_of fates)
fates_roots pages rows [] [] [] [] same bound are = tt
fates_roots pages rows (r ∷ rs) (t ∷ trees) (ts ∷ turns) (f ∷ fates) same bound are =
    let both : (length ts ≡ length t.pages) × HaveTurns trees turns = front _ _ _ _ same in
    all_append (RootOn pages) (failed_of f) (flat_map failed_of fates)
    (subst (λ (us : List (ℕ × List Outcome)). AllByRecursion (RootOn pages) (flat_map (failed_on (root_of f.pages)) us)) (sym are.0.turns_are)
    (subst (λ (ps : List ℕ). AllByRecursion (RootOn pages) (flat_map (failed_on (root_of ps)) ts)) (sym are.0.pages_are)
    (tree_roots pages t.pages ts both.0 bound.0)))
    (fates_roots pages rows rs trees turns fates both.1 bound.1 are.1)
fates_roots pages rows rs trees turns fates same bound are = absurd are

-- those of the tables' trees
pub salvage_roots : (pages : ℕ) (rows : List SchemaRow) (rs : List TableReading) (trees : List Tree) (turns : List (List (ℕ × List Outcome)))
    (v : SalvagedTables) → HaveTurns trees turns → AllByRecursion (IsTreeOf pages) trees → IsSalvage rows rs trees turns v
    → AllByRecursion (λ (e : FailedEntry). IsRootOn pages e.root) v.failed.items
salvage_roots pages rows rs trees turns v same bound is =
    all_unmapped (RootOn pages) failed_seen v.failed.items
    (subst (AllByRecursion (RootOn pages)) (sym is.salvaged.failed) (fates_roots pages rows rs trees turns is.fates same bound is.are))
