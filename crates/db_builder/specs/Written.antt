-- Pages as they are put.
use Rattle.std.specs.Prelude.{◌≡◌, ℕ, List, [], drop}
use Rattle.cell_reader.specs.declared.shapes.Kind.{Kind}
use Rattle.tree_writer.specs.declared.plans.TreePlan.{TreePlan}
use Rattle.tree_writer.specs.Entry.{Entry}
use Rattle.tree_writer.specs.Layout.{schema_pages, tree_pages}
use Rattle.tree_writer.specs.Trees.{IsSchemaPlan, IsTreePlan}

-- the pages of a plan from the first one on that is not page 1
pub data ArePages (es : List Entry) (number : ℕ → ℕ) (p : TreePlan) (first : ℕ) (pages : List (List ℕ)) : Type 0 where
  OfTree : (usable : ℕ) (kind : Kind) → IsTreePlan usable kind es p → first ≡ 0
      → pages ≡ tree_pages usable kind number es → ArePages es number p first pages
  OfSchema : (usable : ℕ) → IsSchemaPlan usable es p → first ≡ 1
      → pages ≡ drop 1 (schema_pages [] usable number es) → ArePages es number p first pages
