-- The pages that salvaged tables name are pages of the file (docs/ARCHITECTURE.md, "Bounds").
use Rattle.std.specs.Prelude.{◌≤◌, ℕ, List, Vec, length}
use Rattle.std.specs.declared.alloc.Global.{Global}
use Rattle.std.specs.List.{AllByRecursion}
use Rattle.page_walk.specs.Bounds.{ArePages}
use Rattle.salvaged_tables.specs.declared.places.FailedEntry.{FailedEntry}
use Rattle.salvaged_tables.specs.declared.places.LostCell.{LostCell}
use Rattle.salvaged_tables.specs.declared.places.Placed.{Placed}
use Rattle.salvaged_tables.specs.declared.salvage.SalvagedTables.{SalvagedTables}

-- a cell is on page 1 to `pages`, and so are the pages of its chain
pub record IsOn (pages page : ℕ) (chain : List ℕ) : Type 0 where
  pub least : 1 ≤ page
  pub most : page ≤ pages
  pub chain_on : ArePages pages chain

-- the cells of rows of tables are
abbrev pub ArePlacesOn : ℕ → List (Vec Placed Global) → Type 0
ArePlacesOn pages places = AllByRecursion (λ (ps : Vec Placed Global).
    AllByRecursion (λ (p : Placed). IsOn pages p.place.page p.chain.items) ps.items) places

-- a lost cell is, and has at most 1,996 fields
abbrev pub IsLostOn : ℕ → LostCell → Type 0
IsLostOn pages l = IsOn pages l.cell.place.page l.cell.chain.items × (length l.cell.fields.items ≤ 1996)

-- and so are all of these
pub record AreOnPages (pages : ℕ) (v : SalvagedTables) : Type 0 where
  pub places : ArePlacesOn pages v.places.items
  pub lost : AllByRecursion (IsLostOn pages) v.lost.items
  pub failed : AllByRecursion (λ (e : FailedEntry). IsOn pages e.place.page e.chain.items) v.failed.items
