-- A cell that is read from its first byte stands inside its page.
use Rattle.std.proofs.Common.{◌≡◌, ◌<◌, ◌≤◌, ℕ, ◌+◌, ◌-◌, ◌*◌, Bool, true, false, Option, Some, None, List, length, take, drop, refl, sym, subst, ◌∙◌, arith}
use Rattle.std.specs.List.{slice_range}
use Rattle.std.specs.Bool.{MatchBool}
use Rattle.std.proofs.lemmas.List.{length-take}
use Rattle.cell_reader.specs.declared.shapes.PageShape.{PageShape}
use Rattle.cell_reader.specs.declared.cells.CellView.{CellView}
use Rattle.cell_reader.specs.declared.parts.Parts.{Parts}
use Rattle.cell_reader.specs.Cell.{view_at}
use Rattle.cell_reader.specs.Inside.{HasArray, IsInside, IsParts, HasOverflow, has_payload}

-- the bytes from a place to the end of the usable part
pub range_fits : (page : List ℕ) (start usable : ℕ) → start ≤ usable
    → start + length (take (usable - start) (drop start page)) ≤ usable
range_fits page start usable le = rw length-take (omega arith)

-- the view of a cell of at most `len` bytes that end at the end of the usable bytes
pub view_inside : (usable pages start len : ℕ) (shape : PageShape) (p : Parts) (v : CellView)
    → v ≡ view_at start p → IsParts len p → start + len ≤ usable → shape.array_end ≤ start
    → p.total ≤ pages * usable → MatchBool (has_payload shape.kind shape.leaf) (1 ≤ p.total) (p.total ≡ 0)
    → IsInside usable pages shape v
unfolding view_at
view_inside usable pages start len shape p v e parts fits behind most payload =
    let some : 0 < p.from = parts.some in
    let local : p.from + p.kept ≤ p.size = parts.local in
    let whole : p.size ≤ len = parts.whole in
    let kept : (start + p.from + p.kept) - (start + p.from) ≡ p.kept = omega arith in
    subst (λ (w : CellView). IsInside usable pages shape w) (sym e) (record {
      some = omega arith;
      within = omega arith;
      behind = behind;
      first = omega arith;
      local = omega arith;
      last = omega arith;
      overflow = subst (λ (k : ℕ). HasOverflow p.overflow k p.total) (sym kept) parts.overflow;
      most = most;
      payload = payload;
      entry = local_some (has_payload shape.kind shape.leaf) payload;
    })
  where
    no_local : (overflow : Option ℕ) → HasOverflow overflow p.kept p.total → p.total ≡ 0 → p.kept ≡ 0
    no_local None all none = all ∙ none
    no_local (Some page) less none = absurd (omega (arith, less, none))

    local_some : (b : Bool) → MatchBool b (1 ≤ p.total) (p.total ≡ 0)
        → MatchBool b (start + p.from < start + p.from + p.kept) (start + p.from ≡ start + p.from + p.kept)
    local_some true some = let kept : 1 ≤ p.kept = parts.entry some in omega arith
    local_some false none = let kept : p.kept ≡ 0 = no_local p.overflow parts.overflow none in omega arith
