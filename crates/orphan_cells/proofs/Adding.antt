-- A loop over orphan trees and their turns.
use Rattle.std.proofs.Common.{◌≡◌, ℕ, List, [], ◌∷◌, ◌++◌, length, map, refl, sym, ◌∙◌, ap, subst, arith, append_assoc, append-nil}
use Rattle.std.specs.List.{AllByRecursion, flat_map}
use Rattle.std.proofs.lemmas.Grind.{flat_map-append}
use Rattle.page_walk.specs.Cells.{Outcome, Row}
use Rattle.report_text.specs.declared.ReportLine.{ReportLine}
use Rattle.report_text.specs.declared.ReportLine.TheVariants as lines
use Rattle.orphan_trees.specs.Orphans.{Orphan}
use Rattle.table_parts.specs.Lines.{note_line, note_lines}
use Rattle.salvaged_tables.specs.Fates.{Failed}
use Rattle.salvaged_tables.specs.Salvaged.{failed_seen, lost_seen}
use Rattle.salvaged_tables.specs.Steps.{AreFew}
use Rattle.orphan_cells.specs.Orphaned.{AreOrphanCells, orphan_failed, orphan_lines, orphan_lost, page_count, tree_failed, tree_lost, tree_notes}
use Rattle.orphan_cells.specs.Steps.{GainsTree}
use Rattle.orphan_cells.specs.declared.cells.OrphanCells.{OrphanCells}

-- some trees are gone over, and those of `left` are to come, with these turns
pub record Adding (trees left : List Orphan) (turns rest : List (List (ℕ × List Outcome))) (v : OrphanCells) : Type 0 where
  pub lost : map lost_seen v.lost.items ++ orphan_lost left rest ≡ orphan_lost trees turns
  pub failed : map failed_seen v.failed.items ++ orphan_failed left rest ≡ orphan_failed trees turns
  pub lines : v.lines.items ++ note_lines (flat_map tree_notes rest) ≡ orphan_lines trees turns
  pub same : length rest ≡ length left
  pub few : AllByRecursion AreFew rest

pub adding_start : (trees : List Orphan) (turns rest : List (List (ℕ × List Outcome))) (v : OrphanCells) → rest ≡ turns → v.lost.items ≡ [] → v.failed.items ≡ []
    → v.lines.items ≡ lines.Orphans (length trees) (page_count trees) ∷ [] → length turns ≡ length trees → AllByRecursion AreFew turns
    → Adding trees trees turns rest v
adding_start trees turns rest v whole lost failed line same few = rw whole (record {
  lost = ap (λ ls. map lost_seen ls ++ orphan_lost trees turns) lost;
  failed = ap (λ es. map failed_seen es ++ orphan_failed trees turns) failed;
  lines = ap (λ (ls : List ReportLine). ls ++ note_lines (flat_map tree_notes turns)) line;
  same = same;
  few = few;
})

-- what one more gives is there
moved : {X : Type 0} (before one rest now all : List X) → now ≡ before ++ one → before ++ (one ++ rest) ≡ all → now ++ rest ≡ all
moved {X} before one rest now all more was = ap (λ (xs : List X). xs ++ rest) more ∙ append_assoc before one rest ∙ was

pub adding_more : {trees left : List Orphan} {turns rest : List (List (ℕ × List Outcome))} {v : OrphanCells} (t : Orphan) (left' : List Orphan)
    (ts : List (ℕ × List Outcome)) (rest' : List (List (ℕ × List Outcome))) (v' : OrphanCells) → Adding trees left turns rest v → left ≡ t ∷ left'
    → rest ≡ ts ∷ rest' → GainsTree t.root ts v v' → Adding trees left' turns rest' v'
adding_more {trees} {left} {turns} {rest} {v} t left' ts rest' v' was next over gains =
    let lost : map lost_seen v.lost.items ++ orphan_lost (t ∷ left') (ts ∷ rest') ≡ orphan_lost trees turns =
    ap (λ (xs : List Orphan). map lost_seen v.lost.items ++ orphan_lost xs (ts ∷ rest')) (sym next)
    ∙ ap (λ (ys : List (List (ℕ × List Outcome))). map lost_seen v.lost.items ++ orphan_lost left ys) (sym over) ∙ was.lost in
    let failed : map failed_seen v.failed.items ++ orphan_failed (t ∷ left') (ts ∷ rest') ≡ orphan_failed trees turns =
    ap (λ (xs : List Orphan). map failed_seen v.failed.items ++ orphan_failed xs (ts ∷ rest')) (sym next)
    ∙ ap (λ (ys : List (List (ℕ × List Outcome))). map failed_seen v.failed.items ++ orphan_failed left ys) (sym over) ∙ was.failed in
    let line : v.lines.items ++ (note_lines (tree_notes ts) ++ note_lines (flat_map tree_notes rest')) ≡ orphan_lines trees turns =
    ap (λ (xs : List ReportLine). v.lines.items ++ xs) (sym (flat_map-append _ (tree_notes ts) (flat_map tree_notes rest')))
    ∙ ap (λ (ys : List (List (ℕ × List Outcome))). v.lines.items ++ note_lines (flat_map tree_notes ys)) (sym over) ∙ was.lines in
    record {
      lost = moved (map lost_seen v.lost.items) (tree_lost t.root ts) (orphan_lost left' rest') (map lost_seen v'.lost.items) (orphan_lost trees turns) gains.lost lost;
      failed = moved (map failed_seen v.failed.items) (tree_failed t.root ts) (orphan_failed left' rest') (map failed_seen v'.failed.items)
          (orphan_failed trees turns) gains.failed failed;
      lines = moved v.lines.items (note_lines (tree_notes ts)) (note_lines (flat_map tree_notes rest')) v'.lines.items (orphan_lines trees turns) gains.lines line;
      same = omega (arith, was.same, ap (λ (xs : List Orphan). length xs) next, ap (λ (ys : List (List (ℕ × List Outcome))). length ys) over);
      few = (subst (AllByRecursion AreFew) over was.few).1;
    }

-- the next turns have few cells on each page
pub adding_few : {trees left : List Orphan} {turns rest : List (List (ℕ × List Outcome))} {v : OrphanCells} (ts : List (ℕ × List Outcome))
    (rest' : List (List (ℕ × List Outcome))) → Adding trees left turns rest v → rest ≡ ts ∷ rest' → AreFew ts
adding_few ts rest' was over = (subst (AllByRecursion AreFew) over was.few).0

no_more : {X : Type 0} (xs : List X) → length xs ≡ 0 → xs ≡ []
no_more [] none = refl
no_more (x ∷ xs) none = absurd (omega (arith, none))

-- all trees are gone over
pub adding_end : {trees left : List Orphan} {turns rest : List (List (ℕ × List Outcome))} {v : OrphanCells} → Adding trees left turns rest v → length left ≡ 0
    → AreOrphanCells trees turns v
adding_end {trees} {left} {turns} {rest} {v} was none =
    let end : left ≡ [] = no_more left none in
    let over : rest ≡ [] = no_more rest (omega (arith, was.same, none)) in
    record {
      lost_are = sym (append-nil (map lost_seen v.lost.items))
          ∙ ap (λ (xs : List Orphan). map lost_seen v.lost.items ++ orphan_lost xs rest) (sym end) ∙ was.lost;
      failed_are = sym (append-nil (map failed_seen v.failed.items))
          ∙ ap (λ (xs : List Orphan). map failed_seen v.failed.items ++ orphan_failed xs rest) (sym end) ∙ was.failed;
      lines_are = sym (append-nil v.lines.items)
          ∙ ap (λ (ys : List (List (ℕ × List Outcome))). v.lines.items ++ note_lines (flat_map tree_notes ys)) (sym over) ∙ was.lines;
    }
