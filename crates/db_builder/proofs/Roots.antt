-- The root of a tree is one of its pages.
use Rattle.std.proofs.Common.{◌≡◌, ◌<◌, ◌+◌, ℕ, zero, suc, Bool, true, false, nat_le, List, [], ◌∷◌, ◌++◌, length, arith}
use Rattle.std.specs.Prelude.{if◌then◌else◌}
use Rattle.std.proofs.lemmas.List.Sums.{sum_by-append}
use Rattle.cell_reader.specs.declared.shapes.Kind.{Kind}
use Rattle.tree_writer.specs.Cells.{width_of}
use Rattle.tree_writer.specs.Entry.{Entry, Item}
use Rattle.tree_writer.specs.Levels.{Line, Sheet, leaf_cut, leaf_line, level_cut, level_sheets, line_above, line_from, needs, pages_in, sheets_of, top_line, tree_line, tree_sheets}
use Rattle.tree_writer.specs.Trees.{tree_count}
use Rattle.tree_writer.proofs.Rising.{line_pages}

-- the last page of a level stands before the next level
right_below : (usable : ℕ) (kind : Kind) (k : ℕ) (firsts : List (List Item × Item)) (last : List Item)
    → (line_from (width_of usable kind) k firsts last).right < (line_from (width_of usable kind) k firsts last).next
right_below usable kind k [] last = omega arith
right_below usable kind k (f ∷ fs) last = right_below usable kind (k + width_of usable kind f.0) fs last

pages-append : (usable : ℕ) (kind : Kind) (xs ys : List Sheet) → pages_in usable kind (xs ++ ys) ≡ pages_in usable kind xs + pages_in usable kind ys
pages-append usable kind xs ys = sum_by-append (λ (s : Sheet). width_of usable kind s.items) xs ys

top_below : (usable : ℕ) (kind : Kind) (top n : ℕ) (line : Line) → line.right < line.next
    → (top_line usable kind top n line).right < line.next + pages_in usable kind (level_sheets usable kind top n line)
top_below usable kind top zero line lt = omega arith
top_below usable kind top (suc n) line lt =
    by (nat_le (needs usable kind false line.cells) top)
    (top_below usable kind top n (line_above usable kind line) (right_below usable kind line.next (level_cut usable kind line).firsts (level_cut usable kind line).last))
  where
    by : (b : Bool) → (top_line usable kind top n (line_above usable kind line)).right < (line_above usable kind line).next + pages_in usable kind (level_sheets usable kind top n (line_above usable kind line))
        → (if b then line else top_line usable kind top n (line_above usable kind line)).right
        < line.next + pages_in usable kind (if b then [] else sheets_of false (level_cut usable kind line) line.right ++ level_sheets usable kind top n (line_above usable kind line))
    by true h = omega arith
    by false h = omega (
      arith,
      h,
      line_pages usable kind false line.next (level_cut usable kind line).firsts (level_cut usable kind line).last line.right,
      pages-append usable kind (sheets_of false (level_cut usable kind line) line.right) (level_sheets usable kind top n (line_above usable kind line)),
    )

pub root_within : (usable : ℕ) (kind : Kind) (es : List Entry) → (tree_line usable kind 0 es).right < tree_count usable kind es
unfolding tree_line tree_sheets
root_within usable kind es =
    let cut = leaf_cut usable kind es in
    let line = leaf_line usable kind es in
    let n = length line.cells in
    let h = top_below usable kind 0 n line (right_below usable kind 0 cut.firsts cut.last) in
    omega (arith, h, line_pages usable kind true 0 cut.firsts cut.last 0, pages-append usable kind (sheets_of true cut 0) (level_sheets usable kind 0 n line))
