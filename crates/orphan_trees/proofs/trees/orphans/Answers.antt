use Rattle.std.proofs.Common.{◌≡◌, ◌∙◌, ℕ, false, ap, arith, map, replicate}
use Rattle.std.proofs.lemmas.List.{map-append}
use Rattle.std.proofs.lemmas.Option.{IfSome_then}
use Rattle.page_access.specs.Files.{file_of}
use Rattle.page_lists.specs.Table.{unused}
use Rattle.page_lists.proofs.Uses.{Moves-append}
use Rattle.page_walk.proofs.InTurn.{at_err, reads_more, reads_weaker}
use Rattle.orphan_trees.specs.Orphans.{ReadsOrphans, orphan_children, orphan_of}
use Rattle.orphan_trees.specs.Passes.{with_marks}
use Rattle.orphan_trees.proofs.Both.{both_moved, both_part, first_told, later_told, none_told, reads_told, value_told}
use Rattle.orphan_trees.proofs.trees.orphans.Goals as goal

pub returns-in_err-marks-clause-front : goal.returns-in_err-marks-clause-front
returns-in_err-marks-clause-front g c =
    none_told (g.S.Source.bytes c.args.src.now) c.args.geo.now c.args.table.now

pub returns-in_err-trees-clause-front : goal.returns-in_err-trees-clause-front
returns-in_err-trees-clause-front g c =
    let o = g.S.Source.bytes c.args.src.now in
    let o1 = g.S.Source.bytes c.mark_children.new.src in
    let geo = c.args.geo.now in
    let marked = IfSome_then o
    {P = λ all. c.in_ok-marks.marks.items ≡ with_marks (orphan_children (file_of all geo) (unused c.args.table.now)) (replicate geo.pages false)}
    {Q = λ all. c.deref.result.now ≡ with_marks (orphan_children (file_of all geo) (unused c.args.table.now)) (replicate geo.pages false)}
    c.in_ok-marks.ensures.value
    (λ all p. c.deref.ensures.value ∙ p) in
    first_told o o1 geo c.args.table.now c.walk_unmarked.new.table c.deref.result.now c.mark_children.ensures.kept.told c.pages-pages.ensures.partition c.requires.same_pages marked c.walk_unmarked.ensures.front

pub returns-in_err-later-clause-front : goal.returns-in_err-later-clause-front
returns-in_err-later-clause-front g c =
    let o = g.S.Source.bytes c.args.src.now in
    let o1 = g.S.Source.bytes c.mark_children.new.src in
    let geo = c.args.geo.now in
    let marked = IfSome_then o
    {P = λ all. c.in_ok-marks.marks.items ≡ with_marks (orphan_children (file_of all geo) (unused c.args.table.now)) (replicate geo.pages false)}
    {Q = λ all. c.deref.result.now ≡ with_marks (orphan_children (file_of all geo) (unused c.args.table.now)) (replicate geo.pages false)}
    c.in_ok-marks.ensures.value
    (λ all p. c.deref.ensures.value ∙ p) in
    let none : c.deref-2.result.now ≡ replicate geo.pages false =
    c.deref-2.ensures.value ∙ c.fill.ensures.items (λ y h. h) ∙ ap (λ (n : ℕ). replicate n false) (omega (arith, c.in_ok-marks.marks.ok.0, c.in_ok-marks.ensures.len)) in
    later_told o o1 (g.S.Source.bytes c.walk_unmarked.new.src) geo c.args.table.now c.walk_unmarked.new.table c.walk_unmarked-2.new.table c.deref.result.now c.deref-2.result.now (map orphan_of c.in_ok-trees.trees.items) c.mark_children.ensures.kept.told (c.walk_unmarked.ensures.kept.told ∙ c.mark_children.ensures.kept.told) c.pages-pages.ensures.partition c.requires.same_pages
    marked none c.in_ok-trees.ensures.value c.in_ok-trees.ensures.moved c.walk_unmarked-2.ensures.front

pub returns-in_err-append-clause-front : goal.returns-in_err-append-clause-front
returns-in_err-append-clause-front g c =
    let o = g.S.Source.bytes c.args.src.now in
    let o1 = g.S.Source.bytes c.mark_children.new.src in
    let geo = c.args.geo.now in
    let marked = IfSome_then o
    {P = λ all. c.in_ok-marks.marks.items ≡ with_marks (orphan_children (file_of all geo) (unused c.args.table.now)) (replicate geo.pages false)}
    {Q = λ all. c.deref.result.now ≡ with_marks (orphan_children (file_of all geo) (unused c.args.table.now)) (replicate geo.pages false)}
    c.in_ok-marks.ensures.value
    (λ all p. c.deref.ensures.value ∙ p) in
    let none : c.deref-2.result.now ≡ replicate geo.pages false =
    c.deref-2.ensures.value ∙ c.fill.ensures.items (λ y h. h) ∙ ap (λ (n : ℕ). replicate n false) (omega (arith, c.in_ok-marks.marks.ok.0, c.in_ok-marks.ensures.len)) in
    later_told o o1 (g.S.Source.bytes c.walk_unmarked.new.src) geo c.args.table.now c.walk_unmarked.new.table c.walk_unmarked-2.new.table c.deref.result.now c.deref-2.result.now (map orphan_of c.in_ok-trees.trees.items) c.mark_children.ensures.kept.told (c.walk_unmarked.ensures.kept.told ∙ c.mark_children.ensures.kept.told) c.pages-pages.ensures.partition c.requires.same_pages
    marked none c.in_ok-trees.ensures.value c.in_ok-trees.ensures.moved c.walk_unmarked-2.ensures.front

pub returns-clause-front : goal.returns-clause-front
returns-clause-front g c =
    let o = g.S.Source.bytes c.args.src.now in
    let o1 = g.S.Source.bytes c.mark_children.new.src in
    let geo = c.args.geo.now in
    let marked = IfSome_then o
    {P = λ all. c.in_ok-marks.marks.items ≡ with_marks (orphan_children (file_of all geo) (unused c.args.table.now)) (replicate geo.pages false)}
    {Q = λ all. c.deref.result.now ≡ with_marks (orphan_children (file_of all geo) (unused c.args.table.now)) (replicate geo.pages false)}
    c.in_ok-marks.ensures.value
    (λ all p. c.deref.ensures.value ∙ p) in
    let none : c.deref-2.result.now ≡ replicate geo.pages false =
    c.deref-2.ensures.value ∙ c.fill.ensures.items (λ y h. h) ∙ ap (λ (n : ℕ). replicate n false) (omega (arith, c.in_ok-marks.marks.ok.0, c.in_ok-marks.ensures.len)) in
    later_told o o1 (g.S.Source.bytes c.walk_unmarked.new.src) geo c.args.table.now c.walk_unmarked.new.table c.walk_unmarked-2.new.table c.deref.result.now c.deref-2.result.now (map orphan_of c.in_ok-trees.trees.items) c.mark_children.ensures.kept.told (c.walk_unmarked.ensures.kept.told ∙ c.mark_children.ensures.kept.told) c.pages-pages.ensures.partition c.requires.same_pages
    marked none c.in_ok-trees.ensures.value c.in_ok-trees.ensures.moved c.walk_unmarked-2.ensures.front

pub returns-in_err-later-clause-moves : goal.returns-in_err-later-clause-moves
returns-in_err-later-clause-moves g c =
    Moves-append 6 c.args.table.now c.walk_unmarked.new.table c.walk_unmarked-2.new.table (omega arith) c.walk_unmarked.ensures.moves c.walk_unmarked-2.ensures.moves

pub returns-in_err-append-clause-moves : goal.returns-in_err-append-clause-moves
returns-in_err-append-clause-moves g c =
    Moves-append 6 c.args.table.now c.walk_unmarked.new.table c.walk_unmarked-2.new.table (omega arith) c.walk_unmarked.ensures.moves c.walk_unmarked-2.ensures.moves

pub returns-clause-moves : goal.returns-clause-moves
returns-clause-moves g c =
    Moves-append 6 c.args.table.now c.walk_unmarked.new.table c.walk_unmarked-2.new.table (omega arith) c.walk_unmarked.ensures.moves c.walk_unmarked-2.ensures.moves

pub returns-clause-value : goal.returns-clause-value
returns-clause-value g c =
    let o = g.S.Source.bytes c.args.src.now in
    let o1 = g.S.Source.bytes c.mark_children.new.src in
    let geo = c.args.geo.now in
    let marked = IfSome_then o
    {P = λ all. c.in_ok-marks.marks.items ≡ with_marks (orphan_children (file_of all geo) (unused c.args.table.now)) (replicate geo.pages false)}
    {Q = λ all. c.deref.result.now ≡ with_marks (orphan_children (file_of all geo) (unused c.args.table.now)) (replicate geo.pages false)}
    c.in_ok-marks.ensures.value
    (λ all p. c.deref.ensures.value ∙ p) in
    let none : c.deref-2.result.now ≡ replicate geo.pages false =
    c.deref-2.ensures.value ∙ c.fill.ensures.items (λ y h. h) ∙ ap (λ (n : ℕ). replicate n false) (omega (arith, c.in_ok-marks.marks.ok.0, c.in_ok-marks.ensures.len)) in
    value_told o o1 (g.S.Source.bytes c.walk_unmarked.new.src) geo c.args.table.now c.walk_unmarked.new.table c.deref.result.now c.deref-2.result.now (map orphan_of c.in_ok-trees.trees.items)
    (map orphan_of c.in_ok-later.later.items) (map orphan_of c.append.new.self.items) c.mark_children.ensures.kept.told (c.walk_unmarked.ensures.kept.told ∙ c.mark_children.ensures.kept.told) c.pages-pages.ensures.partition c.requires.same_pages marked none
    c.in_ok-trees.ensures.value c.in_ok-trees.ensures.moved c.in_ok-later.ensures.value
    (ap (map orphan_of) c.in_ok-append.ensures.items ∙ map-append orphan_of c.in_ok-trees.trees.items c.in_ok-later.later.items)

pub returns-clause-moved : goal.returns-clause-moved
returns-clause-moved g c =
    both_moved c.args.table.now c.walk_unmarked.new.table c.walk_unmarked-2.new.table (map orphan_of c.in_ok-trees.trees.items) (map orphan_of c.in_ok-later.later.items) (map orphan_of c.append.new.self.items)
    c.in_ok-trees.ensures.moved c.in_ok-later.ensures.moved
    (ap (map orphan_of) c.in_ok-append.ensures.items ∙ map-append orphan_of c.in_ok-trees.trees.items c.in_ok-later.later.items)

pub returns-in_err-trees-clause-reads : goal.returns-in_err-trees-clause-reads
returns-in_err-trees-clause-reads g c =
    let o = g.S.Source.bytes c.args.src.now in
    let o1 = g.S.Source.bytes c.mark_children.new.src in
    let geo = c.args.geo.now in
    let marked = IfSome_then o
    {P = λ all. c.in_ok-marks.marks.items ≡ with_marks (orphan_children (file_of all geo) (unused c.args.table.now)) (replicate geo.pages false)}
    {Q = λ all. c.deref.result.now ≡ with_marks (orphan_children (file_of all geo) (unused c.args.table.now)) (replicate geo.pages false)}
    c.in_ok-marks.ensures.value
    (λ all p. c.deref.ensures.value ∙ p) in
    at_err (ReadsOrphans o geo (unused c.args.table.now) (g.S.Source.reads c.args.src.now) (g.S.Source.reads c.walk_unmarked.new.src)) c.from_residual-in_err-trees.result 0 1 c.from_residual-in_err-trees.ensures.0
    (reads_told o o1 geo c.args.table.now c.walk_unmarked.new.table (g.S.Source.reads c.args.src.now) (g.S.Source.reads c.mark_children.new.src) (g.S.Source.reads c.walk_unmarked.new.src) 1 c.mark_children.ensures.kept.told c.pages-pages.ensures.partition c.requires.same_pages c.mark_children.ensures.reads
    (first_told o o1 geo c.args.table.now c.walk_unmarked.new.table c.deref.result.now c.mark_children.ensures.kept.told c.pages-pages.ensures.partition c.requires.same_pages marked c.walk_unmarked.ensures.front) c.in_err-trees.ensures.reads)

pub returns-in_err-later-clause-reads : goal.returns-in_err-later-clause-reads
returns-in_err-later-clause-reads g c =
    let o = g.S.Source.bytes c.args.src.now in
    let o1 = g.S.Source.bytes c.mark_children.new.src in
    let geo = c.args.geo.now in
    let marked = IfSome_then o
    {P = λ all. c.in_ok-marks.marks.items ≡ with_marks (orphan_children (file_of all geo) (unused c.args.table.now)) (replicate geo.pages false)}
    {Q = λ all. c.deref.result.now ≡ with_marks (orphan_children (file_of all geo) (unused c.args.table.now)) (replicate geo.pages false)}
    c.in_ok-marks.ensures.value
    (λ all p. c.deref.ensures.value ∙ p) in
    let none : c.deref-2.result.now ≡ replicate geo.pages false =
    c.deref-2.ensures.value ∙ c.fill.ensures.items (λ y h. h) ∙ ap (λ (n : ℕ). replicate n false) (omega (arith, c.in_ok-marks.marks.ok.0, c.in_ok-marks.ensures.len)) in
    at_err (ReadsOrphans o geo (unused c.args.table.now) (g.S.Source.reads c.args.src.now) (g.S.Source.reads c.walk_unmarked-2.new.src)) c.from_residual-in_err-later.result 0 1 c.from_residual-in_err-later.ensures.0
    (reads_told o o1 geo c.args.table.now c.walk_unmarked-2.new.table (g.S.Source.reads c.args.src.now) (g.S.Source.reads c.mark_children.new.src) (g.S.Source.reads c.walk_unmarked-2.new.src) 1 c.mark_children.ensures.kept.told c.pages-pages.ensures.partition c.requires.same_pages c.mark_children.ensures.reads
    (later_told o o1 (g.S.Source.bytes c.walk_unmarked.new.src) geo c.args.table.now c.walk_unmarked.new.table c.walk_unmarked-2.new.table c.deref.result.now c.deref-2.result.now (map orphan_of c.in_ok-trees.trees.items) c.mark_children.ensures.kept.told (c.walk_unmarked.ensures.kept.told ∙ c.mark_children.ensures.kept.told) c.pages-pages.ensures.partition c.requires.same_pages
    marked none c.in_ok-trees.ensures.value c.in_ok-trees.ensures.moved c.walk_unmarked-2.ensures.front)
    (reads_more o1 (g.S.Source.bytes c.walk_unmarked.new.src) geo c.args.table.now c.walk_unmarked.new.table c.walk_unmarked-2.new.table (g.S.Source.reads c.mark_children.new.src) (g.S.Source.reads c.walk_unmarked.new.src) (g.S.Source.reads c.walk_unmarked-2.new.src) 0 1 c.walk_unmarked.ensures.kept.told c.in_ok-trees.ensures.reads c.in_err-later.ensures.reads))

pub returns-in_err-append-clause-reads : goal.returns-in_err-append-clause-reads
returns-in_err-append-clause-reads g c =
    let o = g.S.Source.bytes c.args.src.now in
    let o1 = g.S.Source.bytes c.mark_children.new.src in
    let geo = c.args.geo.now in
    let marked = IfSome_then o
    {P = λ all. c.in_ok-marks.marks.items ≡ with_marks (orphan_children (file_of all geo) (unused c.args.table.now)) (replicate geo.pages false)}
    {Q = λ all. c.deref.result.now ≡ with_marks (orphan_children (file_of all geo) (unused c.args.table.now)) (replicate geo.pages false)}
    c.in_ok-marks.ensures.value
    (λ all p. c.deref.ensures.value ∙ p) in
    let none : c.deref-2.result.now ≡ replicate geo.pages false =
    c.deref-2.ensures.value ∙ c.fill.ensures.items (λ y h. h) ∙ ap (λ (n : ℕ). replicate n false) (omega (arith, c.in_ok-marks.marks.ok.0, c.in_ok-marks.ensures.len)) in
    at_err (ReadsOrphans o geo (unused c.args.table.now) (g.S.Source.reads c.args.src.now) (g.S.Source.reads c.walk_unmarked-2.new.src)) c.from_residual-in_err-append.result 0 1 c.from_residual-in_err-append.ensures.0
    (reads_told o o1 geo c.args.table.now c.walk_unmarked-2.new.table (g.S.Source.reads c.args.src.now) (g.S.Source.reads c.mark_children.new.src) (g.S.Source.reads c.walk_unmarked-2.new.src) 1 c.mark_children.ensures.kept.told c.pages-pages.ensures.partition c.requires.same_pages c.mark_children.ensures.reads
    (later_told o o1 (g.S.Source.bytes c.walk_unmarked.new.src) geo c.args.table.now c.walk_unmarked.new.table c.walk_unmarked-2.new.table c.deref.result.now c.deref-2.result.now (map orphan_of c.in_ok-trees.trees.items) c.mark_children.ensures.kept.told (c.walk_unmarked.ensures.kept.told ∙ c.mark_children.ensures.kept.told) c.pages-pages.ensures.partition c.requires.same_pages
    marked none c.in_ok-trees.ensures.value c.in_ok-trees.ensures.moved c.walk_unmarked-2.ensures.front)
    (reads_weaker o1 geo c.args.table.now c.walk_unmarked-2.new.table (g.S.Source.reads c.mark_children.new.src) (g.S.Source.reads c.walk_unmarked-2.new.src) 0 1 (omega arith)
    (reads_more o1 (g.S.Source.bytes c.walk_unmarked.new.src) geo c.args.table.now c.walk_unmarked.new.table c.walk_unmarked-2.new.table (g.S.Source.reads c.mark_children.new.src) (g.S.Source.reads c.walk_unmarked.new.src) (g.S.Source.reads c.walk_unmarked-2.new.src) 0 0 c.walk_unmarked.ensures.kept.told c.in_ok-trees.ensures.reads c.in_ok-later.ensures.reads)))

pub returns-clause-reads : goal.returns-clause-reads
returns-clause-reads g c =
    let o = g.S.Source.bytes c.args.src.now in
    let o1 = g.S.Source.bytes c.mark_children.new.src in
    let geo = c.args.geo.now in
    let marked = IfSome_then o
    {P = λ all. c.in_ok-marks.marks.items ≡ with_marks (orphan_children (file_of all geo) (unused c.args.table.now)) (replicate geo.pages false)}
    {Q = λ all. c.deref.result.now ≡ with_marks (orphan_children (file_of all geo) (unused c.args.table.now)) (replicate geo.pages false)}
    c.in_ok-marks.ensures.value
    (λ all p. c.deref.ensures.value ∙ p) in
    let none : c.deref-2.result.now ≡ replicate geo.pages false =
    c.deref-2.ensures.value ∙ c.fill.ensures.items (λ y h. h) ∙ ap (λ (n : ℕ). replicate n false) (omega (arith, c.in_ok-marks.marks.ok.0, c.in_ok-marks.ensures.len)) in
    reads_told o o1 geo c.args.table.now c.walk_unmarked-2.new.table (g.S.Source.reads c.args.src.now) (g.S.Source.reads c.mark_children.new.src) (g.S.Source.reads c.walk_unmarked-2.new.src) 0 c.mark_children.ensures.kept.told c.pages-pages.ensures.partition c.requires.same_pages c.mark_children.ensures.reads
    (later_told o o1 (g.S.Source.bytes c.walk_unmarked.new.src) geo c.args.table.now c.walk_unmarked.new.table c.walk_unmarked-2.new.table c.deref.result.now c.deref-2.result.now (map orphan_of c.in_ok-trees.trees.items) c.mark_children.ensures.kept.told (c.walk_unmarked.ensures.kept.told ∙ c.mark_children.ensures.kept.told) c.pages-pages.ensures.partition c.requires.same_pages
    marked none c.in_ok-trees.ensures.value c.in_ok-trees.ensures.moved c.walk_unmarked-2.ensures.front)
    (reads_more o1 (g.S.Source.bytes c.walk_unmarked.new.src) geo c.args.table.now c.walk_unmarked.new.table c.walk_unmarked-2.new.table (g.S.Source.reads c.mark_children.new.src) (g.S.Source.reads c.walk_unmarked.new.src) (g.S.Source.reads c.walk_unmarked-2.new.src) 0 0 c.walk_unmarked.ensures.kept.told c.in_ok-trees.ensures.reads c.in_ok-later.ensures.reads)

pub returns-clause-part : goal.returns-clause-part
returns-clause-part g c =
    both_part c.args.table.now c.walk_unmarked.new.table (map orphan_of c.in_ok-trees.trees.items) (map orphan_of c.in_ok-later.later.items)
    (map orphan_of c.append.new.self.items) c.in_ok-trees.ensures.moved
    (ap (map orphan_of) c.in_ok-append.ensures.items ∙ map-append orphan_of c.in_ok-trees.trees.items c.in_ok-later.later.items)
    c.in_ok-trees.ensures.part c.in_ok-later.ensures.part
