use Rattle.std.proofs.Common.{◌≡◌, drop, length}
use Rattle.std.specs.Prelude.{filter}
use Rattle.page_walk.specs.Taking.{is_of_kind}
use Rattle.orphan_trees.specs.Passes.{with_marks}
use Rattle.orphan_trees.proofs.marks.mark_all.Given as goal

abbrev pub invariant-loop-page : goal.invariant-loop-page
invariant-loop-page l = record {
  len : length l.marks ≡ length l.fn.marks;
  marked : with_marks (filter (is_of_kind l.survey l.pages l.kind) (drop l.page-index l.named)) l.marks
      ≡ with_marks (filter (is_of_kind l.survey l.pages l.kind) l.named) l.fn.marks;
}
