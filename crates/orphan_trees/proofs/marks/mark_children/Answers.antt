use Rattle.std.proofs.Common.{◌≡◌, ◌+◌, ◌∙◌, Bool, List, false, ap, arith, length, subst, sym}
use Rattle.std.proofs.lemmas.List.{length-replicate}
use Rattle.std.proofs.lemmas.Option.{IfSome_then}
use Rattle.page_access.specs.Files.{file_of}
use Rattle.page_access.proofs.Keeps.{not_failed}
use Rattle.page_lists.specs.Table.{unused}
use Rattle.orphan_trees.specs.Passes.{children_at, with_marks}
use Rattle.orphan_trees.proofs.Marking.{Marking, fewer_reads, marking_end, marking_more, marking_reads, marking_start, written_back}
use Rattle.orphan_trees.proofs.marks.mark_children.Goals as goal

pub loop-before-init : goal.loop-before-init
loop-before-init g c = record {
  accepted = ap length c.in_ok-accepted.ensures ∙ length-replicate c.args.geo.now.usable false;
  marking = marking_start g.S.Source c.args.geo.now (unused c.args.table.now) c.args.src.now c.args.cache.now c.in_ok-marks.marks.items
      (c.in_ok-marks.ensures.items_if_clones_equal (λ y h. h)) c.requires.cached;
}

pub loop-before-preserved : goal.loop-before-preserved
loop-before-preserved g c =
    let seen : c.as_mut_slice.result.now ≡ c.loop-before.marks.items = c.as_mut_slice.ensures.value in record {
      accepted = c.mark_page.ensures.accepted ∙ c.loop-before.invariant.accepted;
      marking = subst (λ (ms : List Bool). Marking g.S.Source c.args.geo.now (unused c.args.table.now) c.args.src.now c.mark_page.new.src c.args.cache.now
          c.mark_page.new.cache ms (c.loop-before.before + 1))
          (sym (written_back c.loop-before.marks.len c.mark_page.new.marks _ (omega (arith, c.mark_page.ensures.len, ap length seen, c.loop-before.marks.ok.0))))
          (marking_more c.mark_page.new.src c.mark_page.new.cache c.mark_page.new.marks c.loop-before.invariant.marking c.loop-before-test.true
          c.mark_page.ensures.kept (not_failed c.in_ok-mark_page.ensures.cause.steady) c.mark_page.ensures.cached c.mark_page.ensures.full
          (c.mark_page.ensures.len ∙ ap length seen) c.mark_page.ensures.reads
          (IfSome_then (g.S.Source.bytes c.loop-before.src)
          {P = λ all. c.mark_page.new.marks ≡ with_marks (children_at (file_of all c.args.geo.now) (unused c.args.table.now) (c.loop-before.before + 1)) c.as_mut_slice.result.now}
          {Q = λ all. c.mark_page.new.marks ≡ with_marks (children_at (file_of all c.args.geo.now) (unused c.args.table.now) (c.loop-before.before + 1)) c.loop-before.marks.items}
          c.in_ok-mark_page.ensures.value
          (λ all p. p ∙ ap (with_marks (children_at (file_of all c.args.geo.now) (unused c.args.table.now) (c.loop-before.before + 1))) seen)));
    }

pub returns-in_err-mark_page-clause-reads : goal.returns-in_err-mark_page-clause-reads
returns-in_err-mark_page-clause-reads g c =
    fewer_reads (g.S.Source.bytes c.args.src.now) c.args.geo.now (unused c.args.table.now) (g.S.Source.reads c.args.src.now) _ (c.loop-before.before + 1)
    (marking_reads (g.S.Source.reads c.mark_page.new.src) c.loop-before.invariant.marking c.loop-before-test.true c.mark_page.ensures.reads)

pub returns-in_err-mark_page-clause-full : goal.returns-in_err-mark_page-clause-full
returns-in_err-mark_page-clause-full g c = λ all.
    let before = c.loop-before.invariant.marking.full all in
    let after = c.mark_page.ensures.full before.0 in
    (after.0, after.1 ∙ before.1)

pub returns-clause-value : goal.returns-clause-value
returns-clause-value g c = marking_end c.loop-before.invariant.marking (omega arith)
