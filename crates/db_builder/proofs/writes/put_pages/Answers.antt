use Rattle.std.proofs.Common.{◌∙◌, ◌+◌, ◌++◌, ◌<◌, ◌≤◌, [], ap, sym, arith, drop, length, get_or}
use Rattle.page_access.proofs.Gains.{front_as, front_end, front_out, front_start, front_step}
use Rattle.page_access.proofs.Keeps.{KeepsSink-refl, KeepsSink-trans}
use Rattle.tree_writer.specs.Numbers.{number_of}
use Rattle.db_builder.specs.Layout.{gap, paged}
use Rattle.db_builder.proofs.Paging.{count_is, paged_end, paged_step}
use Rattle.db_builder.proofs.writes.put_pages.Goals as goal

pub loop-j-init : goal.loop-j-init
loop-j-init g c = (tt, λ pages are. front_start _ _ _, KeepsSink-refl _ _ _ _)

pub loop-j-preserved : goal.loop-j-preserved
loop-j-preserved g c = (
  c.in_ok-held.ensures.held,
  λ pages are.
      let number = number_of c.args.numbers.now.start c.args.numbers.now.lock in
      let size = length c.args.page.now in
      let j = c.loop-j.j in
      let rest = paged size number (j + 1) (drop (j + 1) pages) in
      let lt : j < length pages = omega (arith, count_is _ _ _ _ pages are, c.page_count.ensures.value, c.loop-j-test.true) in
      front_step rest
      (front_as (paged_step size number j pages lt ∙ ap (λ s. (gap s (number j) ++ get_or pages j []) ++ rest) (sym c.loop-j.auto.page)) (c.loop-j.invariant.1 pages are))
      (c.in_ok-held.ensures.writes pages are),
  KeepsSink-trans c.loop-j.invariant.2 c.in_ok-held.ensures.kept,
)

pub returns-in_err-held-clause-writes : goal.returns-in_err-held-clause-writes
returns-in_err-held-clause-writes g c = λ pages are.
    let number = number_of c.args.numbers.now.start c.args.numbers.now.lock in
    let size = length c.args.page.now in
    let j = c.loop-j.j in
    let rest = paged size number (j + 1) (drop (j + 1) pages) in
    let lt : j < length pages = omega (arith, count_is _ _ _ _ pages are, c.page_count.ensures.value, c.loop-j-test.true) in
    front_out rest c.from_residual.ensures.0
    (front_as (paged_step size number j pages lt ∙ ap (λ s. (gap s (number j) ++ get_or pages j []) ++ rest) (sym c.loop-j.auto.page)) (c.loop-j.invariant.1 pages are))
    (c.in_err-held.ensures.writes pages are)

pub returns-clause-writes : goal.returns-clause-writes
returns-clause-writes g c = λ pages are.
    let number = number_of c.args.numbers.now.start c.args.numbers.now.lock in
    let le : length pages ≤ c.loop-j.j = omega (arith, count_is _ _ _ _ pages are, c.page_count.ensures.value, c.loop-j-test.false) in
    front_end (front_as (paged_end (length c.args.page.now) number c.loop-j.j pages le) (c.loop-j.invariant.1 pages are))
