use Rattle.std.proofs.Common.{◌≡◌, ◌+◌, ◌-◌, length, drop, length-take, length-drop, rules, arith}
use Rattle.page_access.proofs.FewPages.{copied_next}
use Rattle.page_access.proofs.sparse.copy_sparse.Goals as goal

pub loop-done-preserved : goal.loop-done-preserved
loop-done-preserved c =
    let loop = c.loop-done in
    let count = c.min-count.result in
    let part = loop.done + count - loop.done in
    let fits : length c.copy_page.new.to ≡ count
    = omega (arith, c.copy_page.auto.to, c.min-count.ensures, length-take part (drop loop.done loop.to), length-drop loop.done loop.to) in
    let short = rw c.from.ensures at c.min-count.ensures in
    record {
      inside = search rules;
      same_length = search rules;
      copied = copied_next _ _ _ _ count _ _ _ loop.invariant.inside (omega arith) fits (omega (arith, short)) loop.invariant.copied
          (rw (c.from.ensures, c.from-in-loop-done.ensures) at c.copy_page.ensures);
    }
