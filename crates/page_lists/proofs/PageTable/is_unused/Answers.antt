use Rattle.std.proofs.Common.{◌≡◌, ◌<◌, ℕ, nat_le, ◌==◌, ◌∙◌, subst, sym, ap, arith}
use Rattle.std.proofs.lemmas.Bool.{and_left, and_right, lt-leb}
use Rattle.page_lists.specs.Table.{IsPartition, Table}
use Rattle.page_lists.proofs.Uses.{owner-unused, unused_not_page}
use Rattle.page_lists.proofs.PageTable.is_unused.Goals as goal

pub returns-then-page-eq0-clause-value : goal.returns-then-page-eq0-clause-value
returns-then-page-eq0-clause-value c =
    sym (unused_not_page c.args.self.now c.args.page (subst (λ (t : Table). IsPartition t) c.self.view_is c.self.invariant.each)
    (and_left (nat_le 1 c.args.page) (nat_le c.args.page c.args.self.now.pages) (lt-leb 1 c.args.page (omega arith))))

pub returns-then-page-self-clause-value : goal.returns-then-page-self-clause-value
returns-then-page-self-clause-value c =
    let above : c.args.self.now.pages < c.args.page = omega (arith, ap (λ (t : Table). t.pages) c.self.view_is) in
    sym (unused_not_page c.args.self.now c.args.page (subst (λ (t : Table). IsPartition t) c.self.view_is c.self.invariant.each)
    (and_right (nat_le 1 c.args.page) (nat_le c.args.page c.args.self.now.pages) (lt-leb c.args.page c.args.self.now.pages above)))

pub returns-clause-value : goal.returns-clause-value
returns-clause-value c =
    ap (λ (n : ℕ). n == 0) c.list_of.ensures.value
    ∙ owner-unused c.args.self.now c.args.page c.list_of.ensures.partition (omega arith) (omega (arith, ap (λ (t : Table). t.pages) c.self.view_is))
