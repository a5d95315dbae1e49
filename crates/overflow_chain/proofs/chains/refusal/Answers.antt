use Rattle.std.proofs.Common.{◌≡◌, ◌≤◌, ◌∙◌, nat_le, sym, arith}
use Rattle.std.proofs.lemmas.Bool.{and_left, and_right, lt-leb, eq-eqb}
use Rattle.page_lists.specs.Table.{owner}
use Rattle.page_lists.proofs.Uses.{owner-unused}
use Rattle.overflow_chain.proofs.Reading.{out_of_range}
use Rattle.overflow_chain.proofs.chains.refusal.Goals as goal

pub returns-then-at-eq0-clause-some : goal.returns-then-at-eq0-clause-some
returns-then-at-eq0-clause-some c =
    out_of_range c.args.table.now c.args.at c.requires.partition (and_left (nat_le 1 c.args.at) (nat_le c.args.at c.args.table.now.pages) (lt-leb 1 c.args.at (omega arith)))

pub returns-then-at-last-clause-some : goal.returns-then-at-last-clause-some
returns-then-at-last-clause-some c =
    out_of_range c.args.table.now c.args.at c.requires.partition (and_right (nat_le 1 c.args.at) (nat_le c.args.at c.args.table.now.pages) (lt-leb c.args.at c.args.table.now.pages (omega arith)))

pub returns-clause-none : goal.returns-clause-none
returns-clause-none c =
    let low : 1 ≤ c.args.at = omega arith in
    let high : c.args.at ≤ c.args.table.now.pages = omega arith in
    let zero : owner c.args.at c.args.table.now.lists ≡ 0 = sym c.list_of.ensures.value ∙ c.if-list_of-ne0.false in
    sym (owner-unused c.args.table.now c.args.at c.requires.partition low high) ∙ eq-eqb (owner c.args.at c.args.table.now.lists) 0 zero
