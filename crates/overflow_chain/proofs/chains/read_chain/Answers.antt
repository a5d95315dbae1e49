use Rattle.std.proofs.Common.{ℕ, ◌-◌, ◌∙◌, sym, ap, arith}
use Rattle.page_access.proofs.Keeps.{not_failed}
use Rattle.overflow_chain.proofs.Reading.{reading_start, reading_partition, reading_pages, reading_lists, reading_page, reading_more, reading_done, reading_chain, reading_broken, reading_front, reading_front_err, front_none, paid_err}
use Rattle.overflow_chain.proofs.Taking.{taking_done}
use Rattle.overflow_chain.proofs.chains.read_chain.Goals as goal

pub loop-missing-init : goal.loop-missing-init
loop-missing-init g c =
    reading_start g.S.Source.bytes g.S.Source.attached g.S.Source.faults g.S.Source.reads c.args.geo.now c.args.first c.args.need c.args.src.now c.args.table.now c.args.pages.now.items
    c.args.to.now.items c.pages-last.ensures.partition c.requires.same_pages c.requires.lists

pub refusal-requires-clause-last : goal.refusal-requires-clause-last
refusal-requires-clause-last g c = c.pages-last.ensures.value ∙ (c.requires.same_pages ∙ sym (reading_pages c.loop-missing.invariant))

pub refusal-requires-clause-partition : goal.refusal-requires-clause-partition
refusal-requires-clause-partition g c = reading_partition c.loop-missing.invariant

pub returns-in-Some-clause-value : goal.returns-in-Some-clause-value
returns-in-Some-clause-value g c = reading_broken c.in-Some.why c.loop-missing.invariant c.loop-missing-test.true c.in-Some.ensures.some.0 c.in-Some.ensures.some.1

pub take_page-requires-clause-least : goal.take_page-requires-clause-least
take_page-requires-clause-least g c = (reading_page c.loop-missing.invariant c.in_default.ensures.none).0

pub take_page-requires-clause-most : goal.take_page-requires-clause-most
take_page-requires-clause-most g c = (reading_page c.loop-missing.invariant c.in_default.ensures.none).1

pub take_page-requires-clause-same_pages : goal.take_page-requires-clause-same_pages
take_page-requires-clause-same_pages g c = reading_pages c.loop-missing.invariant

pub take_page-requires-clause-lists : goal.take_page-requires-clause-lists
take_page-requires-clause-lists g c = reading_lists c.loop-missing.invariant

pub returns-in_err-take_page-clause-reads : goal.returns-in_err-take_page-clause-reads
returns-in_err-take_page-clause-reads g c =
    paid_err c.take_page.new.src c.take_page.new.table c.from_residual-in_err-take_page.result c.from_residual-in_err-take_page.ensures.0 c.loop-missing.invariant c.in_default.ensures.none
    c.in_err-take_page.ensures.err c.in_err-take_page.ensures.reads

pub loop-missing-preserved : goal.loop-missing-preserved
loop-missing-preserved g c =
    reading_more c.take_page.new.src c.take_page.new.table c.take_page.new.pages.items c.take_page.new.to.items c.take_page.new.buffer c.saturating_sub-missing.result c.read_u32-at.result
    c.loop-missing.invariant c.loop-missing-test.true c.in_default.ensures.none c.in_ok-take_page.ensures.page c.in_ok-take_page.ensures.pages c.in_ok-take_page.ensures.bytes
    c.in_ok-take_page.ensures.moved c.in_ok-take_page.ensures.kept (not_failed c.in_ok-take_page.ensures.cause.steady) c.in_ok-take_page.ensures.reads c.read_u32-at.ensures
    (c.saturating_sub-missing.ensures ∙ ap (λ (n : ℕ). c.loop-missing.missing - n) c.from-content_len.ensures)

pub returns-clause-value : goal.returns-clause-value
returns-clause-value g c = reading_done c.loop-missing.invariant (omega arith)

pub returns-clause-chain : goal.returns-clause-chain
returns-clause-chain g c = reading_chain c.loop-missing.invariant (omega arith)

pub returns-in-Some-clause-taken : goal.returns-in-Some-clause-taken
returns-in-Some-clause-taken g c = taking_done _ _ _ _ _ _ _ _ c.loop-missing.invariant.taking

pub returns-clause-taken : goal.returns-clause-taken
returns-clause-taken g c = taking_done _ _ _ _ _ _ _ _ c.loop-missing.invariant.taking

pub returns-clause-front : goal.returns-clause-front
returns-clause-front g c = reading_front c.loop-missing.invariant

pub returns-in-Some-clause-front : goal.returns-in-Some-clause-front
returns-in-Some-clause-front g c = reading_front c.loop-missing.invariant

pub returns-in_err-take_page-clause-front : goal.returns-in_err-take_page-clause-front
returns-in_err-take_page-clause-front g c =
    reading_front_err c.take_page.new.table c.take_page.new.pages.items c.take_page.new.to.items c.loop-missing.invariant c.loop-missing-test.true
    c.in_default.ensures.none c.in_err-take_page.ensures.err c.in_err-take_page.ensures.err_bytes c.in_err-take_page.ensures.err_pages

pub returns-in_err-page-clause-front : goal.returns-in_err-page-clause-front
returns-in_err-page-clause-front g c =
    front_none _ c.args.geo.now c.args.first c.args.need c.args.table.now c.args.pages.now.items c.args.to.now.items
