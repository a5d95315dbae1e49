use Rattle.salvage_core.proofs.Opening.{few_gathered, few_opened}
use Rattle.salvage_core.proofs.gathers.gather.Goals as goal

pub returns-in_err-input-clause-reads : goal.returns-in_err-input-clause-reads
returns-in_err-input-clause-reads g c =
    few_opened c.args.opts.now (g.S.Source.bytes c.args.src.now) (g.S.Source.reads c.args.src.now) (g.S.Source.reads c.open_input.new.src)
    c.in_err-input.ensures.few_reads

pub returns-in-Some-clause-reads : goal.returns-in-Some-clause-reads
returns-in-Some-clause-reads g c =
    few_gathered c.args.opts.now (g.S.Source.bytes c.args.src.now) (g.S.Source.bytes c.open_input.new.src) c.in_ok-input.field-0 c.in-Some.input
    (g.S.Source.reads c.args.src.now) (g.S.Source.reads c.open_input.new.src) (g.S.Source.reads c.gather_pages.new.src)
    c.in-Some.is c.open_input.ensures.bytes c.in_ok-input.ensures.told c.in_ok-input.ensures.whole c.in_ok-input.ensures.few_reads c.gather_pages.ensures.reads
