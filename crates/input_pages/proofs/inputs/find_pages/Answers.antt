use Rattle.input_pages.proofs.ReadCount.{few_reads}
use Rattle.input_pages.proofs.inputs.find_pages.Goals as goal

pub returns-clause-few_reads : goal.returns-clause-few_reads
returns-clause-few_reads g c =
    few_reads (g.S.Source.bytes c.args.src.now) _ c.in_ok-len.len _ _ _ _ _ c.length.ensures.kept.told c.in_ok-len.ensures.value c.length.ensures.reads
    c.find_geometry.ensures.reads
