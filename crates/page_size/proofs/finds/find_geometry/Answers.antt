use Rattle.page_size.proofs.ReadCount.{told_reads}
use Rattle.page_size.proofs.finds.find_geometry.Goals as goal

pub returns-in_default-geometry_of-clause-reads : goal.returns-in_default-geometry_of-clause-reads
returns-in_default-geometry_of-clause-reads g c =
    told_reads _ _ c.args.len _ _ _ _ _ _ c.in_ok-header.ensures.kept.told c.in_ok-header.ensures.value c.in_ok-header.ensures.reads c.in_ok-sizing.ensures.reads

pub returns-clause-reads : goal.returns-clause-reads
returns-clause-reads g c =
    told_reads _ _ c.args.len _ _ _ _ _ _ c.in_ok-header.ensures.kept.told c.in_ok-header.ensures.value c.in_ok-header.ensures.reads c.in_ok-sizing.ensures.reads
