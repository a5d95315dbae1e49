use Rattle.std.proofs.Common.{◌∙◌, sym}
use Rattle.salvage_core.proofs.Assembling.{pages_told}
use Rattle.salvage_core.proofs.gathers.gather_pages.Goals as goal

pub returns-clause-plan : goal.returns-clause-plan
returns-clause-plan g c =
    pages_told c.args.opts.now (g.S.Source.bytes c.args.src.now) c.args.input.now.found c.args.input.now.left c.trunk_of-first_trunk.result c.in_ok-uses.uses
    c.in_ok-assemble.field-0 (sym c.is_utf16.ensures ∙ c.if-is_utf16.false) c.trunk_of-first_trunk.ensures c.in_ok-assemble.ensures.plan c.in_ok-uses.ensures.uses
