use Rattle.input_pages.proofs.Origins.{from_somewhere}
use Rattle.input_pages.proofs.inputs.open_input.Goals as goal

pub returns-clause-origin : goal.returns-clause-origin
returns-clause-origin g c =
    from_somewhere (g.S.Source.bytes c.args.src.now) _ c.args.limit c.args.page_size c.args.reserved _ c.attach.ensures.bytes c.find_pages.ensures.told
