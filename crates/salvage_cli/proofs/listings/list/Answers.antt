use Rattle.command_line.specs.Command.{file_view}
use Rattle.salvage_cli.proofs.Lists.{found_listed}
use Rattle.salvage_cli.proofs.listings.list.Goals as goal

pub returns-in-Some-clause-told : goal.returns-in-Some-clause-told
returns-in-Some-clause-told g c =
    found_listed (g.S.Source.bytes c.args.src.now) _ _ _ c.args.listing (file_view c.args.input.now) c.in_ok-pages.pages c.in-Some.pages _
    c.open_input.ensures.bytes c.in-Some.is c.in_ok-pages.ensures.told c.put_found.ensures.told
