use Rattle.std.proofs.Common.{refl}
use Rattle.page_access.specs.Files.{file_of}
use Rattle.salvage_cli.specs.Wanted.{listing_text}
use Rattle.salvage_cli.proofs.Lists.{finished}
use Rattle.salvage_cli.proofs.listings.put_all.Goals as goal

pub returns-clause-text : goal.returns-clause-text
returns-clause-text g c =
    finished (g.S.Source.bytes c.args.src.now) (g.S.Source.bytes c.args.src.now) _ _ _ _ _ (λ all. listing_text c.args.listing (file_of all c.args.geo.now)) _ _
    refl c.in_ok-put_listing.ensures.text c.finish.ensures.bytes c.finish.ensures.only
