use Rattle.std.proofs.Common.{◌∙◌, ap}
use Rattle.std.specs.List.{position_from}
use Rattle.create_reader.specs.Index.{has_small}
use Rattle.create_reader.proofs.Lookup.{place_is}
use Rattle.create_reader.proofs.places.place.Goals as goal

pub returns : goal.returns
returns c = c.unwrap_or.ensures
    ∙ place_is c.args.columns.now c.args.name.now c.copied-number.result
    (c.copied-number.ensures ∙ c.get.ensures.value ∙ c.requires.from.places c.in_ok-small.small
    ∙ ap (λ bs. position_from (has_small bs) 0 c.args.columns.now) c.in_ok-small.ensures.ok)
