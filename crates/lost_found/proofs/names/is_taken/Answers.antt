use Rattle.std.proofs.Common.{◌∙◌, ap}
use Rattle.std.specs.Str.{str_to_ascii_lowercase}
use Rattle.lost_found.specs.Small.{has_text}
use Rattle.lost_found.proofs.names.is_taken.Goals as goal

pub returns : goal.returns
returns c = c.contains.ensures ∙ (ap (has_text c.args.small.now.keys) (c.as_slice.ensures.value ∙ c.in_ok-letters.ensures)
    ∙ c.requires (str_to_ascii_lowercase c.args.name.now))
