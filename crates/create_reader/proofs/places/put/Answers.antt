use Rattle.std.proofs.Common.{◌≡◌, ◌∙◌, ap, ◌||◌, is_some, rules}
use Rattle.std.specs.Str.{str_to_ascii_lowercase}
use Rattle.create_reader.proofs.Lookup.{one_before}
use Rattle.create_reader.proofs.places.put.Goals.{then-is_some, else-is_some}
use Rattle.create_reader.proofs.places.put.Goals as goal

pub returns : goal.returns
returns c columns h =
    let repeats : c.if-is_some.index ≡ (is_some c.in_ok-later.later || c.args.index.now.repeats) =
    elim c.if-is_some.branch [ then-is_some w ↦ search rules | else-is_some w ↦ search rules ] in
    one_before c.args.number c.args.column.now columns c.args.index.now _ c.in_ok-name.name c.in_ok-later.later
    (c.in_ok-name.ensures.ok ∙ ap str_to_ascii_lowercase c.as_slice.ensures) c.in_ok-later.ensures.old c.in_ok-later.ensures.updates.0 repeats h
