use Rattle.std.proofs.Common.{◌∙◌, ap}
use Rattle.std.specs.Str.{str_to_ascii_lowercase}
use Rattle.schema_texts.proofs.Names.{known_more, met_is}
use Rattle.schema_texts.proofs.rows.meet.Goals as goal

pub returns-clause-met : goal.returns-clause-met
returns-clause-met c =
    met_is c.args.names.now c.in_ok-to_ascii_lowercase.field-0 c.args.name.now c.in_ok-is_new.is_new (c.in_ok-to_ascii_lowercase.ensures.ok ∙ ap str_to_ascii_lowercase c.as_slice.ensures) c.in_ok-is_new.ensures.added

pub returns-clause-known : goal.returns-clause-known
returns-clause-known c =
    known_more c.args.names.now c.insert.new.self c.in_ok-to_ascii_lowercase.field-0 c.args.name.now (c.in_ok-to_ascii_lowercase.ensures.ok ∙ ap str_to_ascii_lowercase c.as_slice.ensures) c.in_ok-is_new.ensures.updates.0
