use Rattle.std.proofs.Common.{◌≡◌, ◌++◌, ◌-◌, map}
use Rattle.std.specs.List.{range_with_len}
use Rattle.lost_found.specs.Texts.{behind_commas, field_name, field_names}
use Rattle.lost_found.proofs.texts.add_fields.Given as goal

abbrev pub invariant-loop-field : goal.invariant-loop-field
invariant-loop-field l =
    l.to.items ++ behind_commas (map field_name (range_with_len l.field (l.fields - l.field)))
    ≡ l.fn.to.items ++ behind_commas (field_names l.fields)
