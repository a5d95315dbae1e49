use Rattle.std.proofs.Common.{◌≡◌, ◌++◌, ◌-◌, map}
use Rattle.std.specs.List.{range_with_len}
use Rattle.lost_found.specs.Texts.{field_name, field_names, first_names, plain_column}
use Rattle.lost_found.proofs.shapes.columns_of.Given as goal

abbrev pub invariant-loop-field : goal.invariant-loop-field
invariant-loop-field l =
    l.columns.items ++ map plain_column (map field_name (range_with_len l.field (l.fields - l.field)))
    ≡ map plain_column (first_names ++ field_names l.fields)
