-- A record's values but for a long one (docs/FORMAT.md, "Records").
use Rattle.std.specs.Prelude.{◌≡◌, ◌≤◌, ◌<◌, ℕ, Bool, false, ◌==◌, List, length, drop, set, slice_index_or, Option, Some, None, Ok, IfSome}
use Rattle.std.specs.List.{slice_range}
use Rattle.record_core.specs.declared.long.LongValue.{LongValue}
use Rattle.record_core.specs.declared.taking.Apart.{Apart}
use Rattle.record_core.specs.declared.values.Value.{Value}
use Rattle.record_core.specs.declared.values.Value.TheVariants.{Null}
use Rattle.record_core.specs.Record.{record_of, value_of}

-- the long value has this number
abbrev pub has_long_at : Option LongValue → ℕ → Bool
has_long_at None field = false
has_long_at (Some l) field = l.field == field

-- the values with NULL in place of the long one
abbrev pub without_long : Option LongValue → List Value → List Value
without_long None values = values
without_long (Some l) values = set values l.field Null

-- one of the values is a text or a blob whose body stands there
pub record IsLongIn (values : List Value) (bodies : List ℕ) (l : LongValue) : Type 0 where
  pub there : l.field < length values
  pub kind : 12 ≤ l.kind
  pub low : l.from ≤ l.end
  pub high : l.end ≤ length bodies
  pub value : slice_index_or values l.field Null ≡ value_of l.kind (slice_range bodies l.from l.end)

-- the values of a record, and its long value where it has one
pub record IsApart (payload : List ℕ) (a : Apart) : Type 0 where
  pub values : List Value
  pub read : record_of payload ≡ Ok values
  pub inside : a.header ≤ length payload
  pub others : a.values.items ≡ without_long a.long values
  pub long : IfSome a.long (λ l. IsLongIn values (drop a.header payload) l)
