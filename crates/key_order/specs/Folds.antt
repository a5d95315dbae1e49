-- Folded keys (docs/FORMAT.md, "Order of keys").
use Rattle.std.specs.Prelude.{List}
use Rattle.record_core.specs.declared.values.Value.{Value}

-- a folded key: values as their collations see them, one after another
abbrev pub Folds : Type 0
Folds = List Value
