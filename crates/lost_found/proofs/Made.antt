-- The shape that is made is valid.
use Rattle.std.proofs.Common.{◌≡◌, sym, subst, ℕ, ◌≤◌, false, None, List, [], ◌++◌, map}
use Rattle.create_reader.proofs.One.{is_valid}
use Rattle.table_shape.specs.declared.columns.Column.{Column}
use Rattle.table_shape.specs.declared.columns.Key.{Key}
use Rattle.table_shape.specs.Shape.{IsShape, key_seen}
use Rattle.lost_found.specs.Texts.{field_names, first_names, lost_shape, lost_text, plain_column}
use Rattle.lost_found.proofs.Text.{text_says}

pub valid_shape : (name copy : List ℕ) (n : ℕ) (columns : List Column) (primary : List ℕ) (keys : List Key) → n ≤ 1996 → copy ≡ name
    → columns ≡ map plain_column (first_names ++ field_names n) → primary ≡ [] → keys ≡ [] → IsShape (record {
      name = copy;
      columns = columns;
      alias = None;
      without_rowid = false;
      primary = primary;
      keys = map key_seen keys;
      autoincrement = false;
    })
valid_shape name copy n columns primary keys few same are none no_keys =
    subst IsShape (λ i. record {
      name = sym same i;
      columns = sym are i;
      alias = None;
      without_rowid = false;
      primary = sym none i;
      keys = map key_seen (sym no_keys i);
      autoincrement = false;
    }) (is_valid (lost_text name n) (lost_shape name n) (text_says name n few))
