use Rattle.std.proofs.Common.{◌≡◌, ℕ, zero, suc, None, List, [], ◌∷◌, map, refl, sym}
use Rattle.tree_writer.specs.Entry.{entry_at}
use Rattle.db_builder.specs.Trees.{index_entry}
use Rattle.record_core.specs.declared.values.Value.{Value}
use Rattle.table_shape.specs.Keys.{values_of}
use Rattle.db_builder.specs.Views.{row_at}
use Rattle.db_builder.proofs.indexes.IndexEntriesEntries.rowid.Goals as goal

none_at : (f : ℕ → List Value) (xs : List ℕ) (i : ℕ) → (entry_at (map (λ j. index_entry (f j)) xs) i).rowid ≡ None
none_at f [] i = refl
none_at f (x ∷ xs) zero = refl
none_at f (x ∷ xs) (suc i) = none_at f xs i

pub returns : goal.returns
returns c =
    let s = c.args.self.now in
    sym (none_at (λ j. values_of s.parts.now (row_at s.rows.now j)) s.order.now c.args._i)
