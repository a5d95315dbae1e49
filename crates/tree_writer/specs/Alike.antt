-- Entries of one length, for the tests: entry i is filled with its number, and rowids are 0, 1, 2 and so on.
use Rattle.std.specs.Prelude.{ℕ, zero, suc, ◌+◌, ◌%◌, Bool, pos, if◌then◌else◌, Some, None, List, [], ◌∷◌, replicate}
use Rattle.tree_writer.specs.Entry.{Entry}

abbrev pub alike_at : Bool → ℕ → ℕ → Entry
alike_at rowids len i =
    record { rowid = if rowids then Some (pos i) else None; bytes = replicate len (i % 256) }

unfoldable pub alike_from : Bool → ℕ → ℕ → ℕ → List Entry
alike_from rowids len i zero = []
alike_from rowids len i (suc n) = alike_at rowids len i ∷ alike_from rowids len (i + 1) n
