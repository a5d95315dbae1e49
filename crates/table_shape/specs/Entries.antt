-- The entries of an automatic index (docs/FORMAT.md, "Entries of an automatic index"; fileformat2.html, 2.5
-- and 2.6).
use Rattle.std.specs.Prelude.{ℕ, Bool, true, false, not, nat_eq, List, [], ◌∷◌, ◌++◌, filter, map}
use Rattle.std.specs.Cmp.Lexicographic.{slice_cmp}
use Rattle.std.specs.List.{list_any}
use Rattle.std.specs.BTreeMap.{insert_entry}
use Rattle.key_order.specs.Order.{value_cmp}
use Rattle.record_core.specs.declared.values.Value.{Value}
use Rattle.table_shape.specs.declared.keys.Spot.{Spot}
use Rattle.table_shape.specs.declared.keys.Spot.TheVariants.{Rowid, Field}
use Rattle.table_shape.specs.declared.keys.KeyPart.{KeyPart}
use Rattle.table_shape.specs.Keys.{StoredRow, KeyParts, Keys, key_of, values_of}

-- whether a spot is this field
abbrev pub is_field : ℕ → Spot → Bool
is_field i Rowid = false
is_field i (Field j) = nat_eq i j

-- whether a part of the key that orders the rows follows in the index record: the rowid always, a column of
-- the primary key where the key has it not
abbrev pub follows : List KeyPart → Spot → Bool
follows parts Rowid = true
follows parts (Field i) = not (list_any (λ p. is_field i p.spot) parts)

-- the parts of an index record
abbrev pub entry_parts : Keys → KeyParts → List KeyPart
entry_parts t key = key.parts ++ filter (λ p. follows key.parts p.spot) t.first

-- what has a key, by its key, in the order of keys
abbrev pub in_order : {R : Type 0} → (R → List Value) → List R → List (List Value × R)
in_order key [] = []
in_order key (r ∷ rows) = insert_entry (slice_cmp value_cmp) (in_order key rows) (key r) r

-- the entries of a key: an index record for each row, in the order of keys
abbrev pub entries_of : Keys → KeyParts → List StoredRow → List (List Value)
entries_of t key rows = let parts = entry_parts t key in
    map (λ e. values_of parts e.1) (in_order (key_of parts) rows)
