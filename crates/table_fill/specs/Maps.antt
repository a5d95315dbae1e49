-- The maps from keys to the kept rows, and what they hold (docs/ARCHITECTURE.md, "Rows of a table").
use Rattle.std.specs.Prelude.{◌≡◌, Bool, not, ◌&&◌, if◌then◌else◌, Option, Some, None, List, [], ◌∷◌, map}
use Rattle.std.specs.BTreeMap.{get}
use Rattle.std.specs.Cmp.Lexicographic.{slice_cmp}
use Rattle.std.specs.List.{AllByRecursion}
use Rattle.std.specs.Option.{option_map}
use Rattle.std.specs.Ordering.{is_eq}
use Rattle.key_order.specs.Folds.{Folds}
use Rattle.key_order.specs.Order.{value_cmp}
use Rattle.record_core.specs.declared.values.Value.{Value}
use Rattle.table_shape.specs.declared.keys.KeyPart.{KeyPart}
use Rattle.table_shape.specs.Entries.{in_order}
use Rattle.table_shape.specs.Keys.{KeyParts, Keys, has_null, key_of, parts_seen}
use Rattle.page_walk.specs.declared.outcomes.Place.{Place}
use Rattle.page_walk.specs.Cells.{Row, row_of}
use Rattle.table_fill.specs.declared.fates.Fate.{Fate}
use Rattle.table_fill.specs.declared.fates.LeftCell.{LeftCell}
use Rattle.table_fill.specs.declared.maps.KeyMap.{KeyMap}
use Rattle.table_fill.specs.declared.chooses.Filling.{Filling}
use Rattle.table_fill.specs.Chosen.{left_seen}
use Rattle.table_fill.specs.Fates.{Sorted, clash_in, clash_or, fate_of, held, place_where, row_key, with_fate}

-- the latest row with these folded fields by the key that orders the rows
abbrev pub row_at : List KeyPart → List Row → List Value → Option Row
row_at parts [] key = None
row_at parts (k ∷ kept) key =
    if is_eq (slice_cmp value_cmp (key_of parts (held k)) key) then Some k else row_at parts kept key

-- whether a row has these folded fields by a key with a number; none of them is NULL
abbrev pub has_key : List KeyPart → List Value → Row → Bool
has_key parts key k =
    not (has_null parts (held k)) && is_eq (slice_cmp value_cmp (key_of parts (held k)) key)

-- where the latest such row stands
abbrev pub place_at : List KeyPart → List Row → List Value → Option Place
place_at parts kept key = place_where (has_key parts key) kept

-- the key of a row in a map; none where a field of it is NULL
abbrev pub key_in : KeyMap → Row → Option Folds
key_in m r = let parts = m.plan.now.parts.items in
    if has_null parts (held r) then None else Some (key_of parts (held r))

abbrev pub keys_in : List KeyMap → Row → List (Option Folds)
keys_in maps r = map (λ m. key_in m r) maps

-- what a map answers for a key
abbrev pub place_by : KeyMap → Option Folds → Option Place
place_by m None = None
place_by m (Some key) = get (slice_cmp value_cmp) m.rows key

-- what the maps answer, the first first
abbrev pub found_by : List KeyMap → List (Option Folds) → Option Fate
found_by [] keys = None
found_by (m ∷ maps) [] = None
found_by (m ∷ maps) (k ∷ keys) = clash_or (place_by m k) m.plan.now.number (found_by maps keys)

-- a map holds the rows by its key
abbrev pub Holds : List Row → KeyMap → Type 0
Holds kept m = (key : List Value)
    → get (slice_cmp value_cmp) m.rows key ≡ place_at m.plan.now.parts.items kept key

-- a map has a row with this key more, that stands at this place; without a key there is none more
abbrev pub place_with : Option Folds → Place → List Value → Option Place → Option Place
place_with None place q rest = rest
place_with (Some key) place q rest = if is_eq (slice_cmp value_cmp key q) then Some place else rest

pub record AddedBy (key : Option Folds) (place : Place) (old new : KeyMap) : Type 0 where
  pub plan : new.plan ≡ old.plan
  pub rows : (q : List Value) → get (slice_cmp value_cmp) new.rows q
      ≡ place_with key place q (get (slice_cmp value_cmp) old.rows q)

-- the maps have a row with these keys more; where there are too few keys the last maps are as they were
abbrev pub AddedByAll : List (Option Folds) → Place → List KeyMap → List KeyMap → Type 0
AddedByAll keys place [] [] = Unit {0}
AddedByAll keys place [] (w ∷ new) = ⊥
AddedByAll keys place (m ∷ old) [] = ⊥
AddedByAll [] place (m ∷ old) (w ∷ new) = (w ≡ m) × AddedByAll [] place old new
AddedByAll (k ∷ keys) place (m ∷ old) (w ∷ new) = AddedBy k place m w × AddedByAll keys place old new

-- the keys of maps
abbrev pub keys_by : List KeyMap → List KeyParts
keys_by maps = map (λ m. parts_seen m.plan.now) maps

-- the kept rows with one more, where it has no other fate
abbrev pub kept_with : Row → Option Fate → List Row → List Row
kept_with r None kept = r ∷ kept
kept_with r (Some fate) kept = kept

-- maps that hold these rows were given one more: its clash by a key with a number, or else they hold it too
pub record TakenIn (r : Row) (fate : Option Fate) (kept : List Row) (old new : List KeyMap) : Type 0 where
  pub fate_is : fate ≡ clash_in (keys_by old) kept (held r)
  pub keys : keys_by new ≡ keys_by old
  pub rows : AllByRecursion (Holds (kept_with r fate kept)) new

abbrev pub TakeIn : Row → Option Fate → List KeyMap → List KeyMap → Type 0
TakeIn r fate old new = (kept : List Row) → AllByRecursion (Holds kept) old → TakenIn r fate kept old new

-- the maps and lists of a run show what was sorted out
pub record Shows (t : Keys) (s : Sorted) (f : Filling) : Type 0 where
  pub entries : map (λ e. (e.0, row_of e.1)) f.rows.entries ≡ in_order (row_key t) s.kept
  pub first : (key : List Value)
      → option_map row_of (get (slice_cmp value_cmp) f.rows key) ≡ row_at t.first s.kept key
  pub keys : keys_by f.maps.items ≡ t.keys
  pub maps : AllByRecursion (Holds s.kept) f.maps.items
  pub left : map left_seen f.left.items ≡ s.left

-- a run was given a cell that fits: it has the row, or gives the cell back with its clash
abbrev pub Keeps : Keys → Sorted → Row → Option LeftCell → Filling → Type 0
Keeps t s r None f = (fate_of t s.kept r ≡ None) × Shows t (with_fate s r None) f
Keeps t s r (Some l) f = (fate_of t s.kept r ≡ Some l.fate) × (row_of l.cell ≡ r) × Shows t s f
