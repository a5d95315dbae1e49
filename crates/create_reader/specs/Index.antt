-- The columns of a table by their names, in a map that is searched in the time of a few comparisons.
use Rattle.std.specs.Prelude.{◌≡◌, ℕ, ◌<◌, ◌≤◌, nat_eq, Bool, false, List, Vec, get_or, length, map}
use Rattle.std.specs.declared.alloc.Global.{Global}
use Rattle.std.specs.declared.cmp.Ordering.{Ordering}
use Rattle.std.specs.BTreeMap.{get}
use Rattle.std.specs.Cmp.Lexicographic.{slice_cmp}
use Rattle.std.specs.List.{list_any, position_from}
use Rattle.std.specs.Ordering.{nat_cmp}
use Rattle.std.specs.Str.{bytes_eq, str_to_ascii_lowercase}
use Rattle.create_reader.specs.declared.places.Index.{Index}
use Rattle.create_reader.specs.declared.texts.ColumnText.{ColumnText}
use Rattle.create_reader.specs.Faults.{has_repeat}

-- names in the order of their bytes
abbrev pub name_cmp : Vec ℕ Global → Vec ℕ Global → Ordering
name_cmp a b = slice_cmp nat_cmp a.items b.items

-- whether a column has the name, whose capitals are small
abbrev pub has_small : List ℕ → ColumnText → Bool
has_small small c = bytes_eq (str_to_ascii_lowercase c.name) small

-- the index of columns that are counted from n: the first of each name, and whether a name comes again
pub record IsIndexFrom (n : ℕ) (columns : List ColumnText) (index : Index) : Type 0 where
  pub places : (name : Vec ℕ Global) → get name_cmp index.places name ≡ position_from (has_small name.items) n columns
  pub repeats : index.repeats ≡ has_repeat (map (λ c. c.name) columns)

-- the index of the columns of a table that is read
pub record IsIndex (columns : List ColumnText) (index : Index) : Type 0 where
  pub few : length columns ≤ 1996
  pub from : IsIndexFrom 0 columns index

-- the marks are at these numbers, of all below their length
abbrev pub AreMarked : List ℕ → List Bool → Type 0
AreMarked found marks = (k : ℕ) → k < length marks → get_or marks k false ≡ list_any (nat_eq k) found
