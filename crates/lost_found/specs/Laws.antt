-- What holds of the name and the text of the table of lost cells (docs/FORMAT.md, "The table of lost cells").
use Rattle.std.specs.Prelude.{◌≡◌, ℕ, ◌<◌, ◌≤◌, ◌^◌, List, length}
use Rattle.create_reader.specs.Outcome.{IsTableText}
use Rattle.lost_found.specs.Names.{IsLostName, lost_name}
use Rattle.lost_found.specs.Texts.{lost_shape, lost_text}

-- the name is the first that is free, and there is one
abbrev pub HasFirstName : Type 0
HasFirstName = (base : List ℕ) (names : List (List ℕ)) → length names < 2 ^ 64
    → IsLostName base names (lost_name base names)

-- no other name is
abbrev pub HasOneName : Type 0
HasOneName = (base a b : List ℕ) (names : List (List ℕ)) → IsLostName base names a → IsLostName base names b → a ≡ b

-- the text says the shape, whatever the name, for up to 1,996 fields
abbrev pub TextSaysShape : Type 0
TextSaysShape = (name : List ℕ) (n : ℕ) → n ≤ 1996 → IsTableText (lost_text name n) (lost_shape name n)
