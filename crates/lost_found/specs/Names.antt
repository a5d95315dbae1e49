-- The name of the table of lost cells (docs/FORMAT.md, "The table of lost cells").
use Rattle.std.specs.Prelude.{◌≡◌, ◌⊎◌, ℕ, zero, suc, ◌+◌, ◌<◌, Bool, true, false, if◌then◌else◌, List, ◌++◌, length, take, codes, decimal}
use Rattle.table_shape.specs.Names.{is_named, same_name}

-- whether a name begins with `sqlite_`, ASCII case ignored
abbrev pub begins_internal : List ℕ → Bool
begins_internal name = same_name (take 7 name) (codes "sqlite_")

-- what the name may be made of
pub record CanBeBase (base : List ℕ) : Type 0 where
  pub some : 0 < length base
  pub not_internal : begins_internal base ≡ false

-- a base with a number behind it
abbrev pub numbered : List ℕ → ℕ → List ℕ
numbered base k = base ++ decimal k

-- the base is taken, and of 0, 1, 2, .. this is the first with which it is not
pub record IsFirstFree (base : List ℕ) (names : List (List ℕ)) (k : ℕ) : Type 0 where
  pub taken : is_named base names ≡ true
  pub free : is_named (numbered base k) names ≡ false
  pub first : (j : ℕ) → j < k → is_named (numbered base j) names ≡ true

-- the name beside these: the base where it is free, else the base with the first number with which it is free
pub record IsLostName (base : List ℕ) (names : List (List ℕ)) (name : List ℕ) : Type 0 where
  pub free : is_named name names ≡ false
  pub first : (name ≡ base) ⊎ ((k : ℕ) × (name ≡ numbered base k) × IsFirstFree base names k)

-- the first of the numbers from k on with which the base is free, of n + 1 numbers at most
abbrev pub free_from : ℕ → ℕ → List ℕ → List (List ℕ) → ℕ
free_from zero k base names = k
free_from (suc n) k base names = if is_named (numbered base k) names then free_from n (k + 1) base names else k

-- the name; one of as many numbers as there are names, and one more, is free
abbrev pub lost_name : List ℕ → List (List ℕ) → List ℕ
lost_name base names = if is_named base names then numbered base (free_from (length names) 0 base names) else base
