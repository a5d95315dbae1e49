-- Names of tables and indexes (docs/FORMAT.md, "Names"; fileformat2.html, 2.6 and 2.6.2).
use Rattle.std.specs.Prelude.{ℕ, Bool, ◌||◌, List, ◌++◌, take, codes, decimal}
use Rattle.std.specs.List.{list_any}
use Rattle.std.specs.Str.{bytes_eq, str_to_ascii_lowercase}

-- two names are the same where the case of ASCII letters is ignored
abbrev pub same_name : List ℕ → List ℕ → Bool
same_name a b = bytes_eq (str_to_ascii_lowercase a) (str_to_ascii_lowercase b)

-- one of the names is the same as this
abbrev pub is_named : List ℕ → List (List ℕ) → Bool
is_named name names = list_any (λ other. same_name other name) names

-- the four names of the schema table itself, and what the names of automatic indexes begin with
unfoldable pub is_schema_name : List ℕ → Bool
is_schema_name name = same_name name (codes "sqlite_master") || (same_name name (codes "sqlite_schema")
    || (same_name name (codes "sqlite_temp_master") || same_name name (codes "sqlite_temp_schema")))

unfoldable pub begins_as_automatic : List ℕ → Bool
begins_as_automatic name = same_name (take 17 name) (codes "sqlite_autoindex_")

-- no table that is written may have this name
abbrev pub is_reserved : List ℕ → Bool
is_reserved name = is_schema_name name || begins_as_automatic name

-- the name of the automatic index of a key: the table's name and the key's number
unfoldable pub index_name : List ℕ → ℕ → List ℕ
index_name table number = codes "sqlite_autoindex_" ++ (table ++ (codes "_" ++ decimal number))
