-- Names on the command line (docs/TEXTS.md, "Command line").
use Rattle.std.specs.Prelude.{ℕ, Bool, ◌==◌, ◌&&◌, not, List, length, take, codes}
use Rattle.std.specs.Str.{bytes_eq, str_to_ascii_lowercase}

-- a name begins with `sqlite_`, in any case of its letters
unfoldable pub begins_as_sqlite : List ℕ → Bool
begins_as_sqlite name = bytes_eq (str_to_ascii_lowercase (take 7 name)) (str_to_ascii_lowercase (codes "sqlite_"))

-- a name that the table of lost rows may have: it is not empty, and no name of SQLite's own
unfoldable pub is_lost_name : List ℕ → Bool
is_lost_name name = not (length name == 0) && not (begins_as_sqlite name)
