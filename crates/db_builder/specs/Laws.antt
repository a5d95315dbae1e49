-- What holds of each database that can be written (docs/FORMAT.md, "Layout of a written file").
use Rattle.std.specs.Prelude.{ℕ, ◌≤◌, ◌^◌}
use Rattle.db_builder.specs.declared.databases.OutDb.{OutDb}
use Rattle.db_builder.specs.Load.{load}
use Rattle.db_builder.specs.Plannable.{CanPrepare}
use Rattle.db_builder.specs.Valid.{IsValid}

-- one that is not too large can be prepared, on pages of any size
abbrev pub CanBePrepared : Type 0
CanBePrepared = (size : ℕ) (db : OutDb) → 512 ≤ size → size ≤ 65536 → IsValid db → load db ≤ 2 ^ 35
    → CanPrepare size db
