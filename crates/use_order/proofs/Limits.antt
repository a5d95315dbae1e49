-- How many rows a schema has, and how long their texts are.
use Rattle.std.proofs.Common.{◌<◌, ◌≤◌, ℕ, ◌+◌, ◌*◌, ◌/◌, ◌^◌, List, [], ◌∷◌, arith}
use Rattle.std.specs.List.{AllByRecursion}
use Rattle.std.proofs.Math.Nat.{div-le_self, mul-le-mul_left}
use Rattle.std.proofs.lemmas.Nat.{mul-le}
use Rattle.page_access.specs.Files.{max_input}
use Rattle.raw_schema.specs.Bounds.{IsSmallEntry, sql_len}
use Rattle.raw_schema.specs.declared.rows.SchemaRow.{SchemaRow}

-- rows on pages of the file are few
pub few_rows : (rows bad tree pages usable size : ℕ) → rows + bad ≤ tree * (usable / 2) → tree ≤ pages → usable ≤ size → pages * size ≤ max_input → rows < 2 ^ 32
few_rows rows bad tree pages usable size some part most limit =
    let half : usable / 2 ≤ size = omega (arith, div-le_self usable 2, most) in
    omega (arith, some, limit, mul-le tree (usable / 2) pages size part half)

pub all_short : (pages usable size : ℕ) (rows : List SchemaRow) → usable ≤ size → pages * size ≤ max_input → AllByRecursion (IsSmallEntry usable pages) rows
    → AllByRecursion (λ (r : SchemaRow). sql_len r.sql < 2 ^ 32) rows
all_short pages usable size [] most limit all = tt
all_short pages usable size (r ∷ rows) most limit all =
    (omega (arith, all.0.texts, limit, mul-le-mul_left pages most), all_short pages usable size rows most limit all.1)
