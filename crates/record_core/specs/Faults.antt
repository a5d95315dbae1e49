-- Payloads that hold no record to be read (docs/FORMAT.md, "Records"; fileformat2.html, 2.1).
use Rattle.std.specs.Prelude.{◌≡◌, ◌≤◌, ◌<◌, ◌⊎◌, ℕ, ◌+◌, List, ◌++◌, length}
use Rattle.std.specs.List.{AllByRecursion}
use Rattle.varint_core.specs.Varint.{IsVarint}
use Rattle.record_core.specs.declared.faults.RecordFault.{RecordFault}
use Rattle.record_core.specs.declared.faults.RecordFault.TheVariants.{HeaderBad, TooManyFields, Reserved, BodyShort, Memory}
use Rattle.record_core.specs.Record.{bodies_len}
use Rattle.record_core.specs.Spelling.{SpellsTypes}

-- the bytes begin with a header: its size, which counts its own bytes too, and its serial types
pub record IsHeader (bytes types : List ℕ) : Type 0 where
  pub size : List ℕ
  pub spelled : List ℕ
  pub rest : List ℕ
  pub parts : bytes ≡ size ++ (spelled ++ rest)
  pub header : IsVarint size (length size + length spelled)
  pub typed : SpellsTypes spelled types

-- a serial type stands for a value
abbrev pub IsKnown : ℕ → Type 0
IsKnown t = (t ≡ 10) ⊎ (t ≡ 11) → ⊥

-- a header of few serial types, of which one stands for nothing
pub record HasReserved (bytes types : List ℕ) : Type 0 where
  pub header : IsHeader bytes types
  pub few : length types ≤ 1996
  pub reserved : AllByRecursion IsKnown types → ⊥

-- a header of few known serial types, whose bodies are longer than the bytes behind it
pub record EndsInBodies (bytes types : List ℕ) : Type 0 where
  pub header : IsHeader bytes types
  pub few : length types ≤ 1996
  pub known : AllByRecursion IsKnown types
  pub short : length header.rest < bodies_len types

-- what each fault says of the payload
abbrev pub IsCause : List ℕ → RecordFault → Type 0
IsCause bytes HeaderBad = (types : List ℕ) → IsHeader bytes types → ⊥
IsCause bytes TooManyFields = (types : List ℕ) × IsHeader bytes types × (1996 < length types)
IsCause bytes Reserved = (types : List ℕ) × HasReserved bytes types
IsCause bytes BodyShort = (types : List ℕ) × EndsInBodies bytes types
IsCause bytes Memory = ⊥
