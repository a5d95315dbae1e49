-- Varints (docs/FORMAT.md, "Varints"; fileformat2.html, 1.6).
use Rattle.std.specs.Prelude.{◌≡◌, ◌<◌, ◌≤◌, ◌⊎◌, ℕ, ◌+◌, ◌*◌, ◌%◌, List, [], ◌∷◌, ◌++◌, length, ◌==◌, nat_lt, if◌then◌else◌, Option, Some, None}
use Rattle.std.specs.List.{AllByRecursion}

-- a byte whose top bit is set: another byte follows
abbrev pub Continues : ℕ → Type 0
Continues byte = 128 ≤ byte

-- the number with the low seven bits of each byte as its digits, the highest first
abbrev pub sevens : List ℕ → ℕ → ℕ
sevens [] high = high
sevens (byte ∷ bytes) high = sevens bytes (high * 128 + byte % 128)

-- up to eight bytes: the last one ends the varint and gives seven bits
pub record EndsEarly (front : List ℕ) (last value : ℕ) : Type 0 where
  pub short : length front < 8
  pub ends : last < 128
  pub number : value ≡ sevens front 0 * 128 + last

-- nine bytes: the last one gives all of its eight bits
pub record EndsNinth (front : List ℕ) (last value : ℕ) : Type 0 where
  pub eight : length front ≡ 8
  pub number : value ≡ sevens front 0 * 256 + last

-- the bytes spell the number
pub record IsVarint (bytes : List ℕ) (value : ℕ) : Type 0 where
  pub front : List ℕ
  pub last : ℕ
  pub parts : bytes ≡ front ++ last ∷ []
  pub continued : AllByRecursion Continues front
  pub end : EndsEarly front last value ⊎ EndsNinth front last value

-- the bytes end before a varint that begins with them does
pub record EndsInside (bytes : List ℕ) : Type 0 where
  pub continued : AllByRecursion Continues bytes
  pub short : length bytes < 9

-- the varint that begins the bytes and its length, where k bytes before them gave the number `high`
abbrev pub varint_from : ℕ → ℕ → List ℕ → Option (ℕ × ℕ)
varint_from k high [] = None
varint_from k high (byte ∷ bytes) =
    if k == 8 then Some (high * 256 + byte, 9)
    else (if nat_lt byte 128 then Some (high * 128 + byte, k + 1) else varint_from (k + 1) (high * 128 + byte % 128) bytes)

-- the varint that begins the bytes, and its length
unfoldable pub varint_at : List ℕ → Option (ℕ × ℕ)
varint_at bytes = varint_from 0 0 bytes

-- whatever spelling begins the bytes is what was read: its number and its length
abbrev pub IsReadWhole : List ℕ → Option (ℕ × ℕ) → Type 0
IsReadWhole bytes read =
    (s rest : List ℕ) (v : ℕ) → IsVarint s v → bytes ≡ s ++ rest → read ≡ Some (v, length s)
