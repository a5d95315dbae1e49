-- Records in their shortest spelling (docs/FORMAT.md, "Records"; fileformat2.html, 2.1).
use Rattle.std.specs.Prelude.{◌≡◌, ◌≤◌, ◌<◌, ℕ, ◌+◌, ◌*◌, ◌^◌, ℤ, pos, negsuc, ◌==◌, nat_lt, List, [], ◌++◌, length, take, drop, get_or, flat_map, sum_by, if◌then◌else◌}
use Rattle.std.specs.Int.{w64}
use Rattle.byteorder.specs.Endian.{big_bytes, low_bytes}
use Rattle.varint_core.specs.Shortest.{spell}
use Rattle.record_core.specs.declared.values.Value.{Value}
use Rattle.record_core.specs.declared.values.Value.TheVariants.{Null, Whole, Real8, Text, Blob}
use Rattle.record_core.specs.Record.{body_len, value_len}

-- how far a number is from 0, or from -1 where it is below 0
abbrev pub steps : ℤ → ℕ
steps (pos n) = n
steps (negsuc n) = n

-- the first of the serial types 1 to 6 that has room for a number with this many steps
abbrev pub width_type : ℕ → ℕ
width_type n =
    if nat_lt n (2 ^ 7) then 1
    else (if nat_lt n (2 ^ 15) then 2
    else (if nat_lt n (2 ^ 23) then 3
    else (if nat_lt n (2 ^ 31) then 4 else (if nat_lt n (2 ^ 47) then 5 else 6))))

-- the serial type of a whole number: 0 and 1 have one of their own
unfoldable pub whole_type : ℤ → ℕ
whole_type (negsuc n) = width_type n
whole_type (pos n) = if n == 0 then 8 else (if n == 1 then 9 else width_type n)

-- the serial type of a value
abbrev pub serial_type : Value → ℕ
serial_type Null = 0
serial_type (Whole number) = whole_type number
serial_type (Real8 bytes) = 7
serial_type (Text bytes) = 2 * length bytes + 13
serial_type (Blob bytes) = 2 * length bytes + 12

-- the body of a whole number with a serial type
abbrev pub whole_body : ℕ → ℤ → List ℕ
whole_body t number = big_bytes (body_len t) (low_bytes w64 (body_len t) number)

-- the body of a value
abbrev pub body_of : Value → List ℕ
body_of Null = []
body_of (Whole number) = whole_body (whole_type number) number
body_of (Real8 bytes) = bytes
body_of (Text bytes) = bytes
body_of (Blob bytes) = bytes

-- the serial types of values, one after another
abbrev pub types_of : List Value → List ℕ
types_of values = flat_map (λ v. spell (serial_type v)) values

-- the bodies of values, one after another
abbrev pub bodies_of : List Value → List ℕ
bodies_of values = flat_map body_of values

-- the size of a header whose serial types take n bytes: it counts the bytes of its own varint too
abbrev pub header_len : ℕ → ℕ
header_len n = if nat_lt n 127 then n + 1 else (if nat_lt n 16382 then n + 2 else n + 3)

-- the shortest record of the values
unfoldable pub record_bytes : List Value → List ℕ
record_bytes values =
    spell (header_len (length (types_of values))) ++ (types_of values ++ bodies_of values)

-- values that a record can be written of
pub record IsWritable (values : List Value) : Type 0 where
  pub few : length values ≤ 4000
  pub small : sum_by value_len values < 2 ^ 40

-- a list with a piece written over it from a place on
abbrev pub put_at : List ℕ → ℕ → List ℕ → List ℕ
put_at old at piece = take at old ++ (piece ++ drop (at + length piece) old)

-- a value as the program holds it: a number of 64 bits, eight bytes of a floating point number
abbrev pub IsStored : Value → Type 0
IsStored Null = Unit {0}
IsStored (Whole number) = steps number < 2 ^ 63
IsStored (Real8 bytes) = length bytes ≡ 8
IsStored (Text bytes) = Unit {0}
IsStored (Blob bytes) = Unit {0}

-- each value is one that the program holds
abbrev pub AllStored : List Value → Type 0
AllStored values = (k : ℕ) → k < length values → IsStored (get_or values k Null)
