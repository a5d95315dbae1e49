-- Reading a record (docs/FORMAT.md, "Records"; fileformat2.html, 2.1).
use Rattle.std.specs.Prelude.{◌≡◌, ℕ, zero, suc, ◌+◌, ◌-◌, ◌/◌, ◌%◌, pos, Bool, ◌||◌, ◌==◌, nat_lt, List, [], ◌∷◌, length, take, drop, sum_by, Option, Some, None, option_map, option_and_then, Result, Ok, Err, if◌then◌else◌}
use Rattle.std.specs.List.{list_any}
use Rattle.byteorder.specs.Endian.{big_number, twos_complement}
use Rattle.varint_core.specs.Varint.{varint_at}
use Rattle.record_core.specs.declared.faults.RecordFault.{RecordFault}
use Rattle.record_core.specs.declared.faults.RecordFault.TheVariants.{HeaderBad, TooManyFields, Reserved, BodyShort, Memory}
use Rattle.record_core.specs.declared.spans.RecordSpans.{RecordSpans}
use Rattle.record_core.specs.declared.values.Value.{Value}
use Rattle.record_core.specs.declared.values.Value.TheVariants.{Null, Whole, Real8, Text, Blob}

-- the length of the body of a serial type
unfoldable pub body_len : ℕ → ℕ
body_len t =
    if nat_lt t 5 then t
    else (if t == 5 then 6
    else (if nat_lt t 8 then 8 else (if nat_lt t 12 then 0 else (t - 12) / 2)))

-- the serial types that stand for nothing yet
abbrev pub is_reserved : ℕ → Bool
is_reserved t = (t == 10) || (t == 11)

-- the value that a serial type and its body stand for
unfoldable pub value_of : ℕ → List ℕ → Value
value_of t body =
    if t == 0 then Null
    else (if nat_lt t 7 then Whole (twos_complement (body_len t) (big_number (body_len t) body))
    else (if t == 7 then Real8 body
    else (if t == 8 then Whole (pos 0)
    else (if t == 9 then Whole (pos 1)
    else (if t % 2 == 0 then Blob body else Text body)))))

-- bytes that a value holds: all of a real, a text or a blob
abbrev pub value_len : Value → ℕ
value_len Null = 0
value_len (Whole number) = 0
value_len (Real8 bytes) = length bytes
value_len (Text bytes) = length bytes
value_len (Blob bytes) = length bytes

-- the varints that stand one after another and fill the bytes, at most `fuel` of them
abbrev pub varints_in : ℕ → List ℕ → Option (List ℕ)
varints_in fuel [] = Some []
varints_in zero (byte ∷ bytes) = None
varints_in (suc fuel) (byte ∷ bytes) =
    option_and_then (λ v. option_map (λ ts. v.0 ∷ ts) (varints_in fuel (drop v.1 (byte ∷ bytes))))
    (varint_at (byte ∷ bytes))

-- the varints that fill the bytes
abbrev pub types_in : List ℕ → Option (List ℕ)
types_in bytes = varints_in (length bytes) bytes

-- the length of the bodies of the serial types
abbrev pub bodies_len : List ℕ → ℕ
bodies_len types = sum_by body_len types

-- the values that stand one after another at the front of the bytes
abbrev pub values_of : List ℕ → List ℕ → List Value
values_of [] bodies = []
values_of (t ∷ ts) bodies =
    value_of t (take (body_len t) bodies) ∷ values_of ts (drop (body_len t) bodies)

-- a header: where its first serial type stands, its size, and the serial types
pub record Header : Type 0 where
  pub start : ℕ
  pub size : ℕ
  pub types : List ℕ

-- the serial types between two places
abbrev pub header_types : ℕ → ℕ → Option (List ℕ) → Result Header RecordFault
header_types start size None = Err HeaderBad
header_types start size (Some types) = Ok (record { start = start; size = size; types = types })

-- the header whose size is spelled by its first bytes
abbrev pub header_from : List ℕ → Option (ℕ × ℕ) → Result Header RecordFault
header_from payload None = Err HeaderBad
header_from payload (Some h) =
    if nat_lt h.0 h.1 || nat_lt (length payload) h.0 then Err HeaderBad
    else header_types h.1 h.0 (types_in (take (h.0 - h.1) (drop h.1 payload)))

-- the header that begins the payload
unfoldable pub header_at : List ℕ → Result Header RecordFault
header_at payload = header_from payload (varint_at payload)

-- the header, where its serial types are few, none is reserved, and their bodies are there
unfoldable pub checked : List ℕ → Header → Result Header RecordFault
checked payload h =
    if nat_lt 1996 (length h.types) then Err TooManyFields
    else (if list_any is_reserved h.types then Err Reserved
    else (if nat_lt (length payload) (h.size + bodies_len h.types) then Err BodyShort else Ok h))

-- what a result holds, taken further
abbrev pub and_then : {X Y : Type 0} → Result X RecordFault → (X → Result Y RecordFault)
    → Result Y RecordFault
and_then (Ok x) next = next x
and_then (Err fault) next = Err fault

-- the header of a record that can be read, or the first fault
abbrev pub record_header : List ℕ → Result Header RecordFault
record_header payload = and_then (header_at payload) (checked payload)

-- the values of a record
abbrev pub values_at : List ℕ → Header → List Value
values_at payload h = values_of h.types (drop h.size payload)

-- the sizes in a record: how many values, the header, and all of it
abbrev pub spans_at : Header → RecordSpans
spans_at h = record { fields = length h.types; header = h.size; used = h.size + bodies_len h.types }

-- the values that the payload holds, or the first fault
abbrev pub record_of : List ℕ → Result (List Value) RecordFault
record_of payload = and_then (record_header payload) (λ h. Ok (values_at payload h))

-- the sizes in the record that the payload holds, or the first fault
abbrev pub spans_of : List ℕ → Result RecordSpans RecordFault
spans_of payload = and_then (record_header payload) (λ h. Ok (spans_at h))

-- a fault is the one of the reading, where memory did not run out
abbrev pub Fails : {Y : Type 0} → RecordFault → Result Y RecordFault → Type 0
Fails Memory read = Unit {0}
Fails HeaderBad read = read ≡ Err HeaderBad
Fails TooManyFields read = read ≡ Err TooManyFields
Fails Reserved read = read ≡ Err Reserved
Fails BodyShort read = read ≡ Err BodyShort

-- what a call answers, seen by `view`, is what the reading gives, unless memory ran out
abbrev pub Gives : {X Y : Type 0} → (X → Y) → Result X RecordFault → Result Y RecordFault → Type 0
Gives view (Ok x) read = read ≡ Ok (view x)
Gives view (Err fault) read = Fails fault read
