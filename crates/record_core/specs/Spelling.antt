-- The bytes that spell a record (docs/FORMAT.md, "Records"; fileformat2.html, 2.1).
use Rattle.std.specs.Prelude.{◌≡◌, ◌≤◌, ◌<◌, ◌⊎◌, ℕ, ◌+◌, ◌*◌, ℤ, pos, List, [], ◌∷◌, ◌++◌, length, slice_index}
use Rattle.byteorder.specs.Endian.{big_number, twos_complement}
use Rattle.varint_core.specs.Varint.{IsVarint}
use Rattle.record_core.specs.declared.spans.RecordSpans.{RecordSpans}
use Rattle.record_core.specs.declared.values.Value.{Value}
use Rattle.record_core.specs.declared.values.Value.TheVariants.{Null, Whole, Real8, Text, Blob}

-- the serial types 1 to 6, and the length of the whole number that each stands for
abbrev pub IsWidth : ℕ → ℕ → Type 0
IsWidth t n =
    ((t ≡ 1) × (n ≡ 1)) ⊎ (((t ≡ 2) × (n ≡ 2)) ⊎ (((t ≡ 3) × (n ≡ 3))
    ⊎ (((t ≡ 4) × (n ≡ 4)) ⊎ (((t ≡ 5) × (n ≡ 6)) ⊎ ((t ≡ 6) × (n ≡ 8))))))

-- a whole number in as many bytes as its serial type says, in two's complement, the highest first
pub record IsNumber (t : ℕ) (body : List ℕ) (number : ℤ) : Type 0 where
  pub width : IsWidth t (length body)
  pub value : number ≡ twos_complement (length body) (big_number (length body) body)

-- the serial type alone says the number
pub record IsConstant (t : ℕ) (body : List ℕ) (number : ℤ) : Type 0 where
  pub none : body ≡ []
  pub value : ((t ≡ 8) × (number ≡ pos 0)) ⊎ ((t ≡ 9) × (number ≡ pos 1))

-- the table of serial types: a serial type and a body spell a value
abbrev pub IsBody : ℕ → List ℕ → Value → Type 0
IsBody t body Null = (t ≡ 0) × (body ≡ [])
IsBody t body (Whole number) = IsNumber t body number ⊎ IsConstant t body number
IsBody t body (Real8 bytes) = (t ≡ 7) × (length body ≡ 8) × (bytes ≡ body)
IsBody t body (Text bytes) = (t ≡ 2 * length body + 13) × (bytes ≡ body)
IsBody t body (Blob bytes) = (t ≡ 2 * length body + 12) × (bytes ≡ body)

-- the bytes are varints, one after another, of these numbers
abbrev pub SpellsTypes : List ℕ → List ℕ → Type 0
SpellsTypes bytes [] = bytes ≡ []
SpellsTypes bytes (t ∷ ts) =
    (first : List ℕ) × (others : List ℕ) × (bytes ≡ first ++ others) × IsVarint first t
    × SpellsTypes others ts

-- the bytes are the bodies of these serial types, one after another, with these values
abbrev pub SpellsBodies : List ℕ → List ℕ → List Value → Type 0
SpellsBodies bytes [] [] = bytes ≡ []
SpellsBodies bytes [] (v ∷ vs) = ⊥
SpellsBodies bytes (t ∷ ts) [] = ⊥
SpellsBodies bytes (t ∷ ts) (v ∷ vs) =
    (first : List ℕ) × (others : List ℕ) × (bytes ≡ first ++ others) × IsBody t first v
    × SpellsBodies others ts vs

-- The bytes spell the values: the header's size, which counts its own bytes too, the serial types,
-- the bodies, and any bytes after them.
pub record IsRecord (bytes : List ℕ) (values : List Value) : Type 0 where
  pub types : List ℕ
  pub size : List ℕ
  pub spelled : List ℕ
  pub bodies : List ℕ
  pub rest : List ℕ
  pub parts : bytes ≡ size ++ (spelled ++ (bodies ++ rest))
  pub header : IsVarint size (length size + length spelled)
  pub typed : SpellsTypes spelled types
  pub filled : SpellsBodies bodies types values

-- the sizes in bytes that spell a record
abbrev pub spans_in : {bytes : List ℕ} {values : List Value} → IsRecord bytes values → RecordSpans
spans_in {values = values} r =
    let header = length r.size + length r.spelled in
    record { fields = length values; header = header; used = header + length r.bodies }

-- the sizes are those of a record that the bytes spell
abbrev pub AreSpans : List ℕ → RecordSpans → Type 0
AreSpans bytes spans = (values : List Value) × (r : IsRecord bytes values) × (spans ≡ spans_in r)

-- the numbers are bytes
abbrev pub AreBytes : List ℕ → Type 0
AreBytes bytes = (k : ℕ) → slice_index bytes k < 256

-- the bytes spell the values, and no fewer bytes do
pub record IsShortestRecord (bytes : List ℕ) (values : List Value) : Type 0 where
  pub spelled : IsRecord bytes values
  pub least : (other : List ℕ) → AreBytes other → IsRecord other values
      → length bytes ≤ length other
