-- Varints in their shortest spelling (docs/FORMAT.md, "Varints"; fileformat2.html, 1.6).
use Rattle.std.specs.Prelude.{◌≤◌, ℕ, zero, suc, ◌+◌, ◌-◌, ◌*◌, ◌/◌, ◌%◌, ◌^◌, List, [], ◌∷◌, ◌++◌, length, nat_lt, if◌then◌else◌}
use Rattle.varint_core.specs.Varint.{IsVarint}

-- the bytes spell the number, and no fewer bytes do
pub record IsShortest (bytes : List ℕ) (value : ℕ) : Type 0 where
  pub spelled : IsVarint bytes value
  pub least : (other : List ℕ) → IsVarint other value → length bytes ≤ length other

-- the length of the shortest spelling
unfoldable pub varint_len : ℕ → ℕ
varint_len v =
    if nat_lt v (2 ^ 7) then 1
    else (if nat_lt v (2 ^ 14) then 2
    else (if nat_lt v (2 ^ 21) then 3
    else (if nat_lt v (2 ^ 28) then 4
    else (if nat_lt v (2 ^ 35) then 5
    else (if nat_lt v (2 ^ 42) then 6
    else (if nat_lt v (2 ^ 49) then 7 else (if nat_lt v (2 ^ 56) then 8 else 9)))))))

-- n bytes that continue, with the lowest 7 n bits of a number, the highest first
abbrev pub front_of : ℕ → ℕ → List ℕ
front_of zero v = []
front_of (suc n) v = (v / 2 ^ (7 * n) % 128 + 128) ∷ front_of n v

-- the shortest spelling: the last byte gives seven bits, or eight where it is the ninth
unfoldable pub spell : ℕ → List ℕ
spell v =
    if nat_lt v (2 ^ 56) then front_of (varint_len v - 1) (v / 128) ++ v % 128 ∷ []
    else front_of 8 (v / 256) ++ v % 256 ∷ []
