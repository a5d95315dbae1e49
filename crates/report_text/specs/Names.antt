-- How a name is written in a line (docs/TEXTS.md, "Names").
use Rattle.std.specs.Prelude.{◌≡◌, ℕ, ◌==◌, nat_le, not, Bool, ◌&&◌, if◌then◌else◌, List, [], ◌∷◌, ◌++◌, codes}
use Rattle.std.specs.List.{flat_map}
use Rattle.hex.specs.Hex.{IsBytes, encode_lower}

-- a byte that stands as it is: from 21 to 7e in hexadecimal digits, and no backslash
abbrev pub is_plain : ℕ → Bool
is_plain byte = nat_le 33 byte && nat_le byte 126 && not (byte == 92)

-- any other byte is a backslash and two hexadecimal digits
abbrev pub esc_byte : ℕ → List ℕ
esc_byte byte = if is_plain byte then byte ∷ [] else codes "\\" ++ encode_lower (byte ∷ [])

-- a name, byte by byte; the empty name is one backslash
abbrev pub esc : List ℕ → List ℕ
esc [] = codes "\\"
esc (byte ∷ bytes) = flat_map esc_byte (byte ∷ bytes)

-- names that are written alike are the same
abbrev pub NamesAreToldApart : Type 0
NamesAreToldApart = (a b : List ℕ) → IsBytes a → IsBytes b → esc a ≡ esc b → a ≡ b
