-- The order of keys (docs/FORMAT.md, "Order of keys"; fileformat2.html, 2.2).
use Rattle.std.specs.Prelude.{◌≡◌, ℕ, ◌-◌, ℤ, pos, Bool, true, false, not, ◌==◌, List, [], ◌∷◌, length, take}
use Rattle.std.specs.Cmp.Lexicographic.{pointwise, slice_cmp}
use Rattle.std.specs.List.{list_any, suffix_len}
use Rattle.std.specs.Ordering.{nat_cmp, int_cmp, on, then_cmp}
use Rattle.std.specs.Str.{str_to_ascii_lowercase}
use Rattle.std.specs.declared.cmp.Ordering.{Ordering}
use Rattle.key_order.specs.declared.Coll.{Coll}
use Rattle.key_order.specs.declared.Coll.TheVariants.{Binary, NoCase, RTrim}
use Rattle.record_core.specs.declared.values.Value.{Value}
use Rattle.record_core.specs.declared.values.Value.TheVariants.{Null, Whole, Real8, Text, Blob}

-- whether a text can be ordered under a collation: NOCASE stops at a zero byte
abbrev pub has_order : Coll → List ℕ → Bool
has_order Binary text = true
has_order NoCase text = not (list_any (λ b. b == 0) text)
has_order RTrim text = true

-- whether a value can be ordered under a collation
abbrev pub is_orderable : Coll → Value → Bool
is_orderable coll Null = true
is_orderable coll (Whole number) = true
is_orderable coll (Real8 bytes) = false
is_orderable coll (Text text) = has_order coll text
is_orderable coll (Blob bytes) = true

-- there are as many values as collations, and each can be ordered under its own
abbrev pub AreOrderable : List Coll → List Value → Type 0
AreOrderable colls values = pointwise is_orderable colls values ≡ true

-- a text without the spaces at its end
abbrev pub without_end_spaces : List ℕ → List ℕ
without_end_spaces text = take (length text - suffix_len (λ b. b == 32) text) text

-- what a collation sees of a text
abbrev pub folded_text : Coll → List ℕ → List ℕ
folded_text Binary text = text
folded_text NoCase text = str_to_ascii_lowercase text
folded_text RTrim text = without_end_spaces text

-- what a collation sees of a value
abbrev pub folded : Coll → Value → Value
folded coll Null = Null
folded coll (Whole number) = Whole number
folded coll (Real8 bytes) = Real8 bytes
folded coll (Text text) = Text (folded_text coll text)
folded coll (Blob bytes) = Blob bytes

-- a list of values, each folded by its collation
abbrev pub folded_list : List Coll → List Value → List Value
folded_list [] values = []
folded_list (coll ∷ colls) [] = []
folded_list (coll ∷ colls) (value ∷ values) = folded coll value ∷ folded_list colls values

-- the classes of values, as they rise; a real has no place among them
abbrev pub class : Value → ℕ
class Null = 0
class (Whole number) = 1
class (Text text) = 2
class (Blob bytes) = 3
class (Real8 bytes) = 4

-- the number that a whole number is, and else 0
abbrev pub number_in : Value → ℤ
number_in Null = pos 0
number_in (Whole number) = number
number_in (Real8 bytes) = pos 0
number_in (Text text) = pos 0
number_in (Blob bytes) = pos 0

-- the bytes of a text or a blob, and else none
abbrev pub bytes_in : Value → List ℕ
bytes_in Null = []
bytes_in (Whole number) = []
bytes_in (Real8 bytes) = []
bytes_in (Text text) = text
bytes_in (Blob bytes) = bytes

-- folded values by class, then whole numbers by value, then texts and blobs by bytes
abbrev pub value_cmp : Value → Value → Ordering
value_cmp = then_cmp (on class nat_cmp)
    (then_cmp (on number_in int_cmp) (on bytes_in (slice_cmp nat_cmp)))

-- lists of values by the first place where their folded values differ
abbrev pub keys_cmp : List Coll → List Value → List Value → Ordering
keys_cmp colls = on (folded_list colls) (slice_cmp value_cmp)
