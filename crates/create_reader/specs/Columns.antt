-- The columns of a text (docs/CREATE_TABLE.md, "Columns"; datatype3.html, 3.1).
use Rattle.std.specs.Prelude.{ℕ, Bool, false, not, ◌&&◌, ◌||◌, ◌==◌, if◌then◌else◌, Option, Some, None, List, [], ◌∷◌, length, take, codes, count_by}
use Rattle.std.specs.List.{before_first, list_any}
use Rattle.create_grammar.specs.declared.reading.Said.{Said}
use Rattle.create_grammar.specs.declared.roles.Role.TheVariants as role
use Rattle.create_grammar.specs.declared.spans.Word.{Word}
use Rattle.create_grammar.specs.Said.{is}
use Rattle.create_grammar.specs.Sorts.{word_bytes}
use Rattle.create_reader.specs.declared.texts.ColumnText.{ColumnText}
use Rattle.create_reader.specs.Names.{name_of}
use Rattle.key_order.specs.declared.Coll.{Coll}
use Rattle.key_order.specs.declared.Coll.TheVariants.{Binary, NoCase, RTrim}
use Rattle.table_shape.specs.Names.{same_name}

-- ---- words of types

-- the part stands at the front, or anywhere, ASCII case ignored
abbrev pub begins : List ℕ → List ℕ → Bool
begins part bytes = same_name part (take (length part) bytes)

abbrev pub holds : List ℕ → List ℕ → Bool
holds part [] = false
holds part (b ∷ bytes) = begins part (b ∷ bytes) || holds part bytes

abbrev pub is_real_word : List ℕ → Bool
is_real_word bytes = holds (codes "real") bytes || (holds (codes "floa") bytes || holds (codes "doub") bytes)

abbrev pub is_other_word : List ℕ → Bool
is_other_word bytes = holds (codes "int") bytes || (holds (codes "char") bytes || (holds (codes "clob") bytes
    || (holds (codes "text") bytes || holds (codes "blob") bytes)))

-- some word of the type passes a test
abbrev pub type_has : List ℕ → (List ℕ → Bool) → List Said → Bool
type_has sql test ws = list_any (λ w. is role.TypeWord w && test (word_bytes sql w.word)) ws

abbrev pub is_real : List ℕ → List Said → Bool
is_real sql ws = type_has sql is_real_word ws && not (type_has sql is_other_word ws)

abbrev pub is_integer_word : List ℕ → Bool
is_integer_word bytes = same_name bytes (codes "integer")

-- the type is the one word INTEGER, with no parenthesis
abbrev pub is_integer : List ℕ → List Said → Bool
is_integer sql ws = (count_by (is role.TypeWord) ws == 1)
    && (type_has sql is_integer_word ws && not (list_any (is role.TypeOpen) ws))

-- ---- collations

-- the word that names the last collation
abbrev pub last_collate : Option Word → List Said → Option Word
last_collate found [] = found
last_collate found (w ∷ ws) = last_collate (if is role.ColumnCollate w then Some w.word else found) ws

abbrev pub coll_named : List ℕ → Option Coll
coll_named name = if same_name name (codes "binary") then Some Binary
    else (if same_name name (codes "nocase") then Some NoCase
    else (if same_name name (codes "rtrim") then Some RTrim else None))

abbrev pub coll_by : List ℕ → Option Word → Option Coll
coll_by sql None = Some Binary
coll_by sql (Some word) = coll_named (name_of sql word)

-- ---- columns

-- the words of a column behind its name
abbrev pub own_words : List Said → List Said
own_words ws = before_first (is role.ColumnName) ws

abbrev pub column_of : List ℕ → Word → List Said → ColumnText
column_of sql word ws = record {
  name = name_of sql word;
  coll = coll_by sql (last_collate None ws);
  real = is_real sql ws;
  integer = is_integer sql ws;
}

-- each word that names a column, with its own words
abbrev pub columns_of : List ℕ → List Said → List ColumnText
columns_of sql [] = []
columns_of sql (w ∷ ws) = if is role.ColumnName w then column_of sql w.word (own_words ws) ∷ columns_of sql ws
    else columns_of sql ws
