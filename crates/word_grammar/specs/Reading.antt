-- Reading by one word of sight (docs/CREATE_TABLE.md, "One word of sight").
use Rattle.std.specs.Prelude.{ℕ, zero, suc, ◌+◌, Bool, true, false, not, ◌&&◌, ◌||◌, nat_eq, if◌then◌else◌, List, [], ◌∷◌, ◌++◌, length}
use Rattle.std.specs.List.{list_any}
use Rattle.word_grammar.specs.Form.{Form, nothing, group, word, follow, either, maybe, many, runs, Labelled, has, opens, bad, depth_behind}

-- the words that were read, with their roles, and the rest; or how many words were read before the first that
-- does not go on
pub data Reading : Type 0 where
  took : Labelled → List ℕ → Reading
  fails : ℕ → Reading

abbrev pub with_front : Labelled → Reading → Reading
with_front front (took ls rest) = took (front ++ ls) rest
with_front front (fails n) = fails (length front + n)

abbrev pub and_then : Reading → (List ℕ → Reading) → Reading
and_then (took ls rest) next = with_front ls (next rest)
and_then (fails n) next = fails n

-- whether there is a next word, and it is of the class
abbrev pub next_in : List ℕ → List ℕ → Bool
next_in class [] = false
next_in class (w ∷ ws) = has class w

-- the sorts that a text of the form may begin with, where `others` may follow it
abbrev pub firsts : Form → List ℕ → List ℕ
firsts nothing others = others
firsts group others = opens ∷ []
firsts (word role class) others = class
firsts (follow f g) others = firsts f (firsts g others)
firsts (either f g) others = firsts f others ++ firsts g others
firsts (maybe f) others = firsts f [] ++ others
firsts (many f) others = firsts f [] ++ others
firsts (runs role class f g) others = class ++ others

-- ---- the reading

abbrev pub reads_word : ℕ → List ℕ → List ℕ → Reading
reads_word role class [] = fails 0
reads_word role class (w ∷ ws) = if has class w then took ((role, w) ∷ []) ws else fails 0

-- the rest of a group, at a depth
abbrev pub reads_inside : ℕ → List ℕ → Reading
reads_inside zero ws = took [] ws
reads_inside (suc d) [] = fails 0
reads_inside (suc d) (w ∷ ws) = if nat_eq w bad then fails 0
    else with_front ((0, w) ∷ []) (reads_inside (depth_behind d w) ws)

abbrev pub reads_group : List ℕ → Reading
reads_group ws = and_then (reads_word 0 (opens ∷ []) ws) (reads_inside 1)

-- the same form again while the next word may begin it, at most n times
abbrev pub reads_many : ℕ → (List ℕ → Reading) → List ℕ → List ℕ → Reading
reads_many zero reader first ws = took [] ws
reads_many (suc n) reader first ws = if next_in first ws
    then and_then (reader ws) (reads_many n reader first) else took [] ws

-- the readers of the two parts of `runs`, with the sorts that they begin with
pub record Parts : Type 0 where
  pub first : List ℕ → Reading
  pub first_sorts : List ℕ
  pub later : List ℕ → Reading

-- (c g)*
abbrev pub reads_later : ℕ → List ℕ → Parts → List ℕ → Reading
reads_later role class parts ws =
    reads_many (length ws) (λ xs. and_then (reads_word role class xs) parts.later) class ws

-- (c f)* (c g)*, with at most n of the first
abbrev pub reads_runs : ℕ → ℕ → List ℕ → Parts → List ℕ → Reading
reads_runs zero role class parts ws = took [] ws
reads_runs (suc n) role class parts ws = if next_in class ws
    then and_then (reads_word role class ws) (λ xs. if next_in parts.first_sorts xs
    then and_then (parts.first xs) (reads_runs n role class parts)
    else and_then (parts.later xs) (reads_later role class parts))
    else took [] ws

abbrev pub reads : Form → List ℕ → Reading
reads nothing ws = took [] ws
reads group ws = reads_group ws
reads (word role class) ws = reads_word role class ws
reads (follow f g) ws = and_then (reads f ws) (reads g)
reads (either f g) ws = if next_in (firsts f []) ws then reads f ws else reads g ws
reads (maybe f) ws = if next_in (firsts f []) ws then reads f ws else took [] ws
reads (many f) ws = reads_many (length ws) (reads f) (firsts f []) ws
reads (runs role class f g) ws = reads_runs (length ws) role class
    (record { first = reads f; first_sorts = firsts f []; later = reads g }) ws

-- ---- where one word of sight is enough

-- whether a form has the text of no words
abbrev pub may_be_empty : Form → Bool
may_be_empty nothing = true
may_be_empty group = false
may_be_empty (word role class) = false
may_be_empty (follow f g) = may_be_empty f && may_be_empty g
may_be_empty (either f g) = may_be_empty f || may_be_empty g
may_be_empty (maybe f) = true
may_be_empty (many f) = true
may_be_empty (runs role class f g) = true

-- no sort is of both classes
abbrev pub are_apart : List ℕ → List ℕ → Bool
are_apart class others = not (list_any (has others) class)

abbrev pub is_some_class : List ℕ → Bool
is_some_class [] = false
is_some_class (s ∷ class) = true

-- one word of sight tells how to go on in the form, where `others` may follow it
abbrev pub is_plain : Form → List ℕ → Bool
is_plain nothing others = true
is_plain group others = true
is_plain (word role class) others = is_some_class class
is_plain (follow f g) others = is_plain f (firsts g others) && is_plain g others
is_plain (either f g) others = (is_plain f others && is_plain g others)
    && (not (may_be_empty f || may_be_empty g) && are_apart (firsts f []) (firsts g []))
is_plain (maybe f) others = is_plain f others && (not (may_be_empty f) && are_apart (firsts f []) others)
is_plain (many f) others = is_plain f (firsts f [] ++ others)
    && (not (may_be_empty f) && are_apart (firsts f []) others)
is_plain (runs role class f g) others = (is_plain f (class ++ others) && is_plain g (class ++ others))
    && ((not (may_be_empty f || may_be_empty g) && are_apart (firsts f []) (firsts g []))
    && (is_some_class class && are_apart class others))
