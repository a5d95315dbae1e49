-- The sorts of words (docs/CREATE_TABLE.md, "Words").
use Rattle.std.specs.Prelude.{ℕ, ◌-◌, Bool, ◌==◌, if◌then◌else◌, List, codes, drop, map, take}
use Rattle.std.specs.Str.{str_eq_ignore_ascii_case}
use Rattle.create_grammar.specs.declared.sorts.Sort.{Sort}
use Rattle.create_grammar.specs.declared.sorts.Sort.TheVariants.{Open, Close, Bad, Comma, Plus, Minus, Mark, Number, Blob, Quoted, Text, Create, Table, Virtual, Without, Rowid, Strict, Constraint, Primary, Key, Unique, Check, Foreign, Not, Null, Default, Collate, References, Generated, Always, As, Stored, Deferrable, Initially, Deferred, Immediate, Asc, Desc, Autoincrement, On, Conflict, Delete, Update, Insert, Set, Cascade, Restrict, No, Action, Match, Bare}
use Rattle.create_grammar.specs.declared.spans.Word.{Word}
use Rattle.create_grammar.specs.declared.spans.WordKind.{WordKind}
use Rattle.create_grammar.specs.declared.spans.WordKind.TheVariants as kind
use Rattle.create_grammar.specs.Words.{words_of}

-- the bytes of a keyword, ASCII case ignored
abbrev pub is_word : List ℕ → List ℕ → Bool
is_word a b = str_eq_ignore_ascii_case a b

-- the bytes of a word
abbrev pub word_bytes : List ℕ → Word → List ℕ
word_bytes sql w = take (w.end - w.start) (drop w.start sql)

-- the sort of a bare word: a keyword, or another word
unfoldable pub keyword_4 : List ℕ → Sort
keyword_4 bytes = if is_word bytes (codes "DELETE") then Delete
    else (if is_word bytes (codes "UPDATE") then Update
    else (if is_word bytes (codes "INSERT") then Insert
    else (if is_word bytes (codes "SET") then Set
    else (if is_word bytes (codes "CASCADE") then Cascade
    else (if is_word bytes (codes "RESTRICT") then Restrict
    else (if is_word bytes (codes "NO") then No
    else (if is_word bytes (codes "ACTION") then Action
    else (if is_word bytes (codes "MATCH") then Match
    else Bare))))))))

unfoldable pub keyword_3 : List ℕ → Sort
keyword_3 bytes = if is_word bytes (codes "STORED") then Stored
    else (if is_word bytes (codes "DEFERRABLE") then Deferrable
    else (if is_word bytes (codes "INITIALLY") then Initially
    else (if is_word bytes (codes "DEFERRED") then Deferred
    else (if is_word bytes (codes "IMMEDIATE") then Immediate
    else (if is_word bytes (codes "ASC") then Asc
    else (if is_word bytes (codes "DESC") then Desc
    else (if is_word bytes (codes "AUTOINCREMENT") then Autoincrement
    else (if is_word bytes (codes "ON") then On
    else (if is_word bytes (codes "CONFLICT") then Conflict
    else keyword_4 bytes)))))))))

unfoldable pub keyword_2 : List ℕ → Sort
keyword_2 bytes = if is_word bytes (codes "CHECK") then Check
    else (if is_word bytes (codes "FOREIGN") then Foreign
    else (if is_word bytes (codes "NOT") then Not
    else (if is_word bytes (codes "NULL") then Null
    else (if is_word bytes (codes "DEFAULT") then Default
    else (if is_word bytes (codes "COLLATE") then Collate
    else (if is_word bytes (codes "REFERENCES") then References
    else (if is_word bytes (codes "GENERATED") then Generated
    else (if is_word bytes (codes "ALWAYS") then Always
    else (if is_word bytes (codes "AS") then As
    else keyword_3 bytes)))))))))

unfoldable pub keyword_1 : List ℕ → Sort
keyword_1 bytes = if is_word bytes (codes "CREATE") then Create
    else (if is_word bytes (codes "TABLE") then Table
    else (if is_word bytes (codes "VIRTUAL") then Virtual
    else (if is_word bytes (codes "WITHOUT") then Without
    else (if is_word bytes (codes "ROWID") then Rowid
    else (if is_word bytes (codes "STRICT") then Strict
    else (if is_word bytes (codes "CONSTRAINT") then Constraint
    else (if is_word bytes (codes "PRIMARY") then Primary
    else (if is_word bytes (codes "KEY") then Key
    else (if is_word bytes (codes "UNIQUE") then Unique
    else keyword_2 bytes)))))))))

-- the sort of a mark
abbrev pub mark_sort : ℕ → Sort
mark_sort b = if b == 40 then Open
    else (if b == 41 then Close
    else (if b == 44 then Comma
    else (if b == 43 then Plus
    else (if b == 45 then Minus
    else Mark))))

abbrev pub sort_by : WordKind → List ℕ → Sort
sort_by kind.Bare bytes = keyword_1 bytes
sort_by kind.Quoted bytes = Quoted
sort_by kind.Text bytes = Text
sort_by kind.Number bytes = Number
sort_by kind.Blob bytes = Blob
sort_by (kind.Mark b) bytes = mark_sort b
sort_by kind.Bad bytes = Bad

abbrev pub sort_of : List ℕ → Word → Sort
sort_of sql w = sort_by w.kind (word_bytes sql w)

-- the number by which a grammar knows a sort
abbrev pub code : Sort → ℕ
code Open = 0
code Close = 1
code Bad = 2
code Comma = 3
code Plus = 4
code Minus = 5
code Mark = 6
code Number = 7
code Blob = 8
code Quoted = 9
code Text = 10
code Create = 11
code Table = 12
code Virtual = 13
code Without = 14
code Rowid = 15
code Strict = 16
code Constraint = 17
code Primary = 18
code Key = 19
code Unique = 20
code Check = 21
code Foreign = 22
code Not = 23
code Null = 24
code Default = 25
code Collate = 26
code References = 27
code Generated = 28
code Always = 29
code As = 30
code Stored = 31
code Deferrable = 32
code Initially = 33
code Deferred = 34
code Immediate = 35
code Asc = 36
code Desc = 37
code Autoincrement = 38
code On = 39
code Conflict = 40
code Delete = 41
code Update = 42
code Insert = 43
code Set = 44
code Cascade = 45
code Restrict = 46
code No = 47
code Action = 48
code Match = 49
code Bare = 50

-- the sorts of the words of a text
abbrev pub sorts_of : List ℕ → List ℕ
sorts_of sql = map (λ w. code (sort_of sql w)) (words_of sql)
