-- The keywords of each length (docs/CREATE_TABLE.md, "Words").
use Rattle.std.specs.Prelude.{ℕ, ◌==◌, if◌then◌else◌, List, codes}
use Rattle.create_grammar.specs.declared.sorts.Sort.{Sort}
use Rattle.create_grammar.specs.declared.sorts.Sort.TheVariants.{Create, Table, Virtual, Without, Rowid, Strict, Constraint, Primary, Key, Unique, Check, Foreign, Not, Null, Default, Collate, References, Generated, Always, As, Stored, Deferrable, Initially, Deferred, Immediate, Asc, Desc, Autoincrement, On, Conflict, Delete, Update, Insert, Set, Cascade, Restrict, No, Action, Match, Bare}
use Rattle.create_grammar.specs.Sorts.{is_word}

-- the sort of a bare word of so many letters
unfoldable pub two_letters : List ℕ → Sort
two_letters bytes = if is_word bytes (codes "AS") then As
    else (if is_word bytes (codes "ON") then On
    else (if is_word bytes (codes "NO") then No
    else Bare))

unfoldable pub three_letters : List ℕ → Sort
three_letters bytes = if is_word bytes (codes "KEY") then Key
    else (if is_word bytes (codes "NOT") then Not
    else (if is_word bytes (codes "ASC") then Asc
    else (if is_word bytes (codes "SET") then Set
    else Bare)))

unfoldable pub four_letters : List ℕ → Sort
four_letters bytes = if is_word bytes (codes "NULL") then Null
    else (if is_word bytes (codes "DESC") then Desc
    else Bare)

unfoldable pub five_letters : List ℕ → Sort
five_letters bytes = if is_word bytes (codes "TABLE") then Table
    else (if is_word bytes (codes "ROWID") then Rowid
    else (if is_word bytes (codes "CHECK") then Check
    else (if is_word bytes (codes "MATCH") then Match
    else Bare)))

unfoldable pub six_letters : List ℕ → Sort
six_letters bytes = if is_word bytes (codes "CREATE") then Create
    else (if is_word bytes (codes "STRICT") then Strict
    else (if is_word bytes (codes "UNIQUE") then Unique
    else (if is_word bytes (codes "ALWAYS") then Always
    else (if is_word bytes (codes "STORED") then Stored
    else (if is_word bytes (codes "DELETE") then Delete
    else (if is_word bytes (codes "UPDATE") then Update
    else (if is_word bytes (codes "INSERT") then Insert
    else (if is_word bytes (codes "ACTION") then Action
    else Bare))))))))

unfoldable pub seven_letters : List ℕ → Sort
seven_letters bytes = if is_word bytes (codes "VIRTUAL") then Virtual
    else (if is_word bytes (codes "WITHOUT") then Without
    else (if is_word bytes (codes "PRIMARY") then Primary
    else (if is_word bytes (codes "FOREIGN") then Foreign
    else (if is_word bytes (codes "DEFAULT") then Default
    else (if is_word bytes (codes "COLLATE") then Collate
    else (if is_word bytes (codes "CASCADE") then Cascade
    else Bare))))))

unfoldable pub eight_letters : List ℕ → Sort
eight_letters bytes = if is_word bytes (codes "DEFERRED") then Deferred
    else (if is_word bytes (codes "CONFLICT") then Conflict
    else (if is_word bytes (codes "RESTRICT") then Restrict
    else Bare))

unfoldable pub nine_letters : List ℕ → Sort
nine_letters bytes = if is_word bytes (codes "GENERATED") then Generated
    else (if is_word bytes (codes "INITIALLY") then Initially
    else (if is_word bytes (codes "IMMEDIATE") then Immediate
    else Bare))

unfoldable pub ten_letters : List ℕ → Sort
ten_letters bytes = if is_word bytes (codes "CONSTRAINT") then Constraint
    else (if is_word bytes (codes "REFERENCES") then References
    else (if is_word bytes (codes "DEFERRABLE") then Deferrable
    else Bare))

unfoldable pub thirteen_letters : List ℕ → Sort
thirteen_letters bytes = if is_word bytes (codes "AUTOINCREMENT") then Autoincrement
    else Bare

-- the sort of a bare word of n letters
abbrev pub keyword_of : ℕ → List ℕ → Sort
keyword_of n bytes = if n == 2 then two_letters bytes
    else (if n == 3 then three_letters bytes
    else (if n == 4 then four_letters bytes
    else (if n == 5 then five_letters bytes
    else (if n == 6 then six_letters bytes
    else (if n == 7 then seven_letters bytes
    else (if n == 8 then eight_letters bytes
    else (if n == 9 then nine_letters bytes
    else (if n == 10 then ten_letters bytes
    else (if n == 13 then thirteen_letters bytes
    else Bare)))))))))
