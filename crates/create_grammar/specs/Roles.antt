-- The roles of words in a text of the grammar (docs/CREATE_TABLE.md, "Roles").
use Rattle.std.specs.Prelude.{ℕ}
use Rattle.create_grammar.specs.declared.roles.Role.{Role}
use Rattle.create_grammar.specs.declared.roles.Role.TheVariants.{Other, TableName, ColumnName, TypeWord, TypeOpen, ColumnCollate, ColumnPrimary, ColumnUnique, TablePrimary, TableUnique, KeyName, KeyMark, Auto, Generated, WithoutRowid}

abbrev pub role_code : Role → ℕ
role_code Other = 0
role_code TableName = 1
role_code ColumnName = 2
role_code TypeWord = 3
role_code TypeOpen = 4
role_code ColumnCollate = 5
role_code ColumnPrimary = 6
role_code ColumnUnique = 7
role_code TablePrimary = 8
role_code TableUnique = 9
role_code KeyName = 10
role_code KeyMark = 11
role_code Auto = 12
role_code Generated = 13
role_code WithoutRowid = 14
