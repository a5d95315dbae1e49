-- The grammar of CREATE TABLE (docs/CREATE_TABLE.md, "The grammar"; lang_createtable.html).
use Rattle.create_grammar.specs.declared.classes.Class.{Class}
use Rattle.create_grammar.specs.declared.classes.Class.TheVariants.{One, Name, ColumnName, AnyBare, TypeWord, Value, Sign, Event, Effect, NullOrDefault, Deferral, Storage}
use Rattle.create_grammar.specs.declared.roles.Role.{Role}
use Rattle.create_grammar.specs.declared.roles.Role.TheVariants as role
use Rattle.create_grammar.specs.declared.sorts.Sort.{Sort}
use Rattle.create_grammar.specs.declared.sorts.Sort.TheVariants as sort
use Rattle.create_grammar.specs.Classes.{class_of}
use Rattle.create_grammar.specs.Roles.{role_code}
use Rattle.word_grammar.specs.Form.{Form, group, word, follow, either, maybe, many, runs}

infixr 4 ◌▷◌
infixr 3 ◌∣◌
-- one form and then another
abbrev pub ◌▷◌ : Form → Form → Form
f ▷ g = follow f g

-- the one form or the other
abbrev pub ◌∣◌ : Form → Form → Form
f ∣ g = either f g

-- a word of a class, in a role
abbrev pub as_a : Role → Class → Form
as_a r c = word (role_code r) (class_of c)

abbrev pub a : Class → Form
a c = as_a role.Other c

abbrev pub one : Sort → Form
one s = a (One s)

abbrev pub comma : Form
comma = one sort.Comma

-- a form, and it again behind each comma
abbrev pub list_of : Form → Form
list_of f = f ▷ many (comma ▷ f)

abbrev pub conflict : Form
conflict = one sort.On ▷ one sort.Conflict ▷ a AnyBare

abbrev pub order : Form
order = one sort.Asc ∣ as_a role.KeyMark (One sort.Desc)

abbrev pub initially : Form
initially = one sort.Initially ▷ a Deferral

abbrev pub deferrable : Form
deferrable = one sort.Deferrable ▷ maybe initially

abbrev pub null : Form
null = one sort.Null ▷ maybe conflict

-- NOT NULL and NOT DEFERRABLE begin with the same word
abbrev pub denied : Form
denied = null ∣ deferrable

abbrev pub denial : Form
denial = one sort.Not ▷ denied

abbrev pub named : Form
named = one sort.Constraint ▷ a Name

abbrev pub autoincrement : Form
autoincrement = as_a role.Auto (One sort.Autoincrement)

abbrev pub primary : Form
primary = as_a role.ColumnPrimary (One sort.Primary) ▷ one sort.Key ▷ maybe order ▷ maybe conflict ▷ maybe autoincrement

abbrev pub unique : Form
unique = as_a role.ColumnUnique (One sort.Unique) ▷ maybe conflict

abbrev pub check : Form
check = one sort.Check ▷ group

abbrev pub signed : Form
signed = maybe (a Sign) ▷ a Value

abbrev pub value : Form
value = group ∣ signed

abbrev pub default : Form
default = one sort.Default ▷ value

abbrev pub collate : Form
collate = one sort.Collate ▷ as_a role.ColumnCollate Name

abbrev pub names : Form
names = one sort.Open ▷ list_of (a Name) ▷ one sort.Close

abbrev pub effect : Form
effect = (one sort.Set ▷ a NullOrDefault) ∣ (a Effect ∣ (one sort.No ▷ one sort.Action))

abbrev pub action : Form
action = (one sort.On ▷ a Event ▷ effect) ∣ (one sort.Match ▷ a Name)

abbrev pub references : Form
references = one sort.References ▷ a Name ▷ maybe names ▷ many action

abbrev pub generated : Form
generated = maybe (one sort.Generated ▷ one sort.Always) ▷ as_a role.Generated (One sort.As) ▷ group ▷ maybe (a Storage)

abbrev pub constraint : Form
constraint = named ∣ denial ∣ null ∣ primary ∣ unique ∣ check ∣ default ∣ collate ∣ references ∣ deferrable ∣ generated

abbrev pub number : Form
number = maybe (a Sign) ▷ one sort.Number

abbrev pub size : Form
size = as_a role.TypeOpen (One sort.Open) ▷ number ▷ maybe (comma ▷ number) ▷ one sort.Close

abbrev pub type_word : Form
type_word = as_a role.TypeWord TypeWord

abbrev pub types : Form
types = type_word ▷ many type_word ▷ maybe size

abbrev pub column : Form
column = as_a role.ColumnName ColumnName ▷ maybe types ▷ many constraint

abbrev pub item : Form
item = as_a role.KeyName Name ▷ maybe (as_a role.KeyMark (One sort.Collate) ▷ a Name) ▷ maybe order

abbrev pub table_primary : Form
table_primary = as_a role.TablePrimary (One sort.Primary) ▷ one sort.Key ▷ one sort.Open ▷ list_of item
    ▷ maybe autoincrement ▷ one sort.Close ▷ maybe conflict

abbrev pub table_unique : Form
table_unique = as_a role.TableUnique (One sort.Unique) ▷ one sort.Open ▷ list_of item ▷ one sort.Close ▷ maybe conflict

abbrev pub table_check : Form
table_check = check ▷ maybe conflict

abbrev pub defer : Form
defer = maybe (one sort.Not) ▷ deferrable

abbrev pub foreign : Form
foreign = one sort.Foreign ▷ one sort.Key ▷ names ▷ references ▷ maybe defer

abbrev pub body : Form
body = table_primary ∣ table_unique ∣ table_check ∣ foreign

abbrev pub table_constraint : Form
table_constraint = (named ▷ maybe body) ∣ body

abbrev pub option : Form
option = (as_a role.WithoutRowid (One sort.Without) ▷ one sort.Rowid) ∣ one sort.Strict

-- columns, and then constraints of the table
abbrev pub columns : Form
columns = column ▷ runs (role_code role.Other) (class_of (One sort.Comma)) column table_constraint

abbrev pub table : Form
table = one sort.Create ▷ one sort.Table ▷ as_a role.TableName Name ▷ one sort.Open ▷ columns ▷ one sort.Close
    ▷ maybe (list_of option)
