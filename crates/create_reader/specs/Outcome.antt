-- What the reading of a text answers (docs/CREATE_TABLE.md, "The answer").
use Rattle.std.specs.Prelude.{◌≡◌, ℕ, ◌≤◌, true, false, Option, Some, None, Result, Ok, Err, List, length, map}
use Rattle.std.specs.List.{list_any}
use Rattle.create_grammar.specs.declared.reading.GrammarFault.{GrammarFault}
use Rattle.create_grammar.specs.declared.reading.GrammarFault.TheVariants as grammar
use Rattle.create_grammar.specs.declared.reading.Said.{Said}
use Rattle.create_grammar.specs.Grammar.{table}
use Rattle.create_grammar.specs.Said.{IsSaid, is_virtual}
use Rattle.create_grammar.specs.Sorts.{sorts_of}
use Rattle.create_reader.specs.declared.faults.CreateFault.{CreateFault}
use Rattle.create_reader.specs.declared.faults.CreateFault.TheVariants.{Virtual, Form, Generated, Limit, Key, Memory}
use Rattle.create_reader.specs.declared.meaning.Made.{Made}
use Rattle.create_reader.specs.Constraints.{Table, table_of}
use Rattle.create_reader.specs.Faults.{first_fault, key_fault}
use Rattle.create_reader.specs.Meaning.{alias_from, keys_from, primary_of, shape_of}
use Rattle.create_reader.specs.Numbers.{numbered_of}
use Rattle.table_shape.specs.declared.shapes.TableShape.{TableShape}
use Rattle.table_shape.specs.Seen.{shape_seen}
use Rattle.table_shape.specs.Shape.{Shape, key_seen}
use Rattle.word_grammar.specs.Form.{IsFormAt}

-- ---- of what a text says

-- the keys of a shape, where there is no fault
pub record IsMade (t : Table) (made : Made) : Type 0 where
  pub sound : first_fault t ≡ None
  pub alias : made.alias ≡ alias_from t t.constraints
  pub primary : made.primary.items ≡ primary_of t
  pub keys : map key_seen made.keys.items ≡ keys_from t 1 (numbered_of t)
  pub auto : made.autoincrement ≡ list_any (λ c. c.auto) t.constraints

-- the first fault, unless memory ran out
abbrev pub FailsBy : Option CreateFault → CreateFault → Type 0
FailsBy first Virtual = ⊥
FailsBy first (Form at) = ⊥
FailsBy first Generated = first ≡ Some Generated
FailsBy first Limit = first ≡ Some Limit
FailsBy first Key = first ≡ Some Key
FailsBy first Memory = Unit {0}

abbrev pub Makes : Table → Result Made CreateFault → Type 0
Makes t (Ok made) = IsMade t made
Makes t (Err fault) = FailsBy (first_fault t) fault

-- a shape that the text means, or its first fault
abbrev pub Means : Table → Result TableShape CreateFault → Type 0
Means t (Ok shape) = (first_fault t ≡ None) × (shape_seen shape ≡ shape_of t)
Means t (Err fault) = FailsBy (first_fault t) fault

-- ---- of a text

-- the text is one of the grammar, and says this
pub record IsRead (sql : List ℕ) (t : Table) : Type 0 where
  pub said : List Said
  pub is_said : IsSaid sql said
  pub says : t ≡ table_of sql said

-- the text is one of the grammar with this first fault or none
pub record HasOutcome (sql : List ℕ) (first : Option CreateFault) : Type 0 where
  pub plain : is_virtual sql ≡ false
  pub t : Table
  pub read : IsRead sql t
  pub outcome : first_fault t ≡ first

-- the text means the shape, without a fault
pub record IsCreate (sql : List ℕ) (shape : Shape) : Type 0 where
  pub plain : is_virtual sql ≡ false
  pub t : Table
  pub read : IsRead sql t
  pub sound : first_fault t ≡ None
  pub means : shape ≡ shape_of t

-- it leaves the grammar behind the words in front of `at`
pub record LeavesAt (sql : List ℕ) (at : ℕ) : Type 0 where
  pub plain : is_virtual sql ≡ false
  pub form : IsFormAt table (sorts_of sql) at

-- why a text has no shape
abbrev pub HasFault : List ℕ → CreateFault → Type 0
HasFault sql Virtual = is_virtual sql ≡ true
HasFault sql (Form at) = LeavesAt sql at
HasFault sql Generated = HasOutcome sql (Some Generated)
HasFault sql Limit = HasOutcome sql (Some Limit)
HasFault sql Key = HasOutcome sql (Some Key)
HasFault sql Memory = Unit {0}

-- a fault of the grammar
abbrev pub fault_from : GrammarFault → CreateFault
fault_from grammar.Virtual = Virtual
fault_from (grammar.Form at) = Form at
fault_from grammar.Memory = Memory

-- what is answered is so
abbrev pub IsAnswer : List ℕ → Result TableShape CreateFault → Type 0
IsAnswer sql (Ok shape) = IsCreate sql (shape_seen shape)
IsAnswer sql (Err fault) = HasFault sql fault

-- ---- the relation of text and shape

-- the text is related to the shape by grammar and meaning: of the faults only Limit may hold, and there are at
-- most 2,000 columns
pub record IsTableText (sql : List ℕ) (shape : Shape) : Type 0 where
  pub plain : is_virtual sql ≡ false
  pub t : Table
  pub read : IsRead sql t
  pub stored : t.generated ≡ false
  pub sound : key_fault t ≡ false
  pub few : length t.columns ≤ 2000
  pub means : shape ≡ shape_of t
