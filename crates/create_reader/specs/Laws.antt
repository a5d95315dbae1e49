-- The laws of texts and shapes (docs/CREATE_TABLE.md, "One text, one shape").
use Rattle.std.specs.Prelude.{◌≡◌, ℕ, Result, Ok, Err, List}
use Rattle.create_reader.specs.declared.faults.CreateFault.{CreateFault}
use Rattle.create_reader.specs.declared.faults.CreateFault.TheVariants.{Limit, Memory}
use Rattle.create_reader.specs.Outcome.{HasFault, IsCreate, IsTableText}
use Rattle.table_shape.specs.declared.shapes.TableShape.{TableShape}
use Rattle.table_shape.specs.Seen.{shape_seen}
use Rattle.table_shape.specs.Shape.{IsShape, Shape}

-- the answer is this shape, or memory ran out
abbrev pub Answers : Shape → Result TableShape CreateFault → Type 0
Answers shape (Ok found) = shape_seen found ≡ shape
Answers shape (Err fault) = fault ≡ Memory

-- a shape that the text means without a fault is answered
abbrev pub IsOnly : List ℕ → Result TableShape CreateFault → Type 0
IsOnly sql result = (shape : Shape) → IsCreate sql shape → Answers shape result

-- the answer is this fault, or memory ran out
abbrev pub AnswersFault : CreateFault → Result TableShape CreateFault → Type 0
AnswersFault fault (Ok found) = ⊥
AnswersFault fault (Err other) = (other ≡ Memory → ⊥) → other ≡ fault

-- a fault that the text has is answered
abbrev pub IsOnlyFault : List ℕ → Result TableShape CreateFault → Type 0
IsOnlyFault sql result = (fault : CreateFault) → (fault ≡ Memory → ⊥) → HasFault sql fault → AnswersFault fault result

-- a text is related to at most one shape
abbrev pub OneShape : Type 0
OneShape = (sql : List ℕ) (a b : Shape) → IsTableText sql a → IsTableText sql b → a ≡ b

-- what a text is related to is a shape
abbrev pub IsValid : Type 0
IsValid = (sql : List ℕ) (shape : Shape) → IsTableText sql shape → IsShape shape

-- a text without a fault is related to what it means
abbrev pub IsRelated : Type 0
IsRelated = (sql : List ℕ) (shape : Shape) → IsCreate sql shape → IsTableText sql shape

-- what a text is related to, it means without a fault, unless it has too many columns or keys
abbrev pub IsWithin : Type 0
IsWithin = (sql : List ℕ) (shape : Shape) → IsTableText sql shape → (HasFault sql Limit → ⊥) → IsCreate sql shape
