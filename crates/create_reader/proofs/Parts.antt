-- The parts of a shape that were made, as one shape.
use Rattle.std.proofs.Common.{◌≡◌, refl, sym, subst, arith, ◌≤◌, nat_lt, Bool, true, false, if◌then◌else◌, Some, None, List, length, map}
use Rattle.std.proofs.lemmas.Bool.{le-ltb, ltb-false}
use Rattle.create_reader.specs.declared.faults.CreateFault.TheVariants.{Generated, Limit, Key}
use Rattle.create_reader.specs.declared.meaning.Made.{Made}
use Rattle.create_reader.specs.Constraints.{Constraint, Table}
use Rattle.create_reader.specs.Faults.{first_fault, key_fault, over_limit}
use Rattle.create_reader.specs.Meaning.{column_from, shape_of}
use Rattle.create_reader.specs.Numbers.{numbered_of, up_to_16}
use Rattle.create_reader.specs.Outcome.{IsMade}
use Rattle.table_shape.specs.declared.columns.Column.{Column}
use Rattle.table_shape.specs.Shape.{IsShape, key_seen}
use Rattle.create_reader.proofs.Valid.{neither, valid}

-- what no fault says
pub record Sound (t : Table) : Type 0 where
  pub stored : t.generated ≡ false
  pub small : over_limit t ≡ false
  pub keys : key_fault t ≡ false

pub sound_of : (t : Table) → first_fault t ≡ None → Sound t
sound_of t h = by_tests t.generated (over_limit t) (key_fault t) refl refl refl h
  where
    by_tests : (g l k : Bool) → t.generated ≡ g → over_limit t ≡ l → key_fault t ≡ k
        → (if g then Some Generated else (if l then Some Limit else (if k then Some Key else None))) ≡ None → Sound t
    by_tests true l k a b c e = (let wrong : ⊥ = cc in absurd wrong)
    by_tests false true k a b c e = (let wrong : ⊥ = cc in absurd wrong)
    by_tests false false true a b c e = (let wrong : ⊥ = cc in absurd wrong)
    by_tests false false false a b c e = record { stored = a; small = b; keys = c }

pub few_columns : (t : Table) → over_limit t ≡ false → length t.columns ≤ 2000
few_columns t h =
    let few = ltb-false 1996 (length t.columns) (neither (nat_lt 1996 (length t.columns)) (nat_lt 16 (length (numbered_of t))) h).0 in
    omega (arith, few)

-- the constraints that take a number, where they are at most 16
small_taken : (xs ys : List Constraint) → Some xs ≡ up_to_16 ys → (xs ≡ ys) × (nat_lt 16 (length ys) ≡ false)
small_taken xs ys h = by_len (nat_lt 16 (length ys)) refl h
  where
    by_len : (b : Bool) → nat_lt 16 (length ys) ≡ b → Some xs ≡ (if b then None else Some ys) → (xs ≡ ys) × (nat_lt 16 (length ys) ≡ false)
    by_len true e k = (let wrong : ⊥ = cc in absurd wrong)
    by_len false e k = (let same : xs ≡ ys = cc in (same, e))

pub few_taken : (xs ys : List Constraint) → Some xs ≡ up_to_16 ys → xs ≡ ys
few_taken xs ys h = (small_taken xs ys h).0

pub sound_made : (t : Table) (xs : List Constraint) → t.generated ≡ false → length t.columns ≤ 1996
    → Some xs ≡ up_to_16 (numbered_of t) → key_fault t ≡ false → first_fault t ≡ None
sound_made t xs g few n k =
    rw (g, le-ltb 1996 (length t.columns) few, (small_taken xs (numbered_of t) n).1, k) refl

pub shape_made : (t : Table) (made : Made) (columns : List Column) → IsMade t made → columns ≡ map column_from t.columns
    → record {
      name = t.name;
      columns = columns;
      alias = made.alias;
      without_rowid = t.without_rowid;
      primary = made.primary.items;
      keys = map key_seen made.keys.items;
      autoincrement = made.autoincrement;
    } ≡ shape_of t
shape_made t made columns m e = λ i. record {
  name = t.name;
  columns = e i;
  alias = m.alias i;
  without_rowid = t.without_rowid;
  primary = m.primary i;
  keys = m.keys i;
  autoincrement = m.auto i;
}

pub valid_made : (t : Table) (made : Made) (columns : List Column) → IsMade t made → columns ≡ map column_from t.columns
    → IsShape (record {
      name = t.name;
      columns = columns;
      alias = made.alias;
      without_rowid = t.without_rowid;
      primary = made.primary.items;
      keys = map key_seen made.keys.items;
      autoincrement = made.autoincrement;
    })
valid_made t made columns m e =
    let sound = sound_of t m.sound in
    subst IsShape (sym (shape_made t made columns m e)) (valid t sound.keys (few_columns t sound.small))
