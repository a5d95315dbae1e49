use Rattle.std.proofs.Common.{refl, sym, subst, arith, ℕ, false, None, List, [], map}
use Rattle.std.specs.List.{IsDistinct}
use Rattle.table_shape.specs.declared.columns.Column.{Column}
use Rattle.table_shape.specs.declared.columns.Key.{Key}
use Rattle.table_shape.specs.Shape.{IsShape, Shape, key_seen}
use Rattle.table_fill.proofs.tests.no_columns.Goals as goal

abbrev shape : List ℕ → List Column → List ℕ → List Key → Shape
shape name columns primary keys = record {
  name = name;
  columns = columns;
  alias = None;
  without_rowid = false;
  primary = primary;
  keys = map key_seen keys;
  autoincrement = false;
}

empty : (name : List ℕ) → IsShape (shape name [] [] [])
unfolding IsDistinct
empty name = record {
  few = omega arith;
  alias = tt;
  primary = record { distinct = tt; within = tt; colls = tt };
  keys = tt;
  rising = refl;
  without = λ e. absurd (cc);
  with_rowid = λ e. refl;
}

pub invariant_of-result : goal.invariant_of-result
invariant_of-result c =
    let name = c.in_ok-copy_of.field-0 in
    let keys = subst (λ (ks : List Key). IsShape (shape name [] [] ks)) (sym c.new-3.ensures.items) (empty name) in
    let primary = subst (λ (ps : List ℕ). IsShape (shape name [] ps c.new-3.result.items)) (sym c.new-2.ensures.items) keys in
    record {
      valid = subst (λ (cs : List Column). IsShape (shape name cs c.new-2.result.items c.new-3.result.items)) (sym c.new.ensures.items) primary;
    }
