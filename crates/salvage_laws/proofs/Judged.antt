-- The fate of each cell that is no row, by the rows before it.
use Rattle.std.proofs.Common.{◌≡◌, Some, List, [], ◌∷◌, ◌++◌, refl, sym, ◌∙◌, ap, subst, append_assoc}
use Rattle.std.specs.List.{AllByRecursion, Contains}
use Rattle.std.proofs.lemmas.List.Elements.{All-contains_itself, recursion_from_All}
use Rattle.page_walk.specs.Cells.{Row}
use Rattle.table_shape.specs.Keys.{Keys}
use Rattle.table_fill.specs.declared.fates.Fate.{Fate}
use Rattle.table_fill.specs.declared.fates.Fate.TheVariants.{Clash, Misfit}
use Rattle.table_fill.specs.Fates.{Left, Sorted, fate_of, left_row, nothing, sorted_of, with_cell}
use Rattle.table_fill.specs.Laws.{AreRising}
use Rattle.table_fill.proofs.Cells.{by_fate, in_cell_order, sorted_has}
use Rattle.table_fill.proofs.Inserting.{all_map}
use Rattle.table_fill.proofs.Named.{fate_is, has_next, least}
use Rattle.salvage_laws.specs.Told.{IsReason}

-- the cells in front of a cell decided on it, and what they keep is kept
pub record IsDecided (t : Keys) (cells kept : List Row) (l : Left) : Type 0 where
  pub front : List Row
  pub rest : List Row
  pub cells_are : cells ≡ front ++ l.row ∷ rest
  pub of_kept : AllByRecursion (Contains kept) (sorted_of t front).kept
  pub fate : fate_of t (sorted_of t front).kept l.row ≡ Some l.fate

-- one cell more behind them, and maybe more kept ones
wider : (t : Keys) (cells old new : List Row) (r : Row) → ((k : Row) → Contains old k → Contains new k) → (l : Left)
    → IsDecided t cells old l → IsDecided t (cells ++ r ∷ []) new l
wider t cells old new r more l d = record {
  front = d.front;
  rest = d.rest ++ r ∷ [];
  cells_are = ap (λ (rows : List Row). rows ++ r ∷ []) d.cells_are ∙ append_assoc d.front (l.row ∷ d.rest) (r ∷ []);
  of_kept = all_map (Contains old) (Contains new) more (sorted_of t d.front).kept d.of_kept;
  fate = d.fate;
}

all_pushed : {X : Type 0} (P : X → Type 0) (xs : List X) (x : X) → AllByRecursion P xs → P x → AllByRecursion P (xs ++ x ∷ [])
all_pushed P [] x all one = (one, tt)
all_pushed P (y ∷ xs) x all one = (all.0, all_pushed P xs x all.1 one)

record AreDecided (t : Keys) (done : List Row) (s : Sorted) : Type 0 where
  each : AllByRecursion (IsDecided t done s.kept) s.left
  sorted : s ≡ sorted_of t done

decided_step : (t : Keys) (done : List Row) (s : Sorted) (r : Row) → AreDecided t done s → AreDecided t (done ++ r ∷ []) (with_cell t s r)
decided_step t done s r p = record {
  each = by_fate (λ w. AllByRecursion (IsDecided t (done ++ r ∷ []) w.kept) w.left) t s r
      (λ e. all_map (IsDecided t done s.kept) (IsDecided t (done ++ r ∷ []) (r ∷ s.kept))
      (wider t done s.kept (r ∷ s.kept) r (λ k c. has_next r k s.kept c)) s.left p.each)
      (λ f e. all_pushed (IsDecided t (done ++ r ∷ []) s.kept) s.left (left_row r f)
      (all_map (IsDecided t done s.kept) (IsDecided t (done ++ r ∷ []) s.kept) (wider t done s.kept s.kept r (λ k c. c)) s.left p.each)
      (record {
        front = done;
        rest = [];
        cells_are = refl;
        of_kept = subst (λ (w : Sorted). AllByRecursion (Contains s.kept) w.kept) p.sorted
            (recursion_from_All (Contains s.kept) s.kept (All-contains_itself s.kept));
        fate = ap (λ (w : Sorted). fate_of t w.kept r) (sym p.sorted) ∙ e;
      }));
  sorted = ap (λ (w : Sorted). with_cell t w r) p.sorted ∙ sym (in_cell_order t done r []);
}

nothing_sorted : (t : Keys) → nothing ≡ sorted_of t []
unfolding sorted_of
nothing_sorted t = refl

pub are_decided : (t : Keys) (cells : List Row) → AllByRecursion (IsDecided t cells (sorted_of t cells).kept) (sorted_of t cells).left
are_decided t cells = (sorted_has t (AreDecided t) (decided_step t) cells (record { each = tt; sorted = nothing_sorted t })).each

-- why a cell with a fate is no row
pub reason_of : (t : Keys) (before : List Row) (r : Row) (f : Fate) → AreRising 0 t.keys → fate_of t before r ≡ Some f → IsReason t before r f
reason_of t before r (Clash earlier key) up e = record {
  clash = fate_is t before r (Clash earlier key) e;
  least = λ n lt. least t before r earlier key up e n lt;
}
reason_of t before r Misfit up e = fate_is t before r Misfit e
