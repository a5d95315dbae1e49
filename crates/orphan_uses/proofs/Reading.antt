-- How often pages are read.
use Rattle.std.proofs.Common.{◌≡◌, ◌≤◌, ℕ, ◌+◌, ◌*◌, Option, Some, None, List, length, refl, sym, ◌∙◌, ap, subst, arith}
use Rattle.std.specs.Prelude.{if◌then◌else◌, IfSome, IsErr, Result, is_ok}
use Rattle.page_access.specs.Files.{IsWhole, file_of}
use Rattle.page_access.specs.declared.geometry.Geometry.{Geometry}
use Rattle.page_lists.specs.Lists.{IsPartOf}
use Rattle.page_lists.specs.Table.{Moves, Table, all_moved, unused}
use Rattle.page_lists.proofs.Counts.{length-minus}
use Rattle.page_lists.proofs.Uses.{unused-all_moved}
use Rattle.page_walk.specs.Turns.{ReadsEach}
use Rattle.page_walk.proofs.InTurn.{at_err, reads_weaker}
use Rattle.page_walk.proofs.Walking.{no_reads}
use Rattle.orphan_trees.specs.Orphans.{Orphan, ReadsOrphans, orphan_pages, orphan_trees, pages_in}
use Rattle.orphan_trees.specs.declared.TheConstants.{ORPHAN_LIST}
use Rattle.use_order.specs.Order.{UsesMove}
use Rattle.use_order.proofs.Ordered.{at_told}
use Rattle.use_order.proofs.Reading.{fewer}
use Rattle.orphan_uses.proofs.Parts.{orphans_few, orphans_part}

-- what is left of the reads at an error
pub reads_err : {T E : Type 0} (r : Result T E) (o : Option (List ℕ)) (geo : Geometry) (a b : Table) (i j m k : ℕ) → IsErr r → m ≤ 1
    → ReadsEach o geo a b i j (k + m) → ReadsEach o geo a b i j (k + (if is_ok r then 0 else 1))
reads_err r o geo a b i j m k is le read =
    at_err (λ n. ReadsEach o geo a b i j (k + n)) r 0 1 is (reads_weaker o geo a b i j (k + m) (k + 1) (omega (arith, le)) read)

-- the reads of the freelist, and then those of the orphan trees
pub trees_read : (o o1 : Option (List ℕ)) (geo : Geometry) (t0 t1 t2 : Table) (i j k m : ℕ) → o1 ≡ o → UsesMove t0 t1 → UsesMove t1 t2
    → ReadsEach o geo t0 t1 i j 0 → ReadsOrphans o1 geo (unused t1) j k m → ReadsEach o geo t0 t2 i k (2 * length (unused t0) + m)
trees_read None o1 geo t0 t1 t2 i j k m e1 free moved first second = tt
trees_read (Some all) o1 geo t0 t1 t2 i j k m e1 free moved first second = λ whole.
    omega (
      arith,
      first whole,
      at_told (λ bytes. IsWhole bytes geo → k ≤ j + 2 * length (orphan_pages (file_of bytes geo) (unused t1)) + m) (Some all) o1 all e1 refl second whole,
      orphans_few (file_of all geo) (unused t1),
      fewer t0 t1 free,
      fewer t1 t2 moved,
    )

-- the pages of the trees were unused
trees_len : (all : List ℕ) (geo : Geometry) (t1 t2 : Table) (trees : List Orphan) → trees ≡ orphan_trees (file_of all geo) (unused t1)
    → t2 ≡ all_moved (pages_in trees) ORPHAN_LIST t1 → length (unused t2) + length (pages_in trees) ≡ length (unused t1)
trees_len all geo t1 t2 trees found moved =
    let part : IsPartOf (pages_in trees) (unused t1) =
    subst (λ (ts : List Orphan). IsPartOf (pages_in ts) (unused t1)) (sym found) (orphans_part (file_of all geo) (unused t1)) in
    omega (
      arith,
      ap length (ap unused moved ∙ unused-all_moved (pages_in trees) ORPHAN_LIST t1 (omega arith)),
      length-minus (unused t1) (pages_in trees) part,
    )

-- and then those of the cells
pub cells_read : (o o1 o2 : Option (List ℕ)) (geo : Geometry) (t0 t1 t2 t3 : Table) (trees : List Orphan) (i j k l m : ℕ) → o1 ≡ o → o2 ≡ o
    → UsesMove t0 t1 → IfSome o1 (λ all. trees ≡ orphan_trees (file_of all geo) (unused t1)) → t2 ≡ all_moved (pages_in trees) ORPHAN_LIST t1
    → ReadsEach o geo t0 t1 i j 0 → ReadsOrphans o1 geo (unused t1) j k 0 → ReadsEach o2 geo t2 t3 k l (length (pages_in trees) + m)
    → ReadsEach o geo t0 t3 i l (2 * length (unused t0) + m)
cells_read None o1 o2 geo t0 t1 t2 t3 trees i j k l m e1 e2 free found moved first second third = tt
cells_read (Some all) o1 o2 geo t0 t1 t2 t3 trees i j k l m e1 e2 free found moved first second third = λ whole.
    omega (
      arith,
      first whole,
      at_told (λ bytes. IsWhole bytes geo → k ≤ j + 2 * length (orphan_pages (file_of bytes geo) (unused t1)) + 0) (Some all) o1 all e1 refl second whole,
      at_told (λ bytes. IsWhole bytes geo → l + length (unused t3) ≤ k + length (unused t2) + (length (pages_in trees) + m)) (Some all) o2 all e2 refl third whole,
      trees_len all geo t1 t2 trees (at_told (λ bytes. trees ≡ orphan_trees (file_of bytes geo) (unused t1)) (Some all) o1 all e1 refl found) moved,
      orphans_few (file_of all geo) (unused t1),
      fewer t0 t1 free,
    )

-- nothing is read where the source is as before
pub unread : {S : Type 0} (reads : S → ℕ) (o : Option (List ℕ)) (geo : Geometry) (t1 t2 : Table) (src src' : S) → src' ≡ src → Moves ORPHAN_LIST t1 t2
    → ReadsEach o geo t1 t2 (reads src) (reads src') 0
unread reads o geo t1 t2 src src' same moves =
    subst (λ (n : ℕ). ReadsEach o geo t1 t2 (reads src) n 0) (ap reads (sym same)) (no_reads o geo ORPHAN_LIST t1 t2 (reads src) 0 (omega arith) moves)
