-- How often pages are read.
use Rattle.std.proofs.Common.{◌≡◌, ◌≤◌, ℕ, ◌+◌, ◌*◌, Option, List, length, refl, sym, ◌∙◌, ap, subst, arith, length-append, Some, None}
use Rattle.std.specs.Prelude.{if◌then◌else◌, IfSome, IsErr, Result, is_ok}
use Rattle.std.proofs.lemmas.Option.{IfSome_then}
use Rattle.page_access.specs.Files.{IsWhole, file_of}
use Rattle.page_access.specs.declared.geometry.Geometry.{Geometry}
use Rattle.page_access.proofs.Told.{both_told}
use Rattle.page_lists.specs.Lists.{IsPartOf}
use Rattle.page_lists.specs.Table.{IsPartition, Table, all_moved, list_at, unused}
use Rattle.page_lists.proofs.Counts.{length-minus}
use Rattle.page_lists.proofs.Uses.{Moves-partition, list_at-all_moved, list_at-all_moved-other, unused-all_moved}
use Rattle.overflow_chain.specs.declared.TheConstants.{OVERFLOW_LIST}
use Rattle.page_walk.specs.Turns.{ReadsEach}
use Rattle.page_walk.proofs.InTurn.{at_err, reads_more, reads_weaker}
use Rattle.raw_schema.specs.Schema.{ReadsChains, ReadsTwice, SchemaMoves}
use Rattle.raw_schema.specs.declared.TheConstants.{SCHEMA_LIST}
use Rattle.tree_uses.specs.Trees.{Tree, pages_in, walks}
use Rattle.tree_uses.specs.declared.walks.WantedTree.{WantedTree}
use Rattle.tree_uses.proofs.Splits.{trees_are_unused}
use Rattle.use_order.specs.Order.{UsesMove}
use Rattle.use_order.specs.declared.TheConstants.{TABLE_LIST}
use Rattle.use_order.proofs.Ordered.{at_told}

-- no more pages are unused than before
pub fewer : (a b : Table) → UsesMove a b → length (unused b) ≤ length (unused a)
fewer a b moves = omega (arith, length-minus (unused a) (unused b) moves.left)

-- reads of pages that moved, after those of the schema
pub reads_then : (o o' : Option (List ℕ)) (geo : Geometry) (a b c : Table) (i j k m : ℕ) → o' ≡ o → UsesMove b c → ReadsTwice o geo a b i j 0
    → ReadsEach o' geo b c j k m → ReadsTwice o geo a c i k m
reads_then o o' geo a b c i j k m same moves first next =
    both_told (λ all. IsWhole all geo → j + 2 * length (unused b) ≤ i + 2 * length (unused a) + 0)
    (λ all. IsWhole all geo → k + length (unused c) ≤ j + length (unused b) + m)
    (λ all. IsWhole all geo → k + 2 * length (unused c) ≤ i + 2 * length (unused a) + m) o o' same
    (λ all p q whole. omega (arith, p whole, q whole, fewer b c moves)) first next

-- fewer reads than are allowed
pub twice_weaker : (o : Option (List ℕ)) (geo : Geometry) (a b : Table) (i j m n : ℕ) → m ≤ n → ReadsTwice o geo a b i j m → ReadsTwice o geo a b i j n
twice_weaker o geo a b i j m n le read =
    IfSome_then o
    {P = λ all. IsWhole all geo → j + 2 * length (unused b) ≤ i + 2 * length (unused a) + m}
    {Q = λ all. IsWhole all geo → j + 2 * length (unused b) ≤ i + 2 * length (unused a) + n}
    read (λ all p whole. omega (arith, p whole, le))

-- the pages of the tables' trees were unused
tables_len : (all : List ℕ) (geo : Geometry) (b c : Table) (wanted : List WantedTree) (tables : List Tree)
    → tables ≡ walks (file_of all geo) TABLE_LIST wanted (unused b) → c ≡ all_moved (pages_in tables) TABLE_LIST b
    → length (unused c) + length (pages_in tables) ≡ length (unused b)
tables_len all geo b c wanted tables value moved =
    let part : IsPartOf (pages_in tables) (unused b) =
    subst (λ (ts : List Tree). IsPartOf (pages_in ts) (unused b)) (sym value) (trees_are_unused (file_of all geo) TABLE_LIST wanted (unused b)) in
    omega (
      arith,
      ap length (ap unused moved ∙ unused-all_moved (pages_in tables) TABLE_LIST b (omega arith)),
      length-minus (unused b) (pages_in tables) part,
    )

-- the reads of the walks of tables and indexes, and then of the tables' cells
pub reads_of_trees : (o o1 o2 o3 : Option (List ℕ)) (geo : Geometry) (b c d e : Table) (wanted : List WantedTree) (tables : List Tree) (j k l m more : ℕ)
    → o1 ≡ o → o2 ≡ o → o3 ≡ o → UsesMove c d → UsesMove d e
    → IfSome o1 (λ all. tables ≡ walks (file_of all geo) TABLE_LIST wanted (unused b)) → c ≡ all_moved (pages_in tables) TABLE_LIST b
    → ReadsEach o1 geo b c j k 0 → ReadsEach o2 geo c d k l 0 → ReadsEach o3 geo d e l m (length (pages_in tables) + more)
    → ReadsTwice o geo b e j m more
reads_of_trees None o1 o2 o3 geo b c d e wanted tables j k l m more e1 e2 e3 indexes chains value moved first second third = tt
reads_of_trees (Some all) o1 o2 o3 geo b c d e wanted tables j k l m more e1 e2 e3 indexes chains value moved first second third = λ whole.
    omega (
      arith,
      at_told (λ bytes. IsWhole bytes geo → k + length (unused c) ≤ j + length (unused b) + 0) (Some all) o1 all e1 refl first whole,
      at_told (λ bytes. IsWhole bytes geo → l + length (unused d) ≤ k + length (unused c) + 0) (Some all) o2 all e2 refl second whole,
      at_told (λ bytes. IsWhole bytes geo → m + length (unused e) ≤ l + length (unused d) + (length (pages_in tables) + more)) (Some all) o3 all e3 refl third whole,
      tables_len all geo b c wanted tables (at_told (λ bytes. tables ≡ walks (file_of bytes geo) TABLE_LIST wanted (unused b)) (Some all) o1 all e1 refl value) moved,
      fewer c d indexes,
      fewer d e chains,
    )

-- reads of pages twice at most, and then of others
pub twice_more : (o : Option (List ℕ)) (geo : Geometry) (a b c : Table) (i j k m : ℕ) → ReadsTwice o geo a b i j 0 → ReadsTwice o geo b c j k m → ReadsTwice o geo a c i k m
twice_more o geo a b c i j k m first next =
    both_told (λ all. IsWhole all geo → j + 2 * length (unused b) ≤ i + 2 * length (unused a) + 0)
    (λ all. IsWhole all geo → k + 2 * length (unused c) ≤ j + 2 * length (unused b) + m)
    (λ all. IsWhole all geo → k + 2 * length (unused c) ≤ i + 2 * length (unused a) + m) o o refl
    (λ all p q whole. omega (arith, p whole, q whole)) first next

-- the schema's tree leaves the list of overflow pages
chains_stay : (a b : Table) → IsPartition a → 7 ≤ length a.lists → (moves : SchemaMoves a b)
    → length (list_at OVERFLOW_LIST moves.between.lists) ≡ length (list_at OVERFLOW_LIST a.lists)
chains_stay a b each many moves =
    ap (λ (t : Table). length (list_at OVERFLOW_LIST t.lists)) moves.tree.all
    ∙ ap length (list_at-all_moved-other moves.tree.taken SCHEMA_LIST OVERFLOW_LIST a each (omega arith) (omega (arith, many)) moves.tree.were_unused (omega arith) (λ e. omega (arith, e)))

-- where only the pages of chains are read, no more are read than moved
pub chains_each : (o : Option (List ℕ)) (geo : Geometry) (a b : Table) (i j more : ℕ) → IsPartition a → 7 ≤ length a.lists → SchemaMoves a b
    → ReadsChains o geo a b i j more → ReadsEach o geo a b i j more
chains_each o geo a b i j more each many moves read =
    let between : IsPartition moves.between = Moves-partition SCHEMA_LIST a moves.between (omega arith) (omega (arith, many)) moves.tree each in
    IfSome_then o
    {P = λ all. IsWhole all geo → j + length (list_at OVERFLOW_LIST a.lists) ≤ i + length (list_at OVERFLOW_LIST b.lists) + more}
    {Q = λ all. IsWhole all geo → j + length (unused b) ≤ i + length (unused a) + more}
    read
    (λ all h whole.
    omega (
      arith,
      h whole,
      chains_stay a b each many moves,
      length-minus (unused a) moves.tree.taken moves.tree.were_unused,
      ap length (ap unused moves.tree.all ∙ unused-all_moved moves.tree.taken SCHEMA_LIST a (omega arith)),
      length-minus (unused moves.between) moves.chains.taken moves.chains.were_unused,
      ap length (ap unused moves.chains.all ∙ unused-all_moved moves.chains.taken OVERFLOW_LIST moves.between (omega arith)),
      ap (λ (t : Table). length (list_at OVERFLOW_LIST t.lists)) moves.chains.all,
      ap length (list_at-all_moved moves.chains.taken OVERFLOW_LIST moves.between between (omega arith) (omega (arith, many, moves.tree.same_lists)) moves.chains.were_unused),
      length-append (list_at OVERFLOW_LIST moves.between.lists) moves.chains.taken,
    ))

-- reads of one part of the way, and of the next
pub each_then : (o o' : Option (List ℕ)) (geo : Geometry) (a b c : Table) (i j k m : ℕ) → o' ≡ o → ReadsEach o geo a b i j 0 → ReadsEach o' geo b c j k m
    → ReadsEach o geo a c i k m
each_then o o' geo a b c i j k m same first next =
    reads_weaker o geo a c i k (0 + m) m (omega arith) (reads_more o o' geo a b c i j k 0 m same first next)

-- what is left of them at an error
pub each_err : {T E : Type 0} (r : Result T E) (o : Option (List ℕ)) (geo : Geometry) (a b : Table) (i j m : ℕ) → IsErr r → m ≤ 1 → ReadsEach o geo a b i j m
    → ReadsEach o geo a b i j (if is_ok r then 0 else 1)
each_err r o geo a b i j m is le read = at_err (ReadsEach o geo a b i j) r 0 1 is (reads_weaker o geo a b i j m 1 le read)

pub twice_err : {T E : Type 0} (r : Result T E) (o : Option (List ℕ)) (geo : Geometry) (a b : Table) (i j m : ℕ) → IsErr r → m ≤ 1 → ReadsTwice o geo a b i j m
    → ReadsTwice o geo a b i j (if is_ok r then 0 else 1)
twice_err r o geo a b i j m is le read = at_err (ReadsTwice o geo a b i j) r 0 1 is (twice_weaker o geo a b i j m 1 le read)
