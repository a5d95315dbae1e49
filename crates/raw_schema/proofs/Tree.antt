-- The pages of the schema's tree: the reads of them, and what is claimed of the pages that a walk gave.
use Rattle.std.proofs.Common.{◌≡◌, ◌∙◌, ◌≤◌, ℕ, ◌+◌, ◌*◌, if◌then◌else◌, Option, Result, Ok, Err, IfOk, IsErr, is_ok, inl, inr, List, length, ap, subst, arith, length-append}
use Rattle.std.specs.Prelude.{IfSome}
use Rattle.std.proofs.lemmas.Option.{IfSome_then}
use Rattle.page_access.specs.declared.geometry.Geometry.{Geometry}
use Rattle.page_access.specs.Files.{IsWhole, file_of}
use Rattle.page_access.specs.Pages.{File}
use Rattle.page_access.proofs.Told.{always_told, both_told}
use Rattle.page_lists.specs.Lists.{IsPartOf, minus}
use Rattle.page_lists.specs.Table.{IsPartition, Table, Moves, MovesFront, all_moved, list_at, moved, unused}
use Rattle.page_lists.proofs.Counts.{length-minus}
use Rattle.page_lists.proofs.Uses.{list_at-all_moved, list_at-all_moved-other, unused-all_moved}
use Rattle.overflow_chain.specs.declared.TheConstants.{OVERFLOW_LIST}
use Rattle.page_walk.specs.Turns.{ReadsEach, chains_on}
use Rattle.page_walk.proofs.Walking.{moves_fewer}
use Rattle.raw_schema.specs.Schema.{ReadsChains, ReadsTwice, SchemaFront, after_tree, schema_chains, schema_pages}
use Rattle.raw_schema.specs.declared.TheConstants.{SCHEMA_LIST}

-- what an error of the walk leaves
pub reads_at_err : {T E : Type 0} (r : Result T E) (told : Option (List ℕ)) (geo : Geometry) (old new : Table) (before now : ℕ) → IsErr r
    → Moves SCHEMA_LIST old new → ReadsEach told geo old new before now 1
    → ReadsTwice told geo old new before now (if is_ok r then 0 else 1)
reads_at_err (Ok x) told geo old new before now is moves read = absurd (cc)
reads_at_err (Err e) told geo old new before now is moves read =
    IfSome_then told
    {P = λ all. IsWhole all geo → now + length (unused new) ≤ before + length (unused old) + 1}
    {Q = λ all. IsWhole all geo → now + 2 * length (unused new) ≤ before + 2 * length (unused old) + 1}
    read
    (λ all h whole. omega (arith, h whole, moves_fewer SCHEMA_LIST old new (omega arith) moves))

-- the reads of the walk, and then those of the pages that it gave
pub reads_in_all : (told told' : Option (List ℕ)) (geo : Geometry) (pages : List ℕ) (old mid new : Table) (before at now more : ℕ)
    → told' ≡ told → IsPartOf pages (unused old) → mid ≡ all_moved pages SCHEMA_LIST old
    → Moves OVERFLOW_LIST mid new → ReadsEach told geo old mid before at 0 → ReadsEach told' geo mid new at now (length pages + more)
    → ReadsTwice told geo old new before now more
reads_in_all told told' geo pages old mid new before at now more same part moved moves first later =
    both_told (λ all. IsWhole all geo → at + length (unused mid) ≤ before + length (unused old) + 0)
    (λ all. IsWhole all geo → now + length (unused new) ≤ at + length (unused mid) + (length pages + more))
    (λ all. IsWhole all geo → now + 2 * length (unused new) ≤ before + 2 * length (unused old) + more)
    told told' same
    (λ all h k whole.
    omega (
      arith,
      h whole,
      k whole,
      length-minus (unused old) pages part,
      ap length (ap unused moved ∙ unused-all_moved pages SCHEMA_LIST old (omega arith)),
      moves_fewer OVERFLOW_LIST mid new (omega arith) moves,
    ))
    first later

-- what is claimed of pages that moved out of list 0, of the pages then unused and of the table, claimed of the schema's
abbrev pub AtTree : File → Table → (List ℕ → List ℕ → Table → Type 0) → Type 0
AtTree f old Claim = Claim (schema_pages f (unused old)) (minus (unused old) (schema_pages f (unused old)))
    (all_moved (schema_pages f (unused old)) SCHEMA_LIST old)

-- it is, where it is claimed of the pages that the walk gave
tree_claim : (o o' : Option (List ℕ)) (geo : Geometry) (pages : List ℕ) (old mid : Table) (Claim : File → List ℕ → List ℕ → Table → Type 0)
    → o' ≡ o → IfSome o (λ all. pages ≡ schema_pages (file_of all geo) (unused old)) → mid ≡ all_moved pages SCHEMA_LIST old
    → IfSome o' (λ all. Claim (file_of all geo) pages (unused mid) mid)
    → IfSome o (λ all. AtTree (file_of all geo) old (Claim (file_of all geo)))
tree_claim o o' geo pages old mid Claim same value moved h =
    both_told (λ all. pages ≡ schema_pages (file_of all geo) (unused old)) (λ all. Claim (file_of all geo) pages (unused mid) mid)
    (λ all. AtTree (file_of all geo) old (Claim (file_of all geo))) o o' same (λ all are k.
    let f : File = file_of all geo in
    subst (λ (ps : List ℕ). Claim f ps (minus (unused old) ps) (all_moved ps SCHEMA_LIST old)) are
    (subst (λ (u : List ℕ). Claim f pages u (all_moved pages SCHEMA_LIST old)) (unused-all_moved pages SCHEMA_LIST old (omega arith))
    (subst (λ (t : Table). Claim f pages (unused t) t) moved k)))
    value h

-- a front of the tree's pages has moved
pub front_of_tree : (o : Option (List ℕ)) (geo : Geometry) (old new : Table)
    → IfSome o (λ all. MovesFront (schema_pages (file_of all geo) (unused old)) SCHEMA_LIST old new)
    → IfSome o (λ all. SchemaFront (file_of all geo) old new)
front_of_tree o geo old new =
    λ known. IfSome_then o
    {P = λ all. MovesFront (schema_pages (file_of all geo) (unused old)) SCHEMA_LIST old new}
    {Q = λ all. SchemaFront (file_of all geo) old new}
    known (λ all m. inl m)

-- or all of them, and a front of the overflow pages
pub front_of_chains : (o o' : Option (List ℕ)) (geo : Geometry) (pages : List ℕ) (old mid new : Table) → o' ≡ o
    → IfSome o (λ all. pages ≡ schema_pages (file_of all geo) (unused old)) → mid ≡ all_moved pages SCHEMA_LIST old
    → IfSome o' (λ all. MovesFront (chains_on (file_of all geo) pages (unused mid)) OVERFLOW_LIST mid new)
    → IfSome o (λ all. SchemaFront (file_of all geo) old new)
front_of_chains o o' geo pages old mid new same value moved front =
    IfSome_then o
    {P = λ all. MovesFront (schema_chains (file_of all geo) (unused old)) OVERFLOW_LIST (after_tree (file_of all geo) old) new}
    {Q = λ all. SchemaFront (file_of all geo) old new}
    (tree_claim o o' geo pages old mid (λ f ps u t. MovesFront (chains_on f ps u) OVERFLOW_LIST t new) same value moved front)
    (λ all m. inr m)

-- the same at a success
pub at_tree : {T E : Type 0} (r : Result T E) (o o' : Option (List ℕ)) (geo : Geometry) (pages : List ℕ) (old mid : Table)
    (Claim : T → File → List ℕ → List ℕ → Table → Type 0) → o' ≡ o
    → IfSome o (λ all. pages ≡ schema_pages (file_of all geo) (unused old)) → mid ≡ all_moved pages SCHEMA_LIST old
    → IfOk r (λ s. IfSome o' (λ all. Claim s (file_of all geo) pages (unused mid) mid))
    → IfOk r (λ s. IfSome o (λ all. AtTree (file_of all geo) old (Claim s (file_of all geo))))
at_tree (Err e) o o' geo pages old mid Claim same value moved h = tt
at_tree (Ok s) o o' geo pages old mid Claim same value moved h = tree_claim o o' geo pages old mid (Claim s) same value moved h

-- the walk leaves the list of overflow pages
chains_stay : (old new : Table) → IsPartition old → 7 ≤ length old.lists → Moves SCHEMA_LIST old new
    → length (list_at OVERFLOW_LIST new.lists) ≡ length (list_at OVERFLOW_LIST old.lists)
chains_stay old new each many moves =
    ap (λ (t : Table). length (list_at OVERFLOW_LIST t.lists)) moves.all
    ∙ ap length (list_at-all_moved-other moves.taken SCHEMA_LIST OVERFLOW_LIST old each (omega arith) (omega (arith, many)) moves.were_unused (omega arith) (λ e. omega (arith, e)))

-- reads where no chain was read
pub no_chains : {T E : Type 0} (r : Result T E) (told : Option (List ℕ)) (geo : Geometry) (old new : Table) (before now more : ℕ) → IsPartition old
    → 7 ≤ length old.lists → Moves SCHEMA_LIST old new → now ≡ before → ReadsChains told geo old new before now (if is_ok r then 0 else more)
no_chains r told geo old new before now more each many moves same =
    always_told (λ all. IsWhole all geo → now + length (list_at OVERFLOW_LIST old.lists)
    ≤ before + length (list_at OVERFLOW_LIST new.lists) + (if is_ok r then 0 else more)) told
    (λ all whole. omega (arith, same, chains_stay old new each many moves))

-- the reads of chains alone
pub chains_read : (told told' : Option (List ℕ)) (geo : Geometry) (old mid new : Table) (before at now more : ℕ) → told' ≡ told → IsPartition old
    → IsPartition mid → 7 ≤ length old.lists → Moves SCHEMA_LIST old mid → Moves OVERFLOW_LIST mid new → at ≡ before
    → ReadsEach told' geo mid new at now more → ReadsChains told geo old new before now more
chains_read told told' geo old mid new before at now more same each each' many tree chains start read =
    subst (λ (o : Option (List ℕ)). ReadsChains o geo old new before now more) same
    (IfSome_then told'
    {P = λ all. IsWhole all geo → now + length (unused new) ≤ at + length (unused mid) + more}
    {Q = λ all. IsWhole all geo → now + length (list_at OVERFLOW_LIST old.lists) ≤ before + length (list_at OVERFLOW_LIST new.lists) + more}
    read
    (λ all h whole.
    omega (
      arith,
      h whole,
      start,
      chains_stay old mid each many tree,
      length-minus (unused mid) chains.taken chains.were_unused,
      ap length (ap unused chains.all ∙ unused-all_moved chains.taken OVERFLOW_LIST mid (omega arith)),
      ap (λ (t : Table). length (list_at OVERFLOW_LIST t.lists)) chains.all,
      ap length (list_at-all_moved chains.taken OVERFLOW_LIST mid each' (omega arith) (omega (arith, many, tree.same_lists)) chains.were_unused),
      length-append (list_at OVERFLOW_LIST mid.lists) chains.taken,
    )))
