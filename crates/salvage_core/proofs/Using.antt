-- The uses of the pages of a file, put together.
use Rattle.std.proofs.Common.{◌≡◌, ℕ, List, Option, Some, None, Result, Ok, Err, IfSome, IsErrOf, inl, inr, ◌≤◌, length, map, refl, sym, ◌∙◌, ap, subst}
use Rattle.std.specs.Prelude.{IsErr, IsErrAnd}
use Rattle.page_access.specs.Outside.{HasCauseOf}
use Rattle.page_access.specs.declared.outside.ReadFault.{ReadFault}
use Rattle.page_access.specs.declared.outside.ReadFault.TheVariants as ReadFaults
use Rattle.page_access.specs.Files.{file_of}
use Rattle.page_access.specs.Pages.{File}
use Rattle.page_access.specs.declared.geometry.Geometry.{Geometry}
use Rattle.page_lists.specs.Lists.{IsPartOf}
use Rattle.page_lists.specs.Table.{Table, fresh, unused}
use Rattle.page_lists.proofs.Moves.{IsPartition-fresh}
use Rattle.page_walk.specs.Cells.{Outcome}
use Rattle.orphan_trees.specs.Orphans.{Orphan, orphan_of}
use Rattle.orphan_uses.specs.Order.{AreOrphans, after_orphans}
use Rattle.orphan_uses.specs.declared.uses.OrphanUses.{OrphanUses}
use Rattle.tree_uses.specs.Trees.{Tree, tree_of, turns_of}
use Rattle.use_order.specs.Order.{AreInOrder, IsSchema, after_uses, behind_uses}
use Rattle.use_order.specs.declared.uses.FileUses.{FileUses}
use Rattle.use_order.proofs.Ordered.{at_told, few_part, unused_after}
use Rattle.salvage_core.specs.Plan.{pages_in}
use Rattle.salvage_core.specs.Uses.{AreUses}
use Rattle.salvage_core.specs.declared.uses.FoundUses.{FoundUses}

-- the uses of the schema and its trees, and then those of the pages that these leave
pub are_uses : (o o1 o2 : Option (List ℕ)) (geo : Geometry) (t0 t1 t2 : Table) (trunk : Option ℕ) (u : FileUses) (w : OrphanUses)
    → t0 ≡ fresh geo.pages 6 → o1 ≡ o → o2 ≡ o
    → IfSome o1 (λ all. AreInOrder (file_of all geo) (unused t0) u.schema.rows.items u.readings.items (map tree_of u.tables.items)
    (map tree_of u.indexes.items) (map turns_of u.turns.items))
    → IfSome o1 (λ all. IsSchema (file_of all geo) (unused t0) u.schema)
    → IfSome o1 (λ all. t1 ≡ after_uses (file_of all geo) t0 (map tree_of u.tables.items) (map tree_of u.indexes.items) (map turns_of u.turns.items))
    → IfSome o2 (λ all. AreOrphans (file_of all geo) (unused t1) trunk (map orphan_of w.trees.items) (map turns_of w.turns.items))
    → IfSome o2 (λ all. t2 ≡ after_orphans (file_of all geo) t1 trunk (map orphan_of w.trees.items) (map turns_of w.turns.items))
    → IfSome o (λ all. AreUses (file_of all geo) trunk (record { uses = u; orphans = w; table = t2 }))
are_uses None o1 o2 geo t0 t1 t2 trunk u w begun s1 s2 order schema moved orphans placed = tt
are_uses (Some all) o1 o2 geo t0 t1 t2 trunk u w begun s1 s2 order schema moved orphans placed =
    let f : File = file_of all geo in
    let tables : List Tree = map tree_of u.tables.items in
    let indexes : List Tree = map tree_of u.indexes.items in
    let turns : List (List (ℕ × List Outcome)) = map turns_of u.turns.items in
    let trees : List Orphan = map orphan_of w.trees.items in
    let cells : List (List (ℕ × List Outcome)) = map turns_of w.turns.items in
    let one : t1 ≡ after_uses f t0 tables indexes turns =
    at_told (λ bytes. t1 ≡ after_uses (file_of bytes geo) t0 tables indexes turns) (Some all) o1 all s1 refl moved in
    let left : unused t1 ≡ behind_uses f (pages_in f) tables indexes turns =
    ap unused one ∙ (unused_after f t0 tables indexes turns ∙ ap (λ (t : Table). behind_uses f (unused t) tables indexes turns) begun) in
    record {
      order = subst (λ (t : Table). AreInOrder f (unused t) u.schema.rows.items u.readings.items tables indexes turns) begun
          (at_told (λ bytes. AreInOrder (file_of bytes geo) (unused t0) u.schema.rows.items u.readings.items tables indexes turns) (Some all) o1 all s1 refl order);
      schema = subst (λ (t : Table). IsSchema f (unused t) u.schema) begun
          (at_told (λ bytes. IsSchema (file_of bytes geo) (unused t0) u.schema) (Some all) o1 all s1 refl schema);
      orphans = subst (λ (unused : List ℕ). AreOrphans f unused trunk trees cells) left
          (at_told (λ bytes. AreOrphans (file_of bytes geo) (unused t1) trunk trees cells) (Some all) o2 all s2 refl orphans);
      moved = at_told (λ bytes. t2 ≡ after_orphans (file_of bytes geo) t1 trunk trees cells) (Some all) o2 all s2 refl placed
          ∙ ap (λ (t : Table). after_orphans f t trunk trees cells) (one ∙ ap (λ (t : Table). after_uses f t tables indexes turns) begun);
    }

-- pages that are part of the unused ones of a new table are no more than its pages
pub fresh_few : (n more : ℕ) (t : Table) (ps : List ℕ) → t ≡ fresh n more → IsPartOf ps (unused t) → length ps ≤ n
fresh_few n more t ps begun part =
    few_part (fresh n more) ps (IsPartition-fresh n more) (subst (λ (u : Table). IsPartOf ps (unused u)) begun part)

named_alike : {T E : Type 0} (a b : E) → IsErrOf {T = T} (Err a) b → a ≡ b
named_alike a b is = cc

-- an answer of another type with the same error
abbrev failing : {T E : Type 0} → E → Result T E
failing fault = Err fault

turned : {T U E : Type 0} (a b : E) → IsErrOf {T = U} (Err a) b → IsErrOf {T = T} (Err a) b
turned {T} {U} {E} a b is = ap (failing {T = T}) (named_alike a b is)

-- an error that is handed on has its cause, where no call before it failed
pub caused : {T U : Type 0} (r : Result U ReadFault) (fault : ReadFault) (a b c : ℕ) → b ≡ a → HasCauseOf {T = T} ReadFaults.Source b c (Err fault)
    → IsErr r → IsErrAnd r (λ e. e ≡ fault) → HasCauseOf {T = U} ReadFaults.Source a c r
caused {T} {U} (Ok done) fault a b c same cause is named = absurd (cc)
caused {T} {U} (Err e) fault a b c same cause is named =
    let k : HasCauseOf {T = T} ReadFaults.Source a c (Err fault) = subst (λ (n : ℕ). HasCauseOf {T = T} ReadFaults.Source n c (Err fault)) same cause in
    subst (λ (x : ReadFault). HasCauseOf {T = U} ReadFaults.Source a c (Err x)) (sym named) (record {
      later = k.later;
      failed = λ was. k.failed (turned fault ReadFaults.Source was);
      steady = elim k.steady [
        | inl was ↦ inl (turned fault ReadFaults.Source was)
        | inr stays ↦ inr stays
      ];
    })
