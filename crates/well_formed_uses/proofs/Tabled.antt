-- The pages that are left are the unused pages of the table of page lists.
use Rattle.std.proofs.Common.{◌≡◌, ℕ, List, ap, ◌∙◌, arith}
use Rattle.std.specs.List.{flat_map}
use Rattle.page_access.specs.Pages.{File}
use Rattle.page_lists.specs.Lists.{minus}
use Rattle.page_lists.specs.Table.{Table, all_moved, unused}
use Rattle.page_lists.proofs.Uses.{unused-all_moved}
use Rattle.overflow_chain.specs.declared.TheConstants.{OVERFLOW_LIST}
use Rattle.page_walk.specs.Turns.{chains_on}
use Rattle.raw_schema.specs.Schema.{after_schema, schema_pages}
use Rattle.raw_schema.specs.declared.TheConstants.{SCHEMA_LIST}
use Rattle.tree_uses.specs.Trees.{chains_in, pages_in}
use Rattle.use_order.specs.declared.TheConstants.{INDEX_LIST, TABLE_LIST}
use Rattle.use_order.specs.Order.{behind_schema}
use Rattle.well_formed.specs.Header.{file_in}
use Rattle.well_formed_uses.specs.Laws.{LeftAreUnused}

schema_left : (f : File) (t : Table) → unused (after_schema f t) ≡ behind_schema f (unused t)
unfolding after_schema
schema_left f t =
    let first : Table = all_moved (schema_pages f (unused t)) SCHEMA_LIST t in
    let taken : List ℕ = chains_on f (schema_pages f (unused t)) (minus (unused t) (schema_pages f (unused t))) in
    unused-all_moved taken OVERFLOW_LIST first (omega arith)
    ∙ ap (λ (u : List ℕ). minus u taken) (unused-all_moved (schema_pages f (unused t)) SCHEMA_LIST t (omega arith))

pub left_are_unused : LeftAreUnused
left_are_unused bytes db s t same =
    let f : File = file_in bytes in
    let a : Table = after_schema f t in
    let b : Table = all_moved (pages_in s.tables) TABLE_LIST a in
    let c : Table = all_moved (pages_in s.indexes) INDEX_LIST b in
    unused-all_moved (flat_map chains_in s.turns) OVERFLOW_LIST c (omega arith)
    ∙ ap (λ (u : List ℕ). minus u (flat_map chains_in s.turns))
    (unused-all_moved (pages_in s.indexes) INDEX_LIST b (omega arith)
    ∙ ap (λ (u : List ℕ). minus u (pages_in s.indexes))
    (unused-all_moved (pages_in s.tables) TABLE_LIST a (omega arith)
    ∙ ap (λ (u : List ℕ). minus u (pages_in s.tables)) (schema_left f t ∙ ap (behind_schema f) same)))
