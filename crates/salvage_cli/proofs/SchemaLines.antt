-- The listing of the schema, line by line.
use Rattle.std.proofs.Common.{◌≡◌, ◌∙◌, ◌<◌, ℕ, ◌+◌, List, ◌++◌, length, drop, get_or, map, ap, sym}
use Rattle.std.specs.List.{flat_map}
use Rattle.std.proofs.lemmas.List.{drop_more}
use Rattle.page_access.specs.declared.outside.ReadFault.{ReadFault}
use Rattle.page_access.specs.declared.outside.ReadFault.TheVariants as read
use Rattle.page_walk.specs.Cells.{row_of}
use Rattle.page_walk.specs.declared.outcomes.TakenCell.{TakenCell}
use Rattle.dbdata_list.specs.Faults.{of_read}
use Rattle.dbdata_list.specs.declared.faults.ListFault.TheVariants.{Sink}
use Rattle.salvage_cli.specs.Schema.{bad_line}

-- the lines from a cell on
pub bad_more : (i : ℕ) (cells : List TakenCell) (c : TakenCell) → c ≡ get_or cells i c → i < length cells →
    flat_map bad_line (map row_of (drop i cells)) ≡ bad_line (row_of c) ++ flat_map bad_line (map row_of (drop (i + 1) cells))
bad_more i cells c is lt =
    ap (λ cs. flat_map bad_line (map row_of cs)) (drop_more cells i c lt)
    ∙ ap (λ d. bad_line (row_of d) ++ flat_map bad_line (map row_of (drop (i + 1) cells))) (sym is)

-- a fault of reading is none of the sink
pub not_sinks : (fault : ReadFault) → of_read fault ≡ Sink → ⊥
not_sinks read.Source e = cc
not_sinks read.Memory e = cc
