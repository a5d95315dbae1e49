use Rattle.std.proofs.Common.{◌≡◌, ◌≤◌, ◌+◌, ◌-◌, ◌∙◌, ℕ, false, length, ap, arith, lit≤, subst, sym, refl}
use Rattle.page_access.specs.Files.{file_of}
use Rattle.std.proofs.lemmas.List.{length-replicate}
use Rattle.page_access.proofs.Caching.{cached_at, new_cached}
use Rattle.page_access.proofs.Keeps.{KeepsSink-refl, KeepsSink-trans, not_failed, passed_more, passed_none}
use Rattle.page_lists.specs.Table.{Table, unused}
use Rattle.page_walk.specs.Turns.{left_by}
use Rattle.dbdata_list.specs.Listing.{pages_data}
use Rattle.dbdata_list.specs.declared.faults.ListFault.TheVariants.{Memory, Sink}
use Rattle.dbdata_list.proofs.Reading.{of_more, of_none}
use Rattle.dbdata_list.proofs.Told.{passed_back, passed_on, told_end, told_left, told_out, told_start, told_step, told_with}
use Rattle.dbdata_list.proofs.Turns.{data_all, data_more, data_none}
use Rattle.dbdata_list.proofs.cells.list_data.Goals as goal

pub returns-in_err-table-clause-text : goal.returns-in_err-table-clause-text
returns-in_err-table-clause-text g c = told_left _ Sink _ _ _ _ c.from_residual.ensures.0
    (λ e. let same : Memory ≡ Sink = passed_on _ Memory Sink c.from_residual.ensures.1 e in absurd cc)

pub loop-done-init : goal.loop-done-init
loop-done-init g c = (
  told_start _ _ _ _ _ (λ all. data_all (file_of all c.args.geo.now) _ c.in_ok-table.ensures.value),
  passed_none _ _ _ _ _,
  KeepsSink-refl _ _ _ _,
  refl,
  ap (λ (t : Table). t.pages) c.in_ok-table.ensures.value,
  subst (λ (t : Table). 7 ≤ length t.lists) (sym c.in_ok-table.ensures.value) (lit≤ tt),
  new_cached c.in_ok-cache.ensures,
  ap length c.in_ok-accepted.ensures ∙ length-replicate c.args.geo.now.usable false,
  of_none _ c.args.geo.now _ _ 6 _ c.in_ok-table.ensures.value,
)

pub returns-in_err-list_cells-clause-text : goal.returns-in_err-list_cells-clause-text
returns-in_err-list_cells-clause-text g c =
    told_out _ _ Sink _ Sink _ _ _ _ _ _ _ _ _ _
    (λ all. pages_data (file_of all c.args.geo.now) (c.args.geo.now.pages - (c.loop-done.done + 1)) (c.loop-done.done + 1 + 1) (left_by (file_of all c.args.geo.now) (c.loop-done.done + 1) (unused c.loop-done.table))) _
    c.from_residual-in_err-list_cells.ensures.0 (passed_on _ _ _ c.from_residual-in_err-list_cells.ensures.1) (passed_back _ _ _ c.from_residual-in_err-list_cells.ensures.1) c.loop-done.invariant.1.told
    (λ all. data_more (file_of all c.args.geo.now) c.args.geo.now.pages c.loop-done.done (unused c.loop-done.table) (omega arith)) c.loop-done.invariant.0 c.in_err-list_cells.ensures.text

pub loop-done-preserved : goal.loop-done-preserved
loop-done-preserved g c = (
  told_with _ _ _ _ _ _ (λ all. pages_data (file_of all c.args.geo.now) (c.args.geo.now.pages - (c.loop-done.done + 1)) (c.loop-done.done + 1 + 1))
      (λ all. left_by (file_of all c.args.geo.now) (c.loop-done.done + 1) (unused c.loop-done.table)) _ _
      c.loop-done.invariant.1.told c.in_ok-list_cells.ensures.left
      (told_step _ Sink _ _ _ _ _ _ _ _ _ _ _ _ c.loop-done.invariant.1.told
      (λ all. data_more (file_of all c.args.geo.now) c.args.geo.now.pages c.loop-done.done (unused c.loop-done.table) (omega arith)) c.loop-done.invariant.0 c.in_ok-list_cells.ensures.text),
  passed_more c.loop-done.invariant.1 c.in_ok-list_cells.ensures.kept (not_failed c.in_ok-list_cells.ensures.source.steady),
  KeepsSink-trans c.loop-done.invariant.2 c.in_ok-list_cells.ensures.kept_sink,
  not_failed c.in_ok-list_cells.ensures.sink.steady ∙ c.loop-done.invariant.3,
  c.in_ok-list_cells.ensures.pages ∙ c.loop-done.invariant.4,
  subst (λ (n : ℕ). 7 ≤ n) (sym c.in_ok-list_cells.ensures.lists_kept) c.loop-done.invariant.5,
  cached_at c.in_ok-list_cells.ensures.kept.told c.in_ok-list_cells.ensures.cached,
  c.in_ok-list_cells.ensures.marks ∙ c.loop-done.invariant.7,
  of_more (g.S.Source.bytes c.args.src.now) (g.S.Source.bytes c.loop-done.src) c.args.geo.now c.loop-done.table c.list_cells.new.table
      (g.S.Source.reads c.args.src.now) (g.S.Source.reads c.loop-done.src) (g.S.Source.reads c.list_cells.new.src) c.loop-done.done 1 (c.loop-done.done + 1) c.loop-done.invariant.1.told (omega arith) c.loop-done.invariant.8 c.in_ok-list_cells.ensures.reads,
)

pub returns-in_err-cache-clause-text : goal.returns-in_err-cache-clause-text
returns-in_err-cache-clause-text g c = told_left _ Sink _ _ _ _ c.from_residual-in_err-cache.ensures.0
    (λ e. let same : Memory ≡ Sink = passed_on _ Memory Sink c.from_residual-in_err-cache.ensures.1 e in absurd cc)

pub returns-in_err-bytes-clause-text : goal.returns-in_err-bytes-clause-text
returns-in_err-bytes-clause-text g c = told_left _ Sink _ _ _ _ c.from_residual-in_err-bytes.ensures.0
    (λ e. let same : Memory ≡ Sink = passed_on _ Memory Sink c.from_residual-in_err-bytes.ensures.1 e in absurd cc)

pub returns-clause-text : goal.returns-clause-text
returns-clause-text g c =
    told_end tt Sink _ _ _ _ _ _ _
    (λ all. data_none (file_of all c.args.geo.now) c.args.geo.now.pages c.loop-done.done (c.loop-done.done + 1) (unused c.loop-done.table) (omega arith))
    c.loop-done.invariant.0
