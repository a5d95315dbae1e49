use Rattle.std.proofs.Common.{◌≡◌, ◌+◌, ◌-◌, ap, arith, false, length, refl, ◌∙◌}
use Rattle.page_access.specs.Files.{file_of}
use Rattle.std.proofs.lemmas.List.{length-replicate}
use Rattle.page_access.proofs.Caching.{cached_at, new_cached}
use Rattle.page_access.proofs.Keeps.{KeepsSink-refl, KeepsSink-trans, not_failed, passed_more, passed_none}
use Rattle.dbdata_list.specs.Listing.{page_pointers, pages_text, pointers_text}
use Rattle.dbdata_list.specs.declared.faults.ListFault.TheVariants.{Memory, Sink}
use Rattle.dbdata_list.proofs.Reading.{few_more, few_none}
use Rattle.dbdata_list.proofs.Told.{pages_all, pages_more, pages_none, passed_back, passed_on, told_end, told_left, told_out, told_start, told_step}
use Rattle.dbdata_list.proofs.pointers.list_pointers.Goals as goal

pub loop-done-init : goal.loop-done-init
unfolding pointers_text
loop-done-init g c = (
  told_start _ _ _ _ _ (λ all. pages_all (page_pointers (file_of all c.args.geo.now)) c.args.geo.now.pages),
  passed_none _ _ _ _ _,
  KeepsSink-refl _ _ _ _,
  refl,
  new_cached c.in_ok-cache.ensures,
  ap length c.in_ok-accepted.ensures ∙ length-replicate c.args.geo.now.usable false,
  few_none _ c.args.geo.now _ _,
)

pub returns-in_err-list_page-clause-text : goal.returns-in_err-list_page-clause-text
returns-in_err-list_page-clause-text g c =
    told_out _ _ Sink _ Sink _ _ _ _ _ _ _ _ _ _ (λ all. pages_text (page_pointers (file_of all c.args.geo.now)) (c.args.geo.now.pages - (c.loop-done.done + 1)) (c.loop-done.done + 1 + 1)) _
    c.from_residual-in_err-list_page.ensures.0 (passed_on _ _ _ c.from_residual-in_err-list_page.ensures.1) (passed_back _ _ _ c.from_residual-in_err-list_page.ensures.1) c.loop-done.invariant.1.told
    (λ all. pages_more (page_pointers (file_of all c.args.geo.now)) c.args.geo.now.pages c.loop-done.done (omega arith)) c.loop-done.invariant.0 c.in_err-list_page.ensures.text

pub loop-done-preserved : goal.loop-done-preserved
loop-done-preserved g c = (
  told_step _ Sink _ _ _ _ _ _ _ _ _ _ (λ all. pages_text (page_pointers (file_of all c.args.geo.now)) (c.args.geo.now.pages - (c.loop-done.done + 1)) (c.loop-done.done + 1 + 1)) _
      c.loop-done.invariant.1.told (λ all. pages_more (page_pointers (file_of all c.args.geo.now)) c.args.geo.now.pages c.loop-done.done (omega arith))
      c.loop-done.invariant.0 c.in_ok-list_page.ensures.text,
  passed_more c.loop-done.invariant.1 c.in_ok-list_page.ensures.kept (not_failed c.in_ok-list_page.ensures.source.steady),
  KeepsSink-trans c.loop-done.invariant.2 c.in_ok-list_page.ensures.kept_sink,
  not_failed c.in_ok-list_page.ensures.sink.steady ∙ c.loop-done.invariant.3,
  cached_at c.in_ok-list_page.ensures.kept.told c.in_ok-list_page.ensures.cached,
  c.in_ok-list_page.ensures.marks ∙ c.loop-done.invariant.5,
  few_more (g.S.Source.bytes c.args.src.now) (g.S.Source.bytes c.loop-done.src) c.args.geo.now
      (g.S.Source.reads c.args.src.now) (g.S.Source.reads c.loop-done.src) (g.S.Source.reads c.list_page.new.src) c.loop-done.done 1 (c.loop-done.done + 1) c.loop-done.invariant.1.told (omega arith) c.loop-done.invariant.6 c.in_ok-list_page.ensures.reads,
)

pub returns-in_err-cache-clause-text : goal.returns-in_err-cache-clause-text
returns-in_err-cache-clause-text g c = told_left _ Sink _ _ _ _ c.from_residual.ensures.0
    (λ e. let same : Memory ≡ Sink = passed_on _ Memory Sink c.from_residual.ensures.1 e in absurd cc)

pub returns-in_err-bytes-clause-text : goal.returns-in_err-bytes-clause-text
returns-in_err-bytes-clause-text g c = told_left _ Sink _ _ _ _ c.from_residual-in_err-bytes.ensures.0
    (λ e. let same : Memory ≡ Sink = passed_on _ Memory Sink c.from_residual-in_err-bytes.ensures.1 e in absurd cc)

pub returns-in_err-accepted-clause-text : goal.returns-in_err-accepted-clause-text
returns-in_err-accepted-clause-text g c = told_left _ Sink _ _ _ _ c.from_residual-in_err-accepted.ensures.0
    (λ e. let same : Memory ≡ Sink = passed_on _ Memory Sink c.from_residual-in_err-accepted.ensures.1 e in absurd cc)

pub returns-clause-text : goal.returns-clause-text
returns-clause-text g c =
    told_end tt Sink _ _ _ _ _ _ _
    (λ all. pages_none (page_pointers (file_of all c.args.geo.now)) c.args.geo.now.pages c.loop-done.done (c.loop-done.done + 1) (omega arith))
    c.loop-done.invariant.0
