use Rattle.std.proofs.Common.{rules, refl, false, length, sym, ◌∙◌, ap, arith, w64, to_z, of_z}
use Rattle.std.specs.Prelude.{option_to_list}
use Rattle.std.proofs.lemmas.List.{length-replicate}
use Rattle.std.proofs.lemmas.Int.{to_z-of_z}
use Rattle.page_access.proofs.Caching.{cached_at}
use Rattle.page_access.proofs.Keeps.{not_failed}
use Rattle.page_access.specs.Files.{file_of}
use Rattle.page_lists.specs.Table.{unused}
use Rattle.page_walk.specs.Walk.{walk}
use Rattle.page_walk.proofs.Fronts.{moves_none}
use Rattle.page_walk.proofs.Taking.{part_are_pages}
use Rattle.page_walk.proofs.Walking.{is_open, no_walk, queued_end, queued_front, queued_less, queued_more, queued_page, queued_reads, queued_reads_end, queued_some, queued_start, walk_begins, walked_tree, walking_moves}
use Rattle.page_walk.proofs.walks.walk_tree.Goals as goal

pub returns-in_default-clause-value : goal.returns-in_default-clause-value
returns-in_default-clause-value g c =
    no_walk c.args.geo.now c.args.kind (to_z w64 (of_z w64 c.args.root)) c.args.root _ c.args.survey.now c.args.table.now c.new.result.items
    c.requires.same_pages c.requires.kinds (sym (ap option_to_list c.in_default.is) ∙ c.root_page.ensures.value)
    (to_z-of_z w64 c.args.root (search rules)) c.new.ensures.items

pub returns-in_default-clause-tree : goal.returns-in_default-clause-tree
returns-in_default-clause-tree g c =
    walked_tree _ c.args.geo.now c.args.table.now c.args.root c.args.kind c.new.result.items c.root_page.ensures.partition
    c.requires.same_pages (returns-in_default-clause-value g c)

pub returns-in_err-bytes-clause-succeeds : goal.returns-in_err-bytes-clause-succeeds
returns-in_err-bytes-clause-succeeds g c =
    walk_begins c.args.geo.now c.args.kind _ c.args.root _ c.args.survey.now c.args.table.now c.in-Some.first _ c.requires.same_pages
    c.requires.kinds c.in-Some.ensures.value (to_z-of_z w64 c.args.root (search rules))

pub returns-in_err-accepted-clause-succeeds : goal.returns-in_err-accepted-clause-succeeds
returns-in_err-accepted-clause-succeeds g c =
    walk_begins c.args.geo.now c.args.kind _ c.args.root _ c.args.survey.now c.args.table.now c.in-Some.first _ c.requires.same_pages
    c.requires.kinds c.in-Some.ensures.value (to_z-of_z w64 c.args.root (search rules))

pub returns-in_err-named-clause-succeeds : goal.returns-in_err-named-clause-succeeds
returns-in_err-named-clause-succeeds g c =
    walk_begins c.args.geo.now c.args.kind _ c.args.root _ c.args.survey.now c.args.table.now c.in-Some.first _ c.requires.same_pages
    c.requires.kinds c.in-Some.ensures.value (to_z-of_z w64 c.args.root (search rules))

pub loop-at-init : goal.loop-at-init
loop-at-init g c = record {
  marks = ap length c.in_ok-accepted.ensures ∙ length-replicate c.args.geo.now.usable false;
  queued = queued_start g.S.Source.bytes g.S.Source.attached g.S.Source.faults g.S.Source.reads c.args.geo.now c.args.kind
      _ c.args.list c.args.src.now c.args.survey.now c.args.table.now c.move_to_back.new.self c.in-Some.first
      c.requires.list_least c.requires.same_pages c.requires.kinds c.in-Some.ensures.value c.move_to_back.ensures.value;
  cached = c.requires.cached;
  full = λ all. (all, refl);
}

pub pointers_with-requires-clause-page_least : goal.pointers_with-requires-clause-page_least
pointers_with-requires-clause-page_least g c =
    let base = is_open c.args.geo.now c.args.list c.args.table.now c.root_page.ensures.partition c.requires.same_pages c.requires.list_least c.requires.list_most in
    (queued_page c.in-Some-at.page base c.loop-at.invariant.queued c.in-Some-at.is).0

pub pointers_with-requires-clause-page_most : goal.pointers_with-requires-clause-page_most
pointers_with-requires-clause-page_most g c =
    let base = is_open c.args.geo.now c.args.list c.args.table.now c.root_page.ensures.partition c.requires.same_pages c.requires.list_least c.requires.list_most in
    (queued_page c.in-Some-at.page base c.loop-at.invariant.queued c.in-Some-at.is).1

pub returns-in_err-pointers_with-clause-moves : goal.returns-in_err-pointers_with-clause-moves
returns-in_err-pointers_with-clause-moves g c = walking_moves c.loop-at.invariant.queued.walking

pub returns-in_err-pointers_with-clause-reads : goal.returns-in_err-pointers_with-clause-reads
returns-in_err-pointers_with-clause-reads g c =
    queued_reads c.in-Some-at.page _ _ c.requires.list_least c.loop-at.invariant.queued c.in-Some-at.is c.pointers_with.ensures.reads

pub returns-in_err-pointers_with-clause-succeeds : goal.returns-in_err-pointers_with-clause-succeeds
returns-in_err-pointers_with-clause-succeeds g c =
    queued_some c.args.root _ c.loop-at.invariant.queued (to_z-of_z w64 c.args.root (search rules))

pub take_all-requires-clause-same_pages : goal.take_all-requires-clause-same_pages
take_all-requires-clause-same_pages g c =
    c.requires.surveyed ∙ sym ((walking_moves c.loop-at.invariant.queued.walking).same_pages ∙ c.requires.same_pages)

pub take_all-requires-clause-list_most : goal.take_all-requires-clause-list_most
take_all-requires-clause-list_most g c =
    omega (arith, (walking_moves c.loop-at.invariant.queued.walking).same_lists, c.requires.list_most)

pub next-at-requires-clause-low : goal.next-at-requires-clause-low
next-at-requires-clause-low g c =
    let base = is_open c.args.geo.now c.args.list c.args.table.now c.root_page.ensures.partition c.requires.same_pages c.requires.list_least c.requires.list_most in
    (queued_page c.in-Some-at.page base c.loop-at.invariant.queued c.in-Some-at.is).0

pub next-at-requires-clause-high : goal.next-at-requires-clause-high
next-at-requires-clause-high g c =
    let base = is_open c.args.geo.now c.args.list c.args.table.now c.root_page.ensures.partition c.requires.same_pages c.requires.list_least c.requires.list_most in
    omega (
      arith,
      (queued_page c.in-Some-at.page base c.loop-at.invariant.queued c.in-Some-at.is).1,
      c.take_all.ensures.moves.same_pages,
      (walking_moves c.loop-at.invariant.queued.walking).same_pages,
      c.requires.same_pages,
    )

pub loop-at-smaller : goal.loop-at-smaller
loop-at-smaller g c =
    let base = is_open c.args.geo.now c.args.list c.args.table.now c.root_page.ensures.partition c.requires.same_pages c.requires.list_least c.requires.list_most in
    queued_less base c.loop-at.invariant.queued
    (queued_more c.pointers_with.new.src c.args.survey.now c.take_all.new.table c.clear.new.self.items c.deref.result.now c.in-Some-at.page
    c.next-at.result base c.loop-at.invariant.queued c.in-Some-at.is c.requires.kinds c.clear.ensures.items
    (rw c.deref.ensures.value c.in_ok-pointers_with.ensures.value)
    c.pointers_with.ensures.kept (not_failed c.in_ok-pointers_with.ensures.cause.steady) c.pointers_with.ensures.reads
    c.take_all.ensures.value c.next-at.ensures)

pub loop-at-preserved : goal.loop-at-preserved
loop-at-preserved g c = record {
  marks = c.pointers_with.ensures.marks ∙ c.loop-at.invariant.marks;
  queued =
      let base = is_open c.args.geo.now c.args.list c.args.table.now c.root_page.ensures.partition c.requires.same_pages c.requires.list_least c.requires.list_most in
      (queued_more c.pointers_with.new.src c.args.survey.now c.take_all.new.table c.clear.new.self.items c.deref.result.now c.in-Some-at.page
      c.next-at.result base c.loop-at.invariant.queued c.in-Some-at.is c.requires.kinds c.clear.ensures.items
      (rw c.deref.ensures.value c.in_ok-pointers_with.ensures.value)
      c.pointers_with.ensures.kept (not_failed c.in_ok-pointers_with.ensures.cause.steady) c.pointers_with.ensures.reads
      c.take_all.ensures.value c.next-at.ensures).0;
  cached = cached_at c.pointers_with.ensures.kept.told c.pointers_with.ensures.cached;
  full = λ all.
      let now = c.loop-at.invariant.full all in
      let step = c.pointers_with.ensures.full now.0 in
      (step.0, step.1 ∙ now.1);
}

pub pages_from-requires-clause-high : goal.pages_from-requires-clause-high
pages_from-requires-clause-high g c =
    omega (arith, c.in-Some.ensures.high, (walking_moves c.loop-at.invariant.queued.walking).same_pages)

pub returns-in_err-pages_from-clause-moves : goal.returns-in_err-pages_from-clause-moves
returns-in_err-pages_from-clause-moves g c = walking_moves c.loop-at.invariant.queued.walking

pub returns-in_err-pages_from-clause-reads : goal.returns-in_err-pages_from-clause-reads
returns-in_err-pages_from-clause-reads g c = queued_reads_end _ c.requires.list_least c.loop-at.invariant.queued

pub returns-in_err-pages_from-clause-succeeds : goal.returns-in_err-pages_from-clause-succeeds
returns-in_err-pages_from-clause-succeeds g c =
    queued_some c.args.root _ c.loop-at.invariant.queued (to_z-of_z w64 c.args.root (search rules))

pub returns-clause-value : goal.returns-clause-value
returns-clause-value g c =
    let base = is_open c.args.geo.now c.args.list c.args.table.now c.root_page.ensures.partition c.requires.same_pages c.requires.list_least c.requires.list_most in
    (queued_end c.in_ok-pages_from.field-0.items c.args.root base c.loop-at.invariant.queued c.in_default-at.is c.in_ok-pages_from.ensures
    (to_z-of_z w64 c.args.root (search rules))).value

pub returns-clause-moved : goal.returns-clause-moved
returns-clause-moved g c =
    let base = is_open c.args.geo.now c.args.list c.args.table.now c.root_page.ensures.partition c.requires.same_pages c.requires.list_least c.requires.list_most in
    (queued_end c.in_ok-pages_from.field-0.items c.args.root base c.loop-at.invariant.queued c.in_default-at.is c.in_ok-pages_from.ensures
    (to_z-of_z w64 c.args.root (search rules))).moved

pub returns-clause-part : goal.returns-clause-part
returns-clause-part g c =
    let base = is_open c.args.geo.now c.args.list c.args.table.now c.root_page.ensures.partition c.requires.same_pages c.requires.list_least c.requires.list_most in
    (queued_end c.in_ok-pages_from.field-0.items c.args.root base c.loop-at.invariant.queued c.in_default-at.is c.in_ok-pages_from.ensures
    (to_z-of_z w64 c.args.root (search rules))).part

pub returns-clause-tree : goal.returns-clause-tree
returns-clause-tree g c =
    walked_tree _ c.args.geo.now c.args.table.now c.args.root c.args.kind c.in_ok-pages_from.field-0.items c.root_page.ensures.partition
    c.requires.same_pages (returns-clause-value g c)

pub returns-clause-bound : goal.returns-clause-bound
returns-clause-bound g c =
    part_are_pages c.in_ok-pages_from.field-0.items c.args.geo.now.pages c.args.table.now c.root_page.ensures.partition c.requires.same_pages
    (returns-clause-part g c)

pub returns-clause-moves : goal.returns-clause-moves
returns-clause-moves g c = walking_moves c.loop-at.invariant.queued.walking

pub returns-clause-reads : goal.returns-clause-reads
returns-clause-reads g c = queued_reads_end _ c.requires.list_least c.loop-at.invariant.queued

pub returns-in_default-clause-front : goal.returns-in_default-clause-front
returns-in_default-clause-front g c =
    moves_none _ (λ all. walk (file_of all c.args.geo.now) (unused c.args.table.now) c.args.root c.args.kind) c.args.list c.args.table.now

pub returns-in_err-bytes-clause-front : goal.returns-in_err-bytes-clause-front
returns-in_err-bytes-clause-front g c =
    moves_none _ (λ all. walk (file_of all c.args.geo.now) (unused c.args.table.now) c.args.root c.args.kind) c.args.list c.args.table.now

pub returns-in_err-accepted-clause-front : goal.returns-in_err-accepted-clause-front
returns-in_err-accepted-clause-front g c =
    moves_none _ (λ all. walk (file_of all c.args.geo.now) (unused c.args.table.now) c.args.root c.args.kind) c.args.list c.args.table.now

pub returns-in_err-named-clause-front : goal.returns-in_err-named-clause-front
returns-in_err-named-clause-front g c =
    moves_none _ (λ all. walk (file_of all c.args.geo.now) (unused c.args.table.now) c.args.root c.args.kind) c.args.list c.args.table.now

pub returns-in_err-pointers_with-clause-front : goal.returns-in_err-pointers_with-clause-front
returns-in_err-pointers_with-clause-front g c = queued_front c.args.root c.loop-at.invariant.queued (to_z-of_z w64 c.args.root (search rules))

pub returns-in_err-pages_from-clause-front : goal.returns-in_err-pages_from-clause-front
returns-in_err-pages_from-clause-front g c = queued_front c.args.root c.loop-at.invariant.queued (to_z-of_z w64 c.args.root (search rules))

pub returns-clause-front : goal.returns-clause-front
returns-clause-front g c = queued_front c.args.root c.loop-at.invariant.queued (to_z-of_z w64 c.args.root (search rules))
