use Rattle.std.proofs.Common.{◌-◌, length, drop, refl, ap, arith, length-drop, length-take}
use Rattle.std.proofs.lemmas.Result.{IfOk-weaker}
use Rattle.page_access.specs.Files.{file_of}
use Rattle.page_access.proofs.Told.{always_told}
use Rattle.page_lists.specs.Table.{unused}
use Rattle.record_core.specs.Record.{record_of}
use Rattle.page_walk.specs.Cells.{missing, turn_from}
use Rattle.page_walk.proofs.Fronts.{moves_none}
use Rattle.page_walk.proofs.Local.{local_small, local_value}
use Rattle.page_walk.proofs.Small.{entry_small, taken_pages}
use Rattle.page_walk.proofs.entries.take_entry.Goals as goal

pub returns-clause-small : goal.returns-clause-small
returns-clause-small g c =
    IfOk-weaker c.judge-2.result _ _ (λ o is.
    entry_small c.args.geo.now.usable c.args.geo.now.pages c.args.place.page c.args.place.cell
    (c.args.view.now.local_end - c.args.view.now.local_start) c.args.view.now.total
    (c.args.view.now.total - (c.args.view.now.local_end - c.args.view.now.local_start)) c.args.view.now.rowid
    c.args.view.now.overflow c.args.table.now c.read_rest.new.table c.new-chain.result.items
    c.read_rest.new.chain.items c.in_ok-payload.payload.items c.read_rest.new.payload.items c.read_rest.new.payload.items _ is
    refl c.in_ok-end.ensures.taken c.new-chain.ensures.items c.requires.same_pages
    (omega (
      arith,
      ap length c.in_ok-payload.ensures.items,
      c.requires.within,
      c.requires.local,
      length-take (c.args.view.now.local_end - c.args.view.now.local_start) (drop c.args.view.now.local_start c.args.page.now),
      length-drop c.args.view.now.local_start c.args.page.now,
    ))
    c.requires.overflow refl c.requires.most)
    (c.judge-2.ensures.value (record_of c.read_rest.new.payload.items) c.take_record.ensures.exact)

pub returns-then-ne-clause-small : goal.returns-then-ne-clause-small
returns-then-ne-clause-small g c =
    taken_pages _ c.args.geo.now.pages c.args.table.now c.read_rest.new.table c.new-chain.result.items c.read_rest.new.chain.items
    c.in_ok-payload.payload.items c.read_rest.new.payload.items c.in_ok-end.ensures.taken c.new-chain.ensures.items c.requires.same_pages

pub returns-in_default-clause-value : goal.returns-in_default-clause-value
returns-in_default-clause-value g c =
    IfOk-weaker c.judge.result _ _ (λ o is.
    always_told _ (g.S.Source.bytes c.args.src.now) (λ all.
    local_value (file_of all c.args.geo.now) c.args.page.now c.args.place.page c.args.place.cell c.args.view.now (unused c.args.table.now)
    c.new.result.items _ _ is c.new.ensures.items refl c.in_default.is))
    (c.judge.ensures.value _ c.read_record-read.ensures.exact)

pub returns-in_default-clause-small : goal.returns-in_default-clause-small
returns-in_default-clause-small g c =
    IfOk-weaker c.judge.result _ _ (λ o is.
    local_small c.args.geo.now.usable c.args.geo.now.pages c.args.place.page c.args.place.cell
    (c.args.view.now.local_end - c.args.view.now.local_start) c.args.view.now.total c.args.view.now.rowid c.args.view.now.overflow
    c.new.result.items _ _ is c.new.ensures.items
    (omega (
      arith,
      c.requires.within,
      c.requires.local,
      length-take (c.args.view.now.local_end - c.args.view.now.local_start) (drop c.args.view.now.local_start c.args.page.now),
      length-drop c.args.view.now.local_start c.args.page.now,
    ))
    c.requires.overflow c.in_default.is c.requires.most)
    (c.judge.ensures.value _ c.read_record-read.ensures.exact)

pub returns-in_default-clause-front : goal.returns-in_default-clause-front
returns-in_default-clause-front g c =
    moves_none (g.S.Source.bytes c.args.src.now)
    (λ all. turn_from (file_of all c.args.geo.now) (missing c.args.view.now) c.args.view.now.overflow (unused c.args.table.now)) 4
    c.args.table.now
