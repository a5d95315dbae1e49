use Rattle.std.proofs.Common.{◌≡◌, take}
use Rattle.page_lists.specs.Table.{Moves, all_moved}
use Rattle.page_walk.specs.Taking.{takes}
use Rattle.page_walk.proofs.walks.take_all.Given as goal

abbrev pub invariant-loop-page : goal.invariant-loop-page
invariant-loop-page l = record {
  taken : l.table ≡ all_moved (takes l.survey l.kind l.fn.table (take l.page-index l.pages)) l.list l.fn.table;
  moves : Moves l.list l.fn.table l.table;
}
