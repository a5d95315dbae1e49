use Rattle.std.proofs.Common.{◌≡◌, map}
use Rattle.std.specs.List.{range_with_len}
use Rattle.page_lists.specs.Rings.{link_in_row}
use Rattle.page_lists.proofs.rings.row.Given as goal

abbrev pub invariant-loop-page : goal.invariant-loop-page
invariant-loop-page l = l.links.items ≡ map (link_in_row l.pages) (range_with_len 0 l.page)
