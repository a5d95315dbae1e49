use Rattle.std.proofs.Common.{◌≡◌, ℕ, ◌+◌, List, ◌++◌, ◌∷◌, [], map, sym, ◌∙◌, arith}
use Rattle.std.specs.List.{range_with_len}
use Rattle.std.proofs.lemmas.List.FromFn.{map-range_with_len_more}
use Rattle.page_lists.specs.declared.rings.Link.{Link}
use Rattle.page_lists.specs.Rings.{link_in_row}
use Rattle.page_lists.proofs.rings.row.Goals as goal

-- one link more
row_more : (n p : ℕ) (now next : List Link) (x : Link) → now ≡ map (link_in_row n) (range_with_len 0 p) → next ≡ now ++ x ∷ [] → x ≡ link_in_row n p
    → next ≡ map (link_in_row n) (range_with_len 0 (p + 1))
row_more n p now next x so_far pushed is =
    pushed ∙ rw (so_far, is) (sym (map-range_with_len_more (link_in_row n) 0 p p (omega arith)))

pub loop-page-preserved : goal.loop-page-preserved
loop-page-preserved c =
    row_more c.args.pages c.loop-page.page _ _ c.link_in_row.result c.loop-page.invariant c.in_ok-push.ensures.items c.link_in_row.ensures
