use Rattle.std.proofs.Common.{◌≡◌, ℕ, ◌+◌, ◌-◌, ◌^◌, ◌<◌, List, ap, map, sym, ◌∙◌, subst}
use Rattle.std.specs.List.{range_with_len}
use Rattle.page_lists.specs.Rings.{State, ends_of_row, link_in_row}
use Rattle.page_lists.specs.Stored.{Spells, table_of}
use Rattle.page_lists.specs.Table.{fresh}
use Rattle.page_lists.specs.declared.rings.Link.{Link}
use Rattle.page_lists.specs.declared.rings.Ends.{Ends}
use Rattle.page_lists.proofs.Rows.{row_of, spells_fresh}
use Rattle.page_lists.proofs.Spelled.{all_spelled}
use Rattle.page_lists.proofs.PageTable.new.Goals as goal

fresh_spells : (r : State) (n more : ℕ) → n < 2 ^ 32 - 1 → r.links ≡ map (link_in_row n) (range_with_len 0 (n + 1))
    → r.ends ≡ ends_of_row n more → Spells r (fresh n more)
fresh_spells r n more small links ends =
    let same : r ≡ row_of n more =
    ap (λ (ls : List Link). record { links = ls; ends = r.ends }) links
    ∙ ap (λ (es : List Ends). record { links = map (link_in_row n) (range_with_len 0 (n + 1)); ends = es }) ends in
    subst (λ (x : State). Spells x (fresh n more)) (sym same) (spells_fresh n more small)

fresh_table : (r : State) (n more : ℕ) → Spells r (fresh n more) → table_of (record { pages = n; rings = r }) ≡ fresh n more
fresh_table r n more spells =
    ap (λ (ls : List (List ℕ)). record { pages = n; lists = ls }) (all_spelled r (fresh n more) spells)

pub invariant_of-result : goal.invariant_of-result
invariant_of-result c =
    let spells = fresh_spells c.in_ok-rings.rings c.args.pages (c.args.lists - 1) c.requires.small c.in_ok-rings.ensures.links c.in_ok-rings.ensures.ends in
    subst (Spells c.in_ok-rings.rings) (sym (fresh_table c.in_ok-rings.rings c.args.pages (c.args.lists - 1) spells)) spells

pub returns-clause-value : goal.returns-clause-value
returns-clause-value c =
    fresh_table c.in_ok-rings.rings c.args.pages (c.args.lists - 1)
    (fresh_spells c.in_ok-rings.rings c.args.pages (c.args.lists - 1) c.requires.small c.in_ok-rings.ensures.links c.in_ok-rings.ensures.ends)

pub returns-clause-partition : goal.returns-clause-partition
returns-clause-partition c = (invariant_of-result c).each
