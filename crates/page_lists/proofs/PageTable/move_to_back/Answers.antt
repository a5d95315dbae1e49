use Rattle.std.proofs.Common.{◌≡◌, ◌≤◌, ◌<◌, List, ℕ, ◌∙◌, ap, length, sym, subst}
use Rattle.std.proofs.lemmas.List.{length-map}
use Rattle.page_lists.specs.Rings.{State, link_at, put_in_last, taken_out}
use Rattle.page_lists.specs.Stored.{IsSound, Spells, table_of}
use Rattle.page_lists.specs.Table.{Table, moved}
use Rattle.page_lists.specs.declared.PageTable.TheInside.{Inside}
use Rattle.page_lists.proofs.Outs.{MayLeave, may_leave, out_holds}
use Rattle.page_lists.proofs.Puts.{MayEnter, may_enter, spells_moved}
use Rattle.page_lists.proofs.Spelled.{all_spelled}
use Rattle.page_lists.proofs.PageTable.move_to_back.Goals as goal

-- what a move asks for, of the fields
record Asked (s : Inside) (p l : ℕ) : Type 0 where
  low : 1 ≤ p
  high : p ≤ s.pages
  list : l < length (table_of s).lists

asked : (s : Inside) (t : Table) (p l : ℕ) → table_of s ≡ t → 1 ≤ p → p ≤ t.pages → l < length t.lists → Asked s p l
asked s t p l view low high below = record {
  low = low;
  high = subst (λ (u : Table). p ≤ u.pages) (sym view) high;
  list = subst (λ (u : Table). l < length u.lists) (sym view) below;
}

leaves : (s : Inside) (p l : ℕ) → IsSound s → Asked s p l → MayLeave s.rings p
leaves s p l sound a = may_leave s.rings (table_of s) p sound a.low a.high

enters : (s : Inside) (out : State) (p l : ℕ) → IsSound s → Asked s p l → out ≡ taken_out p (link_at s.rings p).list s.rings → MayEnter out p l
enters s out p l sound a is =
    subst (λ (r : State). MayEnter r p l) (sym is)
    (may_enter _ s.pages p l _ (out_holds s.rings (table_of s) p sound a.low a.high) a.high (subst (λ (n : ℕ). l < n) (sym (length-map _ _)) a.list))

spelled_after : (s : Inside) (out new : State) (p l : ℕ) → IsSound s → Asked s p l → out ≡ taken_out p (link_at s.rings p).list s.rings
    → new ≡ put_in_last p l out → Spells new (moved p l (table_of s))
spelled_after s out new p l sound a is put =
    subst (λ (r : State). Spells r (moved p l (table_of s))) (sym (put ∙ ap (put_in_last p l) is))
    (spells_moved s.rings (table_of s) p l sound a.low a.high a.list)

-- the table that the new links spell is the old one after the move
same_table : (s : Inside) (new : State) (p l : ℕ) → Spells new (moved p l (table_of s))
    → table_of (record { pages = s.pages; rings = new }) ≡ moved p l (table_of s)
same_table s new p l spells =
    ap (λ (ls : List (List ℕ)). record { pages = s.pages; lists = ls }) (all_spelled new (moved p l (table_of s)) spells)

pub take_out-requires : goal.take_out-requires
take_out-requires c =
    let may = leaves c.self.inside c.args.page c.args.list c.self.invariant
    (asked c.self.inside c.args.self.now c.args.page c.args.list c.self.view_is c.requires.low c.requires.high c.requires.list) in
    record { page = may.page; list = may.list; before = may.before; after = may.after; some = may.some }

pub put_last-requires : goal.put_last-requires
put_last-requires c =
    let may = enters c.self.inside c.take_out.new.self c.args.page c.args.list c.self.invariant
    (asked c.self.inside c.args.self.now c.args.page c.args.list c.self.view_is c.requires.low c.requires.high c.requires.list)
    c.take_out.ensures.value in
    record { page = may.page; list = may.list; last = may.last; few = may.few }

pub invariant_of-self : goal.invariant_of-self
invariant_of-self c =
    let spells = spelled_after c.self.inside c.take_out.new.self c.put_last.new.self c.args.page c.args.list c.self.invariant
    (asked c.self.inside c.args.self.now c.args.page c.args.list c.self.view_is c.requires.low c.requires.high c.requires.list)
    c.take_out.ensures.value c.put_last.ensures in
    subst (Spells c.put_last.new.self) (sym (same_table c.self.inside c.put_last.new.self c.args.page c.args.list spells)) spells

pub returns-clause-value : goal.returns-clause-value
returns-clause-value c =
    let spells = spelled_after c.self.inside c.take_out.new.self c.put_last.new.self c.args.page c.args.list c.self.invariant
    (asked c.self.inside c.args.self.now c.args.page c.args.list c.self.view_is c.requires.low c.requires.high c.requires.list)
    c.take_out.ensures.value c.put_last.ensures in
    same_table c.self.inside c.put_last.new.self c.args.page c.args.list spells
    ∙ ap (λ (t : Table). moved c.args.page c.args.list t) c.self.view_is

pub returns-clause-partition : goal.returns-clause-partition
returns-clause-partition c = (invariant_of-self c).each
