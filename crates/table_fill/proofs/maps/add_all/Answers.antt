use Rattle.std.proofs.Common.{arith, sym, ap, subst, ◌∙◌, take, ◌+◌, ◌++◌, get_or}
use Rattle.std.proofs.lemmas.List.{nil_from_length, set-get_or}
use Rattle.std.specs.Option.{option_to_list}
use Rattle.std.specs.Vec.Iter.{into_iter_items}
use Rattle.table_fill.specs.Maps.{AddedByAll}
use Rattle.table_fill.proofs.Taking.{added_start, added_next, added_end, left_next, left_none, none_next}
use Rattle.table_fill.proofs.maps.add_all.Goals as goal
use Rattle.table_fill.proofs.maps.add_all.Goals.{in-Some+in_ok-add, in_default}

pub loop-map-init : goal.loop-map-init
loop-map-init c = record {
  rest = c.into_iter-keys.ensures.rest;
  added = added_start c.args.keys.items c.args.place c.args.maps.now;
}

pub loop-map-preserved : goal.loop-map-preserved
loop-map-preserved c =
    let i = c.loop-map.map-index in
    let ks = c.args.keys.items in
    let old = c.loop-map.invariant in
    elim c.match-next.branch [
      | in-Some+in_ok-add w ↦
          let next = sym old.rest ∙ c.next.ensures.items
          ∙ ap (λ o. option_to_list o ++ into_iter_items c.next.new.self) w.in-Some.is in
          record {
            rest = left_next i ks _ _ next;
            added = subst (AddedByAll (take (i + 1) ks) c.args.place c.args.maps.now) (sym w.maps-is)
                (added_next i ks _ _ c.args.place c.args.maps.now c.loop-map.maps _ _ old.added (omega (arith, c.loop-map-test.true, c.loop-map.auto.maps))
                (ap (get_or c.loop-map.maps i) c.map-item.is) next w.in_ok-add.ensures);
          }
      | in_default w ↦
          let end = nil_from_length (into_iter_items c.next.new.self)
          (omega (arith, c.next.new.self.rest.ok.0, w.in_default.ensures.cases.1)) in
          let none = sym old.rest ∙ w.in_default.ensures.items ∙ end in
          record {
            rest = end ∙ sym (left_none i ks none);
            added = subst (AddedByAll (take (i + 1) ks) c.args.place c.args.maps.now)
                (sym (w.maps-is ∙ set-get_or c.loop-map.maps i c.map-item.result))
                (none_next i ks c.args.place c.args.maps.now c.loop-map.maps old.added none);
          }
    ]

pub returns : goal.returns
returns c =
    added_end c.args.keys.items c.args.place c.args.maps.now c.loop-map.maps
    (subst (λ n. AddedByAll (take n c.args.keys.items) c.args.place c.args.maps.now c.loop-map.maps) (omega arith)
    c.loop-map.invariant.added)
