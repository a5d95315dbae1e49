use Rattle.std.proofs.Common.{◌≡◌, List, Option, Some, None, arith, refl, rules, sym, subst, ap, ◌∙◌}
use Rattle.std.proofs.lemmas.List.{with_items_is}
use Rattle.std.specs.BTreeMap.Entry.{map_without_entry}
use Rattle.std.specs.List.{AllByRecursion}
use Rattle.std.specs.Vec.{with_items}
use Rattle.page_walk.specs.declared.outcomes.TakenCell.{TakenCell}
use Rattle.page_walk.specs.Cells.{row_of}
use Rattle.table_shape.specs.Keys.{keys_seen}
use Rattle.table_fill.specs.declared.fates.Fate.{Fate}
use Rattle.table_fill.specs.declared.maps.KeyMap.{KeyMap}
use Rattle.table_fill.specs.Maps.{Holds, TakeIn, TakenIn, keys_by}
use Rattle.table_fill.proofs.Taking.{absent_stays, fate_first, fate_other, one_value, shows_kept, shows_same}
use Rattle.table_fill.proofs.chooses.keep.Goals as goal

pub returns-in-Occupied : goal.returns-in-Occupied
returns-in-Occupied c = λ s sh e. (
  fate_first (keys_seen c.args.plan.now) s c.args.now.now (row_of c.args.cell) c.in_ok-key.key c.get.result.now sh e
      (search rules) (search rules),
  refl,
  shows_same (keys_seen c.args.plan.now) s c.args.now.now _ sh (search rules) refl sh.maps refl,
)

pub returns-in-Some : goal.returns-in-Some
returns-in-Some c = λ s sh e.
    let t = keys_seen c.args.plan.now in
    let r = row_of c.args.cell in
    let old = c.args.now.now.maps in
    let new = c.take_in.new.maps in
    let same : c.get-in-Vacant.result.now ≡ c.args.cell =
    one_value _ _ _ c.get-in-Vacant.ensures c.insert_entry-row.ensures.2 in
    let back : c.remove-cell.result ≡ c.args.cell =
    one_value _ _ _ c.remove-cell.ensures.value c.insert_entry-row.ensures.2 in
    let take_in : TakeIn r (Some c.in-Some.fate) old.items new =
    subst (λ (k : TakenCell). TakeIn (row_of k) (Some c.in-Some.fate) old.items new) same
    (subst (λ (ms : List KeyMap). TakeIn (row_of c.get-in-Vacant.result.now) (Some c.in-Some.fate) ms new) c.as_mut_slice.ensures.value
    (subst (λ (f : Option Fate). TakeIn (row_of c.get-in-Vacant.result.now) f c.as_mut_slice.result.now new) c.in-Some.is c.in_ok-fate-in-Vacant.ensures)) in
    let taken = take_in s.kept sh.maps in
    let items : (with_items old new).items ≡ new =
    with_items_is old new (omega (arith, c.take_in.auto.maps, c.as_mut_slice.ensures.len)) in (
      fate_other t s c.args.now.now r c.in_ok-key.key (Some c.in-Some.fate) sh e (search rules) (search rules) taken.fate_is,
      ap row_of back,
      shows_same t s c.args.now.now _ sh
          (search rules ∙ c.remove-cell.ensures.removed ∙ c.insert_entry-row.ensures.5
          ∙ ap (λ e. (map_without_entry e).entries) (sym c.in-Vacant.is) ∙ c.in_ok-row.ensures.removal.1
          ∙ absent_stays _ c.args.now.now.rows.entries (search rules))
          (ap keys_by items ∙ taken.keys)
          (subst (AllByRecursion (Holds s.kept)) (sym items) taken.rows) refl,
    )

pub returns-in_default : goal.returns-in_default
returns-in_default c = λ s sh e.
    let t = keys_seen c.args.plan.now in
    let r = row_of c.args.cell in
    let old = c.args.now.now.maps in
    let new = c.take_in.new.maps in
    let same : c.get-in-Vacant.result.now ≡ c.args.cell =
    one_value _ _ _ c.get-in-Vacant.ensures c.insert_entry-row.ensures.2 in
    let take_in : TakeIn r None old.items new =
    subst (λ (k : TakenCell). TakeIn (row_of k) None old.items new) same
    (subst (λ (ms : List KeyMap). TakeIn (row_of c.get-in-Vacant.result.now) None ms new) c.as_mut_slice.ensures.value
    (subst (λ (f : Option Fate). TakeIn (row_of c.get-in-Vacant.result.now) f c.as_mut_slice.result.now new) c.in_default.is c.in_ok-fate-in-Vacant.ensures)) in
    let items : (with_items old new).items ≡ new =
    with_items_is old new (omega (arith, c.take_in.auto.maps, c.as_mut_slice.ensures.len)) in
    let taken = take_in s.kept sh.maps in (
      fate_other t s c.args.now.now r c.in_ok-key.key None sh e (search rules) (search rules) taken.fate_is,
      shows_kept t s c.args.now.now _ c.args.cell c.in_ok-key.key sh (search rules)
          (subst (λ (ws : List KeyMap). TakenIn r None s.kept old.items ws) (sym items) taken)
          (search rules) (search rules) refl,
    )
