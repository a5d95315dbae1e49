-- The cells of a planned page, one by one.
use Rattle.std.proofs.Common.{◌≡◌, ◌<◌, ◌≤◌, ℕ, zero, suc, ◌+◌, ◌-◌, ◌^◌, Bool, true, false, List, [], ◌∷◌, ◌++◌, length, take, drop, get_or, map, sum_by, refl, sym, ap, ◌∙◌, subst, arith, length-take, length-drop}
use Rattle.std.proofs.lemmas.List.{get_or-take, get_or-drop, get_or-map, length-map}
use Rattle.std.proofs.lemmas.List.Sums.{sum_by_more, sum_by_more_le, sum_by-take-le}
use Rattle.cell_reader.specs.declared.shapes.Kind.{Kind}
use Rattle.cell_reader.specs.declared.shapes.Kind.TheVariants.{Table, Index}
use Rattle.tree_writer.specs.declared.plans.PagePlan.{PagePlan}
use Rattle.tree_writer.specs.Entry.{Entry, Item, entry_at, leaf_item, no_entry, no_item}
use Rattle.tree_writer.specs.declared.sizes.Size.{Size}
use Rattle.tree_writer.specs.Cells.{item_overs, need_of, overs}
use Rattle.tree_writer.specs.Levels.{needs}
use Rattle.tree_writer.specs.Plan.{part_of, size_item}
use Rattle.tree_writer.specs.Planned.{AreThere, IsReady, inner_item, items_of, no_page, plan_at}

-- element i of a part of a list
pub part_at : {X : Type 0} (xs : List X) (first n i : ℕ) (d : X) → i < n → get_or (take n (drop first xs)) i d ≡ get_or xs (first + i) d
part_at xs first n i d lt = get_or-take n (drop first xs) i d lt ∙ get_or-drop first xs i d

pub length_part : {X : Type 0} (xs : List X) (first n : ℕ) → first + n ≤ length xs → length (take n (drop first xs)) ≡ n
length_part xs first n le = omega (arith, length-take n (drop first xs), length-drop first xs)

pub leaf_at : (kind : Kind) (es : List Entry) (plans : List PagePlan) (p : PagePlan) (i : ℕ) → i < p.cells → AreThere es plans true p
    → get_or (items_of kind es plans true p) i no_item ≡ leaf_item (entry_at es (p.first + i))
unfolding items_of
leaf_at kind es plans p i lt there =
    get_or-map leaf_item (take p.cells (drop p.first es)) i no_entry no_item (omega (arith, length_part es p.first p.cells there))
    ∙ ap leaf_item (part_at es p.first p.cells i no_entry lt)

pub inner_at : (kind : Kind) (es : List Entry) (plans : List PagePlan) (p : PagePlan) (i : ℕ) → i < p.cells → AreThere es plans false p
    → get_or (items_of kind es plans false p) i no_item ≡ inner_item kind es (plan_at plans (p.first + i))
unfolding items_of
inner_at kind es plans p i lt there =
    get_or-map (inner_item kind es) (take p.cells (drop p.first plans)) i no_page no_item (omega (arith, there.0, length_part plans p.first p.cells (omega (arith, there.0))))
    ∙ ap (inner_item kind es) (part_at plans p.first p.cells i no_page lt)

pub items_len : (kind : Kind) (es : List Entry) (plans : List PagePlan) (leaf : Bool) (p : PagePlan) → AreThere es plans leaf p
    → length (items_of kind es plans leaf p) ≡ p.cells
unfolding items_of
items_len kind es plans true p there = length-map (take p.cells (drop p.first es)) leaf_item ∙ length_part es p.first p.cells there
items_len kind es plans false p there = length-map (take p.cells (drop p.first plans)) (inner_item kind es)
    ∙ length_part plans p.first p.cells (omega (arith, there.0))

-- the place of a cell
pub place_leaf : (kind : Kind) (es : List Entry) (plans : List PagePlan) (leaf : Bool) (p : PagePlan) (i : ℕ) → leaf ≡ true → i < p.cells → AreThere es plans leaf p
    → get_or (items_of kind es plans leaf p) i no_item ≡ record { child = 0; entry = part_of kind leaf (entry_at es (p.first + i)) }
place_leaf kind es plans true p i e lt there = leaf_at kind es plans p i lt there ∙ leaf_whole kind (entry_at es (p.first + i))
  where
    leaf_whole : (kind : Kind) (e : Entry) → leaf_item e ≡ record { child = 0; entry = part_of kind true e }
    leaf_whole Table e = refl
    leaf_whole Index e = refl
place_leaf kind es plans false p i e lt there = cc

pub place_inner : (kind : Kind) (es : List Entry) (plans : List PagePlan) (leaf : Bool) (p : PagePlan) (i : ℕ) → leaf ≡ false → i < p.cells → AreThere es plans leaf p
    → get_or (items_of kind es plans leaf p) i no_item
    ≡ record { child = (plan_at plans (p.first + i)).index; entry = part_of kind leaf (entry_at es (plan_at plans (p.first + i)).behind) }
place_inner kind es plans true p i e lt there = cc
place_inner kind es plans false p i e lt there = inner_at kind es plans p i lt there

-- what the first cells take, with one cell more
pub record TakesMore (usable : ℕ) (kind : Kind) (leaf : Bool) (items : List Item) (i : ℕ) (s : Size) : Type 0 where
  pub need : needs usable kind leaf (take (i + 1) items) ≡ needs usable kind leaf (take i items) + s.need
  pub overs_are : overs usable kind (take (i + 1) items) ≡ overs usable kind (take i items) + s.overs
  pub need_most : needs usable kind leaf (take i items) + s.need ≤ needs usable kind leaf items
  pub overs_most : overs usable kind (take i items) + s.overs ≤ overs usable kind items

pub takes_more : (usable : ℕ) (kind : Kind) (leaf : Bool) (items : List Item) (i : ℕ) (s : Size) → i < length items
    → s ≡ size_item usable kind leaf (get_or items i no_item) → TakesMore usable kind leaf items i s
takes_more usable kind leaf items i s lt is =
    let n : s.need ≡ need_of usable kind leaf (get_or items i no_item) = ap (λ (t : Size). t.need) is in
    let o : s.overs ≡ item_overs usable kind (get_or items i no_item) = ap (λ (t : Size). t.overs) is in
    record {
      need = omega (arith, n, sum_by_more (need_of usable kind leaf) items i no_item lt);
      overs_are = omega (arith, o, sum_by_more (item_overs usable kind) items i no_item lt);
      need_most = omega (arith, n, sum_by_more_le (need_of usable kind leaf) items i no_item lt);
      overs_most = omega (arith, o, sum_by_more_le (item_overs usable kind) items i no_item lt);
    }

pub page_more : (usable : ℕ) (kind : Kind) (es : List Entry) (plans : List PagePlan) (leaf : Bool) (p : PagePlan) (i : ℕ) (s : Size)
    → IsReady usable kind es plans leaf p → i < p.cells → s ≡ size_item usable kind leaf (get_or (items_of kind es plans leaf p) i no_item)
    → TakesMore usable kind leaf (items_of kind es plans leaf p) i s
page_more usable kind es plans leaf p i s ready lt is =
    takes_more usable kind leaf (items_of kind es plans leaf p) i s (omega (arith, items_len kind es plans leaf p ready.there)) is

pub ready_len : {usable : ℕ} {kind : Kind} {es : List Entry} {plans : List PagePlan} {leaf : Bool} {p : PagePlan} → IsReady usable kind es plans leaf p
    → length (items_of kind es plans leaf p) ≡ p.cells
ready_len {kind = kind} {es = es} {plans = plans} {leaf = leaf} {p = p} ready = items_len kind es plans leaf p ready.there
