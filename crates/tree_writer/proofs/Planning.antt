-- The plans that the calls give are those of their trees.
use Rattle.std.proofs.Common.{◌≡◌, ◌<◌, ◌≤◌, ℕ, zero, suc, ◌+◌, ◌-◌, ◌*◌, ◌^◌, Bool, true, false, List, [], ◌∷◌, ◌++◌, length, take, drop, get_or, map, nat_le, nat_eq, sum_by, refl, sym, ap, ◌∙◌, subst, arith, append-nil, length-append, length-take, length-drop}
use Rattle.std.specs.Prelude.{if◌then◌else◌, Some, None}
use Rattle.std.specs.List.{AllByRecursion, take-map}
use Rattle.std.proofs.Math.ListN.{get_or-map}
use Rattle.std.proofs.Math.Seq.{take-append_seam}
use Rattle.std.proofs.lemmas.List.{get_or-drop, length-map, take_all}
use Rattle.std.proofs.lemmas.List.Sums.{sum_by-append, sum_by-cons}
use Rattle.std.proofs.lemmas.Bool.Decides.{nat_tests}
use Rattle.cell_reader.specs.declared.shapes.Kind.{Kind}
use Rattle.cell_reader.specs.declared.shapes.Kind.TheVariants.{Table, Index}
use Rattle.tree_writer.specs.declared.plans.PagePlan.{PagePlan}
use Rattle.tree_writer.specs.declared.plans.Top.{Top}
use Rattle.tree_writer.specs.declared.plans.TreePlan.{TreePlan}
use Rattle.tree_writer.specs.declared.sizes.Size.{Size}
use Rattle.tree_writer.specs.Cells.{item_overs, over_count, overs}
use Rattle.tree_writer.specs.Entry.{AreEntries, Entry, Item, entry_at, key_of, leaf_item}
use Rattle.tree_writer.specs.Levels.{Line, Sheet, first_room, fits_first, needs, pages_in, room_in, schema_sheets, schema_top, tree_line, tree_sheets}
use Rattle.tree_writer.specs.Plan.{need_in, overs_in, pages_for, size_item}
use Rattle.tree_writer.specs.Planned.{AreThere, IsLaid, inner_item, items_of, line_of, no_page, plan_at, right_index, sheet_for}
use Rattle.tree_writer.specs.Trees.{IsFirst, IsRaised, IsSchemaPlan, schema_count}
use Rattle.tree_writer.proofs.Chaining.{key_alone}
use Rattle.tree_writer.proofs.Lists.{get_here}
use Rattle.tree_writer.proofs.Needs.{Few, few_entries}
use Rattle.tree_writer.proofs.Raising.{line_over_some, needs_sizes, sizes_pages, some_pages, under}

-- the highest line of a plan, as its pages tell it
pub record Highest (usable : ℕ) (kind : Kind) (top : ℕ) (es : List Entry) (plans : List PagePlan) (base : ℕ) : Type 0 where
  pub cells : map (inner_item kind es) (take (length plans - base - 1) (drop base plans)) ≡ (tree_line usable kind top es).cells
  pub right : (plan_at plans (base + (length plans - base - 1))).index ≡ (tree_line usable kind top es).right

pub highest : (usable : ℕ) (kind : Kind) (top : ℕ) (es : List Entry) (plans : List PagePlan) (t : Top) → IsRaised usable kind top es plans t → Highest usable kind top es plans t.base
highest usable kind top es plans t r =
    let ps = drop t.base plans in
    let len = length-drop t.base plans in
    let lo = line_over_some kind es t.index ps (omega (arith, len, r.base)) in
    let line = tree_line usable kind top es in
    let cells : map (inner_item kind es) ps ≡ line.cells ++ lo.last ∷ [] = lo.cells ∙ ap (λ (l : Line). l.cells ++ lo.last ∷ []) r.line in
    let n : length plans - t.base - 1 ≡ length line.cells = omega (arith, len, r.base, ap length cells, length-map ps (inner_item kind es), length-append line.cells (lo.last ∷ [])) in
    let f = inner_item kind es in
    let last : f (plan_at plans (t.base + (length plans - t.base - 1))) ≡ lo.last
    = sym (ap f (get_or-drop t.base plans (length plans - t.base - 1) no_page)) ∙ sym (get_or-map f ps (length plans - t.base - 1) no_page)
    ∙ ap (λ xs. get_or xs (length plans - t.base - 1) (f no_page)) cells ∙ ap (λ m. get_or (line.cells ++ lo.last ∷ []) m (f no_page)) n ∙ get_here line.cells lo.last [] (f no_page) in
    record {
      cells = sym (take-map f (length plans - t.base - 1) ps) ∙ ap (take (length plans - t.base - 1)) cells ∙ ap (λ m. take m (line.cells ++ lo.last ∷ [])) n ∙ take-append_seam line.cells (lo.last ∷ []);
      right = ap (λ (x : Item). x.child) last ∙ lo.right ∙ ap (λ (l : Line). l.right) r.line;
    }

-- the last page is the root
pub root_is : (usable : ℕ) (kind : Kind) (top : ℕ) (es : List Entry) (plans : List PagePlan) (t : Top) → IsRaised usable kind top es plans t
    → (plan_at plans (length plans - 1)).index ≡ (tree_line usable kind top es).right
root_is usable kind top es plans t r =
    ap (λ n. (plan_at plans n).index) (omega (arith, r.base)) ∙ (highest usable kind top es plans t r).right

-- ---- the schema's tree in one leaf

pub leaf_few : (usable : ℕ) (es : List Entry) (sizes : List Size) → 512 ≤ usable → AreEntries es → sizes ≡ map (size_item usable Table true) (map leaf_item es)
    → (length sizes < 2 ^ 31) × (sum_by overs_in sizes ≤ 2 ^ 31 - 1) × (length sizes ≡ length es) × (sum_by overs_in sizes ≡ overs usable Table (map leaf_item es))
    × (sum_by need_in sizes ≡ needs usable Table true (map leaf_item es))
leaf_few usable es sizes least entries is =
    let few = few_entries usable Table es least entries in
    let pages = sizes_pages usable Table true (map leaf_item es) in
    let len : length sizes ≡ length es = ap length is ∙ length-map (map leaf_item es) (size_item usable Table true) ∙ length-map es leaf_item in
    let some = some_pages usable Table es few.pages in
    let sums : sum_by overs_in sizes ≡ overs usable Table (map leaf_item es) = omega (arith, ap (sum_by overs_in) is, pages) in
    (omega (arith, len, few.pages), omega (arith, sums, some), len, sums, ap (sum_by need_in) is ∙ needs_sizes usable Table true (map leaf_item es))

pub one_leaf : (usable : ℕ) (es : List Entry) (p : TreePlan) → 512 ≤ usable → usable ≤ 65536 → AreEntries es
    → needs usable Table true (map leaf_item es) ≤ usable - 108 → p.usable ≡ usable → p.kind ≡ Table → p.leaves ≡ 0 → p.pages.items ≡ []
    → p.first_page ≡ Some (record { index = 0; first = 0; cells = length es; behind = 0 }) → p.count ≡ 1 + overs usable Table (map leaf_item es) → p.root ≡ 0
    → IsSchemaPlan usable es p
unfolding schema_sheets schema_top items_of
one_leaf usable es p least most entries fits u k l pages first count root =
    let test : fits_first usable es ≡ true = under (needs usable Table true (map leaf_item es)) (first_room usable true) (omega (arith, fits)) in
    let sheets : schema_sheets usable es ≡ [] = rw test refl in
    let top : schema_top usable es ≡ record { leaf = true; items = map leaf_item es; right = 0 } = rw test refl in
    let whole : take (length es) es ≡ es = take_all (length es) es (omega arith) in
    let page : PagePlan = record { index = 0; first = 0; cells = length es; behind = 0 } in
    let shows : sheet_for Table es [] true page ≡ record { leaf = true; items = map leaf_item es; right = 0 }
    = let g : List Item → Sheet = λ xs. record { leaf = true; items = xs; right = 0 } in ap (λ (t : List Entry). g (map leaf_item t)) whole in
    record {
      least = least;
      most = most;
      entries = entries;
      usable_is = u;
      kind_is = k;
      laid = subst (IsLaid usable Table es p.leaves p.pages.items) (sym sheets)
          (subst (λ n. IsLaid usable Table es n p.pages.items []) (sym l)
          (subst (λ (t : List PagePlan). IsLaid usable Table es 0 t []) (sym pages)
          (record { sheets_are = refl; starts = refl; leaves_there = tt; inner_there = tt; least = omega arith; fits = tt })));
      first = subst (IsFirst es p.pages.items (schema_top usable es) (pages_in usable Table (schema_sheets usable es))) (sym first)
          (subst (λ (t : List PagePlan). IsFirst es t (schema_top usable es) (pages_in usable Table (schema_sheets usable es)) (Some page)) (sym pages)
          (subst (λ (s : Sheet). IsFirst es [] s (pages_in usable Table (schema_sheets usable es)) (Some page)) (sym top)
          (subst (λ (t : List Sheet). IsFirst es [] (record { leaf = true; items = map leaf_item es; right = 0 }) (pages_in usable Table t) (Some page)) (sym sheets)
          (refl, shows, omega arith))));
      leaf = ap (λ (s : Sheet). s.leaf) top ∙ sym (ap (λ (t : List PagePlan). nat_eq (length t) 0) pages);
      count = count ∙ sym (ap (λ (t : List Sheet). 1 + pages_in usable Table t + overs usable Table (schema_top usable es).items) sheets
          ∙ ap (λ (s : Sheet). 1 + 0 + overs usable Table s.items) top);
      root = root;
      short = let few = few_entries usable Table es least entries in omega (arith, count, some_pages usable Table es few.pages);
      fits = subst (λ (s : Sheet). 100 + needs usable Table s.leaf s.items ≤ room_in usable s.leaf) (sym top) (omega (arith, fits));
    }

-- ---- the schema's tree with more pages

keys_alone : (usable : ℕ) (es : List Entry) (ps : List PagePlan) → 480 ≤ usable → overs usable Table (map (inner_item Table es) ps) ≡ 0
keys_alone usable es [] least = refl
keys_alone usable es (p ∷ ps) least =
    omega (arith, sum_by-cons (item_overs usable Table) (inner_item Table es p) (map (inner_item Table es) ps), key_alone usable Table (entry_at es p.behind) least, keys_alone usable es ps least)

pub more_pages : (usable : ℕ) (es : List Entry) (p : TreePlan) (t : Top) → 512 ≤ usable → usable ≤ 65536 → AreEntries es
    → usable - 108 < needs usable Table true (map leaf_item es) → IsRaised usable Table (usable - 112) es p.pages.items t → p.usable ≡ usable → p.kind ≡ Table → p.leaves ≡ t.leaves
    → p.first_page ≡ Some (record { index = t.index; first = t.base; cells = length p.pages.items - t.base - 1; behind = 0 }) → p.count ≡ 1 + t.index → p.root ≡ 0
    → IsSchemaPlan usable es p
unfolding schema_sheets schema_top items_of
more_pages usable es p t least most entries over r u k l first count root =
    let plans = p.pages.items in
    let test : fits_first usable es ≡ false = above (needs usable Table true (map leaf_item es)) (first_room usable true) (omega (arith, over)) in
    let room : usable - 112 ≡ first_room usable false = omega arith in
    let r' : IsRaised usable Table (first_room usable false) es plans t = subst (λ n. IsRaised usable Table n es plans t) room r in
    let line = tree_line usable Table (first_room usable false) es in
    let sheets : schema_sheets usable es ≡ tree_sheets usable Table (first_room usable false) es = rw test refl in
    let top : schema_top usable es ≡ record { leaf = false; items = line.cells; right = line.right } = rw test refl in
    let h = highest usable Table (first_room usable false) es plans t r' in
    let page : PagePlan = record { index = t.index; first = t.base; cells = length plans - t.base - 1; behind = 0 } in
    let shows : sheet_for Table es plans false page ≡ record { leaf = false; items = line.cells; right = line.right }
    = let g : List Item → ℕ → Sheet = λ xs n. record { leaf = false; items = xs; right = n } in
    ap (λ (xs : List Item). g xs (plan_at plans (t.base + (length plans - t.base - 1))).index) h.cells ∙ ap (g line.cells) h.right in
    let alone : overs usable Table line.cells ≡ 0 = sym (ap (overs usable Table) h.cells) ∙ keys_alone usable es (take (length plans - t.base - 1) (drop t.base plans)) (omega arith) in
    record {
      least = least;
      most = most;
      entries = entries;
      usable_is = u;
      kind_is = k;
      laid = subst (IsLaid usable Table es p.leaves plans) (sym sheets) (subst (λ n. IsLaid usable Table es n plans (tree_sheets usable Table (first_room usable false) es)) (sym l) r'.laid);
      first = subst (IsFirst es plans (schema_top usable es) (pages_in usable Table (schema_sheets usable es))) (sym first)
          (subst (λ (s : Sheet). IsFirst es plans s (pages_in usable Table (schema_sheets usable es)) (Some page)) (sym top)
          (subst (λ (ss : List Sheet). IsFirst es plans (record { leaf = false; items = line.cells; right = line.right }) (pages_in usable Table ss) (Some page)) (sym sheets)
          (r'.index, shows, (omega (arith, r'.base), λ i lt. r'.behind i (omega (arith, lt))))));
      leaf = ap (λ (s : Sheet). s.leaf) top ∙ sym (none plans (omega (arith, r'.base)));
      count = count ∙ omega (arith, r'.index, ap (pages_in usable Table) sheets, ap (λ (s : Sheet). overs usable Table s.items) top, alone);
      root = root;
      short = omega (arith, count, r'.few);
      fits = subst (λ (s : Sheet). 100 + needs usable Table s.leaf s.items ≤ room_in usable s.leaf) (sym top) (omega (arith, r'.fits));
    }
  where
    above : (a b : ℕ) → b < a → nat_le a b ≡ false
    above a b lt = grind (arith, nat_tests)

    none : (xs : List PagePlan) → 1 ≤ length xs → nat_eq (length xs) 0 ≡ false
    none xs some = grind (arith, nat_tests)
