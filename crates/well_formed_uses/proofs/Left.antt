-- Behind all uses of a well-formed file no page that is left has a shape.
use Rattle.std.proofs.Common.{◌≡◌, ◌≢◌, ◌≤◌, ◌<◌, ℕ, zero, suc, ◌+◌, ◌*◌, ◌/◌, ◌^◌, ◌==◌, Bool, true, false, Option, Some, None, option_map, List, [], ◌∷◌, ◌++◌, length, map, take, refl, sym, ap, ◌∙◌, subst, inl, inr, arith}
use Rattle.std.specs.Prelude.{filter, if◌then◌else◌, is_some, nat_le, slice_index}
use Rattle.std.specs.List.{AllByRecursion, concat, flat_map}
use Rattle.std.proofs.Math.Nat.{le-div_iff_mul-le, mul-le-mul_left}
use Rattle.std.proofs.lemmas.Bool.{and_right, cases_Bool, false≢true}
use Rattle.std.proofs.lemmas.Bool.Decides.{nat_tests}
use Rattle.byteorder.specs.Endian.{big_number}
use Rattle.page_access.specs.Files.{max_input}
use Rattle.page_access.specs.Pages.{File, page_at}
use Rattle.page_lists.specs.Lists.{IsPartOf, count, firsts, is_in, minus, without}
use Rattle.page_lists.specs.Table.{is_page}
use Rattle.page_lists.proofs.Counts.{at_most_one, count-append, count-minus, count_in, in_from_count, in_head, in_part, not_in_from_count, part_rest}
use Rattle.cell_reader.specs.declared.shapes.PageShape.{PageShape}
use Rattle.cell_reader.specs.Shape.{head_of, shape_at, type_of}
use Rattle.overflow_chain.specs.Chain.{Linked, chain_len, next_page}
use Rattle.overflow_chain.specs.Laws.{reached}
use Rattle.overflow_chain.proofs.Turns.{chain_len-zero}
use Rattle.page_size.specs.Fields.{header_of}
use Rattle.page_walk.specs.Evidence.{AreOnce}
use Rattle.page_walk.specs.Page.{shape_on}
use Rattle.page_walk.specs.Walk.{kind_on}
use Rattle.page_walk.proofs.Going.{all_append}
use Rattle.page_walk.proofs.Witness.{fewer_minus}
use Rattle.freelist_core.specs.Free as free
use Rattle.freelist_core.specs.Free.{Trunk}
use Rattle.freelist_core.specs.Trunk as trunk
use Rattle.freelist_core.proofs.Steps.{of_trunks}
use Rattle.orphan_trees.specs.Orphans.{first_roots, is_orphan, least_tree, least_trees, orphan_pages, orphan_trees, pages_in, tree_at, trees_at}
use Rattle.orphan_trees.proofs.Lists.{filter-none}
use Rattle.tree_forms.specs.Node.{Held}
use Rattle.tree_forms.specs.Payload.{ChainFrom, HasChain, chain_from, chain_of, follow, missing_of}
use Rattle.tree_forms.specs.Tree.{bare}
use Rattle.tree_walks.specs.Rows.{all_chains, all_entries, cells_on, chains_at, entries_in, entries_on, entry_in}
use Rattle.tree_walks.proofs.Turning.{all_split}
use Rattle.well_formed.specs.Database.{Database}
use Rattle.well_formed.specs.Freelist.{AreTrunks, free_pages, leaves_of}
use Rattle.well_formed.specs.Header.{IsHeader, file_in, lock_pages}
use Rattle.well_formed.specs.Spells.{all_keys}
use Rattle.well_formed_uses.specs.Laws.{NoneIsLeft, left_unused}
use Rattle.well_formed_uses.specs.Trees.{IsGrown, StoredTree, own_chains, own_pages}
use Rattle.well_formed_uses.proofs.Own.{grown_trees}
use Rattle.well_formed_uses.proofs.Arranging.{root_there}
use Rattle.well_formed_uses.proofs.Stored.{stored_is, tree_in}
use Rattle.tree_walks.proofs.Levels.{firsts_all}
use Rattle.well_formed_uses.proofs.Uses.{uses_of}

-- ---- the freelist

trunk_at : File → ℕ → Trunk
trunk_at f p = record { page = p; leaves = leaves_of f p }

-- 0 is no page
no_zero : (n : ℕ) (unused : List ℕ) → AreOnce n unused → is_in 0 unused ≡ false
no_zero n unused once = not_in_from_count 0 unused (omega (arith, once 0))

not_long : (f : File) (p : ℕ) → trunk.count_on (page_at f p) ≤ trunk.most_leaves f.usable → trunk.is_long f.usable (page_at f p) ≡ false
not_long f p few = grind (arith, nat_tests, few)

trunks_are : (f : File) (q : ℕ) (ps unused : List ℕ) → AreTrunks f q ps → AreOnce f.pages unused → IsPartOf (free_pages f ps) unused
    → free.AreTrunks f unused q (map (trunk_at f) ps)
unfolding trunk_at
trunks_are f q [] unused are once part = ap (λ (p : ℕ). is_in p unused) are ∙ no_zero f.pages unused once
trunks_are f q (p ∷ ps) unused are once part =
    let own : List ℕ = p ∷ leaves_of f p in
    let first : IsPartOf own unused = λ r. omega (arith, part r, count-append r own (free_pages f ps)) in
    let there : is_in p unused ≡ true = in_part p own unused first (in_head p (leaves_of f p)) in
    let short : trunk.is_long f.usable (page_at f p) ≡ false = not_long f p are.1 in
    let leaves : trunk.leaves_of f p ≡ leaves_of f p = rw short refl in
    let next : trunk.next_trunk f p ≡ next_page f p = rw short refl in
    let taken : firsts (without p unused) (leaves_of f p) ≡ leaves_of f p = firsts_all (without p unused) (leaves_of f p) (part_rest p (leaves_of f p) unused first) in
    let later = trunks_are f (next_page f p) ps (minus unused own) are.2 (λ r. omega (arith, once r, fewer_minus r unused own))
    (λ r. omega (arith, part r, count-append r own (free_pages f ps), count-minus r unused own first)) in
    subst (λ (r : ℕ). free.AreTrunks f unused r (trunk_at f p ∷ map (trunk_at f) ps)) are.0
    (there, refl, sym (ap (firsts (without p unused)) leaves ∙ taken), subst (λ (r : ℕ). free.AreTrunks f (minus unused own) r (map (trunk_at f) ps)) (sym next) later)

trunk_pages : (f : File) (ps : List ℕ) → flat_map free.pages_of (map (trunk_at f) ps) ≡ free_pages f ps
unfolding trunk_at
trunk_pages f [] = refl
trunk_pages f (p ∷ ps) = ap (λ (xs : List ℕ). (p ∷ leaves_of f p) ++ xs) (trunk_pages f ps)

free_is : (f : File) (q : ℕ) (ps unused : List ℕ) → AreTrunks f q ps → AreOnce f.pages unused → IsPartOf (free_pages f ps) unused
    → free.free_pages f unused q ≡ free_pages f ps
free_is f q ps unused are once part =
    of_trunks f unused q (map (trunk_at f) ps) (trunks_are f q ps unused are once part) ∙ trunk_pages f ps

-- ---- the pages of chains

-- a page whose first number is that of a page, or 0
abbrev IsLow : File → ℕ → Type 0
IsLow f q = next_page f q ≤ f.pages

page_high : (n q : ℕ) → 1 ≤ (if is_page n q then 1 else 0) → q ≤ n
page_high n q some =
    elim (cases_Bool (is_page n q)) [
      | inl is ↦ grind (arith, nat_tests, is)
      | inr isnt ↦ absurd (omega (arith, some, ap {B = ℕ} (λ (b : Bool). if b then 1 else 0) isnt))
    ]

linked_low : (f : File) (q : ℕ) (ps : List ℕ) → Linked (next_page f) q ps → ((p : ℕ) → count p ps ≤ (if is_page f.pages p then 1 else 0))
    → reached (next_page f) q ps ≡ 0 → AllByRecursion (IsLow f) ps
linked_low f q [] linked inside ends = tt
linked_low f q (p ∷ []) linked inside ends =
    let last : next_page f p ≡ 0 = ends in (omega (arith, last), tt)
linked_low f q (p ∷ r ∷ ps) linked inside ends =
    let there : 1 ≤ (if is_page f.pages r then 1 else 0) = omega (arith, inside r, count_in r (r ∷ ps) (in_head r ps)) in
    let high : r ≤ f.pages = page_high f.pages r there in
    let next : next_page f p ≡ r = sym linked.1.0 in
    (omega (arith, high, next), linked_low f (next_page f p) (r ∷ ps) linked.1 (λ x. omega (arith, inside x)) ends)

chain_low : (f : File) (need : ℕ) (o : Option ℕ) (h : Held) → h.overflow ≡ o → missing_of h ≡ need → HasChain f h → AllByRecursion (IsLow f) (chain_of f h)
chain_low f need o h over is has = by_number o over
  where
    by_number : (x : Option ℕ) → h.overflow ≡ x → AllByRecursion (IsLow f) (chain_of f h)
    by_number None e = subst (λ (y : Option ℕ). AllByRecursion (IsLow f) (chain_from f (missing_of h) y)) (sym e) tt
    by_number (Some q) e =
        let chain = subst (λ (y : Option ℕ). ChainFrom f (missing_of h) y) e has in
        subst (λ (y : Option ℕ). AllByRecursion (IsLow f) (chain_from f (missing_of h) y)) (sym e)
        (linked_low f q (chain_from f (missing_of h) (Some q)) chain.0.linked chain.0.inside chain.1)

-- what is no entry has no overflow pages
no_chain : (f : File) (h : Held) → 480 ≤ f.usable → h.total ≡ 0 → chain_of f h ≡ []
no_chain f h big none =
    let need : missing_of h ≡ 0 = omega (arith, none) in
    let nothing : chain_len f (missing_of h) ≡ 0 = ap (chain_len f) need ∙ chain_len-zero f big in
    by_number h.overflow nothing
  where
    by_number : (x : Option ℕ) → chain_len f (missing_of h) ≡ 0 → chain_from f (missing_of h) x ≡ []
    by_number None none = refl
    by_number (Some q) none = ap (λ n. follow (next_page f) n q) none

cells_low : (f : File) (hs : List Held) → 480 ≤ f.usable → AllByRecursion (HasChain f) (entries_in hs) → AllByRecursion (IsLow f) (flat_map (chain_of f) hs)
cells_low f [] big chains = tt
cells_low f (h ∷ hs) big chains =
    let split = all_split (HasChain f) (entry_in h) (entries_in hs) chains in
    all_append (IsLow f) (chain_of f h) (flat_map (chain_of f) hs) (one split.0) (cells_low f hs big split.1)
  where
    one : AllByRecursion (HasChain f) (entry_in h) → AllByRecursion (IsLow f) (chain_of f h)
    one all =
        elim (cases_Bool (h.total == 0)) [
          | inl none ↦ subst (AllByRecursion (IsLow f)) (sym (no_chain f h big (grind (arith, nat_tests, none)))) tt
          | inr some ↦
              let there : AllByRecursion (HasChain f) (bare h ∷ []) = rw some at all in
              chain_low f (missing_of h) h.overflow h refl refl there.0
        ]

pages_low : (f : File) (ps : List ℕ) → 480 ≤ f.usable → AllByRecursion (HasChain f) (all_entries f ps) → AllByRecursion (IsLow f) (all_chains f ps)
pages_low f [] big chains = tt
pages_low f (p ∷ ps) big chains =
    let split = all_split (HasChain f) (entries_on f p) (all_entries f ps) chains in
    all_append (IsLow f) (chains_at f p) (all_chains f ps) (cells_low f (cells_on f p) big split.0) (pages_low f ps big split.1)

trees_low : (f : File) (ts : List StoredTree) → 480 ≤ f.usable → AllByRecursion (IsGrown f) ts → AllByRecursion (IsLow f) (flat_map (own_chains f) ts)
trees_low f [] big grown = tt
trees_low f (t ∷ ts) big grown =
    all_append (IsLow f) (own_chains f t) (flat_map (own_chains f) ts) (pages_low f (own_pages f t) big grown.0.chains) (trees_low f ts big grown.1)

one_low : (f : File) (q : ℕ) (ps : List ℕ) → AllByRecursion (IsLow f) ps → is_in q ps ≡ true → IsLow f q
one_low f q [] all there = absurd (false≢true there)
one_low f q (p ∷ ps) all there =
    elim (cases_Bool (p == q)) [
      | inl e ↦ let same : p ≡ q = grind (arith, nat_tests, e) in subst (IsLow f) same all.0
      | inr e ↦ let later : is_in q ps ≡ true = rw e at there in one_low f q ps all.1 later
    ]

-- ---- pages without a shape

first_zero : (page : List ℕ) → big_number 4 page < 2 ^ 24 → slice_index page 0 ≡ 0
first_zero page small = omega (arith, small)

no_shape : (f : File) (q : ℕ) → q ≢ 1 → next_page f q < 2 ^ 24 → kind_on f q ≡ None
unfolding shape_at
no_shape f q other small =
    let page : List ℕ = page_at f q in
    let zero_first : slice_index page 0 ≡ 0 = first_zero page small in
    let head : head_of q ≡ 0 = let isnt : (q == 1) ≡ false = grind (arith, nat_tests, other) in rw isnt refl in
    let byte : type_of (slice_index page (head_of q)) ≡ None = ap (λ n. type_of (slice_index page n)) head ∙ ap type_of zero_first in
    let none : shape_on f q ≡ None = rw byte refl in
    ap (option_map (λ (s : PageShape). s.kind)) none

-- ---- no orphan trees

none_least : (f : File) (n : ℕ) (u : List ℕ) → orphan_pages f u ≡ [] → least_trees f n u ≡ []
none_least f zero u none = refl
none_least f (suc n) u none =
    let least : least_tree f u ≡ [] = ap (λ (ps : List ℕ). map (λ root. tree_at f root u) (take 1 ps)) none in
    ap (λ ts. ts ++ least_trees f n (minus u (pages_in ts))) least ∙ none_least f n u none

no_orphans : (f : File) (u : List ℕ) → ((q : ℕ) → is_in q u ≡ true → kind_on f q ≡ None) → orphan_trees f u ≡ []
unfolding orphan_trees
no_orphans f u shapeless =
    let none : orphan_pages f u ≡ [] = filter-none (is_orphan f u) 1 f.pages (λ q low high. one q) in
    let first : first_roots f u ≡ [] = ap (filter _) none in
    ap (λ roots. trees_at f roots u ++ least_trees f f.pages (minus u (pages_in (trees_at f roots u)))) first
    ∙ none_least f f.pages u none
  where
    one : (q : ℕ) → is_orphan f u q ≡ false
    one q =
        elim (cases_Bool (is_in q u)) [
          | inl there ↦ let none : is_some (kind_on f q) ≡ false = ap is_some (shapeless q there) in and_right (is_in q u) (is_some (kind_on f q)) none
          | inr out ↦ rw out refl
        ]

-- ---- a well-formed file of at most 2^28 bytes

few_pages : (pages size len : ℕ) → 480 ≤ size → len ≡ pages * size → len ≤ max_input → pages < 2 ^ 24
few_pages pages size len big whole small = few_times pages size (mul-le-mul_left pages big) (omega (arith, whole, small))
  where
    few_times : (n s : ℕ) → n * 480 ≤ n * s → n * s ≤ max_input → n < 2 ^ 24
    few_times n s less most = omega (arith, less, most)

no_lock : (f : File) → 480 ≤ f.size → f.pages * f.size ≤ max_input → lock_pages f ≡ []
no_lock f big small =
    let less : f.pages ≤ 2 ^ 30 / f.size = (le-div_iff_mul-le {k = f.size} {x = f.pages} {y = 2 ^ 30} (omega (arith, big))).1 (omega (arith, small)) in
    let out : nat_le (2 ^ 30 / f.size + 1) f.pages ≡ false = grind (arith, nat_tests, less) in
    rw out refl

-- what the header gives
record Sizes (bytes : List ℕ) : Type 0 where
  usable : 480 ≤ (file_in bytes).usable
  few : (file_in bytes).pages < 2 ^ 24
  no_lock : lock_pages (file_in bytes) ≡ []

sizes : (bytes : List ℕ) (db : Database) → IsHeader bytes db → length bytes ≤ max_input → Sizes bytes
unfolding file_in
sizes bytes db h small =
    let f : File = file_in bytes in
    let big : (header_of bytes).reserved + 480 ≤ (header_of bytes).size = h.size.enough in
    let whole : length bytes ≡ f.pages * f.size = h.whole in
    record {
      usable = omega (arith, big);
      few = few_pages f.pages f.size (length bytes) (omega (arith, big)) whole small;
      no_lock = no_lock f (omega (arith, big)) (omega (arith, whole, small));
    }

first_trunk : (bytes : List ℕ) → (header_of (file_in bytes).bytes).first_trunk ≡ (header_of bytes).first_trunk
unfolding file_in
first_trunk bytes = refl

pub none_is_left : NoneIsLeft
none_is_left bytes db s small =
    let f : File = file_in bytes in
    let w = s.formed in
    let unused : List ℕ = s.unused in
    let all = s.all in
    let u = uses_of bytes db s in
    let z = sizes bytes db w.header small in
    let xs : List StoredTree = u.indexes_want.trees in
    let ics : List ℕ = flat_map (own_chains f) xs in
    let left : List ℕ = left_unused s in
    let frees : List ℕ = free_pages f w.trunks in
    let no_lock : (q : ℕ) → count q (lock_pages f) ≡ 0 = λ q. ap (count q) z.no_lock in
    let each : (q : ℕ) → count q left ≡ count q ics + count q frees = λ q. omega (arith, u.left q, no_lock q) in
    let part : IsPartOf frees left = λ q. omega (arith, each q) in
    let room : (q : ℕ) → count q w.schema_used + count q left ≤ count q unused =
    λ q. omega (
      arith,
      each q,
      all q,
      w.uses q,
      u.indexes_want.used_are q,
      count-append q w.schema_used (concat w.tables_used ++ (concat (all_keys w.keys_used) ++ (concat w.others_used ++ (frees ++ lock_pages f)))),
      count-append q (concat w.tables_used) (concat (all_keys w.keys_used) ++ (concat w.others_used ++ (frees ++ lock_pages f))),
      count-append q (concat (all_keys w.keys_used)) (concat w.others_used ++ (frees ++ lock_pages f)),
      count-append q (concat w.others_used) (frees ++ lock_pages f),
      count-append q frees (lock_pages f),
    ) in
    let once : AreOnce f.pages left = λ q. omega (arith, room q, all q) in
    let linked : AreTrunks f (header_of bytes).first_trunk w.trunks = subst (λ (q : ℕ). AreTrunks f q w.trunks) (first_trunk bytes) w.freelist.linked in
    let low : AllByRecursion (IsLow f) ics = trees_low f xs z.usable (grown_trees f _ xs u.indexes_want.are) in
    let sw = stored_is w.schema.stored in
    let one : 1 ≤ count 1 w.schema_used = omega (arith, sw.used_are 1, root_there f (tree_in w.schema.stored)) in
    let shapeless : (q : ℕ) → is_in q (minus left frees) ≡ true → kind_on f q ≡ None = λ q there.
    let some : 1 ≤ count q ics = omega (arith, count_in q (minus left frees) there, count-minus q left frees part, each q) in
    let down : IsLow f q = one_low f q ics low (in_from_count q ics some) in
    no_shape f q (λ is. absurd (omega (arith, one, room 1, each 1, all 1, at_most_one (is_page f.pages 1), subst (λ (r : ℕ). 1 ≤ count r ics) is some)))
    (omega (arith, down, z.few)) in
    record {
      free = free_is f (header_of bytes).first_trunk w.trunks left linked once part;
      shapeless = shapeless;
      none = no_orphans f (minus left frees) shapeless;
    }
