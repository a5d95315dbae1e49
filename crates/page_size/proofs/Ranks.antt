-- The scores of page sizes.
use Rattle.std.proofs.Common.{◌≡◌, ◌≤◌, ◌<◌, ◌∙◌, ℕ, suc, ◌+◌, ◌-◌, ◌/◌, Bool, true, false, if◌then◌else◌, List, [], ◌∷◌, ◌++◌, length, get_or, drop, All, Option, Some, None, IfSome, sym, ap, subst, refl, arith, add-one, append_assoc, drop-cons}
use Rattle.std.specs.Prelude.{map, filter, find, nat_le, sum_by}
use Rattle.page_size.specs.declared.scores.Score.{Score}
use Rattle.std.proofs.lemmas.List.Sums.{sum_by-cons, AllPass-from_list_all}
use Rattle.std.proofs.lemmas.List.Elements.{All-push}
use Rattle.std.proofs.lemmas.Bool.Decides.{nat_tests}
use Rattle.page_access.specs.Pages.{page_sizes, is_page_size}
use Rattle.page_size.specs.Rule.{IsCut, IsUsable}
use Rattle.page_size.specs.Score.{plausible_pages, score, winner}

-- the plausible pages of the cut are the score
score_of-cut : (all : List ℕ) (len size reserved page_size usable pages n : ℕ) → IsCut len size reserved page_size usable pages →
    n ≡ plausible_pages all page_size usable pages → length all ≡ len → n ≡ score all size reserved
unfolding score
score_of-cut all len size reserved page_size usable pages n cut counted whole =
    counted
    ∙ ap (λ s. plausible_pages all s usable pages) cut.page_is
    ∙ ap (λ u. plausible_pages all size u pages) cut.usable_is
    ∙ ap (λ p. plausible_pages all size (size - reserved) p) (cut.pages_is ∙ ap (λ l. l / size) (sym whole))

-- the same where the bytes are told
pub told_score : (o : Option (List ℕ)) (len size reserved page_size usable pages n : ℕ) → IsCut len size reserved page_size usable pages →
    IfSome o (λ all. n ≡ plausible_pages all page_size usable pages) → IfSome o (λ all. length all ≡ len → n ≡ score all size reserved)
told_score None len size reserved page_size usable pages n cut counted = tt
told_score (Some all) len size reserved page_size usable pages n cut counted = score_of-cut all len size reserved page_size usable pages n cut counted

-- the sizes that leave enough usable bytes, each with its score
abbrev pub scores_of : List ℕ → ℕ → List ℕ → List Score
scores_of bytes reserved sizes = map (λ size. record { size = size; pages = score bytes size reserved }) (filter (λ size. nat_le (reserved + 480) size) sizes)

-- the sizes from place i on begin with size i
sizes_from : (sizes : List ℕ) (i size : ℕ) → i < length sizes → size ≡ get_or sizes i 0 → drop i sizes ≡ size ∷ drop (i + 1) sizes
sizes_from sizes i size below size_is = rw add-one (drop-cons sizes i 0 below ∙ ap (λ s. s ∷ drop (suc i) sizes) (sym size_is))

-- one more size is scored
scores_next : (all : List ℕ) (reserved : ℕ) (sizes : List ℕ) (i size pages : ℕ) (before now whole : List Score) → i < length sizes → size ≡ get_or sizes i 0 →
    nat_le (reserved + 480) size ≡ true → pages ≡ score all size reserved → now ≡ before ++ record { size = size; pages = pages } ∷ [] →
    before ++ scores_of all reserved (drop i sizes) ≡ whole → now ++ scores_of all reserved (drop (i + 1) sizes) ≡ whole
scores_next all reserved sizes i size pages before now whole below size_is enough pages_is now_is scored =
    let rest = drop (i + 1) sizes in
    let f : ℕ → Score = λ size. record { size = size; pages = score all size reserved } in
    let p : ℕ → Bool = λ size. nat_le (reserved + 480) size in
    let e : scores_of all reserved (drop i sizes) ≡ f size ∷ scores_of all reserved rest
    = ap (scores_of all reserved) (sizes_from sizes i size below size_is)
    ∙ ap (λ b. map f (if b then size ∷ filter p rest else filter p rest)) enough in
    ap (λ t. t ++ scores_of all reserved rest) now_is
    ∙ append_assoc before (record { size = size; pages = pages } ∷ []) (scores_of all reserved rest)
    ∙ ap (λ n. before ++ (record { size = size; pages = n } ∷ scores_of all reserved rest)) pages_is
    ∙ ap (λ t. before ++ t) (sym e)
    ∙ scored

-- the same where the bytes are told
pub told_scores : (o q : Option (List ℕ)) (len reserved : ℕ) (sizes : List ℕ) (i size pages : ℕ) (before now : List Score) (whole : List ℕ → List Score) →
    q ≡ o → i < length sizes → size ≡ get_or sizes i 0 → nat_le (reserved + 480) size ≡ true →
    IfSome q (λ all. length all ≡ len → pages ≡ score all size reserved) → now ≡ before ++ record { size = size; pages = pages } ∷ [] →
    IfSome o (λ all. length all ≡ len → before ++ scores_of all reserved (drop i sizes) ≡ whole all) →
    IfSome o (λ all. length all ≡ len → now ++ scores_of all reserved (drop (i + 1) sizes) ≡ whole all)
told_scores None q len reserved sizes i size pages before now whole e below size_is enough pages_is now_is scored = tt
told_scores (Some all) q len reserved sizes i size pages before now whole e below size_is enough pages_is now_is scored =
    let here : length all ≡ len → pages ≡ score all size reserved
    = subst (λ (x : Option (List ℕ)). IfSome x (λ all. length all ≡ len → pages ≡ score all size reserved)) e pages_is in
    λ long. scores_next all reserved sizes i size pages before now (whole all) below size_is enough (here long) now_is (scored long)

-- the reads of one more size
reads_next : (len : ℕ) (sizes : List ℕ) (i size before here now : ℕ) → i < length sizes → size ≡ get_or sizes i 0 → now ≤ here + len / size →
    here + sum_by (λ s. len / s) (drop i sizes) ≤ before → now + sum_by (λ s. len / s) (drop (i + 1) sizes) ≤ before
reads_next len sizes i size before here now below size_is more earlier =
    let e : sum_by (λ s. len / s) (drop i sizes) ≡ len / size + sum_by (λ s. len / s) (drop (i + 1) sizes)
    = ap (sum_by (λ s. len / s)) (sizes_from sizes i size below size_is) ∙ sum_by-cons (λ s. len / s) size (drop (i + 1) sizes) in
    omega (arith, e, earlier, more)

-- the same where the bytes are told
pub told_reads_next : (o q : Option (List ℕ)) (len : ℕ) (sizes : List ℕ) (i size before here now : ℕ) → q ≡ o → i < length sizes → size ≡ get_or sizes i 0 →
    IfSome q (λ all. length all ≡ len → now ≤ here + len / size) →
    IfSome o (λ all. length all ≡ len → here + sum_by (λ s. len / s) (drop i sizes) ≤ before) →
    IfSome o (λ all. length all ≡ len → now + sum_by (λ s. len / s) (drop (i + 1) sizes) ≤ before)
told_reads_next None q len sizes i size before here now e below size_is more earlier = tt
told_reads_next (Some all) q len sizes i size before here now e below size_is more earlier =
    let here_more : length all ≡ len → now ≤ here + len / size
    = subst (λ (x : Option (List ℕ)). IfSome x (λ all. length all ≡ len → now ≤ here + len / size)) e more in
    λ long. reads_next len sizes i size before here now below size_is (here_more long) (earlier long)

-- the pages of all eight sizes are few
shares_few : (len : ℕ) → sum_by (λ s. len / s) page_sizes ≤ len / 256
shares_few len = omega arith

-- the reads so far are within those of all sizes
pub told_reads_out : (o : Option (List ℕ)) (len rest before now : ℕ) →
    IfSome o (λ all. length all ≡ len → now + rest ≤ before + sum_by (λ s. len / s) page_sizes) →
    IfSome o (λ all. length all ≡ len → now ≤ before + len / 256)
told_reads_out None len rest before now within = tt
told_reads_out (Some all) len rest before now within = λ long. omega (arith, within long, shares_few len)

-- each page size is one
page_sizes_valid : (i : ℕ) → i < length page_sizes → is_page_size (get_or page_sizes i 0) ≡ true
page_sizes_valid i below = AllPass-from_list_all is_page_size page_sizes refl i 0 below

-- one more score is of a size that leaves enough
pub usable_next : (reserved i pages : ℕ) (before now : List Score) → i < length page_sizes → reserved + 480 ≤ get_or page_sizes i 0 →
    now ≡ before ++ record { size = get_or page_sizes i 0; pages = pages } ∷ [] →
    All (λ (s : Score). IsUsable s.size reserved) before → All (λ (s : Score). IsUsable s.size reserved) now
usable_next reserved i pages before now below enough now_is earlier =
    subst (λ t. All (λ (s : Score). IsUsable s.size reserved) t) (sym now_is)
    (All-push (λ (s : Score). IsUsable s.size reserved) before (record { size = get_or page_sizes i 0; pages = pages }) earlier
    (record { valid = page_sizes_valid i below; enough = enough }))

-- the test that a size leaves enough
pub passes : (reserved size : ℕ) → reserved + 480 ≤ size → nat_le (reserved + 480) size ≡ true
passes reserved size enough = grind (arith, nat_tests)

-- what holds of all elements holds of the one that is found
All-find : {X : Type 0} (P : X → Type 0) (p : X → Bool) (xs : List X) → All P xs → IfSome (find p xs) P
All-find P p [] all = tt
All-find P p (x ∷ xs) all = chosen P (find p xs) (p x) (all 0 x (omega arith)) (All-find P p xs (λ k d below. all (suc k) d (omega arith)))
  where
    chosen : {X : Type 0} {x : X} (P : X → Type 0) (o : Option X) (b : Bool) → P x → IfSome o P → IfSome (if b then Some x else o) P
    chosen P o true here later = here
    chosen P o false here later = later

-- the size that wins leaves enough
pub winner_usable : (reserved : ℕ) (scores : List Score) (s : Score) → winner scores ≡ Some s → All (λ (t : Score). IsUsable t.size reserved) scores → IsUsable s.size reserved
winner_usable reserved scores s won all =
    subst (λ (o : Option Score). IfSome o (λ (t : Score). IsUsable t.size reserved)) won (All-find (λ (t : Score). IsUsable t.size reserved) _ scores all)
