-- Reads, call by call.
use Rattle.std.proofs.Common.{◌≡◌, ◌≤◌, ◌+◌, ℕ, List, Option, Some, None, length, ap, subst, ◌∙◌, arith}
use Rattle.page_access.specs.declared.geometry.Geometry.{Geometry}
use Rattle.std.proofs.lemmas.List.FromFn.{length-range_with_len}
use Rattle.page_lists.specs.Table.{Table, fresh, unused}
use Rattle.page_walk.specs.Turns.{ReadsEach}
use Rattle.page_access.specs.Files.{FewReads}
use Rattle.dbdata_list.specs.Reads.{FewReadsOf}

-- no read
pub few_none : (o : Option (List ℕ)) (geo : Geometry) (n most : ℕ) → FewReads o geo n n most
few_none None geo n most = tt
few_none (Some all) geo n most = λ whole. omega arith

-- reads, and then one more
pub few_more : (o p : Option (List ℕ)) (geo : Geometry) (a b c m n k : ℕ) → p ≡ o → m + n ≤ k
    → FewReads o geo a b m → FewReads p geo b c n → FewReads o geo a c k
few_more None p geo a b c m n k same most before now = tt
few_more (Some all) p geo a b c m n k same most before now = λ whole.
    let more : FewReads (Some all) geo b c n = subst (λ (q : Option (List ℕ)). FewReads q geo b c n) same now in
    omega (arith, most, before whole, more whole)

-- no page is used yet
pub of_none : (o : Option (List ℕ)) (geo : Geometry) (t : Table) (n lists most : ℕ) → t ≡ fresh geo.pages lists → FewReadsOf o geo t n n most
of_none None geo t n lists most is = tt
of_none (Some all) geo t n lists most is = λ whole.
    let all_unused : length (unused t) ≡ geo.pages = ap (λ (x : Table). length (unused x)) is ∙ length-range_with_len 1 geo.pages in
    omega (arith, all_unused)

-- reads for each page that is used, and then some more
pub of_more : (o p : Option (List ℕ)) (geo : Geometry) (t u : Table) (a b c m n k : ℕ) → p ≡ o → m + n ≤ k
    → FewReadsOf o geo t a b m → ReadsEach p geo t u b c n → FewReadsOf o geo u a c k
of_more None p geo t u a b c m n k same most before now = tt
of_more (Some all) p geo t u a b c m n k same most before now = λ whole.
    let more : ReadsEach (Some all) geo t u b c n = subst (λ (q : Option (List ℕ)). ReadsEach q geo t u b c n) same now in
    omega (arith, most, before whole, more whole)

-- two reads for each page, and some more
pub few_of : (o : Option (List ℕ)) (geo : Geometry) (t : Table) (a b m k : ℕ) → geo.pages + m ≤ k → FewReadsOf o geo t a b m → FewReads o geo a b k
few_of None geo t a b m k most before = tt
few_of (Some all) geo t a b m k most before = λ whole. omega (arith, most, before whole)
