-- The reads of an input that is opened, and then of its pages.
use Rattle.std.proofs.Common.{◌≡◌, ◌≤◌, ◌==◌, ℕ, ◌+◌, ◌/◌, Bool, true, false, List, length, Option, Some, None, Result, Ok, Err, refl, sym, subst, arith}
use Rattle.std.specs.Prelude.{if◌then◌else◌, IfSome, is_none, nat_lt, option_map, unwrap_or}
use Rattle.std.specs.Option.{option_or}
use Rattle.page_access.specs.Files.{FewReads, IsWhole}
use Rattle.page_size.specs.Fields.{header_of}
use Rattle.page_size.specs.Rule.{Finding, cut, finding, given_sizing, is_scored, rule}
use Rattle.page_size.specs.Score.{ranking, winner}
use Rattle.page_size.specs.declared.finds.GeoFault.{GeoFault}
use Rattle.page_size.specs.declared.finds.Origin.TheVariants as origins
use Rattle.page_size.specs.declared.finds.Sizing.{Sizing}
use Rattle.page_size.specs.declared.headers.Header.{Header}
use Rattle.page_size.specs.declared.scores.Score.{Score}
use Rattle.input_pages.specs.Input.{FindsPages, pages_by, pages_of}
use Rattle.input_pages.specs.declared.inputs.Input.{Input}
use Rattle.input_pages.specs.declared.faults.InputFault.{InputFault}
use Rattle.input_pages.specs.declared.faults.InputFault.TheVariants.{TooLarge}
use Rattle.use_order.proofs.Ordered.{at_told}
use Rattle.salvage_core.specs.Plan.{input_of}
use Rattle.salvage_core.specs.Reads.{most_by, most_reads, page_reads, score_reads}
use Rattle.salvage_core.specs.declared.options.Options.{Options}

-- a read of the header, and those of the scores
abbrev pub opening : List ℕ → Option ℕ → Option ℕ → ℕ
opening all size reserved = 1 + (if is_scored all size reserved then length all / 256 else 0)

-- a bound of such reads of bytes with these pages
abbrev IsBound : ℕ → ℕ → Result (Option Finding) InputFault → Type 0
IsBound len read (Ok (Some f)) = read ≤ score_reads len f.origin + 1
IsBound len read pages = read ≤ len / 256 + 1

scores_small : (len : ℕ) (scored : Bool) → (if scored then len / 256 else 0) ≤ len / 256
scores_small len true = omega arith
scores_small len false = omega arith

-- where the sizes are scored, they come from the pages
cut_bound : (len : ℕ) (short : Bool) (f : Finding) (fault : GeoFault) (read : ℕ) → read ≤ len / 256 + 1 → read ≤ score_reads len f.origin + 1
    → IsBound len read (pages_by (if short then Err fault else Ok f))
cut_bound len true f fault read most by = most
cut_bound len false f fault read most by = by

scored_bound : (len : ℕ) (h : Header) (reserved : ℕ) (o : Option Score)
    → IsBound len (1 + len / 256) (pages_by (cut len h (option_map (λ (s : Score). record { size = s.size; reserved = reserved; origin = origins.Pages }) o)))
scored_bound len h reserved None = omega arith
scored_bound len h reserved (Some s) = cut_bound len (nat_lt len s.size) _ _ (1 + len / 256) (omega arith) (omega arith)

given_bound : (all : List ℕ) (reserved : ℕ) (h : Header) (o : Option Sizing)
    → IsBound (length all) (1 + (if is_none o then length all / 256 else 0))
    (pages_by (cut (length all) h (option_or o (option_map (λ (s : Score). record { size = s.size; reserved = reserved; origin = origins.Pages }) (winner (ranking all reserved))))))
given_bound all reserved h None = scored_bound (length all) h reserved (winner (ranking all reserved))
given_bound all reserved h (Some s) = cut_bound (length all) (nat_lt (length all) s.size) _ _ 1 (omega arith) (omega arith)

length_bound : (len read : ℕ) (large empty : Bool) (fault : InputFault) (pages : Result (Option Finding) InputFault) → read ≤ len / 256 + 1
    → IsBound len read pages → IsBound len read (if large then Err fault else (if empty then Ok None else pages))
length_bound len read true empty fault pages most by = most
length_bound len read false true fault pages most by = most
length_bound len read false false fault pages most by = by

bound : (limit : ℕ) (size reserved : Option ℕ) (all : List ℕ) → IsBound (length all) (opening all size reserved) (pages_of limit size reserved all)
unfolding pages_of
bound limit size reserved all =
    let small = scores_small (length all) (is_scored all size reserved) in
    length_bound (length all) (opening all size reserved) (nat_lt limit (length all)) (length all == 0) (TooLarge (length all)) (pages_by (rule all size reserved))
    (omega (arith, small))
    (given_bound all (unwrap_or reserved 0) (header_of all) (given_sizing (header_of all) size reserved))

most_of : (len read : ℕ) (pages : Result (Option Finding) InputFault) → IsBound len read pages → read ≤ most_by len pages
most_of len read (Ok (Some f)) le = omega (arith, le)
most_of len read (Ok None) le = omega (arith, le)
most_of len read (Err fault) le = omega (arith, le)

pages_more : (len read more : ℕ) (f : Finding) (pages : Result (Option Finding) InputFault) → pages ≡ Ok (Some f) → more ≤ page_reads f.pages + 1
    → IsBound len read pages → read + more ≤ most_by len pages
pages_more len read more f pages is few le =
    subst (λ (p : Result (Option Finding) InputFault). IsBound len read p → read + more ≤ most_by len p) (sym is) (λ h. omega (arith, h, few)) le

-- the reads of an input that is opened
pub few_opened : (o : Options) (told : Option (List ℕ)) (a b : ℕ)
    → IfSome told (λ all. b ≤ a + 1 + (if is_scored all o.page_size o.reserved then length all / 256 else 0))
    → IfSome told (λ all. b ≤ a + most_reads o all)
few_opened o None a b read = tt
few_opened o (Some all) a b read =
    let most = most_of (length all) (opening all o.page_size o.reserved) (input_of o all) (bound o.input_limit o.page_size o.reserved all) in
    omega (arith, most, read)

-- and those of its pages
gathered : (o : Options) (told told' : Option (List ℕ)) (i : Input) (a b c : ℕ) → told' ≡ told
    → IfSome told (λ all. FindsPages (Ok (Some i)) (input_of o all)) → IfSome told (λ all. IsWhole all i.found.geometry)
    → IfSome told (λ all. b ≤ a + 1 + (if is_scored all o.page_size o.reserved then length all / 256 else 0))
    → FewReads told' i.found.geometry b c (page_reads i.found.geometry.pages + 1)
    → IfSome told (λ all. c ≤ a + most_reads o all)
gathered o None told' i a b c same finds whole read more = tt
gathered o (Some all) told' i a b c same finds whole read more =
    let here : c ≤ b + (page_reads i.found.geometry.pages + 1)
    = at_told (λ bytes. IsWhole bytes i.found.geometry → c ≤ b + (page_reads i.found.geometry.pages + 1)) (Some all) told' all same refl more whole in
    let most = pages_more (length all) (opening all o.page_size o.reserved) (page_reads i.found.geometry.pages + 1) (finding i.found) (input_of o all) finds (omega arith)
    (bound o.input_limit o.page_size o.reserved all) in omega (arith, most, read, here)

pub few_gathered : (o : Options) (told told' : Option (List ℕ)) (found : Option Input) (i : Input) (a b c : ℕ) → found ≡ Some i → told' ≡ told
    → IfSome told (λ all. FindsPages (Ok found) (input_of o all)) → IfSome told (λ all. IfSome found (λ input. IsWhole all input.found.geometry))
    → IfSome told (λ all. b ≤ a + 1 + (if is_scored all o.page_size o.reserved then length all / 256 else 0))
    → FewReads told' i.found.geometry b c (page_reads i.found.geometry.pages + 1)
    → IfSome told (λ all. c ≤ a + most_reads o all)
few_gathered o told told' found i a b c is same finds whole read more =
    gathered o told told' i a b c same
    (subst (λ (x : Option Input). IfSome told (λ all. FindsPages (Ok x) (input_of o all))) is finds)
    (subst (λ (x : Option Input). IfSome told (λ all. IfSome x (λ input. IsWhole all input.found.geometry))) is whole)
    read more
