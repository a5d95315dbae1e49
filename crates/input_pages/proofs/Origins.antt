-- The page size of an input that has pages comes from somewhere.
use Rattle.std.proofs.Common.{◌≡◌, ℕ, ◌==◌, Bool, true, false, List, length, Option, Some, None, Result, Ok, Err, subst, if◌then◌else◌}
use Rattle.std.specs.Prelude.{◌≢◌, IfOk, IfSome, nat_lt, unwrap_or, option_map}
use Rattle.std.specs.Option.{option_or}
use Rattle.page_size.specs.Fields.{header_of}
use Rattle.page_size.specs.Rule.{Finding, cut, given_sizing, rule, scored_sizing}
use Rattle.page_size.specs.Score.{ranking, winner}
use Rattle.page_size.specs.declared.headers.Header.{Header}
use Rattle.page_size.specs.declared.finds.GeoFault.{GeoFault}
use Rattle.page_size.specs.declared.finds.Origin.TheVariants as origins
use Rattle.page_size.specs.declared.finds.Sizing.{Sizing}
use Rattle.page_size.specs.declared.scores.Score.{Score}
use Rattle.input_pages.specs.Input.{FindsPages, pages_by, pages_of}
use Rattle.input_pages.specs.declared.inputs.Input.{Input}
use Rattle.input_pages.specs.declared.faults.InputFault.{InputFault}
use Rattle.input_pages.specs.declared.faults.InputFault.TheVariants.{TooLarge}

-- a sizing comes from somewhere
abbrev IsFromSomewhere : Option Sizing → Type 0
IsFromSomewhere o = IfSome o (λ s. s.origin ≢ origins.Empty)

by_test : (test : Bool) (s : Sizing) → s.origin ≢ origins.Empty → IsFromSomewhere (if test then Some s else None)
by_test true s h = h
by_test false s h = tt

given : (h : Header) (size reserved : Option ℕ) → IsFromSomewhere (given_sizing h size reserved)
given h (Some size) reserved = λ e. cc
given h None reserved = by_test _ _ (λ e. cc)

scored_by : (reserved : ℕ) (o : Option Score) → IsFromSomewhere (option_map (λ (s : Score). record { size = s.size; reserved = reserved; origin = origins.Pages }) o)
scored_by reserved (Some s) = λ e. cc
scored_by reserved None = tt

either_of : (o p : Option Sizing) → IsFromSomewhere o → IsFromSomewhere p → IsFromSomewhere (option_or o p)
either_of (Some s) p h k = h
either_of None p h k = k

-- so does what is cut by it
cut_by : (short : Bool) (f : Finding) (fault : GeoFault) → f.origin ≢ origins.Empty → IfOk (if short then Err fault else Ok f) (λ f. f.origin ≢ origins.Empty)
cut_by true f fault h = tt
cut_by false f fault h = h

of_cut : (len : ℕ) (h : Header) (o : Option Sizing) → IsFromSomewhere o → IfOk (cut len h o) (λ f. f.origin ≢ origins.Empty)
of_cut len h (Some s) from = cut_by (nat_lt len s.size) _ _ from
of_cut len h None from = tt

of_rule : (all : List ℕ) (size reserved : Option ℕ) → IfOk (rule all size reserved) (λ f. f.origin ≢ origins.Empty)
of_rule all size reserved =
    of_cut (length all) (header_of all) (option_or (given_sizing (header_of all) size reserved) (scored_sizing all reserved))
    (either_of _ _ (given (header_of all) size reserved) (scored_by (unwrap_or reserved 0) (winner (ranking all (unwrap_or reserved 0)))))

-- the pages of an input, where it has any
abbrev IsNoEmpty : Result (Option Finding) InputFault → Type 0
IsNoEmpty pages = IfOk pages (λ o. IfSome o (λ f. f.origin ≢ origins.Empty))

by_rule : (found : Result Finding GeoFault) → IfOk found (λ f. f.origin ≢ origins.Empty) → IsNoEmpty (pages_by found)
by_rule (Ok f) h = h
by_rule (Err fault) h = tt

by_length : (large empty : Bool) (fault : InputFault) (pages : Result (Option Finding) InputFault) → IsNoEmpty pages
    → IsNoEmpty (if large then Err fault else (if empty then Ok None else pages))
by_length true empty fault pages h = tt
by_length false true fault pages h = tt
by_length false false fault pages h = h

of_pages : (limit : ℕ) (size reserved : Option ℕ) (all : List ℕ) → IsNoEmpty (pages_of limit size reserved all)
unfolding pages_of
of_pages limit size reserved all =
    by_length (nat_lt limit (length all)) (length all == 0) (TooLarge (length all)) (pages_by (rule all size reserved)) (by_rule (rule all size reserved) (of_rule all size reserved))

of_found : (result : Result (Option Input) InputFault) (pages : Result (Option Finding) InputFault) → FindsPages result pages → IsNoEmpty pages
    → IfOk result (λ o. IfSome o (λ i. i.found.origin ≢ origins.Empty))
of_found (Err fault) pages h from = tt
of_found (Ok None) pages h from = tt
of_found (Ok (Some f)) pages h from = subst (λ (p : Result (Option Finding) InputFault). IsNoEmpty p) h from

-- the same of a source that may tell its bytes
pub from_somewhere : (told told' : Option (List ℕ)) (limit : ℕ) (size reserved : Option ℕ) (result : Result (Option Input) InputFault) → told' ≡ told
    → IfSome told' (λ all. FindsPages result (pages_of limit size reserved all))
    → IfSome told (λ all. IfOk result (λ o. IfSome o (λ i. i.found.origin ≢ origins.Empty)))
from_somewhere None told' limit size reserved result same h = tt
from_somewhere (Some all) told' limit size reserved result same h =
    of_found result (pages_of limit size reserved all)
    (subst (λ (o : Option (List ℕ)). IfSome o (λ all. FindsPages result (pages_of limit size reserved all))) same h)
    (of_pages limit size reserved all)
