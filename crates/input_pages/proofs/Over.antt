-- An input that is refused for its length is over the limit.
use Rattle.std.proofs.Common.{◌≡◌, ◌<◌, ◌==◌, ℕ, Bool, true, false, List, length, Option, None, Result, Ok, Err, refl, arith, if◌then◌else◌}
use Rattle.std.specs.Prelude.{nat_lt}
use Rattle.std.proofs.lemmas.Bool.Decides.{nat_tests}
use Rattle.page_size.specs.Rule.{Finding, rule}
use Rattle.page_size.specs.declared.finds.GeoFault.{GeoFault}
use Rattle.page_size.specs.declared.finds.GeoFault.TheVariants as geo
use Rattle.input_pages.specs.Input.{pages_by, pages_of}
use Rattle.input_pages.specs.declared.faults.InputFault.TheVariants.{TooLarge}

-- the rule refuses no length
not_by_rule : (found : Result Finding GeoFault) (len : ℕ) → pages_by found ≡ Err (TooLarge len) → ⊥
not_by_rule (Ok f) len e = cc
not_by_rule (Err geo.NoPageSize) len e = cc
not_by_rule (Err (geo.NoWholePage l s)) len e = cc
not_by_rule (Err geo.Source) len e = cc
not_by_rule (Err geo.Memory) len e = cc

over_by : (large empty : Bool) (n len : ℕ) (found : Result Finding GeoFault) →
    (if large then Err (TooLarge n) else (if empty then Ok None else pages_by found)) ≡ Err (TooLarge len) → large ≡ true
over_by true empty n len found e = refl
over_by false true n len found e = absurd cc
over_by false false n len found e = absurd (not_by_rule found len e)

-- bytes that are too many are over the limit
pub over_limit : (limit : ℕ) (page_size reserved : Option ℕ) (all : List ℕ) (len : ℕ) → pages_of limit page_size reserved all ≡ Err (TooLarge len) → limit < length all
unfolding pages_of
over_limit limit page_size reserved all len e =
    let t : nat_lt limit (length all) ≡ true = over_by (nat_lt limit (length all)) (length all == 0) (length all) len (rule all page_size reserved) e in
    grind (arith, nat_tests)
