-- Nothing stands in the way of a recovery of a well-formed input in scope.
use Rattle.std.proofs.Common.{◌≡◌, ◌∙◌, ◌⊎◌, ◌≤◌, ◌<◌, inl, inr, ℕ, ◌*◌, Bool, true, false, List, [], length, Option, Some, None, Result, Ok, Err, ap, arith, refl, subst, sym}
use Rattle.std.proofs.lemmas.Bool.{cases_lt}
use Rattle.page_size.specs.Rule.{Finding}
use Rattle.input_pages.specs.Input.{is_utf16, pages_of}
use Rattle.input_pages.specs.declared.faults.InputFault.{InputFault}
use Rattle.layout_laws.specs.Written.{database_of}
use Rattle.db_builder.specs.Load.{load}
use Rattle.well_formed.specs.Database.{Database}
use Rattle.well_formed.specs.Spells.{IsWellFormed, Spells}
use Rattle.round_trip.specs.Found.{IsFound, finding_in}
use Rattle.round_trip.specs.Scope.{IsInScope}
use Rattle.round_trip.proofs.Found.{headers_are_found}
use Rattle.well_formed_load.specs.Laws.{HasSmallLoad}
use Rattle.well_formed_load.proofs.Loads.{small_load}
use Rattle.salvage_core.specs.Back.{ArePlain, IsBack}
use Rattle.salvage_core.specs.Outcome.{IsOver}
use Rattle.salvage_core.specs.Plan.{IsRefused, IsUtf16By, input_of}
use Rattle.salvage_core.specs.Recoverable.{AreWide, IsRecoverable, IsWhole, NeverBarred}
use Rattle.salvage_core.specs.declared.faults.Fault.{Fault}
use Rattle.salvage_core.specs.declared.faults.Fault.TheVariants as faults
use Rattle.salvage_core.specs.declared.options.Options.{Options}
use Rattle.salvage_core.proofs.Backing.{nothing_found, plain_input}

-- ---- the pages are found

-- pages whose texts are not in UTF-16, or none
abbrev IsReadable : Option Finding → Type 0
IsReadable None = Unit {0}
IsReadable (Some f) = is_utf16 f ≡ false

utf16_free : (r : Option Finding) (encoding : ℕ) → IsReadable r → IsUtf16By encoding (Ok r) → ⊥
utf16_free None encoding read by = by
utf16_free (Some f) encoding read by = let yes : is_utf16 f ≡ true = by.0 in let no_more : is_utf16 f ≡ false = read in cc

not_both : (o : Options) (all : List ℕ) (r : Option Finding) (fault : InputFault) → input_of o all ≡ Ok r → input_of o all ≡ Err fault → ⊥
not_both o all r fault is other = let both : Ok r ≡ Err fault = sym is ∙ other in cc

-- what is found is not refused
found_free : (o : Options) (all : List ℕ) (r : Option Finding) → input_of o all ≡ Ok r → IsReadable r
    → (fault : Fault) → IsRefused o all fault → (fault ≡ faults.InputFault) ⊎ (fault ≡ faults.Memory)
found_free o all r is read faults.InputFault refused = inl refl
found_free o all r is read faults.Memory refused = inr refl
found_free o all r is read (faults.TooLarge len) refused = absurd (not_both o all r _ is refused)
found_free o all r is read faults.NoPageSize refused = absurd (not_both o all r _ is refused)
found_free o all r is read (faults.NoWholePage len size) refused = absurd (not_both o all r _ is refused)
found_free o all r is read (faults.Utf16 encoding) refused = absurd (utf16_free r encoding read (subst (IsUtf16By encoding) is refused))
found_free o all r is read (faults.OutputTooLarge n) refused = absurd refused
found_free o all r is read faults.OutputFault refused = absurd refused
found_free o all r is read faults.ScriptFault refused = absurd refused
found_free o all r is read faults.ReportFault refused = absurd refused

not_refused : (o : Options) (all : List ℕ) (d : Database) → ArePlain o → AreWide o → IsInScope all d → Spells all d
    → (fault : Fault) → IsRefused o all fault → (fault ≡ faults.InputFault) ⊎ (fault ≡ faults.Memory)
not_refused o all d plain wide scope (inl empty) =
    found_free o all None (ap (input_of o) empty.0 ∙ nothing_found o.input_limit o.page_size o.reserved) tt
not_refused o all d plain wide scope (inr w) =
    let found : IsFound o.input_limit all d = headers_are_found o.input_limit all d w.header (let few = scope.few in let least = wide.input in omega arith) in
    found_free o all (Some (finding_in all)) (plain_input o all plain ∙ found.pages) found.not_utf16

-- ---- the database is not too large

not_over : (o : Options) (all : List ℕ) (d : Database) → ArePlain o → AreWide o → IsInScope all d → Spells all d → (n : ℕ) → IsOver o (Some all) n → ⊥
not_over o all d plain wide scope spells n over =
    let back : IsBack d over.plan = over.back d plain spells scope in
    let small : HasSmallLoad all over.plan.db = small_load all over.plan.db over.valid scope.few (subst (Spells all) (sym back.database) spells) in
    let few = scope.few in
    let most = wide.load in
    let past = over.over in
    elim (cases_lt (length all) 1) [
      | inl none ↦ omega (arith, small.none (omega (arith, none)), most, past)
      | inr some ↦ omega (arith, small.below some, few, most, past)
    ]

pub never_barred : NeverBarred
never_barred o all plain wide whole = record {
  read = not_refused o all whole.database plain wide whole.scope whole.spells;
  small = not_over o all whole.database plain wide whole.scope whole.spells;
}
