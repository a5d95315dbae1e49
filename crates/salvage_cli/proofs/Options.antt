-- The options of a recovery are those that its words give.
use Rattle.std.proofs.Common.{◌≡◌, ◌<◌, ℕ, ◌==◌, Bool, true, false, not, ◌&&◌, List, Option, Some, None, IfSome, Bor, ap, arith, length, refl}
use Rattle.std.specs.Prelude.{IsTrue, Err, option_map, unwrap_or}
use Rattle.std.proofs.lemmas.Bool.Decides.{nat_tests}
use Rattle.command_line.specs.Names.{begins_as_sqlite, is_lost_name}
use Rattle.lost_found.specs.Names.{CanBeBase}
use Rattle.salvage_core.specs.Plan.{IsRefused}
use Rattle.salvage_core.specs.declared.faults.Fault.TheVariants as core
use Rattle.salvage_core.specs.declared.options.Options.{Options}
use Rattle.salvage_cli.specs.Recovery.{lost_and_found}

-- want of memory has no cause that the bytes tell
pub memory_ends : (o : Options) (told : Option (List ℕ)) → IfSome told (λ all. IsRefused o all core.Memory)
memory_ends o None = tt
memory_ends o (Some all) = tt

-- the name that is given, or the other
pub chosen : (given : Option (Bor (List ℕ))) (other : Bor (List ℕ)) → other.now ≡ lost_and_found
    → (unwrap_or given other).now ≡ unwrap_or (option_map (λ w. w.now) given) lost_and_found
chosen None other same = same
chosen (Some name) other same = refl

both_not : (a b : Bool) → (not a && not b) ≡ true → (a ≡ false) × (b ≡ false)
both_not true b is = absurd (cc)
both_not false true is = absurd (cc)
both_not false false is = (refl, refl)

-- it can be the name of the table of lost cells
pub can_be_base : (given : Option (Bor (List ℕ))) → IfSome given (λ name. IsTrue (is_lost_name name.now))
    → CanBeBase (unwrap_or (option_map (λ w. w.now) given) lost_and_found)
unfolding is_lost_name begins_as_sqlite
can_be_base None is = record { some = omega arith; not_internal = refl }
can_be_base (Some name) is =
    let parts : ((length name.now == 0) ≡ false) × (begins_as_sqlite name.now ≡ false) =
    both_not (length name.now == 0) (begins_as_sqlite name.now) is in
    record { some = grind (arith, nat_tests, parts.0); not_internal = parts.1 }
