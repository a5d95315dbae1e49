-- How the writing of three files ends, and so the salvage.
use Rattle.std.proofs.Common.{◌≡◌, ◌≤◌, ◌<◌, ℕ, Bool, List, Option, Some, None, Result, Ok, Err, IfSome, IsErrOf, arith, inl, subst}
use Rattle.page_access.specs.Outside.{Gains, GainsPrefix}
use Rattle.salvage_files.specs.Files.{Finishes, Makes}
use Rattle.db_builder.specs.Load.{load}
use Rattle.db_builder.specs.Valid.{IsValid}
use Rattle.salvage_core.specs.Outcome.{Ends, EndsOut, EndsWriting, IsCut, IsMade, IsUnmade, Outputs, database_of, turn_of}
use Rattle.well_formed.specs.Spells.{Spells}
use Rattle.layout_laws.specs.Written.{database_of as spelled_of}
use Rattle.well_formed.proofs.Once.{one_database}
use Rattle.salvage_core.specs.Plan.{IsPlan, IsRefused}
use Rattle.salvage_core.specs.Sound.{OnlyOfInput}
use Rattle.salvage_core.specs.declared.faults.Fault.{Fault}
use Rattle.salvage_core.specs.declared.faults.Fault.TheVariants as faults
use Rattle.salvage_core.specs.declared.gathered.Gathered.{Gathered}
use Rattle.salvage_core.specs.declared.options.Options.{Options}
use Rattle.salvage_core.specs.declared.recovers.Summary.{Summary}
use Rattle.salvaged_tables.specs.Salvaged.{HavePlaces}
use Rattle.salvage_core.proofs.Backing.{told_back}
use Rattle.salvage_core.proofs.Holding.{told_holds}

-- a file that was made, and one whose writing was cut short
pub made_of : {R T E : Type 0} {bytes created : R → Option (List ℕ)} {finished : R → Bool} {faults : R → ℕ} {name text all : List ℕ} {old new : R} {x : T} →
    text ≡ all → Makes {E = E} bytes created finished faults name text old new (Ok x) → IsMade name all (turn_of bytes created finished faults old new)
made_of {bytes = bytes} {old = old} {new = new} e m = record {
  whole = record { gained = subst (λ t. Gains (bytes old) (bytes new) t) e m.writes.ok; done = m.done; steady = m.writes.steady };
  name_is = m.created_as;
}

pub cut_of : {R T E : Type 0} {bytes created : R → Option (List ℕ)} {finished : R → Bool} {faults : R → ℕ} {text all : List ℕ} {old new : R} {e : E} →
    text ≡ all → Finishes {T = T} bytes created finished faults text old new (Err e) → IsCut all (turn_of bytes created finished faults old new)
cut_of {bytes = bytes} {old = old} {new = new} e m =
    record { gained = subst (λ t. GainsPrefix (bytes old) (bytes new) t) e m.writes.err; rose = m.writes.failed; unfinished = m.unfinished }

pub unmade_of : {R T E : Type 0} {bytes created : R → Option (List ℕ)} {finished : R → Bool} {faults : R → ℕ} {name text all : List ℕ} {old new : R} {e : E} →
    text ≡ all → Makes {T = T} bytes created finished faults name text old new (Err e) → IsUnmade all (turn_of bytes created finished faults old new)
unmade_of {bytes = bytes} {old = old} {new = new} e m = record {
  cut = record { gained = subst (λ t. GainsPrefix (bytes old) (bytes new) t) e m.writes.err; rose = m.writes.failed; unfinished = inl m.unfinished };
  undone = m.unfinished;
}

-- what was gathered is written, or is not
pub ends_of : (o : Options) (told : Option (List ℕ)) (to : Outputs) (g : Gathered) (r : Result Summary Fault) →
    IsValid g.db → HavePlaces g.db.tables.items g.places.items → IfSome told (λ all. IsPlan o all g) → EndsOut g o.load_limit to r → Ends o told to r
ends_of o told to g (Ok s) valid placed plan e = record {
  plan = g;
  planned = plan;
  holds = told_holds o told g plan;
  back = told_back o told g placed plan;
  small = e.1.0;
  spells = e.1.1;
  only = λ other says. one_database (database_of g) other (spelled_of g.db) says e.1.1;
  database = e.0.database;
  script = e.0.script;
  report = e.0.report;
  pages_in = e.0.pages_in;
  pages = e.0.pages;
  rows = e.0.rows;
  lost = e.0.lost;
}
ends_of o told to g (Err faults.OutputFault) valid placed plan e = record { plan = g; planned = plan; database = e }
ends_of o told to g (Err faults.ScriptFault) valid placed plan e = record { plan = g; planned = plan; database = e.0; script = e.1 }
ends_of o told to g (Err faults.ReportFault) valid placed plan e = record { plan = g; planned = plan; database = e.0; script = e.1.0; report = e.1.1 }
ends_of o told to g (Err (faults.OutputTooLarge n)) valid placed plan e =
    record { plan = g; planned = plan; valid = valid; back = told_back o told g placed plan; over = e.0; told_load = e.1 }
ends_of o None to g (Err faults.Memory) valid placed plan e = tt
ends_of o (Some all) to g (Err faults.Memory) valid placed plan e = tt
ends_of o told to g (Err faults.InputFault) valid placed plan e = absurd e
ends_of o told to g (Err (faults.TooLarge len)) valid placed plan e = absurd e
ends_of o told to g (Err faults.NoPageSize) valid placed plan e = absurd e
ends_of o told to g (Err (faults.NoWholePage len size)) valid placed plan e = absurd e
ends_of o told to g (Err (faults.Utf16 encoding)) valid placed plan e = absurd e

-- nothing was gathered
pub ends_early : (o : Options) (told : Option (List ℕ)) (to : Outputs) (fault : Fault) → OnlyOfInput {A = Gathered} (Err fault)
    → IfSome told (λ all. IsRefused o all fault) → Ends o told to (Err fault)
ends_early o told to faults.InputFault only why = why
ends_early o told to (faults.TooLarge len) only why = why
ends_early o told to faults.NoPageSize only why = why
ends_early o told to (faults.NoWholePage len size) only why = why
ends_early o told to (faults.Utf16 encoding) only why = why
ends_early o told to faults.Memory only why = why
ends_early o told to (faults.OutputTooLarge n) only why = absurd only
ends_early o told to faults.OutputFault only why = absurd only
ends_early o told to faults.ScriptFault only why = absurd only
ends_early o told to faults.ReportFault only why = absurd only

pub no_error : {T E : Type 0} {x : T} {fault : E} → IsErrOf {T = T} (Ok x) fault → ⊥
no_error of = cc

-- what was written is well-formed
pub out_of : (g : Gathered) (limit : ℕ) (to : Outputs) (r : Result Summary Fault) → (limit < load g.db → ⊥)
    → Spells (database_of g) (spelled_of g.db) → EndsWriting g to r → EndsOut g limit to r
out_of g limit to (Ok s) small spells e = (e, (omega (arith, small), spells))
out_of g limit to (Err faults.OutputFault) small spells e = e
out_of g limit to (Err faults.ScriptFault) small spells e = e
out_of g limit to (Err faults.ReportFault) small spells e = e
out_of g limit to (Err (faults.OutputTooLarge n)) small spells e = absurd e
out_of g limit to (Err faults.Memory) small spells e = absurd e
out_of g limit to (Err faults.InputFault) small spells e = absurd e
out_of g limit to (Err (faults.TooLarge len)) small spells e = absurd e
out_of g limit to (Err faults.NoPageSize) small spells e = absurd e
out_of g limit to (Err (faults.NoWholePage len size)) small spells e = absurd e
out_of g limit to (Err (faults.Utf16 encoding)) small spells e = absurd e
