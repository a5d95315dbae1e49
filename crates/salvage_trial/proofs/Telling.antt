-- The lines of a trial are put.
use Rattle.std.proofs.Common.{◌≡◌, inl, refl, sym, subst, ◌∙◌, arith, ℕ, ◌≤◌, Option, Bool, true, false, List, ◌++◌, length, Ok, Err, Some}
use Rattle.std.proofs.Math.Seq.{take-length}
use Rattle.page_access.specs.Files.{max_input}
use Rattle.page_access.specs.Outside.{Gains, HasCause, KeepsSink, Writes}
use Rattle.page_access.proofs.Keeps.{Rose-longer}
use Rattle.db_builder.specs.declared.databases.OutDb.{OutDb}
use Rattle.layout_laws.specs.Written.{database_of}
use Rattle.well_formed.specs.Spells.{Spells}
use Rattle.salvaged_tables.specs.Salvaged.{HavePlaces}
use Rattle.salvage_core.specs.declared.gathered.Gathered.{Gathered}
use Rattle.salvage_core.specs.Back.{ArePlain, IsBack}
use Rattle.salvage_core.specs.Outcome.{IsCut, IsWhole, turn_of, rows_out}
use Rattle.salvage_core.specs.Plan.{IsPlan}
use Rattle.salvage_core.proofs.Backing.{told_back}
use Rattle.trial_file.specs.Laws.{TextHasNoFault}
use Rattle.trial_file.specs.Trial.{IsTrial}
use Rattle.salvage_trial.specs.declared.lines.Numbers.{Numbers}
use Rattle.salvage_trial.specs.Holes.{hole_of}
use Rattle.salvage_trial.specs.Lines.{hole_line, whole_line}
use Rattle.salvage_trial.specs.Numbers.{lines_of}
use Rattle.salvage_trial.specs.Trial.{IsTrialText, file_of, holed_file, pages_of, plain_options}
use Rattle.salvage_trial.proofs.Counting.{in_scope, rows_back}

plain : ArePlain plain_options
plain = record { page_size = refl; reserved = refl; freelist = refl }

-- the whole file comes back
back_of : (n : ℕ) (db : OutDb) (g : Gathered) → IsTrial n db → TextHasNoFault → length (file_of db) ≤ max_input → Spells (file_of db) (database_of db)
    → HavePlaces g.db.tables.items g.places.items → IsPlan plain_options (file_of db) g → IsBack (database_of db) g
back_of n db g made none few spells placed plan =
    told_back plain_options (Some (file_of db)) g placed plan (database_of db) plain spells (in_scope n db (file_of db) made none few)

-- the numbers of a trial are those of its text
pub text_of : (n : ℕ) (db : OutDb) (whole holed : Gathered) (x : Numbers) → n ≤ 100000 → IsTrial n db → TextHasNoFault → length (file_of db) ≤ max_input
    → Spells (file_of db) (database_of db) → HavePlaces whole.db.tables.items whole.places.items → IsPlan plain_options (file_of db) whole
    → IsPlan plain_options (holed_file n db) holed → x.rows ≡ n → x.pages ≡ pages_of db → x.whole.rows ≡ rows_out whole → x.whole.lost ≡ whole.lost
    → x.hole ≡ hole_of n (pages_of db) → x.holed.rows ≡ rows_out holed → x.holed.lost ≡ holed.lost → IsTrialText n (lines_of x)
text_of n db whole holed x few made none short spells placed plan other rows pages whole_rows whole_lost hole holed_rows holed_lost =
    let back = back_of n db whole made none short spells placed plan in
    let all : x.whole.rows ≡ n = whole_rows ∙ rows_back n db whole (omega (arith, few)) made back in
    let nothing : x.whole.lost ≡ 0 = whole_lost ∙ back.none_lost in
    record {
      db = db;
      made = made;
      whole = whole;
      whole_is = plan;
      back = back;
      holed = holed;
      holed_is = other;
      text_is = λ i. whole_line (rows i) (pages i) (all i) (nothing i) ++ hole_line (hole i) (holed_rows i) (holed_lost i);
    }

-- ---- the sink

-- all is put, and the sink is finished
pub whole_of : {R T E : Type 0} (bytes created : R → Option (List ℕ)) (finished : R → Bool) (faults : R → ℕ) (text : List ℕ) (old mid new : R) {x y : T}
    → Writes {T = T} {E = E} (bytes old) (bytes mid) (faults old) (faults mid) text (Ok x) → bytes new ≡ bytes mid → finished new ≡ true
    → HasCause {T = T} {E = E} (faults mid) (faults new) (Ok y) → IsWhole text (turn_of bytes created finished faults old new)
whole_of bytes created finished faults text old mid new w same done cause = record {
  gained = subst (λ (b : Option (List ℕ)). Gains (bytes old) b text) (sym same) w.ok;
  done = done;
  steady = cause.steady ∙ w.steady;
}

-- a put failed, and did not finish the sink
pub cut_of : {R T E : Type 0} (bytes created : R → Option (List ℕ)) (finished : R → Bool) (faults : R → ℕ) (text : List ℕ) (old new : R) {e : E}
    → Writes {T = T} {E = E} (bytes old) (bytes new) (faults old) (faults new) text (Err e) → KeepsSink created finished faults old new
    → IsCut text (turn_of bytes created finished faults old new)
cut_of bytes created finished faults text old new w kept = record { gained = w.err; rose = w.failed; unfinished = kept.unfinished }

-- all was put, and the sink could not be finished
pub unfinished_of : {R T E : Type 0} (bytes created : R → Option (List ℕ)) (finished : R → Bool) (faults : R → ℕ) (text : List ℕ) (old mid new : R) {x : T} {e : E}
    → Writes {T = T} {E = E} (bytes old) (bytes mid) (faults old) (faults mid) text (Ok x) → bytes new ≡ bytes mid
    → HasCause {T = T} {E = E} (faults mid) (faults new) (Err e) → finished new ≡ false → IsCut text (turn_of bytes created finished faults old new)
unfinished_of bytes created finished faults text old mid new w same cause undone = record {
  gained = (length text, subst (λ (t : List ℕ). Gains (bytes old) (bytes new) t) (sym (take-length text)) (subst (λ (b : Option (List ℕ)). Gains (bytes old) b text) (sym same) w.ok));
  rose = Rose-longer (omega (arith, w.steady)) cause.failed (omega arith);
  unfinished = inl undone;
}
