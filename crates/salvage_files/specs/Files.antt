-- A file that is made: its sink is created under a name, gains a text and is finished (docs/TEXTS.md, "The files of
-- `recover`").
use Rattle.std.specs.Prelude.{◌≡◌, ◌⊎◌, ℕ, Bool, true, false, List, Option, Some, Result, OnErr, OnOk}
use Rattle.page_access.specs.Outside.{Writes}
use Rattle.report_text.specs.Lines.{script_text}
use Rattle.salvaged_tables.specs.declared.places.ScriptText.{ScriptText}

-- a text of the script, as it stands there
abbrev pub text_part : ScriptText → List ℕ
text_part t = script_text t.text

-- the sink gains the text and is finished, or a front of it where a call failed; its name stays
pub record Finishes {R T E : Type 0} (bytes created : R → Option (List ℕ)) (finished : R → Bool) (faults : R → ℕ)
    (text : List ℕ) (old new : R) (result : Result T E) : Type 0 where
  pub writes : Writes (bytes old) (bytes new) (faults old) (faults new) text result
  pub name : created new ≡ created old
  pub done : OnOk result (finished new ≡ true)
  pub unfinished : OnErr result ((finished new ≡ false) ⊎ (finished new ≡ finished old))

-- the same of a sink that is created first, under this name
pub record Makes {R T E : Type 0} (bytes created : R → Option (List ℕ)) (finished : R → Bool) (faults : R → ℕ)
    (name text : List ℕ) (old new : R) (result : Result T E) : Type 0 where
  pub writes : Writes (bytes old) (bytes new) (faults old) (faults new) text result
  pub created_as : OnOk result (created new ≡ Some name)
  pub done : OnOk result (finished new ≡ true)
  pub unfinished : OnErr result (finished new ≡ false)
