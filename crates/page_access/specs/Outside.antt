-- What the calls of a source and of a sink do (docs/FORMAT.md, "The outside").
-- A source or a sink may tell its bytes: `Some` of them, or `None`. It counts its faults.
use Rattle.std.specs.Prelude.{◌≡◌, ◌⊎◌, ℕ, ◌+◌, ◌-◌, ◌^◌, ◌≤◌, min, List, ◌++◌, length, take, drop, Option, Some, None, Bool, false, Result, OnOk, OnErr, IsErrOf}

-- a count rose from one moment to another, or stands at 2^64 - 1, above which it does not go
abbrev pub Rose : ℕ → ℕ → Type 0
Rose before now = min (before + 1) (2 ^ 64 - 1) ≤ now

-- an error comes only where the count of faults rose, and without one the count is as before
pub record HasCause {T E : Type 0} (before now : ℕ) (result : Result T E) : Type 0 where
  pub later : before ≤ now
  pub failed : OnErr result (Rose before now)
  pub steady : OnOk result (now ≡ before)

-- the same where one of several errors is the object's: with any other answer the count is as before
pub record HasCauseOf {T E : Type 0} (fault : E) (before now : ℕ) (result : Result T E) : Type 0 where
  pub later : before ≤ now
  pub failed : IsErrOf result fault → Rose before now
  pub steady : IsErrOf result fault ⊎ (now ≡ before)

-- a count rises by at most one
pub record OneMore (before now : ℕ) : Type 0 where
  pub later : before ≤ now
  pub most : now ≤ before + 1

-- what each call above a source keeps
pub record KeepsSource {S : Type 0} (bytes attached : S → Option (List ℕ)) (faults reads : S → ℕ) (old new : S) : Type 0 where
  pub told : bytes new ≡ bytes old
  pub name : attached new ≡ attached old
  pub faults_later : faults old ≤ faults new
  pub reads_later : reads old ≤ reads new

-- what each call that puts bytes into a sink keeps: the name, and that it is not finished by it
pub record KeepsSink {R : Type 0} (created : R → Option (List ℕ)) (finished : R → Bool) (faults : R → ℕ) (old new : R) : Type 0 where
  pub name : created new ≡ created old
  pub unfinished : (finished new ≡ false) ⊎ (finished new ≡ finished old)
  pub faults_later : faults old ≤ faults new

-- `count` bytes were read to the front of `to`: all that stand from `at` on, as far as there is room
pub record ReadsAt (bytes : List ℕ) (at count : ℕ) (to : List ℕ) : Type 0 where
  pub count_is : count ≡ min (length to) (length bytes - at)
  pub front : take count to ≡ take count (drop at bytes)

-- a sink that tells its bytes holds what it held and then the piece; one that does not goes on so
abbrev pub Gains : Option (List ℕ) → Option (List ℕ) → List ℕ → Type 0
Gains None new piece = new ≡ None
Gains (Some old) new piece = new ≡ Some (old ++ piece)

-- the same with the first bytes of the text, however many
abbrev pub GainsPrefix : Option (List ℕ) → Option (List ℕ) → List ℕ → Type 0
GainsPrefix old new text = (n : ℕ) × Gains old new (take n text)

-- a text is written: all of it, or a front and an error, only where the count of faults rose
pub record Writes {T E : Type 0} (old new : Option (List ℕ)) (before now : ℕ) (text : List ℕ) (result : Result T E) : Type 0 where
  pub later : before ≤ now
  pub ok : OnOk result (Gains old new text)
  pub err : OnErr result (GainsPrefix old new text)
  pub failed : OnErr result (Rose before now)
  pub steady : OnOk result (now ≡ before)

-- the same where one of several errors is the sink's
pub record WritesOf {T E : Type 0} (fault : E) (old new : Option (List ℕ)) (before now : ℕ) (text : List ℕ) (result : Result T E) : Type 0 where
  pub later : before ≤ now
  pub ok : OnOk result (Gains old new text)
  pub err : OnErr result (GainsPrefix old new text)
  pub failed : IsErrOf result fault → Rose before now
  pub steady : IsErrOf result fault ⊎ (now ≡ before)
