-- What one call after another keeps, and the counts over both.
use Rattle.std.proofs.Common.{◌≡◌, ◌≤◌, ◌⊎◌, inl, inr, ◌∙◌, ℕ, List, Option, Bool, false, Ok, IsErrOf, refl, arith}
use Rattle.page_access.specs.Outside.{Rose, KeepsSource, KeepsSink}

-- a count that rose, and did not fall before or after
pub Rose-longer : {f g h k : ℕ} → f ≤ g → Rose g h → h ≤ k → Rose f k
Rose-longer before rose after = omega arith

pub KeepsSource-refl : {S : Type 0} (bytes attached : S → Option (List ℕ)) (faults reads : S → ℕ) (src : S) → KeepsSource bytes attached faults reads src src
KeepsSource-refl bytes attached faults reads src = record { told = refl; name = refl; faults_later = omega arith; reads_later = omega arith }

pub KeepsSource-trans : {S : Type 0} {bytes attached : S → Option (List ℕ)} {faults reads : S → ℕ} {a b c : S} →
    KeepsSource bytes attached faults reads a b → KeepsSource bytes attached faults reads b c → KeepsSource bytes attached faults reads a c
KeepsSource-trans first next = record {
  told = next.told ∙ first.told;
  name = next.name ∙ first.name;
  faults_later = omega (arith, first.faults_later, next.faults_later);
  reads_later = omega (arith, first.reads_later, next.reads_later);
}

-- what calls above a source keep as long as none of its calls failed: the count of faults too
pub record Passed {S : Type 0} (bytes attached : S → Option (List ℕ)) (faults reads : S → ℕ) (old new : S) : Type 0 where
  pub told : bytes new ≡ bytes old
  pub name : attached new ≡ attached old
  pub steady : faults new ≡ faults old
  pub reads_later : reads old ≤ reads new

pub passed_none : {S : Type 0} (bytes attached : S → Option (List ℕ)) (faults reads : S → ℕ) (src : S) → Passed bytes attached faults reads src src
passed_none bytes attached faults reads src = record { told = refl; name = refl; steady = refl; reads_later = omega arith }

pub passed_more : {S : Type 0} {bytes attached : S → Option (List ℕ)} {faults reads : S → ℕ} {a b c : S} →
    Passed bytes attached faults reads a b → KeepsSource bytes attached faults reads b c → faults c ≡ faults b → Passed bytes attached faults reads a c
passed_more first next steady = record {
  told = next.told ∙ first.told;
  name = next.name ∙ first.name;
  steady = steady ∙ first.steady;
  reads_later = omega (arith, first.reads_later, next.reads_later);
}

-- an answer without an error leaves the count
pub not_failed : {T E : Type 0} {x : T} {fault : E} {P : Type 0} → (IsErrOf {T = T} (Ok x) fault ⊎ P) → P
not_failed (inl of) = absurd cc
not_failed (inr same) = same

pub KeepsSink-refl : {R : Type 0} (created : R → Option (List ℕ)) (finished : R → Bool) (faults : R → ℕ) (out : R) → KeepsSink created finished faults out out
KeepsSink-refl created finished faults out = record { name = refl; unfinished = inr refl; faults_later = omega arith }

pub KeepsSink-trans : {R : Type 0} {created : R → Option (List ℕ)} {finished : R → Bool} {faults : R → ℕ} {a b c : R} →
    KeepsSink created finished faults a b → KeepsSink created finished faults b c → KeepsSink created finished faults a c
KeepsSink-trans {finished = finished} {a = a} {b = b} {c = c} first next = record {
  name = next.name ∙ first.name;
  unfinished = after first.unfinished next.unfinished;
  faults_later = omega (arith, first.faults_later, next.faults_later);
} where
  after : (finished b ≡ false) ⊎ (finished b ≡ finished a) → (finished c ≡ false) ⊎ (finished c ≡ finished b) → (finished c ≡ false) ⊎ (finished c ≡ finished a)
  after before (inl put) = inl put
  after (inl put) (inr same) = inl (same ∙ put)
  after (inr was) (inr same) = inr (same ∙ was)
