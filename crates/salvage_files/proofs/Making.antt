-- A file that is made: its calls that put nothing, and the exits behind a call that failed.
use Rattle.std.proofs.Common.{◌≡◌, ◌<◌, ◌∙◌, ℕ, ◌+◌, Bool, false, List, [], ◌++◌, drop, get_or, length, Option, Some, Result, Ok, Err, IsErr, OnErr, OnOk, true, ap, sym, subst, inl, ◌⊎◌}
use Rattle.std.specs.List.{flat_map}
use Rattle.std.proofs.lemmas.List.{drop_more}
use Rattle.page_access.specs.Outside.{Gains, HasCause, Writes}
use Rattle.page_access.proofs.Gains.{Gains-nothing, WroteFront, front_last}
use Rattle.salvage_files.specs.Files.{Finishes, Makes}

-- a call that leaves the bytes puts nothing
pub quiet : {T E : Type 0} {r : Result T E} {o p : Option (List ℕ)} {f g : ℕ} → p ≡ o → HasCause f g r → Writes o p f g [] r
quiet {r = Ok x} {o} {p} e c = record {
  later = c.later;
  ok = subst (λ t. Gains o t []) (sym e) (Gains-nothing o);
  err = tt;
  failed = tt;
  steady = c.steady;
}
quiet {r = Err x} {o} {p} e c = record {
  later = c.later;
  ok = tt;
  err = (0, subst (λ t. Gains o t []) (sym e) (Gains-nothing o));
  failed = c.failed;
  steady = tt;
}

-- the exit behind a call that failed, of a sink that was created
pub made_cut : {R T E : Type 0} {bytes created : R → Option (List ℕ)} {finished : R → Bool} {faults : R → ℕ} {name text : List ℕ} {old new : R} {r : Result T E} →
    IsErr r → Writes (bytes old) (bytes new) (faults old) (faults new) text r → finished new ≡ false → Makes bytes created finished faults name text old new r
made_cut {r = Ok x} is w e = absurd cc
made_cut {r = Err x} is w e = record { writes = w; created_as = tt; done = tt; unfinished = e }

-- the same of one that was not
pub finished_cut : {R T E : Type 0} {bytes created : R → Option (List ℕ)} {finished : R → Bool} {faults : R → ℕ} {text : List ℕ} {old new : R} {r : Result T E} →
    IsErr r → Writes (bytes old) (bytes new) (faults old) (faults new) text r → created new ≡ created old
    → (finished new ≡ false) ⊎ (finished new ≡ finished old) → Finishes bytes created finished faults text old new r
finished_cut {r = Ok x} is w same e = absurd cc
finished_cut {r = Err x} is w same e = record { writes = w; name = same; done = tt; unfinished = e }

-- the text of items from number i on
pub flat_more : {A : Type 0} (text : A → List ℕ) (i : ℕ) (items : List A) (a : A) → a ≡ get_or items i a → i < length items →
    flat_map text (drop i items) ≡ text a ++ flat_map text (drop (i + 1) items)
flat_more text i items a is lt =
    ap (flat_map text) (drop_more items i a lt) ∙ ap (λ b. text b ++ flat_map text (drop (i + 1) items)) (sym is)

-- the last call finishes a sink that gained all
pub made_last : {R T E : Type 0} {bytes created : R → Option (List ℕ)} {finished : R → Bool} {faults : R → ℕ} {name text : List ℕ} {old new : R} {r : Result T E}
    {p : Option (List ℕ)} {g : ℕ} → WroteFront (bytes old) p (faults old) g [] text → bytes new ≡ p → HasCause g (faults new) r
    → created new ≡ Some name → OnOk r (finished new ≡ true) → OnErr r (finished new ≡ false) → Makes bytes created finished faults name text old new r
made_last {r = Ok x} w e c n done un = record { writes = front_last w (quiet e c); created_as = n; done = done; unfinished = tt }
made_last {r = Err x} w e c n done un = record { writes = front_last w (quiet e c); created_as = tt; done = tt; unfinished = un }

pub finished_last : {R T E : Type 0} {bytes created : R → Option (List ℕ)} {finished : R → Bool} {faults : R → ℕ} {text : List ℕ} {old new : R} {r : Result T E}
    {p : Option (List ℕ)} {g : ℕ} → WroteFront (bytes old) p (faults old) g [] text → bytes new ≡ p → HasCause g (faults new) r
    → created new ≡ created old → OnOk r (finished new ≡ true) → OnErr r (finished new ≡ false) → Finishes bytes created finished faults text old new r
finished_last {r = Ok x} w e c n done un = record { writes = front_last w (quiet e c); name = n; done = done; unfinished = tt }
finished_last {r = Err x} w e c n done un = record { writes = front_last w (quiet e c); name = n; done = tt; unfinished = inl un }
