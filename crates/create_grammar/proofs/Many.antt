-- Loops of a pass: a form that comes any number of times.
use Rattle.std.proofs.Common.{◌≡◌, refl, sym, ◌∙◌, subst, arith, ℕ, suc, ◌+◌, ◌-◌, ◌<◌, true, false, if◌then◌else◌, Result, Ok, Err, List, [], length, length-drop, drop}
use Rattle.std.proofs.lemmas.List.{length-map}
use Rattle.create_grammar.specs.declared.pass.Pass.{Pass}
use Rattle.create_grammar.specs.declared.pass.Stop.{Stop}
use Rattle.create_grammar.specs.Pass.{rest_of, Did, Reads}
use Rattle.create_grammar.specs.Sorts.{code}
use Rattle.word_grammar.specs.Form.{Form, word, follow, many, runs}
use Rattle.word_grammar.specs.Reading.{Reading, and_then, next_in, firsts, reads, reads_word, reads_many, reads_runs, reads_later, Parts}
use Rattle.create_grammar.proofs.Steps.{stays, step, cut}

length_rest : (p : Pass) → length (rest_of p) ≡ length p.sorts.now - p.at
length_rest p = length-map (drop p.at p.sorts.now) code ∙ length-drop p.at p.sorts.now

-- the turns that are left
fuel : (turn end : ℕ) → turn < end → end - turn ≡ suc (end - (turn + 1))
fuel turn end h = omega (arith, h)

-- what completes the form from here, with n more of it at most, completes the whole
pub record Rest (f : Form) (n : ℕ) (old mid : Pass) : Type 0 where
  pub more : (new : Pass) (result : Result (Unit {0}) Stop)
      → Did (reads_many n (reads f) (firsts f []) (rest_of mid)) mid new result → Reads (many f) old new result

pub many_start : (f : Form) (p : Pass) → Rest f (length p.sorts.now - p.at) p p
many_start f p = record {
  more = λ new result d. subst (λ n. Did (reads_many n (reads f) (firsts f []) (rest_of p)) p new result) (sym (length_rest p)) d;
}

pub many_more : (f : Form) (turn end : ℕ) (old mid new : Pass) (x : Unit {0}) → turn < end → Rest f (end - turn) old mid
    → next_in (firsts f []) (rest_of mid) ≡ true → Reads f mid new (Ok x) → Rest f (end - (turn + 1)) old new
many_more f turn end old mid new x e k go d = record {
  more = λ last result h. k.more last result
      (subst (λ z. Did (reads_many z (reads f) (firsts f []) (rest_of mid)) mid last result) (sym (fuel turn end e))
      (rw go (step (reads f (rest_of mid)) (reads_many (end - (turn + 1)) (reads f) (firsts f [])) mid new last x result d h)));
}

pub many_out : (f : Form) (turn end : ℕ) (old mid new : Pass) (stop : Stop) → turn < end → Rest f (end - turn) old mid
    → next_in (firsts f []) (rest_of mid) ≡ true → Reads f mid new (Err stop) → Reads (many f) old new (Err stop)
many_out f turn end old mid new stop e k go d = k.more new (Err stop)
    (subst (λ z. Did (reads_many z (reads f) (firsts f []) (rest_of mid)) mid new (Err stop)) (sym (fuel turn end e))
    (rw go (cut (reads f (rest_of mid)) (reads_many (end - (turn + 1)) (reads f) (firsts f [])) mid new stop d)))

pub many_end : (f : Form) (turn end : ℕ) (old mid : Pass) → turn < end → Rest f (end - turn) old mid
    → next_in (firsts f []) (rest_of mid) ≡ false → Reads (many f) old mid (Ok tt)
many_end f turn end old mid e k stops = k.more mid (Ok tt)
    (subst (λ z. Did (reads_many z (reads f) (firsts f []) (rest_of mid)) mid mid (Ok tt)) (sym (fuel turn end e)) (rw stops (stays mid)))

pub many_last : (f : Form) (n : ℕ) (old mid : Pass) → n ≡ 0 → Rest f n old mid → Reads (many f) old mid (Ok tt)
many_last f n old mid e k = k.more mid (Ok tt)
    (subst (λ z. Did (reads_many z (reads f) (firsts f []) (rest_of mid)) mid mid (Ok tt)) (sym e) (stays mid))

-- ---- the one form again and again, and then the other

abbrev pub parts_of : Form → Form → Parts
parts_of f g = record { first = reads f; first_sorts = firsts f []; later = reads g }

pub record RunsRest (role : ℕ) (class : List ℕ) (f g : Form) (n : ℕ) (old mid : Pass) : Type 0 where
  pub more : (new : Pass) (result : Result (Unit {0}) Stop)
      → Did (reads_runs n role class (parts_of f g) (rest_of mid)) mid new result → Reads (runs role class f g) old new result

pub runs_start : (role : ℕ) (class : List ℕ) (f g : Form) (p : Pass) → RunsRest role class f g (length p.sorts.now - p.at) p p
runs_start role class f g p = record {
  more = λ new result d. subst (λ n. Did (reads_runs n role class (parts_of f g) (rest_of p)) p new result) (sym (length_rest p)) d;
}

-- the separating word was read, and what comes behind it completes the whole
behind_word : (role : ℕ) (class : List ℕ) (f g : Form) (turn end : ℕ) (old mid next new : Pass) (x : Unit {0})
    (result : Result (Unit {0}) Stop) (r : Reading) → turn < end → RunsRest role class f g (end - turn) old mid
    → next_in class (rest_of mid) ≡ true → Reads (word role class) mid next (Ok x)
    → (if next_in (firsts f []) (rest_of next)
    then and_then (reads f (rest_of next)) (reads_runs (end - (turn + 1)) role class (parts_of f g))
    else and_then (reads g (rest_of next)) (reads_later role class (parts_of f g))) ≡ r
    → Did r next new result → Reads (runs role class f g) old new result
behind_word role class f g turn end old mid next new x result r e k go d is h = k.more new result
    (subst (λ z. Did (reads_runs z role class (parts_of f g) (rest_of mid)) mid new result) (sym (fuel turn end e))
    (rw go (step (reads_word role class (rest_of mid))
    (λ xs. if next_in (firsts f []) xs
    then and_then (reads f xs) (reads_runs (end - (turn + 1)) role class (parts_of f g))
    else and_then (reads g xs) (reads_later role class (parts_of f g)))
    mid next new x result d (subst (λ z. Did z next new result) (sym is) h))))

pub runs_more : (role : ℕ) (class : List ℕ) (f g : Form) (turn end : ℕ) (old mid next new : Pass) (x y : Unit {0})
    → turn < end → RunsRest role class f g (end - turn) old mid → next_in class (rest_of mid) ≡ true
    → Reads (word role class) mid next (Ok x) → next_in (firsts f []) (rest_of next) ≡ true
    → Reads f next new (Ok y) → RunsRest role class f g (end - (turn + 1)) old new
runs_more role class f g turn end old mid next new x y e k go d test h = record {
  more = λ last result s. behind_word role class f g turn end old mid next last x result
      (and_then (reads f (rest_of next)) (reads_runs (end - (turn + 1)) role class (parts_of f g))) e k go d (rw test refl)
      (step (reads f (rest_of next)) (reads_runs (end - (turn + 1)) role class (parts_of f g)) next new last y result h s);
}

-- a first part stopped
pub runs_out : (role : ℕ) (class : List ℕ) (f g : Form) (turn end : ℕ) (old mid next new : Pass) (x : Unit {0}) (stop : Stop)
    → turn < end → RunsRest role class f g (end - turn) old mid → next_in class (rest_of mid) ≡ true
    → Reads (word role class) mid next (Ok x) → next_in (firsts f []) (rest_of next) ≡ true
    → Reads f next new (Err stop) → Reads (runs role class f g) old new (Err stop)
runs_out role class f g turn end old mid next new x stop e k go d test h =
    behind_word role class f g turn end old mid next new x (Err stop)
    (and_then (reads f (rest_of next)) (reads_runs (end - (turn + 1)) role class (parts_of f g))) e k go d (rw test refl)
    (cut (reads f (rest_of next)) (reads_runs (end - (turn + 1)) role class (parts_of f g)) next new stop h)

-- the later parts were read
pub runs_later : (role : ℕ) (class : List ℕ) (f g : Form) (turn end : ℕ) (old mid next new : Pass) (x : Unit {0})
    (result : Result (Unit {0}) Stop) → turn < end → RunsRest role class f g (end - turn) old mid
    → next_in class (rest_of mid) ≡ true → Reads (word role class) mid next (Ok x)
    → next_in (firsts f []) (rest_of next) ≡ false
    → Reads (follow g (many (follow (word role class) g))) next new result → Reads (runs role class f g) old new result
runs_later role class f g turn end old mid next new x result e k go d test h =
    behind_word role class f g turn end old mid next new x result
    (and_then (reads g (rest_of next)) (reads_later role class (parts_of f g))) e k go d (rw test refl) h

-- the separating word was not read
pub runs_cut : (role : ℕ) (class : List ℕ) (f g : Form) (turn end : ℕ) (old mid new : Pass) (stop : Stop) → turn < end
    → RunsRest role class f g (end - turn) old mid → next_in class (rest_of mid) ≡ true
    → Reads (word role class) mid new (Err stop) → Reads (runs role class f g) old new (Err stop)
runs_cut role class f g turn end old mid new stop e k go d = k.more new (Err stop)
    (subst (λ z. Did (reads_runs z role class (parts_of f g) (rest_of mid)) mid new (Err stop)) (sym (fuel turn end e))
    (rw go (cut (reads_word role class (rest_of mid))
    (λ xs. if next_in (firsts f []) xs
    then and_then (reads f xs) (reads_runs (end - (turn + 1)) role class (parts_of f g))
    else and_then (reads g xs) (reads_later role class (parts_of f g))) mid new stop d)))

pub runs_end : (role : ℕ) (class : List ℕ) (f g : Form) (turn end : ℕ) (old mid : Pass) → turn < end
    → RunsRest role class f g (end - turn) old mid → next_in class (rest_of mid) ≡ false → Reads (runs role class f g) old mid (Ok tt)
runs_end role class f g turn end old mid e k stops = k.more mid (Ok tt)
    (subst (λ z. Did (reads_runs z role class (parts_of f g) (rest_of mid)) mid mid (Ok tt)) (sym (fuel turn end e)) (rw stops (stays mid)))

pub runs_last : (role : ℕ) (class : List ℕ) (f g : Form) (n : ℕ) (old mid : Pass) → n ≡ 0
    → RunsRest role class f g n old mid → Reads (runs role class f g) old mid (Ok tt)
runs_last role class f g n old mid e k = k.more mid (Ok tt)
    (subst (λ z. Did (reads_runs z role class (parts_of f g) (rest_of mid)) mid mid (Ok tt)) (sym e) (stays mid))
