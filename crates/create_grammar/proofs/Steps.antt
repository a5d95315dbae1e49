-- The steps of a pass, one after another.
use Rattle.std.proofs.Common.{◌≡◌, refl, sym, ap, ◌∙◌, subst, arith, ℕ, suc, ◌+◌, ◌<◌, ◌≤◌, false, Result, Ok, Err, List, [], ◌∷◌, ◌++◌, append_assoc, append-nil, add-zero, add-one, length, length-append, drop, drop-cons, get_or, map, nat_eq}
use Rattle.std.proofs.lemmas.List.{drop-drop, map-append}
use Rattle.create_grammar.specs.declared.pass.Pass.{Pass}
use Rattle.create_grammar.specs.declared.pass.Stop.{Stop}
use Rattle.create_grammar.specs.declared.roles.Role.{Role}
use Rattle.create_grammar.specs.declared.sorts.Sort.{Sort}
use Rattle.create_grammar.specs.Roles.{role_code}
use Rattle.create_grammar.specs.Sorts.{code}
use Rattle.create_grammar.specs.declared.pass.Stop.TheVariants.{Form, Memory}
use Rattle.create_grammar.specs.Pass.{rest_of, labels_of, Went, StopsOut, Did, Goes}
use Rattle.word_grammar.specs.Form.{Labelled, roles, bad, depth_behind}
use Rattle.word_grammar.specs.Reading.{Reading, took, fails, with_front, and_then, reads_inside}

roles_append : (a b : Labelled) → roles (a ++ b) ≡ roles a ++ roles b
roles_append [] b = refl
roles_append (l ∷ a) b = ap (λ z. l.0 ∷ z) (roles_append a b)

-- memory that ran out is an answer to every reading
pub out : (r : Reading) (old new : Pass) (e : Stop) → StopsOut e → Did r old new (Err e)
out (took ls rest) old new e h = h
out (fails n) old new (Form at) h = absurd h
out (fails n) old new Memory h = tt

-- nothing was read
pub stays : (p : Pass) → Went p p [] (rest_of p)
stays p = record { at = sym (add-zero p.at); left = refl; labelled = sym (append-nil (labels_of p)) }

-- further words behind some
behind : (ls : Labelled) (rest : List ℕ) (q : Reading) (old mid new : Pass) (result : Result (Unit {0}) Stop)
    → Went old mid ls rest → Did q mid new result → Did (with_front ls q) old new result
behind ls rest (took ms left) old mid new (Ok x) w d = record {
  at = (let first = w.at in let later = d.at in let len = length-append ls ms in omega (arith, first, later, len));
  left = d.left;
  labelled = d.labelled ∙ (ap (λ z. z ++ roles ms) w.labelled
      ∙ (append_assoc (labels_of old) (roles ls) (roles ms) ∙ ap (λ z. labels_of old ++ z) (sym (roles_append ls ms))));
}
behind ls rest (took ms left) old mid new (Err e) w d = d
behind ls rest (fails n) old mid new (Ok x) w d = d
behind ls rest (fails n) old mid new (Err (Form at)) w d = (let first = w.at in omega (arith, first, d))
behind ls rest (fails n) old mid new (Err Memory) w d = tt

-- a step that went on, and what came next
pub step : (r : Reading) (next : List ℕ → Reading) (old mid new : Pass) (x : Unit {0}) (result : Result (Unit {0}) Stop)
    → Did r old mid (Ok x) → Did (next (rest_of mid)) mid new result → Did (and_then r next) old new result
step (took ls rest) next old mid new x result w d =
    behind ls rest (next rest) old mid new result w (subst (λ (z : List ℕ). Did (next z) mid new result) w.left d)
step (fails n) next old mid new x result w d = absurd w

-- a step that stopped
pub cut : (r : Reading) (next : List ℕ → Reading) (old new : Pass) (e : Stop)
    → Did r old new (Err e) → Did (and_then r next) old new (Err e)
cut (took ls rest) next old new e d = out (with_front ls (next rest)) old new e d
cut (fails n) next old new e d = d

-- ---- one word

-- the sorts that are left, and the first of them
pub next_sort : (xs : List Sort) (i : ℕ) (d : Sort) → i < length xs
    → map code (drop i xs) ≡ code (get_or xs i d) ∷ map code (drop (i + 1) xs)
next_sort xs i d h = rw (add-one, drop-cons xs i d) refl

tail_of : (ys : List Sort) (w : ℕ) (ws : List ℕ) → map code ys ≡ w ∷ ws → map code (drop 1 ys) ≡ ws
tail_of [] w ws e = let wrong : ⊥ = cc in absurd wrong
tail_of (y ∷ ys) w ws e = cc

-- a word was taken
pub took_one : (old new : Pass) (role : Role) (w : ℕ) (ws : List ℕ) → rest_of old ≡ w ∷ ws → new.at ≡ old.at + 1
    → new.sorts.now ≡ old.sorts.now → new.roles.items ≡ old.roles.items ++ role ∷ []
    → Went old new ((role_code role, w) ∷ []) ws
took_one old new role w ws e at same roles = record {
  at = at;
  left = (λ i. map code (drop (at i) (same i))) ∙ (ap (map code) (sym (drop-drop 1 old.at old.sorts.now))
      ∙ tail_of (drop old.at old.sorts.now) w ws e);
  labelled = ap (map role_code) roles ∙ map-append role_code old.roles.items (role ∷ []);
}

-- ---- the rest of a group

pub goes_on : (old mid : Pass) (depth d deeper w : ℕ) (ws : List ℕ) → rest_of old ≡ w ∷ ws → nat_eq w bad ≡ false
    → Went old mid ((0, w) ∷ []) ws → depth ≡ suc d → deeper ≡ depth_behind d w → Goes depth old mid (Ok deeper)
goes_on old mid depth d deeper w ws e fine went above is = λ new result h.
    let further : Did (reads_inside (depth_behind d w) ws) mid new result =
    subst (λ z. Did (reads_inside z ws) mid new result) is (subst (λ z. Did (reads_inside deeper z) mid new result) went.left h) in
    subst (λ z. Did (reads_inside z (rest_of old)) old new result) (sym above)
    (subst (λ z. Did (reads_inside (suc d) z) old new result) (sym e)
    (rw fine (behind ((0, w) ∷ []) ws (reads_inside (depth_behind d w) ws) old mid new result went further)))

pub goes_out : (old new : Pass) (depth : ℕ) (e : Stop) → StopsOut e → Goes depth old new (Err e)
goes_out old new depth e h = out (reads_inside depth (rest_of old)) old new e h

-- what a loop over the words of a group keeps
pub record Kept (old mid : Pass) (depth turn end : ℕ) : Type 0 where
  pub some : 0 < depth
  pub small : depth ≤ turn
  pub place : mid.at ≡ turn
  pub words : length mid.sorts.now ≡ end
  pub goes : Goes 1 old mid (Ok depth)
