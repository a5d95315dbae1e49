-- From a pass over all words to what it tells.
use Rattle.std.proofs.Common.{◌≡◌, refl, sym, ap, ◌∙◌, subst, arith, ℕ, zero, suc, ◌+◌, ◌-◌, ◌^◌, ◌<◌, ◌≤◌, ◌==◌, true, false, Bool, if◌then◌else◌, Ok, Err, List, [], ◌∷◌, ◌++◌, length, length-drop, drop, map}
use Rattle.std.proofs.Math.ListN.{drop_of_length-le}
use Rattle.std.proofs.lemmas.List.{length-map}
use Rattle.create_grammar.specs.declared.pass.Pass.{Pass}
use Rattle.create_grammar.specs.declared.pass.Stop.{Stop}
use Rattle.create_grammar.specs.declared.pass.Stop.TheVariants.{Form, Memory}
use Rattle.create_grammar.specs.declared.reading.GrammarFault.{GrammarFault}
use Rattle.create_grammar.specs.declared.reading.GrammarFault.TheVariants as fault
use Rattle.create_grammar.specs.declared.reading.Said.{Said}
use Rattle.create_grammar.specs.declared.roles.Role.{Role}
use Rattle.create_grammar.specs.declared.sorts.Sort.{Sort}
use Rattle.create_grammar.specs.declared.spans.Word.{Word}
use Rattle.create_grammar.specs.Grammar.{table}
use Rattle.create_grammar.specs.Pass.{rest_of, labels_of, Did, Reads}
use Rattle.create_grammar.specs.Roles.{role_code}
use Rattle.create_grammar.specs.Said.{HaveRoles, IsSaid, IsSmall, RolesBy, SaidBy, fault_of, is_virtual}
use Rattle.create_grammar.specs.Sorts.{code, sort_of, sorts_of}
use Rattle.create_grammar.specs.Words.{gap_len, front_word, word_from, words_from, words_of}
use Rattle.word_grammar.specs.Form.{Labelled, IsFormAt, roles, sorts}
use Rattle.word_grammar.specs.Law.{Verdict}
use Rattle.word_grammar.specs.Reading.{Reading, took, fails, reads}
use Rattle.word_grammar.proofs.Verdicts.{is_verdict}

no_rest : (p : Pass) → length p.sorts.now ≤ p.at → rest_of p ≡ []
no_rest p h = ap (map code) (drop_of_length-le p.sorts.now h)

some_rest : (p : Pass) → p.at < length p.sorts.now → rest_of p ≡ [] → ⊥
some_rest p h e =
    let len : length (rest_of p) ≡ length p.sorts.now - p.at = length-map (drop p.at p.sorts.now) code ∙ length-drop p.at p.sorts.now in
    let none : length (rest_of p) ≡ 0 = ap length e in
    omega (arith, len, none, h)

-- all words were read
whole : (ws : List ℕ) (old new : Pass) (x : Unit {0}) (r : Reading) → Verdict table ws r → Did r old new (Ok x)
    → labels_of old ≡ [] → rest_of new ≡ [] → HaveRoles ws new.roles.items
whole ws old new x (took ls []) v d l e = record {
  text = ls;
  derives = v.derives;
  words = v.words;
  roles_are = d.labelled ∙ ap (λ z. z ++ roles ls) l;
}
whole ws old new x (took ls (w ∷ rest)) v d l e =
    let both : w ∷ rest ≡ [] = sym d.left ∙ e in
    let wrong : ⊥ = cc in
    absurd wrong
whole ws old new x (fails n) v d l e = absurd d

pub all_read : (ws : List ℕ) (old new : Pass) (x : Unit {0}) → Reads table old new (Ok x) → rest_of old ≡ ws
    → labels_of old ≡ [] → length new.sorts.now ≤ new.at → HaveRoles ws new.roles.items
all_read ws old new x d e l h = whole ws old new x (reads table ws) (is_verdict table ws refl)
    (subst (λ z. Did (reads table z) old new (Ok x)) e d) l (no_rest new h)

-- words are left
front : (ws : List ℕ) (old new : Pass) (x : Unit {0}) (r : Reading) → Verdict table ws r → Did r old new (Ok x)
    → old.at ≡ 0 → (rest_of new ≡ [] → ⊥) → IsFormAt table ws new.at
front ws old new x (took ls []) v d z e = absurd (e d.left)
front ws old new x (took ls (w ∷ rest)) v d z e =
    let at : length ls ≡ new.at = (let first = d.at in omega (arith, first, z)) in
    subst (IsFormAt table ws) at v
front ws old new x (fails n) v d z e = absurd d

pub words_left : (ws : List ℕ) (old new : Pass) (x : Unit {0}) → Reads table old new (Ok x) → rest_of old ≡ ws
    → old.at ≡ 0 → new.at < length new.sorts.now → IsFormAt table ws new.at
words_left ws old new x d e z h = front ws old new x (reads table ws) (is_verdict table ws refl)
    (subst (λ t. Did (reads table t) old new (Ok x)) e d) z (some_rest new h)

-- a word did not go on
stopped : (ws : List ℕ) (old new : Pass) (stop : Stop) (r : Reading) → Verdict table ws r → Did r old new (Err stop)
    → old.at ≡ 0 → RolesBy ws (Err (fault_of stop))
stopped ws old new Memory r v d z = tt
stopped ws old new (Form at) (took ls rest) v d z = absurd d
stopped ws old new (Form at) (fails n) v d z =
    let same : n ≡ at = omega (arith, d, z) in
    subst (IsFormAt table ws) same v

pub stops_by : (ws : List ℕ) (old new : Pass) (stop : Stop) → Reads table old new (Err stop) → rest_of old ≡ ws
    → old.at ≡ 0 → RolesBy ws (Err (fault_of stop))
stops_by ws old new stop d e z = stopped ws old new stop (reads table ws) (is_verdict table ws refl)
    (subst (λ t. Did (reads table t) old new (Err stop)) e d) z

pub small : (ws : List ℕ) (stop : Stop) → length ws < 2 ^ 32 → RolesBy ws (Err (fault_of stop)) → IsSmall stop
small ws Memory h f = tt
small ws (Form at) h f = (let within = f.within in omega (arith, within, h))

-- there are at most as many words as bytes
few_words : (n at : ℕ) (bytes : List ℕ) → length (words_from n at bytes) ≤ n
few_words zero at bytes = omega arith
few_words (suc n) at [] = omega arith
few_words (suc n) at (b ∷ bytes) =
    let gap = gap_len (b ∷ bytes) in
    let len = (front_word (b ∷ bytes)).len in
    by_gap (gap == 0) n (word_from at (front_word (b ∷ bytes)))
    (words_from n (at + len) (drop len (b ∷ bytes))) (words_from n (at + gap) (drop gap (b ∷ bytes)))
    (few_words n (at + len) (drop len (b ∷ bytes))) (few_words n (at + gap) (drop gap (b ∷ bytes)))
  where
    by_gap : (t : Bool) (n : ℕ) (w : Word) (xs ys : List Word) → length xs ≤ n → length ys ≤ n → length (if t then w ∷ xs else ys) ≤ suc n
    by_gap true n w xs ys h g = omega (arith, h)
    by_gap false n w xs ys h g = omega (arith, g)

pub words_few : (sql : List ℕ) → length (words_of sql) ≤ length sql
words_few sql = few_words (length sql) 0 sql

-- ---- words, sorts and roles of a text

length_labels : (ls : Labelled) → length (roles ls) ≡ length (sorts ls)
length_labels [] = refl
length_labels (l ∷ ls) = ap suc (length_labels ls)

map_codes : (sql : List ℕ) (ws : List Word) → length (map (λ w. code (sort_of sql w)) ws) ≡ length ws
map_codes sql ws = length-map ws (λ w. code (sort_of sql w))

pub few_sorts : (sql : List ℕ) (found : List Sort) → map code found ≡ sorts_of sql → length found ≤ length sql
few_sorts sql found e =
    let one = length-map found code in
    let two : length (map code found) ≡ length (sorts_of sql) = ap length e in
    let three = map_codes sql (words_of sql) in
    let four = words_few sql in
    omega (arith, one, two, three, four)

pub as_many : (sql : List ℕ) (ws : List Word) (ss : List ℕ) (found : List Role) → ws ≡ words_of sql → ss ≡ sorts_of sql
    → HaveRoles ss found → length ws ≡ length found
as_many sql ws ss found w e h =
    let one : length ws ≡ length (words_of sql) = ap length w in
    let two = map_codes sql (words_of sql) in
    let three : length ss ≡ length (sorts_of sql) = ap length e in
    let four : length ss ≡ length (sorts h.text) = ap length h.words in
    let five = length_labels h.text in
    let six : length (map role_code found) ≡ length (roles h.text) = ap length h.roles_are in
    let seven = length-map found role_code in
    omega (arith, one, two, three, four, five, six, seven)

map_twice : (said : List Said) → map role_code (map (λ s. s.role) said) ≡ map (λ s. role_code s.role) said
map_twice [] = refl
map_twice (s ∷ said) = ap (λ z. role_code s.role ∷ z) (map_twice said)

pub is_said : (sql : List ℕ) (ss : List ℕ) (found : List Role) (ws : List Word) (said : List Said) → ws ≡ words_of sql
    → ss ≡ sorts_of sql → HaveRoles ss found → map (λ s. s.word) said ≡ ws → map (λ s. s.role) said ≡ found → IsSaid sql said
is_said sql ss found ws said w e h words roles = record {
  text = h.text;
  derives = h.derives;
  words = sym e ∙ h.words;
  words_are = words ∙ w;
  roles_are = sym (map_twice said) ∙ (ap (map role_code) roles ∙ h.roles_are);
}

pub fault_said : (sql ss : List ℕ) (why : GrammarFault) → ss ≡ sorts_of sql → is_virtual sql ≡ false
    → RolesBy ss (Err why) → SaidBy sql (Err why)
fault_said sql ss fault.Virtual e v h = absurd h
fault_said sql ss (fault.Form at) e v h = (v, subst (λ (z : List ℕ). IsFormAt table z at) e h)
fault_said sql ss fault.Memory e v h = tt
