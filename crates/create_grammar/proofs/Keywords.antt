-- A bare word is a keyword of its own length or none.
use Rattle.std.proofs.Common.{◌≡◌, ◌≤◌, ◌<◌, lit<, arith, nat_lt, refl, sym, ap, ◌∙◌, ℕ, zero, suc, ◌==◌, Bool, true, false, cond, if◌then◌else◌, List, [], ◌∷◌, codes, filter, length, map}
use Rattle.std.specs.List.{list_all}
use Rattle.std.specs.Char.{to_ascii_lowercase}
use Rattle.std.proofs.lemmas.Bool.{and_parts, eq-eqb, ltb-true, ne_eqb}
use Rattle.std.proofs.lemmas.List.{length-map}
use Rattle.std.proofs.lemmas.Slice.Eq.{bytes_eq-Decides}
use Rattle.create_grammar.specs.declared.sorts.Sort.{Sort}
use Rattle.create_grammar.specs.declared.sorts.Sort.TheVariants.{Create, Table, Virtual, Without, Rowid, Strict, Constraint, Primary, Key, Unique, Check, Foreign, Not, Null, Default, Collate, References, Generated, Always, As, Stored, Deferrable, Initially, Deferred, Immediate, Asc, Desc, Autoincrement, On, Conflict, Delete, Update, Insert, Set, Cascade, Restrict, No, Action, Match, Bare}
use Rattle.create_grammar.specs.Keywords.{keyword_of, two_letters, three_letters, four_letters, five_letters, six_letters, seven_letters, eight_letters, nine_letters, ten_letters, thirteen_letters}
use Rattle.create_grammar.specs.Sorts.{is_word, keyword_1, keyword_2, keyword_3, keyword_4}

-- the keywords and their sorts
abbrev keywords : List (List ℕ × Sort)
keywords = (codes "CREATE", Create)
    ∷ ((codes "TABLE", Table)
    ∷ ((codes "VIRTUAL", Virtual)
    ∷ ((codes "WITHOUT", Without)
    ∷ ((codes "ROWID", Rowid)
    ∷ ((codes "STRICT", Strict)
    ∷ ((codes "CONSTRAINT", Constraint)
    ∷ ((codes "PRIMARY", Primary)
    ∷ ((codes "KEY", Key)
    ∷ ((codes "UNIQUE", Unique)
    ∷ ((codes "CHECK", Check)
    ∷ ((codes "FOREIGN", Foreign)
    ∷ ((codes "NOT", Not)
    ∷ ((codes "NULL", Null)
    ∷ ((codes "DEFAULT", Default)
    ∷ ((codes "COLLATE", Collate)
    ∷ ((codes "REFERENCES", References)
    ∷ ((codes "GENERATED", Generated)
    ∷ ((codes "ALWAYS", Always)
    ∷ ((codes "AS", As)
    ∷ ((codes "STORED", Stored)
    ∷ ((codes "DEFERRABLE", Deferrable)
    ∷ ((codes "INITIALLY", Initially)
    ∷ ((codes "DEFERRED", Deferred)
    ∷ ((codes "IMMEDIATE", Immediate)
    ∷ ((codes "ASC", Asc)
    ∷ ((codes "DESC", Desc)
    ∷ ((codes "AUTOINCREMENT", Autoincrement)
    ∷ ((codes "ON", On)
    ∷ ((codes "CONFLICT", Conflict)
    ∷ ((codes "DELETE", Delete)
    ∷ ((codes "UPDATE", Update)
    ∷ ((codes "INSERT", Insert)
    ∷ ((codes "SET", Set)
    ∷ ((codes "CASCADE", Cascade)
    ∷ ((codes "RESTRICT", Restrict)
    ∷ ((codes "NO", No)
    ∷ ((codes "ACTION", Action)
    ∷ ((codes "MATCH", Match)
    ∷ []))))))))))))))))))))))))))))))))))))))

-- the sort of the first that the bytes are
abbrev first_of : List ℕ → List (List ℕ × Sort) → Sort
first_of bytes [] = Bare
first_of bytes (k ∷ ks) = if is_word bytes k.0 then k.1 else first_of bytes ks

abbrev of_length : ℕ → List (List ℕ × Sort) → List (List ℕ × Sort)
of_length n = filter (λ (k : List ℕ × Sort). length k.0 == n)

-- a bare word has the length of a keyword that it is
as_long : (bytes word : List ℕ) → is_word bytes word ≡ true → (length word == length bytes) ≡ true
as_long bytes word is = eq-eqb _ _ (sym (sym (length-map bytes to_ascii_lowercase)
    ∙ (ap length ((bytes_eq-Decides (map to_ascii_lowercase bytes) (map to_ascii_lowercase word)).0 is) ∙ length-map word to_ascii_lowercase)))

chosen : (bytes : List ℕ) (k : List ℕ × Sort) (few all : List (List ℕ × Sort)) (t w : Bool) → is_word bytes k.0 ≡ w
    → (w ≡ true → t ≡ true) → first_of bytes few ≡ first_of bytes all
    → first_of bytes (cond t (k ∷ few) few) ≡ first_of bytes (k ∷ all)
chosen bytes k few all true w e h same = ap (λ z. if is_word bytes k.0 then k.1 else z) same
chosen bytes k few all false true e h same = (let other : false ≡ true = h refl in let wrong : ⊥ = cc in absurd wrong)
chosen bytes k few all false false e h same = same ∙ sym (ap (λ z. if z then k.1 else first_of bytes all) e)

-- the keywords of other lengths may be left out
of_its_length : (bytes : List ℕ) (ks : List (List ℕ × Sort)) → first_of bytes (of_length (length bytes) ks) ≡ first_of bytes ks
of_its_length bytes [] = refl
of_its_length bytes (k ∷ ks) = chosen bytes k (of_length (length bytes) ks) ks (length k.0 == length bytes) (is_word bytes k.0) refl
    (as_long bytes k.0) (of_its_length bytes ks)

-- no keyword has 14 letters or more
none : (n : ℕ) (bytes : List ℕ) (ks : List (List ℕ × Sort)) → 14 ≤ n → list_all (λ k. nat_lt (length k.0) 14) ks ≡ true
    → first_of bytes (of_length n ks) ≡ Bare
none n bytes [] h e = refl
none n bytes (k ∷ ks) h e =
    let both = and_parts (nat_lt (length k.0) 14) (list_all (λ k. nat_lt (length k.0) 14) ks) e in
    let below : length k.0 < 14 = ltb-true (length k.0) 14 both.0 in
    let apart : (length k.0 == n) ≡ false = ne_eqb (length k.0) n (λ same. omega (arith, h, below, same)) in
    ap (λ t. first_of bytes (cond t (k ∷ of_length n ks) (of_length n ks))) apart ∙ none n bytes ks h both.1

skip : (t : Bool) (x y : Sort) → t ≡ false → y ≡ Bare → (if t then x else y) ≡ Bare
skip t x y e same = ap (λ z. if z then x else y) e ∙ same

other : (n k : ℕ) → k < 14 → 14 ≤ n → (n == k) ≡ false
other n k small h = ne_eqb n k (λ same. omega (arith, h, small, same))

long : (n : ℕ) (bytes : List ℕ) → 14 ≤ n → keyword_of n bytes ≡ Bare
long n bytes h = skip _ _ _ (other n 2 (lit< tt) h) (skip _ _ _ (other n 3 (lit< tt) h) (skip _ _ _ (other n 4 (lit< tt) h) (skip _ _ _ (other n 5 (lit< tt) h) (skip _ _ _ (other n 6 (lit< tt) h) (skip _ _ _ (other n 7 (lit< tt) h) (skip _ _ _ (other n 8 (lit< tt) h) (skip _ _ _ (other n 9 (lit< tt) h) (skip _ _ _ (other n 10 (lit< tt) h) (skip _ _ _ (other n 13 (lit< tt) h) (refl))))))))))

longer : (n : ℕ) (bytes : List ℕ) → 14 ≤ n → first_of bytes (of_length n keywords) ≡ keyword_of n bytes
longer n bytes h = none n bytes keywords h refl ∙ sym (long n bytes h)

few : (n : ℕ) (bytes : List ℕ) → first_of bytes (of_length n keywords) ≡ keyword_of n bytes
unfolding two_letters three_letters four_letters five_letters six_letters seven_letters eight_letters nine_letters ten_letters thirteen_letters
few zero bytes = refl
few (suc zero) bytes = refl
few (suc (suc zero)) bytes = refl
few (suc (suc (suc zero))) bytes = refl
few (suc (suc (suc (suc zero)))) bytes = refl
few (suc (suc (suc (suc (suc zero))))) bytes = refl
few (suc (suc (suc (suc (suc (suc zero)))))) bytes = refl
few (suc (suc (suc (suc (suc (suc (suc zero))))))) bytes = refl
few (suc (suc (suc (suc (suc (suc (suc (suc zero)))))))) bytes = refl
few (suc (suc (suc (suc (suc (suc (suc (suc (suc zero))))))))) bytes = refl
few (suc (suc (suc (suc (suc (suc (suc (suc (suc (suc zero)))))))))) bytes = refl
few (suc (suc (suc (suc (suc (suc (suc (suc (suc (suc (suc zero))))))))))) bytes = refl
few (suc (suc (suc (suc (suc (suc (suc (suc (suc (suc (suc (suc zero)))))))))))) bytes = refl
few (suc (suc (suc (suc (suc (suc (suc (suc (suc (suc (suc (suc (suc zero))))))))))))) bytes = refl
few (suc (suc (suc (suc (suc (suc (suc (suc (suc (suc (suc (suc (suc (suc n)))))))))))))) bytes = longer (suc (suc (suc (suc (suc (suc (suc (suc (suc (suc (suc (suc (suc (suc n)))))))))))))) bytes (omega arith)

every : (bytes : List ℕ) → first_of bytes keywords ≡ keyword_1 bytes
unfolding keyword_1 keyword_2 keyword_3 keyword_4
every bytes = refl

pub keyword_found : (bytes : List ℕ) → keyword_of (length bytes) bytes ≡ keyword_1 bytes
keyword_found bytes = sym (few (length bytes) bytes) ∙ (of_its_length bytes keywords ∙ every bytes)
