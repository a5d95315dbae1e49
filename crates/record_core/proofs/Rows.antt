-- A row of values that is gone over from the first to the last.
use Rattle.std.proofs.Common.{◌≡◌, ◌<◌, ◌≤◌, ℕ, ◌+◌, ◌^◌, List, [], ◌∷◌, ◌++◌, length, get_or, take, drop, flat_map, sum_by, sym, ap, subst, ◌∙◌, arith, append_assoc, append-nil, length-append, length-take, length-drop, take_at, drop_at, take_all, take-append-drop, drop-drop, add-zero, below_more}
use Rattle.std.proofs.lemmas.Grind.{flat_map-append}
use Rattle.std.proofs.lemmas.List.{take_more, get_or_default}
use Rattle.std.proofs.lemmas.List.Folds.{length-flat_map-take}
use Rattle.std.proofs.lemmas.List.Sums.{sum_by_more_le, sum_by_more}
use Rattle.record_core.specs.declared.values.Value.{Value}
use Rattle.record_core.specs.declared.values.Value.TheVariants.{Null}
use Rattle.record_core.specs.Record.{value_len}
use Rattle.record_core.specs.Shortest.{IsWritable, IsStored, put_at}

-- the pieces of the first values, with one value more
pub pieces_more : (f : Value → List ℕ) (vs : List Value) (i : ℕ) (v : Value) → i < length vs → v ≡ get_or vs i v → flat_map f (take (i + 1) vs) ≡ flat_map f (take i vs) ++ f v
pieces_more f vs i v lt is =
    ap (flat_map f) (take_more vs i v lt) ∙ flat_map-append f (take i vs) (get_or vs i v ∷ [])
    ∙ ap (λ (t : List ℕ). flat_map f (take i vs) ++ t) (append-nil (f (get_or vs i v)) ∙ ap f (sym is))

pub pieces_len : (f : Value → List ℕ) (vs : List Value) (i : ℕ) (v : Value) → i < length vs → v ≡ get_or vs i v → length (flat_map f (take (i + 1) vs)) ≡ length (flat_map f (take i vs)) + length (f v)
pieces_len f vs i v lt is = ap length (pieces_more f vs i v lt is) ∙ length-append (flat_map f (take i vs)) (f v)

pub pieces_all : (f : Value → List ℕ) (vs : List Value) (i : ℕ) → i ≡ length vs → flat_map f (take i vs) ≡ flat_map f vs
pieces_all f vs i e = ap (flat_map f) (take_all i vs (omega arith))

pub pieces_room : (f : Value → List ℕ) (vs : List Value) (i : ℕ) (v : Value) → i < length vs → v ≡ get_or vs i v → length (flat_map f (take i vs)) + length (f v) ≤ length (flat_map f vs)
pieces_room f vs i v lt is = let h = length-flat_map-take f vs i v lt in rw is h

-- no text is longer than all
pub text_small : (vs : List Value) (i : ℕ) (v : Value) → IsWritable vs → i < length vs → v ≡ get_or vs i v → value_len v < 2 ^ 40
text_small vs i v w lt is =
    let h : sum_by value_len (take i vs) + value_len (get_or vs i v) ≤ sum_by value_len vs = sum_by_more_le value_len vs i v lt in
    let same : value_len v ≡ value_len (get_or vs i v) = ap value_len is in omega (arith, w.small)

pub text_sum : (vs : List Value) (i : ℕ) (v : Value) → i < length vs → v ≡ get_or vs i v → sum_by value_len (take (i + 1) vs) ≡ sum_by value_len (take i vs) + value_len v
text_sum vs i v lt is = sum_by_more value_len vs i v lt ∙ ap (λ (x : Value). sum_by value_len (take i vs) + value_len x) (sym is)

-- ---- pieces written one behind another

put_none : (old : List ℕ) (at : ℕ) → put_at old at [] ≡ old
put_none old at = rw add-zero (take-append-drop at old)

length-put_at : (old : List ℕ) (at : ℕ) (p : List ℕ) → at + length p ≤ length old → length (put_at old at p) ≡ length old
length-put_at old at p le =
    omega (arith, length-append (take at old) (p ++ drop (at + length p) old), length-append p (drop (at + length p) old), length-take at old, length-drop (at + length p) old)

pub put_both : (old : List ℕ) (at : ℕ) (p q : List ℕ) → at + length p + length q ≤ length old → put_at (put_at old at p) (at + length p) q ≡ put_at old at (p ++ q)
put_both old at p q le =
    let front = take at old ++ p in
    let behind = drop (at + length p) old in
    let len : length front ≡ at + length p = omega (arith, length-append (take at old) p, length-take at old) in
    let apart : put_at old at p ≡ front ++ behind = sym (append_assoc (take at old) p behind) in
    let one : take (at + length p) (put_at old at p) ≡ front = ap (take (at + length p)) apart ∙ take_at front behind (at + length p) len in
    let first : drop (at + length p) (put_at old at p) ≡ behind = ap (drop (at + length p)) apart ∙ drop_at front behind (at + length p) len in
    let two : drop (at + length p + length q) (put_at old at p) ≡ drop (at + length (p ++ q)) old =
    sym (drop-drop (length q) (at + length p) (put_at old at p)) ∙ ap (drop (length q)) first ∙ drop-drop (length q) (at + length p) old
    ∙ ap (λ n. drop n old) (omega (arith, length-append p q)) in
    ap (λ (t : List ℕ). t ++ (q ++ drop (at + length p + length q) (put_at old at p))) one
    ∙ ap (λ (t : List ℕ). front ++ (q ++ t)) two
    ∙ append_assoc (take at old) p (q ++ drop (at + length (p ++ q)) old)
    ∙ ap (λ (t : List ℕ). take at old ++ t) (sym (append_assoc p q (drop (at + length (p ++ q)) old)))

-- the pieces of the first i values are written
pub record Wrote (f : Value → List ℕ) (vs : List Value) (old : List ℕ) (at i : ℕ) (now : List ℕ) (end : ℕ) : Type 0 where
  pub after : now ≡ put_at old at (flat_map f (take i vs))
  pub place : end ≡ at + length (flat_map f (take i vs))

pub wrote_start : (f : Value → List ℕ) (vs : List Value) (old : List ℕ) (at : ℕ) → Wrote f vs old at 0 old at
wrote_start f vs old at = record { after = sym (put_none old at); place = omega arith }

pub wrote_room : (f : Value → List ℕ) (vs : List Value) (old : List ℕ) (at i : ℕ) (now : List ℕ) (end : ℕ) (v : Value) → Wrote f vs old at i now end → at + length (flat_map f vs) ≤ length old → i < length vs → v ≡ get_or vs i v → end + length (f v) ≤ length old
wrote_room f vs old at i now end v w room lt is = omega (arith, w.place, pieces_room f vs i v lt is)

pub wrote_next : (f : Value → List ℕ) (vs : List Value) (old : List ℕ) (at i : ℕ) (now : List ℕ) (end : ℕ) (v : Value) (new : List ℕ) (place : ℕ) → Wrote f vs old at i now end → at + length (flat_map f vs) ≤ length old → i < length vs → v ≡ get_or vs i v → new ≡ put_at now end (f v) → place ≡ end + length (f v) → Wrote f vs old at (i + 1) new place
wrote_next f vs old at i now end v new place w room lt is put-is place-is =
    let done = flat_map f (take i vs) in
    let more = pieces_more f vs i v lt is in
    record {
      after = put-is ∙ ap (λ (t : List ℕ). put_at t end (f v)) w.after ∙ ap (λ n. put_at (put_at old at done) n (f v)) w.place
          ∙ put_both old at done (f v) (omega (arith, pieces_room f vs i v lt is)) ∙ ap (put_at old at) (sym more);
      place = place-is ∙ omega (arith, w.place, pieces_len f vs i v lt is);
    }

pub wrote_end : (f : Value → List ℕ) (vs : List Value) (old : List ℕ) (at i : ℕ) (now : List ℕ) (end : ℕ) → Wrote f vs old at i now end → i ≡ length vs → Wrote f vs old at (length vs) now end
wrote_end f vs old at i now end w e = subst (λ n. Wrote f vs old at n now end) e w

-- ---- what the program holds

pub stored_more : (vs : List Value) (i : ℕ) (v : Value) → ((k : ℕ) → k < i → IsStored (get_or vs k Null)) → i < length vs → v ≡ get_or vs i v → IsStored v → (k : ℕ) → k < i + 1 → IsStored (get_or vs k Null)
stored_more vs i v before lt is stored =
    let here : IsStored (get_or vs i Null) = subst (λ (x : Value). IsStored x) (is ∙ get_or_default vs i v Null lt) stored in
    below_more (λ k. IsStored (get_or vs k Null)) i before here

-- three pieces, one behind another
pub put_three : (old a b c t1 t2 t3 : List ℕ) (n1 n2 : ℕ) → length (a ++ (b ++ c)) ≤ length old → t1 ≡ put_at old 0 a → n1 ≡ 0 + length a → t2 ≡ put_at t1 n1 b → n2 ≡ n1 + length b → t3 ≡ put_at t2 n2 c → t3 ≡ put_at old 0 (a ++ (b ++ c))
put_three old a b c t1 t2 t3 n1 n2 room one e1 two e2 three =
    let sum : length (a ++ (b ++ c)) ≡ length a + (length b + length c) = omega (arith, length-append a (b ++ c), length-append b c) in
    let first : t2 ≡ put_at old 0 (a ++ b) =
    two ∙ ap (λ (t : List ℕ). put_at t n1 b) one ∙ ap (λ n. put_at (put_at old 0 a) n b) e1 ∙ put_both old 0 a b (omega arith) in
    let place : n2 ≡ 0 + length (a ++ b) = omega (arith, length-append a b) in
    three ∙ ap (λ (t : List ℕ). put_at t n2 c) first ∙ ap (λ n. put_at (put_at old 0 (a ++ b)) n c) place
    ∙ put_both old 0 (a ++ b) c (omega (arith, length-append a b)) ∙ ap (put_at old 0) (append_assoc a b c)

-- what stands at the front
pub put_front : (old piece : List ℕ) (n : ℕ) → n ≡ length piece → take n (put_at old 0 piece) ≡ piece
put_front old piece n e = take_at piece (drop (0 + length piece) old) n (sym e)
