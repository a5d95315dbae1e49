-- The overflow pages of a written entry are the chain of its cell, and hold its payload.
use Rattle.std.proofs.Common.{◌≡◌, ◌<◌, ◌≤◌, ℕ, zero, suc, ◌+◌, ◌-◌, ◌^◌, Bool, true, false, List, [], ◌∷◌, ◌++◌, length, take, drop, nat_eq, nat_le, refl, sym, ap, ◌∙◌, subst, arith, append_assoc, append-nil, length-append, length-take, length-drop}
use Rattle.std.specs.Prelude.{if◌then◌else◌, Some, replicate}
use Rattle.std.proofs.Math.Seq.{take-append-add}
use Rattle.std.proofs.lemmas.Bool.Decides.{nat_tests}
use Rattle.std.proofs.lemmas.List.{drop_at, length-replicate, nil_from_length, take_all, take_at, take-append-drop}
use Rattle.byteorder.specs.Endian.{big_bytes, big_number}
use Rattle.byteorder.specs.Numbers.{big_number-reads_back, length-bytes_high_first}
use Rattle.page_access.specs.Pages.{File, page_at}
use Rattle.overflow_chain.specs.Chain.{IsChain, Linked, chain_len, content_of, contents, next_page}
use Rattle.overflow_chain.specs.Laws.{reached}
use Rattle.overflow_chain.proofs.Turns.{chain_len-step}
use Rattle.tree_forms.specs.Payload.{ChainFrom, chain_from, follow}
use Rattle.tree_writer.specs.Cells.{over_page, over_pages}
use Rattle.written_trees.specs.Trees.{ArePageNumbers, numbers}
use Rattle.written_trees.proofs.Numbers.{Stand, numbers_once}

-- pages from index k on name one another, and the last one names none
abbrev Named : (ℕ → ℕ) → (ℕ → ℕ) → ℕ → ℕ → Type 0
Named next number k zero = Unit {0}
Named next number k (suc zero) = next (number k) ≡ 0
Named next number k (suc (suc n)) = (next (number k) ≡ number (k + 1)) × Named next number (k + 1) (suc n)

-- the first four bytes of an overflow page
names : (f : File) (q usable : ℕ) (number : ℕ → ℕ) (k : ℕ) (last : Bool) (bytes : List ℕ) → (if last then 0 else number (k + 1)) < 256 ^ 4
    → page_at f q ≡ over_page usable number k last bytes → next_page f q ≡ (if last then 0 else number (k + 1))
names f q usable number k last bytes small is =
    ap (big_number 4) is
    ∙ big_number-reads_back 4 (if last then 0 else number (k + 1)) (take (usable - 4) bytes ++ replicate (usable - 4 - length bytes) 0) small

named : (f : File) (number : ℕ → ℕ) (total : ℕ) → ArePageNumbers f number total → (usable k n : ℕ) (bytes : List ℕ) → k + n ≤ total
    → Stand f number k (over_pages usable number k n bytes) → Named (next_page f) number k n
named f number total a usable k zero bytes le s = tt
named f number total a usable k (suc zero) bytes le s = names f (number k) usable number k true bytes (omega arith) s.0
named f number total a usable k (suc (suc n)) bytes le s =
    let more : nat_eq (suc n) 0 ≡ false = grind (arith, nat_tests) in
    let first : page_at f (number k) ≡ over_page usable number k false bytes = subst (λ b. page_at f (number k) ≡ over_page usable number k b bytes) more s.0 in (
      names f (number k) usable number k false bytes (a.small (k + 1) (omega (arith, le))) first,
      named f number total a usable (k + 1) (suc n) (drop (usable - 4) bytes) (omega (arith, le)) s.1,
    )

follows : (next number : ℕ → ℕ) (k n : ℕ) → Named next number k n → follow next n (number k) ≡ numbers number k n
follows next number k zero w = refl
follows next number k (suc zero) w = refl
follows next number k (suc (suc n)) w =
    ap (λ q. number k ∷ follow next (suc n) q) w.0 ∙ ap (λ (t : List ℕ). number k ∷ t) (follows next number (k + 1) (suc n) w.1)

linked : (next number : ℕ → ℕ) (k n : ℕ) → Named next number k n → Linked next (number k) (numbers number k n)
linked next number k zero w = tt
linked next number k (suc zero) w = (refl, tt)
linked next number k (suc (suc n)) w =
    (refl, subst (λ q. Linked next q (numbers number (k + 1) (suc n))) (sym w.0) (linked next number (k + 1) (suc n) w.1))

ends : (next number : ℕ → ℕ) (k n : ℕ) → Named next number k (suc n) → reached next (number k) (numbers number k (suc n)) ≡ 0
ends next number k zero w = w
ends next number k (suc n) w =
    ap (λ q. reached next q (numbers number (k + 1) (suc n))) w.0 ∙ ends next number (k + 1) n w.1

length-numbers : (number : ℕ → ℕ) (k n : ℕ) → length (numbers number k n) ≡ n
length-numbers number k zero = refl
length-numbers number k (suc n) = ap suc (length-numbers number (k + 1) n)

-- what an overflow page holds
content_is : (f : File) (q : ℕ) (number : ℕ → ℕ) (k : ℕ) (last : Bool) (bytes : List ℕ) → 480 ≤ f.usable → page_at f q ≡ over_page f.usable number k last bytes
    → content_of f q ≡ take (f.usable - 4) bytes ++ replicate (f.usable - 4 - length bytes) 0
content_is f q number k last bytes least is =
    let m = f.usable - 4 in
    let front = take m bytes in
    let zeros : List ℕ = replicate (m - length bytes) 0 in
    let four = big_bytes 4 (if last then 0 else number (k + 1)) in
    let behind : drop 4 (page_at f q) ≡ front ++ zeros
    = ap (drop 4) is ∙ drop_at four (front ++ zeros) 4 (length-bytes_high_first 4 (if last then 0 else number (k + 1))) in
    let len : length (front ++ zeros) ≡ m = omega (arith, length-append front zeros, length-take m bytes, length-replicate {A = ℕ} (m - length bytes) 0) in
    ap (take m) behind ∙ take_all m (front ++ zeros) (omega (arith, len))

-- the first page holds all bytes
first_all : (bytes rest : List ℕ) (m : ℕ) → length bytes ≤ m → take (length bytes) ((take m bytes ++ replicate (m - length bytes) 0) ++ rest) ≡ bytes
first_all bytes rest m le =
    let zeros : List ℕ = replicate (m - length bytes) 0 in
    ap (λ (t : List ℕ). take (length bytes) ((t ++ zeros) ++ rest)) (take_all m bytes le)
    ∙ ap (take (length bytes)) (append_assoc bytes zeros rest) ∙ take_at bytes (zeros ++ rest) (length bytes) refl

-- the first page is full
first_full : (bytes rest : List ℕ) (m : ℕ) → m < length bytes → take (length (drop m bytes)) rest ≡ drop m bytes
    → take (length bytes) ((take m bytes ++ replicate (m - length bytes) 0) ++ rest) ≡ bytes
first_full bytes rest m lt more =
    let front = take m bytes in
    let none : replicate {A = ℕ} (m - length bytes) 0 ≡ [] = nil_from_length (replicate (m - length bytes) 0) (omega (arith, length-replicate {A = ℕ} (m - length bytes) 0)) in
    let len : length bytes ≡ length front + length (drop m bytes) = omega (arith, length-take m bytes, length-drop m bytes) in
    ap (λ (t : List ℕ). take (length bytes) ((front ++ t) ++ rest)) none
    ∙ ap (λ (t : List ℕ). take (length bytes) (t ++ rest)) (append-nil front)
    ∙ ap (λ n. take n (front ++ rest)) len ∙ take-append-add front rest (length (drop m bytes))
    ∙ ap (λ (t : List ℕ). front ++ t) more ∙ take-append-drop m bytes

pages_hold : (f : File) (number : ℕ → ℕ) (k n : ℕ) (bytes : List ℕ) → 480 ≤ f.usable → n ≡ chain_len f (length bytes)
    → Stand f number k (over_pages f.usable number k n bytes) → take (length bytes) (contents f (numbers number k n)) ≡ bytes
pages_hold f number k zero bytes least many s = by bytes many
  where
    by : (xs : List ℕ) → 0 ≡ chain_len f (length xs) → take (length xs) [] ≡ xs
    by [] e = refl
    by (x ∷ xs) e =
        let h = chain_len-step f (length (x ∷ xs)) least (omega arith) in
        absurd (differ (chain_len f (length (x ∷ xs) - (f.usable - 4))) (e ∙ h))
      where
        differ : (m : ℕ) → 0 ≡ suc m → ⊥
        differ m e = omega (arith, e)
pages_hold f number k (suc n) bytes least many s =
    let m = f.usable - 4 in
    let rest = contents f (numbers number (k + 1) n) in
    let content = content_is f (number k) number k (nat_eq n 0) bytes least s.0 in
    ap (λ (t : List ℕ). take (length bytes) (t ++ rest)) content
    ∙ by (nat_le (length bytes) m) refl (λ lt. pages_hold f number (k + 1) n (drop m bytes) least (fewer lt) s.1)
  where
    by : (b : Bool) → nat_le (length bytes) (f.usable - 4) ≡ b
        → (f.usable - 4 < length bytes → take (length (drop (f.usable - 4) bytes)) (contents f (numbers number (k + 1) n)) ≡ drop (f.usable - 4) bytes)
        → take (length bytes) ((take (f.usable - 4) bytes ++ replicate (f.usable - 4 - length bytes) 0) ++ contents f (numbers number (k + 1) n)) ≡ bytes
    by true e more =
        let le : length bytes ≤ f.usable - 4 = grind (arith, nat_tests) in first_all bytes (contents f (numbers number (k + 1) n)) (f.usable - 4) le
    by false e more =
        let lt : f.usable - 4 < length bytes = grind (arith, nat_tests) in first_full bytes (contents f (numbers number (k + 1) n)) (f.usable - 4) lt (more lt)

    fewer : f.usable - 4 < length bytes → n ≡ chain_len f (length (drop (f.usable - 4) bytes))
    fewer lt =
        let h = chain_len-step f (length bytes) least (omega (arith, lt)) in
        let len : length (drop (f.usable - 4) bytes) ≡ length bytes - (f.usable - 4) = length-drop (f.usable - 4) bytes in
        let inner : n ≡ chain_len f (length bytes - (f.usable - 4)) = omega (arith, many ∙ h) in
        inner ∙ ap (chain_len f) (sym len)

-- the overflow pages of bytes that are not local, from index k on
pub record IsOver (f : File) (number : ℕ → ℕ) (k n : ℕ) (bytes : List ℕ) : Type 0 where
  pub pages_are : chain_from f (length bytes) (Some (number k)) ≡ numbers number k n
  pub holds : take (length bytes) (contents f (numbers number k n)) ≡ bytes
  pub chain : ChainFrom f (length bytes) (Some (number k))

pub over_is : (f : File) (number : ℕ → ℕ) (total : ℕ) → ArePageNumbers f number total → (k n : ℕ) (bytes : List ℕ) → 480 ≤ f.usable → k + n ≤ total → 1 ≤ length bytes
    → n ≡ chain_len f (length bytes) → Stand f number k (over_pages f.usable number k n bytes) → IsOver f number k n bytes
over_is f number total a k n bytes least le some many s =
    let next = next_page f in
    let w = named f number total a f.usable k n bytes le s in
    let run : follow next (chain_len f (length bytes)) (number k) ≡ numbers number k n
    = ap (λ m. follow next m (number k)) (sym many) ∙ follows next number k n w in
    let step : n ≡ suc (chain_len f (length bytes - (f.usable - 4))) = many ∙ chain_len-step f (length bytes) least some in
    record {
      pages_are = run;
      holds = pages_hold f number k n bytes least many s;
      chain = subst (λ (ps : List ℕ). IsChain f (number k) (length bytes) ps (take (length bytes) (contents f ps)) × (reached next (number k) ps ≡ 0)) (sym run) (
        record {
          many = length-numbers number k n ∙ many;
          inside = λ p. numbers_once f number total a p k n le;
          linked = linked next number k n w;
          bytes_are = refl;
        },
        last (chain_len f (length bytes - (f.usable - 4))) step w,
      );
    }
  where
    last : (m : ℕ) → n ≡ suc m → Named (next_page f) number k n → reached (next_page f) (number k) (numbers number k n) ≡ 0
    last m e w = subst (λ j. reached (next_page f) (number k) (numbers number k j) ≡ 0) (sym e) (ends (next_page f) number k m (subst (Named (next_page f) number k) e w))
