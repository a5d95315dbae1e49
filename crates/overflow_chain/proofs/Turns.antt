-- The turn of a payload, page after page: what is taken so far, and what the rest gives.
use Rattle.std.proofs.Common.{◌≡◌, ℕ, zero, suc, ◌+◌, ◌-◌, ◌*◌, ◌/◌, ◌<◌, ◌≤◌, true, false, List, [], ◌∷◌, ◌++◌, length, take, drop, replicate, refl, sym, ap, ◌∙◌, inl, inr, arith, length-append}
use Rattle.std.proofs.Math.Nat.{add-div_right, div-eq_of_lt}
use Rattle.std.proofs.Math.Seq.{take-append_seam}
use Rattle.std.proofs.lemmas.Bool.{cases_lt}
use Rattle.std.proofs.lemmas.List.{append-nil, append_assoc, length-take, length-drop, length-replicate}
use Rattle.std.specs.List.{slice_range}
use Rattle.byteorder.specs.Endian.{big_number}
use Rattle.page_access.specs.Pages.{File, page_of, page_at}
use Rattle.page_lists.specs.Lists.{is_in, without}
use Rattle.page_lists.specs.Table.{Table, moved, unused, all_moved}
use Rattle.page_lists.proofs.Uses.{unused-moved, all_moved-append}
use Rattle.overflow_chain.specs.Chain.{chain_len, content_of, contents, next_page}
use Rattle.overflow_chain.specs.Turn.{Turned, TurnsFront, bytes_of, end_of, turn_of, why_not}
use Rattle.overflow_chain.specs.declared.ChainEnd.TheVariants.{Whole, Broken}
use Rattle.overflow_chain.specs.declared.Why.{Why}
use Rattle.overflow_chain.specs.declared.TheConstants.{OVERFLOW_LIST}

-- one page holds d bytes: nothing needs no page, and more needs one page and those of the rest
no_page : (d : ℕ) → 0 < d → (0 + (d - 1)) / d ≡ 0
no_page d over = let less : 0 + (d - 1) < d = omega arith in div-eq_of_lt less

one_page : (d m : ℕ) → 0 < d → 0 < m → (m + (d - 1)) / d ≡ suc ((m - d + (d - 1)) / d)
one_page d m over some =
    elim (cases_lt d m) [
      | inl more ↦
          let e : m + (d - 1) ≡ m - d + (d - 1) + d = omega (arith, more) in
          rw e (omega (arith, add-div_right (m - d + (d - 1)) over))
      | inr last ↦
          let e : m + (d - 1) ≡ m - 1 + d = omega (arith, last) in
          let less : m - 1 < d = omega (arith, last) in
          let rest : m - d + (d - 1) ≡ 0 + (d - 1) = omega (arith, last) in
          rw (e, rest, no_page d over) (omega (arith, add-div_right (m - 1) over, div-eq_of_lt less))
    ]

pub chain_len-zero : (f : File) → 480 ≤ f.usable → chain_len f 0 ≡ 0
chain_len-zero f big =
    let e : f.usable - 5 ≡ f.usable - 4 - 1 = omega (arith, big) in
    rw e (no_page (f.usable - 4) (omega (arith, big)))

pub chain_len-step : (f : File) (m : ℕ) → 480 ≤ f.usable → 0 < m → chain_len f m ≡ suc (chain_len f (m - (f.usable - 4)))
chain_len-step f m big some =
    let e : f.usable - 5 ≡ f.usable - 4 - 1 = omega (arith, big) in
    rw e (one_page (f.usable - 4) m (omega (arith, big)) some)

-- cutting what stands behind a list
take_behind : (n : ℕ) (xs ys : List ℕ) → take n (xs ++ ys) ≡ take n xs ++ take (n - length xs) ys
take_behind zero xs ys = let e : 0 - length xs ≡ 0 = omega arith in rw e refl
take_behind (suc n) [] ys = let e : suc n - 0 ≡ suc n = omega arith in rw e refl
take_behind (suc n) (x ∷ xs) ys =
    let e : suc n - suc (length xs) ≡ n - length xs = omega arith in
    rw e (ap (λ (zs : List ℕ). x ∷ zs) (take_behind n xs ys))

-- a page has its size
length-page : (bytes : List ℕ) (size p : ℕ) → length (page_of bytes size p) ≡ size
unfolding page_of
length-page bytes size p =
    let front = take size (drop ((p - 1) * size) bytes) in
    omega (arith, length-append front (replicate (size - length front) 0), length-replicate {A = ℕ} (size - length front) 0, length-take size (drop ((p - 1) * size) bytes))

pub length-content : (f : File) (p : ℕ) → f.usable ≤ f.size → length (content_of f p) ≡ f.usable - 4
length-content f p fits =
    omega (arith, length-take (f.usable - 4) (drop 4 (page_at f p)), length-drop 4 (page_at f p), length-page f.bytes f.size p, fits)

-- a turn at an unused page
pub turn_taken : (f : File) (at m : ℕ) (unused : List ℕ) → 480 ≤ f.usable → 0 < m → is_in at unused ≡ true
    → turn_of f at m unused ≡ at ∷ turn_of f (next_page f at) (m - (f.usable - 4)) (without at unused)
turn_taken f at m unused big some there = rw (chain_len-step f m big some, there) refl

pub end_taken : (f : File) (at m : ℕ) (unused : List ℕ) → 480 ≤ f.usable → 0 < m → is_in at unused ≡ true
    → end_of f at m unused ≡ end_of f (next_page f at) (m - (f.usable - 4)) (without at unused)
end_taken f at m unused big some there = rw (chain_len-step f m big some, there) refl

pub bytes_taken : (f : File) (at m : ℕ) (unused : List ℕ) → 480 ≤ f.usable → f.usable ≤ f.size → 0 < m → is_in at unused ≡ true
    → bytes_of f at m unused ≡ take m (content_of f at) ++ bytes_of f (next_page f at) (m - (f.usable - 4)) (without at unused)
bytes_taken f at m unused big fits some there =
    rw (turn_taken f at m unused big some there)
    (take_behind m (content_of f at) (contents f (turn_of f (next_page f at) (m - (f.usable - 4)) (without at unused)))
    ∙ rw (length-content f at fits) refl)

-- a turn at a page that cannot be taken
pub turn_refused : (f : File) (at m : ℕ) (unused : List ℕ) → 480 ≤ f.usable → 0 < m → is_in at unused ≡ false → turn_of f at m unused ≡ []
turn_refused f at m unused big some out = rw (chain_len-step f m big some, out) refl

pub end_refused : (f : File) (at m : ℕ) (unused : List ℕ) → 480 ≤ f.usable → 0 < m → is_in at unused ≡ false → end_of f at m unused ≡ Broken at (why_not f.pages at)
end_refused f at m unused big some out = rw (chain_len-step f m big some, out) refl

-- a part of the turn was taken, and the rest of it goes on at page `at`
pub record Turning (f : File) (q need : ℕ) (old now : Table) (pages pages' to to' : List ℕ) (missing at : ℕ) : Type 0 where
  pub passed : List ℕ
  pub gained : List ℕ
  pub pages_are : pages' ≡ pages ++ passed
  pub bytes_are : to' ≡ to ++ gained
  pub table_is : now ≡ all_moved passed OVERFLOW_LIST old
  pub rest_pages : passed ++ turn_of f at missing (unused now) ≡ turn_of f q need (unused old)
  pub rest_bytes : gained ++ bytes_of f at missing (unused now) ≡ bytes_of f q need (unused old)
  pub rest_end : end_of f at missing (unused now) ≡ end_of f q need (unused old)

pub turning_start : (f : File) (q need : ℕ) (old : Table) (pages to : List ℕ) → Turning f q need old old pages pages to to need q
turning_start f q need old pages to = record {
  passed = [];
  gained = [];
  pages_are = sym (append-nil pages);
  bytes_are = sym (append-nil to);
  table_is = refl;
  rest_pages = refl;
  rest_bytes = refl;
  rest_end = refl;
}

-- one more page is taken
pub turning_more : (f : File) (q need : ℕ) (old now next : Table) (pages pages' pages'' to to' to'' buffer : List ℕ) (missing at : ℕ) → 480 ≤ f.usable → f.usable ≤ f.size
    → 0 < missing → is_in at (unused now) ≡ true → buffer ≡ page_at f at → pages'' ≡ pages' ++ at ∷ [] → to'' ≡ to' ++ take missing (slice_range buffer 4 f.usable)
    → next ≡ moved at OVERFLOW_LIST now → Turning f q need old now pages pages' to to' missing at
    → Turning f q need old next pages pages'' to to'' (missing - (f.usable - 4)) (big_number 4 buffer)
turning_more f q need old now next pages pages' pages'' to to' to'' buffer missing at big fits some there read pushed put moves t =
    let left : unused next ≡ without at (unused now) = ap unused moves ∙ unused-moved at OVERFLOW_LIST now (omega arith) in
    let follow : big_number 4 buffer ≡ next_page f at = ap (λ (xs : List ℕ). big_number 4 xs) read in
    let piece : take missing (slice_range buffer 4 f.usable) ≡ take missing (content_of f at) = ap (λ (xs : List ℕ). take missing (slice_range xs 4 f.usable)) read in
    record {
      passed = t.passed ++ at ∷ [];
      gained = t.gained ++ take missing (content_of f at);
      pages_are = pushed ∙ (ap (λ (xs : List ℕ). xs ++ at ∷ []) t.pages_are ∙ append_assoc pages t.passed (at ∷ []));
      bytes_are = put ∙ (ap (λ (xs : List ℕ). to' ++ xs) piece ∙ (ap (λ (xs : List ℕ). xs ++ take missing (content_of f at)) t.bytes_are ∙ append_assoc to t.gained (take missing (content_of f at))));
      table_is = moves ∙ (ap (λ (u : Table). moved at OVERFLOW_LIST u) t.table_is ∙ sym (all_moved-append t.passed (at ∷ []) OVERFLOW_LIST old));
      rest_pages = rw (left, follow, append_assoc) (ap (λ (xs : List ℕ). t.passed ++ xs) (sym (turn_taken f at missing (unused now) big some there)) ∙ t.rest_pages);
      rest_bytes = rw (left, follow, append_assoc) (ap (λ (xs : List ℕ). t.gained ++ xs) (sym (bytes_taken f at missing (unused now) big fits some there)) ∙ t.rest_bytes);
      rest_end = rw (left, follow) (sym (end_taken f at missing (unused now) big some there) ∙ t.rest_end);
    }

-- what stands before the rest of a list is a front of it
pub front_is : {X : Type 0} (front rest all : List X) → front ++ rest ≡ all → front ≡ take (length front) all
front_is front rest all e = sym (take-append_seam front rest) ∙ ap (take (length front)) e

pub turning_front : (f : File) (q need : ℕ) (old now : Table) (pages pages' to to' : List ℕ) (missing at : ℕ)
    → Turning f q need old now pages pages' to to' missing at → TurnsFront f q need old now pages pages' to to'
turning_front f q need old now pages pages' to to' missing at t =
    let passed = front_is t.passed (turn_of f at missing (unused now)) (turn_of f q need (unused old)) t.rest_pages in
    record {
      page_count = length t.passed;
      pages_are = t.pages_are ∙ ap (λ (xs : List ℕ). pages ++ xs) passed;
      byte_count = length t.gained;
      bytes_are = t.bytes_are ∙ ap (λ (xs : List ℕ). to ++ xs) (front_is t.gained (bytes_of f at missing (unused now)) (bytes_of f q need (unused old)) t.rest_bytes);
      moved = (length t.passed, t.table_is ∙ ap (λ (xs : List ℕ). all_moved xs OVERFLOW_LIST old) passed);
    }

-- the same where the next page is appended and does not move
pub turning_front_more : (f : File) (q need : ℕ) (old now : Table) (pages pages' pages'' to to' : List ℕ) (missing at : ℕ) → 480 ≤ f.usable
    → 0 < missing → is_in at (unused now) ≡ true → pages'' ≡ pages' ++ at ∷ []
    → Turning f q need old now pages pages' to to' missing at → TurnsFront f q need old now pages pages'' to to'
turning_front_more f q need old now pages pages' pages'' to to' missing at big some there pushed t =
    let was = turning_front f q need old now pages pages' to to' missing at t in
    let later : List ℕ = turn_of f (next_page f at) (missing - (f.usable - 4)) (without at (unused now)) in
    let all : (t.passed ++ at ∷ []) ++ later ≡ turn_of f q need (unused old) =
    append_assoc t.passed (at ∷ []) later ∙ ap (λ (xs : List ℕ). t.passed ++ xs) (sym (turn_taken f at missing (unused now) big some there)) ∙ t.rest_pages in
    record {
      page_count = length (t.passed ++ at ∷ []);
      pages_are = pushed ∙ ap (λ (xs : List ℕ). xs ++ at ∷ []) t.pages_are ∙ append_assoc pages t.passed (at ∷ [])
          ∙ ap (λ (xs : List ℕ). pages ++ xs) (front_is (t.passed ++ at ∷ []) later (turn_of f q need (unused old)) all);
      byte_count = was.byte_count;
      bytes_are = was.bytes_are;
      moved = was.moved;
    }

-- nothing is missing
pub turning_done : (f : File) (q need : ℕ) (old now : Table) (pages pages' to to' : List ℕ) (missing at : ℕ) → 480 ≤ f.usable → missing ≡ 0
    → Turning f q need old now pages pages' to to' missing at → Turned f q need old now pages pages' to to' Whole
turning_done f q need old now pages pages' to to' missing at big none t =
    let no_more : turn_of f at missing (unused now) ≡ [] = rw (none, chain_len-zero f big) refl in
    let all : t.passed ≡ turn_of f q need (unused old) = sym (append-nil t.passed) ∙ (ap (λ (xs : List ℕ). t.passed ++ xs) (sym no_more) ∙ t.rest_pages) in
    let no_bytes : bytes_of f at missing (unused now) ≡ [] = rw (no_more, none) refl in
    let bytes : t.gained ≡ bytes_of f q need (unused old) = sym (append-nil t.gained) ∙ (ap (λ (xs : List ℕ). t.gained ++ xs) (sym no_bytes) ∙ t.rest_bytes) in
    let ends : end_of f at missing (unused now) ≡ Whole = rw (none, chain_len-zero f big) refl in
    record {
      pages_are = t.pages_are ∙ ap (λ (xs : List ℕ). pages ++ xs) all;
      bytes_are = t.bytes_are ∙ ap (λ (xs : List ℕ). to ++ xs) bytes;
      table_is = t.table_is ∙ ap (λ (xs : List ℕ). all_moved xs OVERFLOW_LIST old) all;
      end_is = sym ends ∙ t.rest_end;
    }

take_nil : (n : ℕ) → take {A = ℕ} n [] ≡ []
take_nil zero = refl
take_nil (suc n) = refl

-- bytes are missing, and the page cannot be taken
pub turning_broken : (f : File) (q need : ℕ) (old now : Table) (pages pages' to to' : List ℕ) (missing at : ℕ) (why : Why) → 480 ≤ f.usable → 0 < missing → is_in at (unused now) ≡ false
    → why ≡ why_not f.pages at → Turning f q need old now pages pages' to to' missing at → Turned f q need old now pages pages' to to' (Broken at why)
turning_broken f q need old now pages pages' to to' missing at why big some out is t =
    let no_more : turn_of f at missing (unused now) ≡ [] = turn_refused f at missing (unused now) big some out in
    let all : t.passed ≡ turn_of f q need (unused old) = sym (append-nil t.passed) ∙ (ap (λ (xs : List ℕ). t.passed ++ xs) (sym no_more) ∙ t.rest_pages) in
    let no_bytes : bytes_of f at missing (unused now) ≡ [] = rw no_more (take_nil missing) in
    let bytes : t.gained ≡ bytes_of f q need (unused old) = sym (append-nil t.gained) ∙ (ap (λ (xs : List ℕ). t.gained ++ xs) (sym no_bytes) ∙ t.rest_bytes) in
    record {
      pages_are = t.pages_are ∙ ap (λ (xs : List ℕ). pages ++ xs) all;
      bytes_are = t.bytes_are ∙ ap (λ (xs : List ℕ). to ++ xs) bytes;
      table_is = t.table_is ∙ ap (λ (xs : List ℕ). all_moved xs OVERFLOW_LIST old) all;
      end_is = ap (λ (w : Why). Broken at w) is ∙ (sym (end_refused f at missing (unused now) big some out) ∙ t.rest_end);
    }
