-- A source that holds few of its pages: its bytes one by one are its bytes.
use Rattle.std.proofs.Common.{◌≡◌, ◌<◌, ◌≤◌, ◌∙◌, ℕ, ◌+◌, ◌-◌, ◌*◌, ◌/◌, ◌%◌, min, List, ◌++◌, length, take, drop, get_or, sym, ap, inl, inr, arith, length-take, length-drop, Vec}
use Rattle.std.specs.declared.alloc.Global.{Global}
use Rattle.std.proofs.lemmas.List.{get_or-take, get_or-drop}
use Rattle.std.proofs.lemmas.List.FromFn.{length-map-range_with_len, get_or-map-range_with_len}
use Rattle.std.proofs.Math.ListN.{get_or-append}
use Rattle.std.proofs.Math.Seq.{get_or-append_right}
use Rattle.std.proofs.lemmas.Bool.{cases_lt}
use Rattle.std.proofs.lemmas.Nat.{div-add-mod', div-mul-add, mod-mul-add}
use Rattle.std.proofs.lemmas.Grind.{same_number_lists}
use borrow.Rule.Slice.PartMut.{put_mid, post_of}
use Rattle.page_access.specs.Outside.{ReadsAt}
use Rattle.page_access.specs.Memory.{page_byte, sparse_byte, sparse_bytes}

pub length-sparse_bytes : (size : ℕ) (pages : List (ℕ × Vec ℕ Global)) (len : ℕ) → length (sparse_bytes size pages len) ≡ len
unfolding sparse_bytes
length-sparse_bytes size pages len = length-map-range_with_len (λ k. sparse_byte size pages k) 0 len

get_or-sparse_bytes : (size : ℕ) (pages : List (ℕ × Vec ℕ Global)) (len k : ℕ) → k < len → get_or (sparse_bytes size pages len) k 0 ≡ sparse_byte size pages k
unfolding sparse_bytes
get_or-sparse_bytes size pages len k inside = get_or-map-range_with_len (λ k. sparse_byte size pages k) 0 len k k 0 inside (omega arith)

-- bytes that were read one by one are a read
pub sparse_read : (size : ℕ) (pages : List (ℕ × Vec ℕ Global)) (len at count : ℕ) (to : List ℕ) → count ≡ min (length to) (len - at) →
    ((k : ℕ) → k < count → get_or to k 0 ≡ sparse_byte size pages (at + k)) → ReadsAt (sparse_bytes size pages len) at count to
sparse_read size pages len at count to count_is each =
    let all_len : length (sparse_bytes size pages len) ≡ len = length-sparse_bytes size pages len in
    record {
      count_is = omega (arith, count_is, all_len);
      front = same_number_lists (take count to) (take count (drop at (sparse_bytes size pages len)))
          (omega (arith, length-take count to, length-take count (drop at (sparse_bytes size pages len)), length-drop at (sparse_bytes size pages len), all_len))
          (λ k below.
          let inside : k < count = omega (arith, length-take count to) in
          get_or-take count to k 0 inside ∙ each k inside
          ∙ sym (get_or-take count (drop at (sparse_bytes size pages len)) k 0 inside
          ∙ get_or-drop at (sparse_bytes size pages len) k 0 ∙ get_or-sparse_bytes size pages len (at + k) (omega arith)));
    }

-- the bytes behind a place, up to the end of its page, stand in its page
page_byte-behind : (size : ℕ) (pages : List (ℕ × Vec ℕ Global)) (place j : ℕ) → place % size + j < size →
    page_byte pages (place / size + 1) (place % size + j) ≡ sparse_byte size pages (place + j)
page_byte-behind size pages place j inside =
    let e : place + j ≡ place / size * size + (place % size + j) = omega (arith, div-add-mod' place size) in
    let number : (place + j) / size ≡ place / size = ap (λ n. n / size) e ∙ div-mul-add (place / size) size (place % size + j) inside in
    let offset : (place + j) % size ≡ place % size + j = ap (λ n. n % size) e ∙ mod-mul-add (place / size) size (place % size + j) inside in
    sym (ap (λ n. page_byte pages (n + 1) ((place + j) % size)) number ∙ ap (λ n. page_byte pages (place / size + 1) n) offset)

-- the next bytes, all of one page
pub copied_next : (size : ℕ) (pages : List (ℕ × Vec ℕ Global)) (at done count part : ℕ) (to piece : List ℕ) →
    done ≤ length to → part ≡ count → length piece ≡ count → count ≤ size - (at + done) % size →
    ((k : ℕ) → k < done → get_or to k 0 ≡ sparse_byte size pages (at + k)) →
    ((k : ℕ) → k < length piece → get_or piece k 0 ≡ page_byte pages ((at + done) / size + 1) ((at + done) % size + k)) →
    (k : ℕ) → k < done + count → get_or (put_mid done part to piece) k 0 ≡ sparse_byte size pages (at + k)
copied_next size pages at done count part to piece inside part_is size_is short before next k below =
    let front : length (take done to) ≡ done = omega (arith, length-take done to) in
    elim (cases_lt k done) [
      | inl lt ↦ get_or-append (take done to) (piece ++ post_of done part to) 0 k (omega arith) ∙ get_or-take done to k 0 lt ∙ before k lt
      | inr le ↦
          let within : k - done < length piece = omega arith in
          get_or-append_right (take done to) (piece ++ post_of done part to) k 0 (omega arith)
          ∙ ap (λ n. get_or (piece ++ post_of done part to) (k - n) 0) front
          ∙ get_or-append piece (post_of done part to) 0 (k - done) within
          ∙ next (k - done) within
          ∙ page_byte-behind size pages (at + done) (k - done) (omega arith)
          ∙ ap (λ n. sparse_byte size pages n) (omega arith)
    ]
