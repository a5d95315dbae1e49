-- A file with a page of zeros, other than page 1, keeps its header and its length.
use Rattle.std.proofs.Common.{◌≡◌, refl, sym, ap, subst, ◌∙◌, arith, ℕ, ◌+◌, ◌-◌, ◌*◌, ◌/◌, ◌≤◌, lit≤, List, [], ◌∷◌, ◌++◌, length, length-append, take, take-take, drop, replicate}
use Rattle.std.proofs.lemmas.List.{drop-take, length-drop, length-replicate, length-take-le, take-append-le}
use Rattle.page_access.specs.Pages.{zero_filled}
use Rattle.byteorder.specs.Endian.{big_number}
use Rattle.cell_reader.specs.Shape.{u32_at}
use Rattle.page_size.specs.Fields.{header_in, header_of}
use Rattle.page_size.specs.Rule.{IsUsable}
use Rattle.page_size.specs.declared.headers.Header.{Header}
use Rattle.well_formed.specs.Database.{Database}
use Rattle.well_formed.specs.Header.{IsHeader, file_in}
use Rattle.salvage_trial.specs.Holes.{page_size, with_hole}

-- ---- fields of the first 100 bytes

-- four bytes are those of the front
number_front : (xs : List ℕ) → big_number 4 (take 8 xs) ≡ big_number 4 xs
number_front [] = refl
number_front (a ∷ []) = refl
number_front (a ∷ b ∷ []) = refl
number_front (a ∷ b ∷ c ∷ []) = refl
number_front (a ∷ b ∷ c ∷ d ∷ xs) = refl

-- a field of four bytes at k
field_front : (bytes : List ℕ) (k : ℕ) → k + 8 ≤ 100 → u32_at bytes k ≡ u32_at (take 100 bytes) k
field_front bytes k few =
    let cut : drop k (take (k + 8) (take 100 bytes)) ≡ take 8 (drop k (take 100 bytes)) = drop-take k 8 (take 100 bytes) in
    let own : drop k (take (k + 8) bytes) ≡ take 8 (drop k bytes) = drop-take k 8 bytes in
    let same : drop k (take (k + 8) (take 100 bytes)) ≡ drop k (take (k + 8) bytes) = ap (drop k) (take-take (k + 8) 100 bytes few) in
    sym (number_front (drop k bytes)) ∙ (ap (big_number 4) (sym own ∙ (sym same ∙ cut)) ∙ number_front (drop k (take 100 bytes)))

fractions_front : (bytes : List ℕ) → take 3 (drop 21 bytes) ≡ take 3 (drop 21 (take 100 bytes))
fractions_front bytes =
    sym (drop-take 21 3 bytes) ∙ (ap (drop 21) (sym (take-take 24 100 bytes (lit≤ tt))) ∙ drop-take 21 3 (take 100 bytes))

-- ---- bytes with the same front and length

pub header_stays : (a b : List ℕ) (d : Database) → take 100 a ≡ take 100 b → length a ≡ length b → IsHeader a d → IsHeader b d
unfolding file_in
header_stays a b d front len h =
    let head : header_of a ≡ header_of b = ap (λ (x : List ℕ). header_in (zero_filled 100 x)) front in
    let pages : (file_in a).pages ≡ (file_in b).pages = λ i. len i / (head i).size in
    let field : (k : ℕ) → k + 8 ≤ 100 → u32_at a k ≡ u32_at b k =
    λ k few. field_front a k few ∙ (ap (λ (x : List ℕ). u32_at x k) front ∙ sym (field_front b k few)) in
    record {
      size = subst (λ (x : Header). IsUsable x.size x.reserved) head h.size;
      some = subst (λ n. 1 ≤ n) pages h.some;
      whole = sym len ∙ (h.whole ∙ (λ i. pages i * (head i).size));
      string = sym (take-take 16 100 b (lit≤ tt)) ∙ (ap (take 16) (sym front) ∙ (take-take 16 100 a (lit≤ tt) ∙ h.string));
      fractions = fractions_front b ∙ (ap (λ (x : List ℕ). take 3 (drop 21 x)) (sym front) ∙ (sym (fractions_front a) ∙ h.fractions));
      no_vacuum = ap (λ (x : Header). x.largest_root) (sym head) ∙ h.no_vacuum;
      not_le = λ e. h.not_le (ap (λ (x : Header). x.encoding) head ∙ e);
      not_be = λ e. h.not_be (ap (λ (x : Header). x.encoding) head ∙ e);
      pages = λ valid_for some.
          sym (field 28 (lit≤ tt)) ∙ (h.pages (field 24 (lit≤ tt) ∙ (valid_for ∙ sym (field 92 (lit≤ tt)))) (λ e. some (sym (field 28 (lit≤ tt)) ∙ e)) ∙ pages);
      user_version = ap (λ (x : Header). x.user_version) (sym head) ∙ h.user_version;
      application_id = ap (λ (x : Header). x.application_id) (sym head) ∙ h.application_id;
    }

-- ---- a page of zeros

pub hole_length : (p : ℕ) (bytes : List ℕ) → 1 ≤ p → p * page_size ≤ length bytes → length bytes ≡ length (with_hole p bytes)
hole_length p bytes least most =
    let front : length (take ((p - 1) * page_size) bytes) ≡ (p - 1) * page_size = length-take-le ((p - 1) * page_size) bytes (omega (arith, least, most)) in
    let zeros : length (replicate {A = ℕ} page_size 0) ≡ page_size = length-replicate {A = ℕ} page_size 0 in
    let rest = length-drop (p * page_size) bytes in
    let one = length-append (take ((p - 1) * page_size) bytes) (replicate page_size 0 ++ drop (p * page_size) bytes) in
    let two = length-append (replicate page_size 0) (drop (p * page_size) bytes) in
    omega (arith, least, most, front, zeros, rest, one, two)

hole_front : (p : ℕ) (bytes : List ℕ) → 2 ≤ p → p * page_size ≤ length bytes → take 100 bytes ≡ take 100 (with_hole p bytes)
hole_front p bytes least most =
    let front : length (take ((p - 1) * page_size) bytes) ≡ (p - 1) * page_size = length-take-le ((p - 1) * page_size) bytes (omega (arith, least, most)) in
    let long : 100 ≤ length (take ((p - 1) * page_size) bytes) = omega (arith, front, least) in
    sym (take-append-le 100 (take ((p - 1) * page_size) bytes) (replicate page_size 0 ++ drop (p * page_size) bytes) long
    ∙ take-take 100 ((p - 1) * page_size) bytes (omega (arith, least)))

pub hole_header : (p : ℕ) (bytes : List ℕ) (d : Database) → 2 ≤ p → p * page_size ≤ length bytes → IsHeader bytes d → IsHeader (with_hole p bytes) d
hole_header p bytes d least most h =
    header_stays bytes (with_hole p bytes) d (hole_front p bytes least most) (hole_length p bytes (omega (arith, least)) most) h
