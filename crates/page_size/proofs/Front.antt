-- The first bytes of a file.
use Rattle.std.proofs.Common.{◌≡◌, ◌∙◌, ℕ, ◌-◌, min, List, ◌++◌, length, take, replicate, Option, Some, None, IfSome, sym, ap, arith, length-take, lit≤}
use Rattle.std.proofs.lemmas.List.{append-nil, take_min, take-take}
use Rattle.page_access.specs.Pages.{zero_filled}
use Rattle.page_size.specs.declared.headers.Header.{Header}
use Rattle.page_size.specs.Fields.{header_in, header_of}

-- so many bytes as are there, and as a header has
front_of_file : (bytes : List ℕ) (count : ℕ) → count ≡ min (length bytes) 100 → zero_filled count (take count bytes) ≡ take 100 bytes
front_of_file bytes count count_is =
    let none : count - length (take count bytes) ≡ 0 = omega (arith, count_is, length-take count bytes) in
    let all : count ≡ min 100 (length bytes) = omega (arith, count_is) in
    ap (λ k. take count bytes ++ replicate k 0) none
    ∙ append-nil (take count bytes)
    ∙ ap (λ n. take n bytes) all
    ∙ take_min 100 bytes

-- the header of a file is told from its first bytes
header_of-front : (bytes : List ℕ) (count : ℕ) → count ≡ min (length bytes) 100 → header_of (zero_filled count (take count bytes)) ≡ header_of bytes
header_of-front bytes count count_is =
    ap header_of (front_of_file bytes count count_is) ∙ ap (λ t. header_in (zero_filled 100 t)) (take-take 100 100 bytes (lit≤ tt))

-- the same where the bytes are told, and `front` holds the first ones
pub told_header : (o : Option (List ℕ)) (len : ℕ) (front : List ℕ) (h : Header) → length front ≡ min len 100 → h ≡ header_of front →
    IfSome o (λ all. front ≡ zero_filled (length front) (take (length front) all)) → IfSome o (λ all. length all ≡ len → h ≡ header_of all)
told_header None len front h size told filled = tt
told_header (Some all) len front h size told filled = λ long.
    told ∙ ap header_of filled ∙ header_of-front all (length front) (size ∙ ap (λ n. min n 100) (sym long))
