-- The header of a well-formed file gives its pages.
use Rattle.std.proofs.Common.{◌≡◌, ◌≤◌, ℕ, ◌+◌, ◌*◌, ◌==◌, true, false, None, Ok, List, length, refl, ap, arith}
use Rattle.std.specs.Prelude.{nat_lt}
use Rattle.std.proofs.lemmas.Bool.Decides.{nat_tests}
use Rattle.page_size.specs.Fields.{header_of}
use Rattle.page_size.specs.Rule.{leaves_enough, rule}
use Rattle.input_pages.specs.Input.{pages_by, pages_of}
use Rattle.well_formed.specs.Header.{file_in}
use Rattle.round_trip.specs.Found.{HeadersAreFound, finding_in}

whole_pages : (pages size len : ℕ) → 1 ≤ pages → len ≡ pages * size → size ≤ len
whole_pages pages size len some whole = grind (arith, some, whole)

by_header : (bytes : List ℕ) → (header_of bytes).reserved + 480 ≤ (header_of bytes).size → (header_of bytes).size ≤ length bytes
    → rule bytes None None ≡ Ok (finding_in bytes)
by_header bytes enough whole =
    let some : nat_lt 0 (header_of bytes).size ≡ true = grind (arith, nat_tests, enough) in
    let room : leaves_enough (header_of bytes).size (header_of bytes).reserved ≡ true = grind (arith, nat_tests, enough) in
    let there : nat_lt (length bytes) (header_of bytes).size ≡ false = grind (arith, nat_tests, whole) in
    rw (some, room, there) refl

pub headers_are_found : HeadersAreFound
unfolding file_in pages_of
headers_are_found limit bytes db h few =
    let enough : (header_of bytes).reserved + 480 ≤ (header_of bytes).size = h.size.enough in
    let whole : length bytes ≡ (file_in bytes).pages * (file_in bytes).size = h.whole in
    let one : (header_of bytes).size ≤ length bytes = whole_pages (file_in bytes).pages (file_in bytes).size (length bytes) h.some whole in
    let within : nat_lt limit (length bytes) ≡ false = grind (arith, nat_tests, few) in
    let bytes_there : (length bytes == 0) ≡ false = grind (arith, nat_tests, enough, one) in
    record {
      pages = rw (within, bytes_there) (ap pages_by (by_header bytes enough one));
      file = refl;
      none_left = omega (arith, whole);
      not_utf16 =
          let le : ((header_of bytes).encoding == 2) ≡ false = grind (arith, nat_tests, h.not_le) in
          let be : ((header_of bytes).encoding == 3) ≡ false = grind (arith, nat_tests, h.not_be) in
          rw (le, be) refl;
      user_version = h.user_version;
      application_id = h.application_id;
    }
