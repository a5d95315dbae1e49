-- The header of a written file is read back.
use Rattle.std.proofs.Common.{◌≡◌, ◌<◌, ℕ, ◌^◌, ◌==◌, true, List, [], ◌∷◌, ◌++◌, length, take, drop, refl, ap, ◌∙◌, lit<}
use Rattle.std.specs.Prelude.{if◌then◌else◌}
use Rattle.byteorder.specs.Numbers.{big_number-reads_back}
use Rattle.page_access.specs.Pages.{is_page_size, zero_filled}
use Rattle.cell_reader.specs.Shape.{u32_at}
use Rattle.page_size.specs.Fields.{header_in, header_of, named_size}
use Rattle.page_size.specs.declared.headers.Header.{Header}
use Rattle.db_builder.specs.Header.{Said, header_bytes, magic}
use Rattle.layout_laws.proofs.Sizes.{of_sizes}

-- it has 100 bytes
pub header_len : (h : Said) → length (header_bytes h) ≡ 100
unfolding header_bytes
header_len h = refl

-- the first 100 bytes of a file that begins with a header
pub front_is : (h : Said) (rest : List ℕ) → zero_filled 100 (take 100 (header_bytes h ++ rest)) ≡ header_bytes h
unfolding header_bytes
front_is h rest = refl

-- ---- fields of the header, whatever follows it

pub string_is : (h : Said) (rest : List ℕ) → take 16 (header_bytes h ++ rest) ≡ magic
unfolding header_bytes
string_is h rest = refl

pub fractions_are : (h : Said) (rest : List ℕ) → take 3 (drop 21 (header_bytes h ++ rest)) ≡ 64 ∷ 32 ∷ 32 ∷ []
unfolding header_bytes
fractions_are h rest = refl

pub pages_are : (h : Said) (rest : List ℕ) → h.pages < 2 ^ 32 → u32_at (header_bytes h ++ rest) 28 ≡ h.pages
unfolding header_bytes
pages_are h rest small = big_number-reads_back 4 h.pages (drop 32 (header_bytes h ++ rest)) small

pub no_free : (h : Said) (rest : List ℕ) → u32_at (header_bytes h ++ rest) 36 ≡ 0
unfolding header_bytes
no_free h rest = refl

-- ---- what the header says

-- the page size is named, and fits two bytes
size_named : (size : ℕ) → is_page_size size ≡ true → named_size (if size == 65536 then 1 else size) ≡ size
size_named size valid = of_sizes (λ s. named_size (if s == 65536 then 1 else s) ≡ s) size refl refl refl refl refl refl refl refl valid

size_small : (size : ℕ) → is_page_size size ≡ true → (if size == 65536 then 1 else size) < 256 ^ 2
size_small size valid = of_sizes (λ s. (if s == 65536 then 1 else s) < 256 ^ 2) size (lit< tt) (lit< tt) (lit< tt) (lit< tt) (lit< tt) (lit< tt) (lit< tt) (lit< tt) valid

-- a header that is read says what was written
pub record SaysSo (h : Said) (head : Header) : Type 0 where
  pub size : head.size ≡ h.size
  pub reserved : head.reserved ≡ 0
  pub encoding : head.encoding ≡ 1
  pub first_trunk : head.first_trunk ≡ 0
  pub user_version : head.user_version ≡ h.user_version
  pub application_id : head.application_id ≡ h.application_id
  pub largest_root : head.largest_root ≡ 0

pub header_is : (h : Said) (rest : List ℕ) → is_page_size h.size ≡ true → h.user_version < 2 ^ 32 → h.application_id < 2 ^ 32 → SaysSo h (header_of (header_bytes h ++ rest))
unfolding header_bytes header_in
header_is h rest valid user app = record {
  size = ap named_size (big_number-reads_back 2 (if h.size == 65536 then 1 else h.size) (drop 18 (header_bytes h)) (size_small h.size valid)) ∙ size_named h.size valid;
  reserved = refl;
  encoding = refl;
  first_trunk = refl;
  user_version = big_number-reads_back 4 h.user_version (drop 64 (header_bytes h)) user;
  application_id = big_number-reads_back 4 h.application_id (drop 72 (header_bytes h)) app;
  largest_root = refl;
}
