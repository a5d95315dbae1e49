-- The header of a written file (docs/FORMAT.md, "The header"; fileformat2.html, 1.3).
use Rattle.std.specs.Prelude.{ℕ, ◌==◌, if◌then◌else◌, codes, List, [], ◌∷◌, ◌++◌, replicate}
use Rattle.byteorder.specs.Endian.{big_bytes}

-- what the header says of a file: its page size, its number of pages, and two numbers that are handed on
pub record Said : Type 0 where
  pub size : ℕ
  pub pages : ℕ
  pub user_version : ℕ
  pub application_id : ℕ

-- the string at the head of each file
abbrev pub magic : List ℕ
magic = codes "SQLite format 3" ++ 0 ∷ []

-- the page size in two bytes, where 1 stands for 65536
abbrev pub size_field : ℕ → List ℕ
size_field size = big_bytes 2 (if size == 65536 then 1 else size)

-- legacy write and read version, no reserved bytes, the payload fractions, and the change counter
abbrev pub fixed_fields : List ℕ
fixed_fields = 1 ∷ (1 ∷ (0 ∷ (64 ∷ (32 ∷ (32 ∷ big_bytes 4 1)))))

-- no trunk and no page of a freelist, schema cookie and schema format
abbrev pub count_fields : List ℕ
count_fields = replicate 8 0 ++ (big_bytes 4 1 ++ big_bytes 4 4)

-- the same, default cache size, no largest root page, and the text encoding UTF-8
abbrev pub schema_fields : List ℕ
schema_fields = count_fields ++ (replicate 8 0 ++ big_bytes 4 1)

-- zeros, the change counter for which the number of pages is valid, and the version of the writer
abbrev pub last_fields : List ℕ
last_fields = replicate 20 0 ++ (big_bytes 4 1 ++ big_bytes 4 3037000)

-- the 100 bytes of the header; between the two numbers there is no incremental vacuum
unfoldable pub header_bytes : Said → List ℕ
header_bytes h = magic ++ (size_field h.size ++ (fixed_fields ++ (big_bytes 4 h.pages ++ (schema_fields
    ++ (big_bytes 4 h.user_version ++ (replicate 4 0 ++ (big_bytes 4 h.application_id ++ last_fields)))))))
