-- The lengths of the records of the table, of its index and of the schema.
use Rattle.std.proofs.Common.{arith, ℕ, zero, suc, ◌+◌, ◌*◌, ◌%◌, ◌^◌, ◌<◌, ◌≤◌, pos, lit<, Bool, true, false, List, [], ◌∷◌, ◌++◌, codes, decimal, length, length-append, sum_by}
use Rattle.std.specs.Prelude.{if◌then◌else◌, nat_lt, ◌==◌}
use Rattle.std.specs.Int.{w64}
use Rattle.std.proofs.Math.Nat.{mod-lt}
use Rattle.std.proofs.lemmas.Fmt.{length-decimal-le}
use Rattle.std.proofs.lemmas.List.{length-replicate}
use Rattle.std.proofs.lemmas.List.Sums.{sum_by-cons}
use Rattle.byteorder.specs.Endian.{low_bytes}
use Rattle.byteorder.specs.Numbers.{length-bytes_high_first}
use Rattle.varint_core.specs.Shortest.{spell}
use Rattle.varint_core.proofs.Spelled.{len_is, length-spell}
use Rattle.record_core.specs.declared.values.Value.{Value}
use Rattle.record_core.specs.declared.values.Value.TheVariants.{Null, Whole, Text}
use Rattle.record_core.specs.Record.{body_len}
use Rattle.record_core.specs.Shortest.{bodies_of, body_of, header_len, record_bytes, serial_type, types_of, whole_type, width_type}
use Rattle.table_shape.specs.Keys.{StoredRow}
use Rattle.table_shape.specs.Names.{index_name}
use Rattle.db_builder.specs.Layout.{row_values}
use Rattle.db_builder.specs.Trees.{Label}
use Rattle.trial_file.specs.Rows.{body_of as blob_of, name_of, row_of, rows_from}
use Rattle.trial_file.specs.Trial.{table_text}
use Rattle.trial_file.proofs.Mixed.{name_short}

-- ---- records

spelled : (v : ℕ) → length (spell v) ≤ 9
spelled v = omega (arith, length-spell v, (len_is v).most)

types_short : (vs : List Value) → length (types_of vs) ≤ 9 * length vs
types_short [] = omega arith
types_short (v ∷ vs) = omega (arith, length-append (spell (serial_type v)) (types_of vs), spelled (serial_type v), types_short vs)

-- a record has at most nine bytes for each value and nine more, and their bodies
record_short : (vs : List Value) → length (record_bytes vs) ≤ 9 + 9 * length vs + length (bodies_of vs)
unfolding record_bytes
record_short vs =
    let n = header_len (length (types_of vs)) in
    omega (arith, length-append (spell n) (types_of vs ++ bodies_of vs), length-append (types_of vs) (bodies_of vs), spelled n, types_short vs)

pick : (b : Bool) (t rest : ℕ) → body_len t ≤ 8 → body_len rest ≤ 8 → body_len (if b then t else rest) ≤ 8
pick true t rest x y = x
pick false t rest x y = y

width_short : (n : ℕ) → body_len (width_type n) ≤ 8
unfolding body_len
width_short n =
    pick (nat_lt n (2 ^ 7)) 1 _ (omega arith) (pick (nat_lt n (2 ^ 15)) 2 _ (omega arith) (pick (nat_lt n (2 ^ 23)) 3 _ (omega arith)
    (pick (nat_lt n (2 ^ 31)) 4 _ (omega arith) (pick (nat_lt n (2 ^ 47)) 5 6 (omega arith) (omega arith)))))

whole_short : (n : ℕ) → length (body_of (Whole (pos n))) ≤ 8
unfolding whole_type body_len
whole_short n =
    omega (arith, length-bytes_high_first (body_len (whole_type (pos n))) (low_bytes w64 (body_len (whole_type (pos n))) (pos n)), by (n == 0) (n == 1))
  where
    by : (a b : Bool) → body_len (if a then 8 else (if b then 9 else width_type n)) ≤ 8
    by true b = omega arith
    by false true = omega arith
    by false false = width_short n

-- ---- of rows, of entries of the index, of rows of the schema

blob_short : (i : ℕ) → length (blob_of i) ≤ 700
blob_short i =
    let lt : i % 701 < 701 = mod-lt i (lit< tt) in
    let len = length-replicate (i % 701) (i % 256) in
    omega (arith, lt, len)

pub row_short : (i : ℕ) → length (record_bytes (row_of i).fields) ≤ 744
row_short i =
    omega (
      arith,
      record_short (row_of i).fields,
      length-append (name_of i) (blob_of i ++ []),
      length-append (blob_of i) [],
      name_short i,
      blob_short i,
    )

-- the values of an entry of the index
abbrev pub index_values : ℕ → List Value
index_values i = Text (name_of i) ∷ (Whole (pos i) ∷ [])

pub index_short : (i : ℕ) → length (record_bytes (index_values i)) ≤ 43
index_short i =
    omega (
      arith,
      record_short (index_values i),
      length-append (name_of i) (body_of (Whole (pos i)) ++ []),
      length-append (body_of (Whole (pos i))) [],
      name_short i,
      whole_short i,
    )

-- what the schema says of the table and of its index
abbrev pub table_label : Label
table_label = record { type_name = codes "table"; name = codes "t"; table = codes "t"; sql = Text table_text }

abbrev pub index_label : Label
index_label = record { type_name = codes "index"; name = index_name (codes "t") 1; table = codes "t"; sql = Null }

pub table_label_short : (root : ℕ) → length (record_bytes (row_values table_label root)) ≤ 136
table_label_short root =
    omega (
      arith,
      record_short (row_values table_label root),
      length-append (body_of (Whole (pos root))) (table_text ++ []),
      whole_short root,
    )

pub index_label_short : (root : ℕ) → length (record_bytes (row_values index_label root)) ≤ 136
unfolding index_name
index_label_short root =
    omega (
      arith,
      record_short (row_values index_label root),
      length-append (decimal 1) (codes "t" ++ (body_of (Whole (pos root)) ++ [])),
      length-decimal-le 1 1 (lit< tt) (lit< tt) (lit< tt),
      length-append (body_of (Whole (pos root))) [],
      whole_short root,
    )

-- ---- sums over rows

pub sum_most : (f : StoredRow → ℕ) (m k n : ℕ) → ((i : ℕ) → f (row_of i) ≤ m) → sum_by f (rows_from k n) ≤ n * m
sum_most f m k zero each = omega arith
sum_most f m k (suc n) each =
    omega (arith, sum_by-cons f (row_of k) (rows_from (k + 1) n), each k, sum_most f m (k + 1) n each)
