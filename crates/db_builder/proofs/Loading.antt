-- Sums that stay at 2^128 - 1, and the length of a row of the schema.
use Rattle.std.proofs.Common.{◌≡◌, ◌≤◌, ◌<◌, ◌+◌, ◌-◌, ◌*◌, ◌^◌, ℕ, pos, min, List, [], ◌∷◌, ◌++◌, length, get_or, drop, sum_by, sym, ap, ◌∙◌, subst, arith, map, length-append}
use Rattle.std.specs.Prelude.{if◌then◌else◌, codes, decimal, nat_lt}
use Rattle.std.proofs.Math.ListN.{drop_of_length-le}
use Rattle.std.proofs.lemmas.Bool.{lt-ltb}
use Rattle.std.proofs.lemmas.List.{get_or-map, length-map}
use Rattle.std.proofs.lemmas.List.Sums.{sum_by-drop_more}
use Rattle.std.specs.List.{AllByRecursion}
use Rattle.std.specs.Int.{w64}
use Rattle.byteorder.specs.Endian.{low_bytes}
use Rattle.byteorder.specs.Numbers.{length-bytes_high_first}
use Rattle.table_shape.specs.declared.columns.Column.{Column}
use Rattle.table_shape.specs.declared.columns.Key.{Key}
use Rattle.table_shape.specs.declared.rows.OutRow.{OutRow}
use Rattle.table_shape.specs.Keys.{KeyParts, StoredRow, parts_of}
use Rattle.table_shape.specs.Names.{index_name}
use Rattle.table_shape.specs.Seen.{row_seen}
use Rattle.table_shape.specs.Shape.{IsKeyOf, Shape, key_seen}
use Rattle.tree_writer.proofs.Writing.{all_at}
use Rattle.varint_core.specs.Shortest.{spell, varint_len}
use Rattle.varint_core.proofs.Spelled.{len_is, len_least, length-spell}
use Rattle.record_core.specs.declared.values.Value.TheVariants.{Text, Whole}
use Rattle.record_core.specs.Record.{body_len}
use Rattle.record_core.specs.Shortest.{bodies_of, body_of, header_len, record_bytes, serial_type, types_of, whole_type}
use Rattle.record_core.proofs.Written.{record_len_is, whole_small}
use Rattle.db_builder.specs.Load.{HaveFewValues, label_load}
use Rattle.db_builder.specs.Views.{no_row}
use Rattle.db_builder.proofs.Viewing.{row_is}
use Rattle.db_builder.specs.Layout.{row_values}
use Rattle.db_builder.specs.Trees.{Label}

-- one more is taken in, and nothing is left
pub sat_next : {X : Type 0} (f : X → ℕ) (xs : List X) (i t n now : ℕ) (x d : X) (all : ℕ) → i < length xs → get_or xs i d ≡ x → min n (2 ^ 128 - 1) ≡ min (f x) (2 ^ 128 - 1)
    → now ≡ min (t + n) (2 ^ 128 - 1) → min (t + sum_by f (drop i xs)) (2 ^ 128 - 1) ≡ all → min (now + sum_by f (drop (i + 1) xs)) (2 ^ 128 - 1) ≡ all
sat_next f xs i t n now x d all lt is same total before =
    let e : sum_by f (drop i xs) ≡ f x + sum_by f (drop (i + 1) xs) = sum_by-drop_more f xs i d lt ∙ ap (λ y. f y + sum_by f (drop (i + 1) xs)) is in
    omega (arith, e, same, total, before)

pub sat_end : {X : Type 0} (f : X → ℕ) (xs : List X) (i t all : ℕ) → length xs ≤ i → t ≤ 2 ^ 128 - 1 → min (t + sum_by f (drop i xs)) (2 ^ 128 - 1) ≡ all → t ≡ all
sat_end f xs i t all le small before =
    let e : sum_by f (drop i xs) ≡ 0 = ap (sum_by f) (drop_of_length-le xs le) in
    omega (arith, e, small, before)

-- the same over rows as they are seen
pub rows_next : (f : StoredRow → ℕ) (rows items : List OutRow) (i t n now : ℕ) (r : OutRow) (all : ℕ) → items ≡ rows → i < length items → r ≡ get_or items i r → n ≡ f (row_seen r)
    → now ≡ min (t + n) (2 ^ 128 - 1) → min (t + sum_by f (drop i (map row_seen rows))) (2 ^ 128 - 1) ≡ all
    → min (now + sum_by f (drop (i + 1) (map row_seen rows))) (2 ^ 128 - 1) ≡ all
rows_next f rows items i t n now r all e lt is same total before =
    let within : i < length rows = omega (arith, lt, ap length e) in
    sat_next f (map row_seen rows) i t n now (row_seen r) no_row all (omega (arith, within, length-map rows row_seen))
    (row_is rows i r within (is ∙ ap (λ xs. get_or xs i r) e)) (ap (λ k. min k (2 ^ 128 - 1)) same) total before

pub rows_end : (f : StoredRow → ℕ) (rows items : List OutRow) (i t all : ℕ) → items ≡ rows → length items ≤ i → t ≤ 2 ^ 128 - 1
    → min (t + sum_by f (drop i (map row_seen rows))) (2 ^ 128 - 1) ≡ all → t ≡ all
rows_end f rows items i t all e le small before = sat_end f (map row_seen rows) i t all (omega (arith, le, ap length e, length-map rows row_seen)) small before

-- and over keys
pub keys_next : (f : KeyParts → ℕ) (s : Shape) (keys items : List Key) (i t n now : ℕ) (k : Key) (all : ℕ) → items ≡ keys → i < length items → k ≡ get_or items i k
    → n ≡ min (f (parts_of s (key_seen k))) (2 ^ 128 - 1) → now ≡ min (t + n) (2 ^ 128 - 1)
    → min (t + sum_by f (drop i (map (parts_of s) (map key_seen keys)))) (2 ^ 128 - 1) ≡ all
    → min (now + sum_by f (drop (i + 1) (map (parts_of s) (map key_seen keys)))) (2 ^ 128 - 1) ≡ all
keys_next f s keys items i t n now k all e lt is same total before =
    let within : i < length keys = omega (arith, lt, ap length e) in
    let more : i < length (map key_seen keys) = omega (arith, within, length-map keys key_seen) in
    sat_next f (map (parts_of s) (map key_seen keys)) i t n now (parts_of s (key_seen k)) (parts_of s (key_seen k)) all
    (omega (arith, more, length-map (map key_seen keys) (parts_of s)))
    (get_or-map (parts_of s) (map key_seen keys) i (key_seen k) (parts_of s (key_seen k)) more
    ∙ ap (parts_of s) (get_or-map key_seen keys i k (key_seen k) within ∙ ap key_seen (sym (is ∙ ap (λ xs. get_or xs i k) e))))
    (omega (arith, same)) total before

pub keys_end : (f : KeyParts → ℕ) (s : Shape) (keys items : List Key) (i t all : ℕ) → items ≡ keys → length items ≤ i → t ≤ 2 ^ 128 - 1
    → min (t + sum_by f (drop i (map (parts_of s) (map key_seen keys)))) (2 ^ 128 - 1) ≡ all → t ≡ all
keys_end f s keys items i t all e le small before =
    sat_end f (map (parts_of s) (map key_seen keys)) i t all (omega (arith, le, ap length e, length-map keys key_seen, length-map (map key_seen keys) (parts_of s))) small before

-- a row has few values, and a key of a shape is one
pub few_at : (rows items : List OutRow) (i : ℕ) (r : OutRow) → HaveFewValues rows → items ≡ rows → i < length items → r ≡ get_or items i r → length r.fields.items ≤ 4000
few_at rows items i r few e lt is =
    let within : i < length rows = omega (arith, lt, ap length e) in
    subst (λ (row : StoredRow). length row.fields ≤ 4000) (row_is rows i r within (is ∙ ap (λ xs. get_or xs i r) e)) (few i within)

pub key_at : (columns : List Column) (keys items : List Key) (i : ℕ) (k : Key) → AllByRecursion (IsKeyOf columns) (map key_seen keys) → items ≡ keys → i < length items
    → k ≡ get_or items i k → IsKeyOf columns (key_seen k)
key_at columns keys items i k all e lt is =
    let within : i < length keys = omega (arith, lt, ap length e) in
    subst (IsKeyOf columns) (get_or-map key_seen keys i k (key_seen k) within ∙ ap key_seen (sym (is ∙ ap (λ xs. get_or xs i k) e)))
    (all_at (IsKeyOf columns) (key_seen k) (map key_seen keys) i all (omega (arith, within, length-map keys key_seen)))

spelled_most : (n : ℕ) → length (spell n) ≤ 9
spelled_most n = omega (arith, length-spell n, (len_is n).most)

small_header : (n : ℕ) → n < 127 → header_len n ≡ n + 1
small_header n lt = ap (λ b. if b then n + 1 else (if nat_lt n 16382 then n + 2 else n + 3)) (lt-ltb n 127 lt)

spelled_23 : length (spell 23) ≡ 1
unfolding varint_len
spelled_23 = length-spell 23

spelled_one : (n : ℕ) → n ≤ 9 → length (spell n) ≡ 1
spelled_one n le =
    let len = len_is n in omega (arith, length-spell n, len.some, len_least n (varint_len n) 1 len (omega arith) (omega (arith, le)))

pub root_body : length (body_of (Whole (pos (2 ^ 30)))) ≡ 4
unfolding whole_type body_len
root_body = length-bytes_high_first 4 (low_bytes w64 4 (pos (2 ^ 30)))

pub spelled_0 : length (spell 0) ≡ 1
unfolding varint_len
spelled_0 = length-spell 0

pub index_name_len : (table : List ℕ) (number : ℕ) → length (index_name table number) ≡ length table + length (decimal number) + 18
unfolding index_name
index_name_len table number =
    omega (arith, length-append (codes "sqlite_autoindex_") (table ++ (codes "_" ++ decimal number)), length-append table (codes "_" ++ decimal number), length-append (codes "_") (decimal number))

-- the length of the record of a row of the schema
pub label_len : (l : Label) (root : ℕ) → length l.type_name ≡ 5
    → length (record_bytes (row_values l root)) ≡ length (spell (2 * length l.name + 13)) + length (spell (2 * length l.table + 13)) + length l.name + length l.table + 8
    + length (spell (serial_type l.sql)) + length (body_of l.sql) + length (body_of (Whole (pos root)))
label_len l number five =
    let root = Whole (pos number) in
    let vs = row_values l number in
    let vs1 = Text l.name ∷ Text l.table ∷ root ∷ l.sql ∷ [] in
    let vs2 = Text l.table ∷ root ∷ l.sql ∷ [] in
    let vs3 = root ∷ l.sql ∷ [] in
    let vs4 = l.sql ∷ [] in
    let t0 = length-append (spell (serial_type (Text l.type_name))) (types_of vs1) in
    let t1 = length-append (spell (serial_type (Text l.name))) (types_of vs2) in
    let t2 = length-append (spell (serial_type (Text l.table))) (types_of vs3) in
    let t3 = length-append (spell (serial_type root)) (types_of vs4) in
    let t4 = length-append (spell (serial_type l.sql)) (types_of []) in
    let b0 = length-append l.type_name (bodies_of vs1) in
    let b1 = length-append l.name (bodies_of vs2) in
    let b2 = length-append l.table (bodies_of vs3) in
    let b3 = length-append (body_of root) (bodies_of vs4) in
    let b4 = length-append (body_of l.sql) (bodies_of []) in
    let first : length (spell (2 * length l.type_name + 13)) ≡ 1 = ap (λ n. length (spell (2 * n + 13))) five ∙ spelled_23 in
    let fourth : length (spell (serial_type root)) ≡ 1 = spelled_one (serial_type root) (whole_small (pos number)) in
    let types : length (types_of vs) ≡ 2 + length (spell (2 * length l.name + 13)) + length (spell (2 * length l.table + 13)) + length (spell (serial_type l.sql))
    = omega (arith, t0, t1, t2, t3, t4, first, fourth) in
    let bodies : length (bodies_of vs) ≡ 5 + length l.name + length l.table + length (body_of l.sql) + length (body_of root)
    = omega (arith, b0, b1, b2, b3, b4, five) in
    let few : length (types_of vs) < 127 = omega (arith, types, spelled_most (2 * length l.name + 13), spelled_most (2 * length l.table + 13), spelled_most (serial_type l.sql)) in
    omega (arith, record_len_is vs (omega arith), small_header (length (types_of vs)) few, types, bodies)

-- the lengths of the parts of a row of the schema
pub label_is : (l : Label) → length l.type_name ≡ 5
    → label_load l ≡ length (spell (2 * length l.name + 13)) + length (spell (2 * length l.table + 13)) + length l.name + length l.table + 44
    + length (spell (serial_type l.sql)) + length (body_of l.sql)
label_is l five = omega (arith, label_len l (2 ^ 30) five, root_body)
