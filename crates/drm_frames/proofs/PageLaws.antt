-- The rows of an audit as bytes, both ways.
use Rattle.std.proofs.Common.{◌≡◌, ℕ, zero, suc, ◌+◌, ◌-◌, ◌*◌, ◌<◌, ◌≤◌, List, [], ◌∷◌, ◌++◌, All, length, drop, refl, sym, ap, ◌∙◌, arith}
use Rattle.std.specs.List.{flat_map}
use Rattle.std.proofs.lemmas.List.{append_assoc, length-append, drop_at, length-drop, drop-drop, nil_from_length}
use Rattle.drm_table.specs.declared.audits.AuditRow.{AuditRow}
use Rattle.drm_frames.specs.Number.{u32, u64, u32_in, u64_in, AreBytes}
use Rattle.drm_frames.specs.Pages.{row_text, page_text, FitsRow, FitsPage, row_in, rows_in}
use Rattle.drm_frames.proofs.NumberBytes.{AreBytes-drop, u32-front, u64-front, u64_in-u64, length-u32, length-u64}
use Rattle.drm_frames.proofs.FieldLaws.{AreBytes-nil, AreBytes-u32, AreBytes-u64, AreBytes-append, u64_in-below}

-- ---- one row more is read

-- After one more row is read, the rows so far and those in the rest are still the whole page.
pub row-read : (count done : ℕ) (page page' : List AuditRow) (rest rest' bytes : List ℕ) (row : AuditRow) → done < count
    → page ++ rows_in (count - done) rest ≡ rows_in count bytes → page' ≡ page ++ row ∷ [] → row ≡ row_in rest
    → rest' ≡ drop 32 rest
    → page' ++ rows_in (count - (done + 1)) rest' ≡ rows_in count bytes
row-read count done page page' rest rest' bytes row more so_far pushed is cut =
    let left : count - done ≡ suc (count - (done + 1)) = omega arith in
    let before : page ++ (row_in rest ∷ rows_in (count - (done + 1)) (drop 32 rest)) ≡ rows_in count bytes =
    ap (λ (n : ℕ). page ++ rows_in n rest) (sym left) ∙ so_far in
    rw (pushed, cut, is) (append_assoc page (row_in rest ∷ []) (rows_in (count - (done + 1)) (drop 32 rest)) ∙ before)

-- A page with one more row is longer by one.
pub one-longer : (page page' : List AuditRow) (row : AuditRow) (done : ℕ) → page' ≡ page ++ row ∷ []
    → length page ≡ done → length page' ≡ done + 1
one-longer page page' row done pushed len = ap length pushed ∙ omega (arith, length-append page (row ∷ []), len)

-- ---- a row that is written is read

-- the row, and the bytes after it
row-apart : (row : AuditRow) (rest : List ℕ)
    → row_text row ++ rest ≡ u64 row.a ++ (u64 row.b ++ (u64 row.c ++ (u64 row.d ++ rest)))
row-apart row rest = simp append_assoc

-- A row takes 32 bytes.
pub length-row : (row : AuditRow) → length (row_text row) ≡ 32
length-row row =
    omega (
      arith,
      length-append (u64 row.a ++ u64 row.b ++ u64 row.c) (u64 row.d),
      length-append (u64 row.a ++ u64 row.b) (u64 row.c),
      length-append (u64 row.a) (u64 row.b),
      length-u64 row.a,
      length-u64 row.b,
      length-u64 row.c,
      length-u64 row.d,
    )

eight-behind : (n : ℕ) (rest : List ℕ) → drop 8 (u64 n ++ rest) ≡ rest
eight-behind n rest = drop_at (u64 n) rest 8 (length-u64 n)

row-is : (a b c d x y z w : ℕ) → a ≡ x → b ≡ y → c ≡ z → d ≡ w
    → ◌≡◌ {A = AuditRow} (record { a = a; b = b; c = c; d = d }) (record { a = x; b = y; c = z; d = w })
row-is a b c d x y z w e f g h = rw (e, f, g, h) refl

row-written : (row : AuditRow) (rest : List ℕ) → FitsRow row
    → row_in (u64 row.a ++ (u64 row.b ++ (u64 row.c ++ (u64 row.d ++ rest)))) ≡ row
row-written row rest fits =
    let from_b = u64 row.b ++ (u64 row.c ++ (u64 row.d ++ rest)) in
    let from_c = u64 row.c ++ (u64 row.d ++ rest) in
    let from_d = u64 row.d ++ rest in
    let text = u64 row.a ++ from_b in
    let second : drop 8 text ≡ from_b = eight-behind row.a from_b in
    let third : drop 16 text ≡ from_c = sym (drop-drop 8 8 text) ∙ ap (drop 8) second ∙ eight-behind row.b from_c in
    let fourth : drop 24 text ≡ from_d = sym (drop-drop 8 16 text) ∙ ap (drop 8) third ∙ eight-behind row.c from_d in
    row-is _ _ _ _ row.a row.b row.c row.d (u64_in-u64 row.a from_b fits.0)
    (ap u64_in second ∙ u64_in-u64 row.b from_c fits.1) (ap u64_in third ∙ u64_in-u64 row.c from_d fits.2)
    (ap u64_in fourth ∙ u64_in-u64 row.d rest fits.3)

-- A row that fits is read again from its bytes.
pub row_in-row : (row : AuditRow) (rest : List ℕ) → FitsRow row → row_in (row_text row ++ rest) ≡ row
row_in-row row rest fits = ap row_in (row-apart row rest) ∙ row-written row rest fits

head-fits : (row : AuditRow) (rows : List AuditRow) → All FitsRow (row ∷ rows) → FitsRow row
head-fits row rows each = each 0 row (omega arith)

tail-fits : (row : AuditRow) (rows : List AuditRow) → All FitsRow (row ∷ rows) → All FitsRow rows
tail-fits row rows each = λ k d h. each (suc k) d (omega arith)

-- Rows that fit are read again from their bytes.
pub rows_in-rows : (rows : List AuditRow) → All FitsRow rows → rows_in (length rows) (flat_map row_text rows) ≡ rows
rows_in-rows [] each = refl
rows_in-rows (row ∷ rows) each =
    let behind : drop 32 (row_text row ++ flat_map row_text rows) ≡ flat_map row_text rows =
    drop_at (row_text row) (flat_map row_text rows) 32 (length-row row) in
    rw
    (row_in-row row (flat_map row_text rows) (head-fits row rows each), behind, rows_in-rows rows (tail-fits row rows each))
    refl

-- ---- a row that is read is written

-- At least 32 bytes are the row that is read from them, and the rest.
pub row-front : (bytes : List ℕ) → 32 ≤ length bytes → AreBytes bytes → bytes ≡ row_text (row_in bytes) ++ drop 32 bytes
row-front bytes long h =
    let first = u64-front bytes (omega arith) h in
    let second = u64-front (drop 8 bytes) (omega (arith, length-drop 8 bytes)) (AreBytes-drop 8 bytes h) in
    let third = u64-front (drop 16 bytes) (omega (arith, length-drop 16 bytes)) (AreBytes-drop 16 bytes h) in
    let fourth = u64-front (drop 24 bytes) (omega (arith, length-drop 24 bytes)) (AreBytes-drop 24 bytes h) in
    let to_c : drop 8 (drop 8 bytes) ≡ drop 16 bytes = drop-drop 8 8 bytes in
    let to_d : drop 8 (drop 16 bytes) ≡ drop 24 bytes = drop-drop 8 16 bytes in
    let to_end : drop 8 (drop 24 bytes) ≡ drop 32 bytes = drop-drop 8 24 bytes in
    let a = u64 (u64_in bytes) in
    let b = u64 (u64_in (drop 8 bytes)) in
    let c = u64 (u64_in (drop 16 bytes)) in
    let d = u64 (u64_in (drop 24 bytes)) in
    first
    ∙ ap (λ (x : List ℕ). a ++ x)
    (second ∙ ap (λ (x : List ℕ). b ++ x) (to_c ∙ third ∙ ap (λ (x : List ℕ). c ++ x) (to_d ∙ fourth ∙ ap (λ (x : List ℕ). d ++ x) to_end)))
    ∙ sym (row-apart (row_in bytes) (drop 32 bytes))

-- 32 bytes for each row are the rows that are read from them.
pub rows-again : (count : ℕ) (bytes : List ℕ) → length bytes ≡ 32 * count → AreBytes bytes
    → bytes ≡ flat_map row_text (rows_in count bytes)
rows-again zero bytes len h = nil_from_length bytes len
rows-again (suc count) bytes len h =
    row-front bytes (omega arith) h
    ∙ ap (λ (x : List ℕ). row_text (row_in bytes) ++ x)
    (rows-again count (drop 32 bytes) (omega (arith, length-drop 32 bytes)) (AreBytes-drop 32 bytes h))

-- As many rows are read as are counted.
pub length-rows_in : (count : ℕ) (bytes : List ℕ) → length (rows_in count bytes) ≡ count
length-rows_in zero bytes = refl
length-rows_in (suc count) bytes = ap suc (length-rows_in count (drop 32 bytes))

row-below : (bytes : List ℕ) → AreBytes bytes → FitsRow (row_in bytes)
row-below bytes h =
    (u64_in-below bytes h, u64_in-below (drop 8 bytes) (AreBytes-drop 8 bytes h), u64_in-below (drop 16 bytes) (AreBytes-drop 16 bytes h), u64_in-below (drop 24 bytes) (AreBytes-drop 24 bytes h))

rows-below : (count : ℕ) (bytes : List ℕ) → AreBytes bytes → All FitsRow (rows_in count bytes)
rows-below zero bytes h k d few = absurd (omega arith)
rows-below (suc count) bytes h zero d few = row-below bytes h
rows-below (suc count) bytes h (suc k) d few =
    rows-below count (drop 32 bytes) (AreBytes-drop 32 bytes h) k d (omega arith)

-- ---- a page

-- Rows take 32 bytes each.
pub length-rows : (rows : List AuditRow) → length (flat_map row_text rows) ≡ 32 * length rows
length-rows [] = refl
length-rows (row ∷ rows) =
    omega (arith, length-append (row_text row) (flat_map row_text rows), length-row row, length-rows rows)

-- A page takes 4 bytes, and 32 for each row.
pub length-page : (rows : List AuditRow) → length (page_text rows) ≡ 4 + 32 * length rows
length-page rows =
    omega
    (arith, length-append (u32 (length rows)) (flat_map row_text rows), length-u32 (length rows), length-rows rows)

row-bytes : (row : AuditRow) → AreBytes (row_text row)
row-bytes row =
    AreBytes-append (u64 row.a ++ u64 row.b ++ u64 row.c) (u64 row.d)
    (AreBytes-append (u64 row.a ++ u64 row.b) (u64 row.c) (AreBytes-append (u64 row.a) (u64 row.b) (AreBytes-u64 row.a) (AreBytes-u64 row.b)) (AreBytes-u64 row.c))
    (AreBytes-u64 row.d)

rows-bytes : (rows : List AuditRow) → AreBytes (flat_map row_text rows)
rows-bytes [] = AreBytes-nil
rows-bytes (row ∷ rows) = AreBytes-append (row_text row) (flat_map row_text rows) (row-bytes row) (rows-bytes rows)

-- A page is written as bytes.
pub page-bytes : (rows : List AuditRow) → AreBytes (page_text rows)
page-bytes rows =
    AreBytes-append (u32 (length rows)) (flat_map row_text rows) (AreBytes-u32 (length rows)) (rows-bytes rows)

-- Up to 16 rows that are read from bytes are a page that fits.
pub page-below : (count : ℕ) (bytes : List ℕ) → count ≤ 16 → AreBytes bytes → FitsPage (rows_in count bytes)
page-below count bytes few h = record {
  few = rw (length-rows_in count bytes) few;
  each = rows-below count bytes h;
}

-- Bytes with a count and as many rows are the page that is read from them.
pub page-again : (fields : List ℕ) → length fields ≡ 4 + 32 * u32_in fields → AreBytes fields
    → fields ≡ page_text (rows_in (u32_in fields) (drop 4 fields))
page-again fields len h =
    let rest = drop 4 fields in
    let rows = rows-again (u32_in fields) rest (omega (arith, length-drop 4 fields, len)) (AreBytes-drop 4 fields h) in
    u32-front fields (omega (arith, len)) h
    ∙ ap (λ (x : List ℕ). u32 (u32_in fields) ++ x) rows
    ∙ ap (λ (n : ℕ). u32 n ++ flat_map row_text (rows_in (u32_in fields) rest))
    (sym (length-rows_in (u32_in fields) rest))
