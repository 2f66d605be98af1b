-- Ids as bytes, both ways.
use Rattle.std.proofs.Common.{◌≡◌, ℕ, zero, suc, ◌+◌, ◌-◌, ◌*◌, ◌<◌, ◌≤◌, List, [], ◌∷◌, ◌++◌, All, length, drop, true, Some, refl, sym, ap, ◌∙◌, arith}
use Rattle.std.specs.List.{flat_map}
use Rattle.std.proofs.lemmas.List.{append_assoc, append-nil, length-append, drop_at, length-drop, drop-drop}
use Rattle.std.specs.Prelude.{◌&&◌, nat_le}
use Rattle.std.proofs.lemmas.Bool.Decides.{nat_tests}
use Rattle.drm_frames.specs.Number.{u32, u32_in, AreBytes}
use Rattle.drm_frames.specs.Lists.{list_text, FitsId, FitsList, ids_in, front_list, behind_list}
use Rattle.drm_frames.proofs.NumberBytes.{AreBytes-drop, u32-front, u32_in-u32, length-u32}
use Rattle.drm_frames.proofs.Sizes.{cond-some, some-is, both-true}
use Rattle.drm_frames.proofs.FieldLaws.{AreBytes-nil, AreBytes-u32, AreBytes-append, u32_in-below}

-- ---- one id more is read

-- After one more id is read, the ids so far and those in the rest are still the whole list.
pub id-read : (count done : ℕ) (ids ids' rest rest' bytes : List ℕ) (id : ℕ) → done < count
    → ids ++ ids_in (count - done) rest ≡ ids_in count bytes
    → ids' ≡ ids ++ id ∷ [] → id ≡ u32_in rest → rest' ≡ drop 4 rest
    → ids' ++ ids_in (count - (done + 1)) rest' ≡ ids_in count bytes
id-read count done ids ids' rest rest' bytes id more so_far pushed is cut =
    let left : count - done ≡ suc (count - (done + 1)) = omega arith in
    let before : ids ++ (u32_in rest ∷ ids_in (count - (done + 1)) (drop 4 rest)) ≡ ids_in count bytes =
    ap (λ (n : ℕ). ids ++ ids_in n rest) (sym left) ∙ so_far in
    rw (pushed, cut, is) (append_assoc ids (u32_in rest ∷ []) (ids_in (count - (done + 1)) (drop 4 rest)) ∙ before)

-- A list with one more id is longer by one.
pub one-longer : (ids ids' : List ℕ) (id done : ℕ) → ids' ≡ ids ++ id ∷ [] → length ids ≡ done → length ids' ≡ done + 1
one-longer ids ids' id done pushed len = ap length pushed ∙ omega (arith, length-append ids (id ∷ []), len)

-- ---- what fits

head-fits : (id : ℕ) (ids : List ℕ) → All FitsId (id ∷ ids) → FitsId id
head-fits id ids each = each 0 id (omega arith)

tail-fits : (id : ℕ) (ids : List ℕ) → All FitsId (id ∷ ids) → All FitsId ids
tail-fits id ids each = λ k d h. each (suc k) d (omega arith)

length-ids_in : (count : ℕ) (bytes : List ℕ) → length (ids_in count bytes) ≡ count
length-ids_in zero bytes = refl
length-ids_in (suc count) bytes = ap suc (length-ids_in count (drop 4 bytes))

ids-below : (count : ℕ) (bytes : List ℕ) → AreBytes bytes → All FitsId (ids_in count bytes)
ids-below zero bytes h k d few = absurd (omega arith)
ids-below (suc count) bytes h zero d few = u32_in-below bytes h
ids-below (suc count) bytes h (suc k) d few = ids-below count (drop 4 bytes) (AreBytes-drop 4 bytes h) k d (omega arith)

-- ---- a list

length-ids : (ids : List ℕ) → length (flat_map u32 ids) ≡ 4 * length ids
length-ids [] = refl
length-ids (id ∷ ids) = omega (arith, length-append (u32 id) (flat_map u32 ids), length-u32 id, length-ids ids)

-- A list takes 4 bytes, and 4 for each id.
pub length-list : (ids : List ℕ) → length (list_text ids) ≡ 4 + 4 * length ids
length-list ids =
    omega (arith, length-append (u32 (length ids)) (flat_map u32 ids), length-u32 (length ids), length-ids ids)

ids-bytes : (ids : List ℕ) → AreBytes (flat_map u32 ids)
ids-bytes [] = AreBytes-nil
ids-bytes (id ∷ ids) = AreBytes-append (u32 id) (flat_map u32 ids) (AreBytes-u32 id) (ids-bytes ids)

-- A list is written as bytes.
pub list-bytes : (ids : List ℕ) → AreBytes (list_text ids)
list-bytes ids = AreBytes-append (u32 (length ids)) (flat_map u32 ids) (AreBytes-u32 (length ids)) (ids-bytes ids)

list-below : (count : ℕ) (bytes : List ℕ) → count ≤ 64 → AreBytes bytes → FitsList (ids_in count bytes)
list-below count bytes few h = record {
  few = rw (length-ids_in count bytes) few;
  each = ids-below count bytes h;
}

-- ---- a list in front of others

ids-front : (count : ℕ) (bytes : List ℕ) → 4 * count ≤ length bytes → AreBytes bytes
    → bytes ≡ flat_map u32 (ids_in count bytes) ++ drop (4 * count) bytes
ids-front zero bytes len h = refl
ids-front (suc count) bytes len h =
    let rest = drop 4 bytes in
    let shown = flat_map u32 (ids_in count rest) in
    let end : drop (4 * count) rest ≡ drop (4 * suc count) bytes =
    drop-drop (4 * count) 4 bytes ∙ ap (λ (n : ℕ). drop n bytes) (omega arith) in
    u32-front bytes (omega (arith, len)) h
    ∙ ap (λ (x : List ℕ). u32 (u32_in bytes) ++ x)
    (ids-front count rest (omega (arith, length-drop 4 bytes, len)) (AreBytes-drop 4 bytes h))
    ∙ sym (append_assoc (u32 (u32_in bytes)) shown (drop (4 * count) rest))
    ∙ ap (λ (x : List ℕ). u32 (u32_in bytes) ++ shown ++ x) end

-- a list is at the front, and this follows it
pub record IsInFront (bytes rest : List ℕ) : Type 0 where
  pub text : bytes ≡ list_text (front_list bytes) ++ rest
  pub fits : FitsList (front_list bytes)
  pub behind : AreBytes rest

front-by : (count : ℕ) (bytes : List ℕ) → u32_in bytes ≡ count → count ≤ 64 → 4 + 4 * count ≤ length bytes
    → AreBytes bytes → bytes ≡ list_text (ids_in count (drop 4 bytes)) ++ drop (4 + 4 * count) bytes
front-by count bytes is few len h =
    let behind = drop 4 bytes in
    let shown = ids_in count behind in
    let end : drop (4 * count) behind ≡ drop (4 + 4 * count) bytes = drop-drop (4 * count) 4 bytes in
    u32-front bytes (omega (arith, len)) h
    ∙ ap (λ (n : ℕ). u32 n ++ behind) (is ∙ sym (length-ids_in count behind))
    ∙ ap (λ (x : List ℕ). u32 (length shown) ++ x)
    (ids-front count behind (omega (arith, length-drop 4 bytes, len)) (AreBytes-drop 4 bytes h))
    ∙ ap (λ (x : List ℕ). u32 (length shown) ++ (flat_map u32 shown ++ x)) end
    ∙ sym (append_assoc (u32 (length shown)) (flat_map u32 shown) (drop (4 + 4 * count) bytes))

-- If a list is found at the front, the bytes are its text and the rest.
pub front-again : (bytes rest : List ℕ) → behind_list bytes ≡ Some rest → AreBytes bytes → IsInFront bytes rest
unfolding behind_list
front-again bytes rest e h =
    let count = u32_in bytes in
    let s =
    cond-some (nat_le 4 (length bytes) && nat_le count 64 && nat_le (4 + 4 * count) (length bytes))
    (Some (drop (4 + 4 * count) bytes)) rest e in
    let tests = both-true (nat_le 4 (length bytes) && nat_le count 64) (nat_le (4 + 4 * count) (length bytes)) s.0 in
    let most = both-true (nat_le 4 (length bytes)) (nat_le count 64) tests.0 in
    let few : count ≤ 64 = grind (arith, nat_tests, most.1) in
    let long : 4 + 4 * count ≤ length bytes = grind (arith, nat_tests, tests.1) in
    let same : drop (4 + 4 * count) bytes ≡ rest = some-is (drop (4 + 4 * count) bytes) rest s.1 in
    record {
      text = front-by count bytes refl few long h ∙ ap (λ (x : List ℕ). list_text (front_list bytes) ++ x) same;
      fits = list-below count (drop 4 bytes) few (AreBytes-drop 4 bytes h);
      behind = rw (sym same) (AreBytes-drop (4 + 4 * count) bytes h);
    }

ids_in-front : (ids rest : List ℕ) → All FitsId ids → ids_in (length ids) (flat_map u32 ids ++ rest) ≡ ids
ids_in-front [] rest each = refl
ids_in-front (id ∷ ids) rest each =
    let text = flat_map u32 ids ++ rest in
    let apart : u32 id ++ flat_map u32 ids ++ rest ≡ u32 id ++ text = append_assoc (u32 id) (flat_map u32 ids) rest in
    let first : u32_in (u32 id ++ flat_map u32 ids ++ rest) ≡ id =
    ap u32_in apart ∙ u32_in-u32 id text (head-fits id ids each) in
    let behind : drop 4 (u32 id ++ flat_map u32 ids ++ rest) ≡ text =
    ap (drop 4) apart ∙ drop_at (u32 id) text 4 (length-u32 id) in
    rw (first, behind, ids_in-front ids rest (tail-fits id ids each)) refl

behind-is : (count : ℕ) (bytes : List ℕ) → count ≤ 64 → 4 + 4 * count ≤ length bytes → u32_in bytes ≡ count
    → behind_list bytes ≡ Some (drop (4 + 4 * count) bytes)
unfolding behind_list
behind-is count bytes few len says =
    let long : nat_le 4 (length bytes) ≡ true = grind (arith, nat_tests) in
    let most : nat_le count 64 ≡ true = grind (arith, nat_tests) in
    let whole : nat_le (4 + 4 * count) (length bytes) ≡ true = grind (arith, nat_tests) in
    rw (long, says, most, whole) refl

-- A list that fits is found in front of any bytes, and these are the rest.
pub front-found : (ids rest : List ℕ) → FitsList ids
    → (behind_list (list_text ids ++ rest) ≡ Some rest) × (front_list (list_text ids ++ rest) ≡ ids)
front-found ids rest fits =
    let few = fits.few in
    let text = list_text ids ++ rest in
    let apart : text ≡ u32 (length ids) ++ (flat_map u32 ids ++ rest) =
    append_assoc (u32 (length ids)) (flat_map u32 ids) rest in
    let says : u32_in text ≡ length ids =
    ap u32_in apart ∙ u32_in-u32 (length ids) (flat_map u32 ids ++ rest) (omega (arith, few)) in
    let behind : drop 4 text ≡ flat_map u32 ids ++ rest =
    ap (drop 4) apart ∙ drop_at (u32 (length ids)) (flat_map u32 ids ++ rest) 4 (length-u32 (length ids)) in
    let long : 4 + 4 * length ids ≤ length text = omega (arith, length-append (list_text ids) rest, length-list ids) in
    let end : drop (4 + 4 * length ids) text ≡ rest = drop_at (list_text ids) rest (4 + 4 * length ids) (length-list ids) in (
      behind-is (length ids) text few long says ∙ ap (λ (x : List ℕ). Some x) end,
      ap (λ (n : ℕ). ids_in n (drop 4 text)) says ∙ ap (ids_in (length ids)) behind ∙ ids_in-front ids rest fits.each,
    )

-- Four lists in a row are the same with an empty rest after them.
pub four-apart : (w x y z : List ℕ) → w ++ x ++ y ++ z ≡ w ++ (x ++ (y ++ (z ++ [])))
four-apart w x y z =
    append_assoc (w ++ x) y z ∙ append_assoc w x (y ++ z)
    ∙ ap (λ (t : List ℕ). w ++ (x ++ (y ++ t))) (sym (append-nil z))

-- Four lists take 16 bytes, and 4 for each id.
pub length-four : (w x y z : List ℕ)
    → length (list_text w ++ list_text x ++ list_text y ++ list_text z) ≡ 16 + 4 * (length w + length x + length y + length z)
length-four w x y z =
    omega (
      arith,
      length-append (list_text w ++ list_text x ++ list_text y) (list_text z),
      length-append (list_text w ++ list_text x) (list_text y),
      length-append (list_text w) (list_text x),
      length-list w,
      length-list x,
      length-list y,
      length-list z,
    )

-- Four lists are written as bytes.
pub four-bytes : (w x y z : List ℕ) → AreBytes (list_text w ++ list_text x ++ list_text y ++ list_text z)
four-bytes w x y z =
    AreBytes-append (list_text w ++ list_text x ++ list_text y) (list_text z)
    (AreBytes-append (list_text w ++ list_text x) (list_text y) (AreBytes-append (list_text w) (list_text x) (list-bytes w) (list-bytes x)) (list-bytes y))
    (list-bytes z)
