-- Fields as bytes, both ways.
use Rattle.std.proofs.Common.{◌≡◌, ℕ, ◌*◌, ◌≤◌, List, [], ◌∷◌, ◌++◌, All, length, drop, true, Option, Some, None, refl, sym, ap, ◌∙◌, subst, arith}
use Rattle.std.specs.Prelude.{◌&&◌, nat_le, map, replicate}
use Rattle.std.specs.List.{flat_map}
use Rattle.std.specs.Option.{option_and_then}
use Rattle.std.proofs.lemmas.Bool.Decides.{nat_tests}
use Rattle.std.proofs.lemmas.List.{append_assoc, append-nil, length-append, length-map, length-replicate, drop_at, nil_from_length}
use Rattle.drm_table.specs.declared.fields.Width.{Width}
use Rattle.drm_table.specs.declared.fields.Width.TheVariants as widths
use Rattle.drm_table.specs.declared.fields.Field.{Field}
use Rattle.drm_table.specs.declared.fields.Field.TheVariants as fields
use Rattle.drm_table.specs.Fields.{Layout, FitsField, FitsLayout, IsShort, width_of, read_each}
use Rattle.drm_table.specs.Fields.Layout.{numbers, ids}
use Rattle.drm_table.proofs.Readers.{each-by, first-fits, others-fit, none-fit, all-fit}
use Rattle.drm_frames.specs.Fields.{field_text, fields_text, field_in, numbers_in, fields_in}
use Rattle.drm_frames.specs.Grammar.{if_size}
use Rattle.drm_frames.specs.Number.{u32, u64, u32_in, u64_in, AreBytes}
use Rattle.drm_frames.proofs.NumberBytes.{AreBytes-drop, u32-front, u64-front, u32_in-u32, u64_in-u64, length-u32, length-u64}
use Rattle.drm_frames.proofs.FieldLaws.{AreBytes-nil, AreBytes-u32, AreBytes-u64, AreBytes-append, u32_in-below, u64_in-below}
use Rattle.drm_frames.proofs.Sizes.{cond-some, some-is, size-some, both-true}

-- ---- fields that are written are bytes, and few

length-field : (f : Field) → length (field_text f) ≤ 8
length-field (fields.U32 n) = omega (arith, length-u32 n)
length-field (fields.U64 n) = omega (arith, length-u64 n)

field-bytes : (f : Field) → AreBytes (field_text f)
field-bytes (fields.U32 n) = AreBytes-u32 n
field-bytes (fields.U64 n) = AreBytes-u64 n

-- Fields take at most 8 bytes each.
pub length-fields : (fs : List Field) → length (flat_map field_text fs) ≤ 8 * length fs
length-fields [] = omega arith
length-fields (f ∷ fs) =
    omega (arith, length-append (field_text f) (flat_map field_text fs), length-field f, length-fields fs)

-- Fields are written as bytes.
pub fields-bytes : (fs : List Field) → AreBytes (flat_map field_text fs)
fields-bytes [] = AreBytes-nil
fields-bytes (f ∷ fs) = AreBytes-append (field_text f) (flat_map field_text fs) (field-bytes f) (fields-bytes fs)

-- Up to 32 fields take at most 1,022 bytes.
pub text-short : (layout : Layout) (fs : List Field) → length fs ≤ 32 → length (fields_text layout fs) ≤ 1022
unfolding fields_text
text-short (numbers ws) fs few = omega (arith, length-fields fs)
text-short ids fs few =
    omega (arith, length-append (u32 (length fs)) (flat_map field_text fs), length-u32 (length fs), length-fields fs)

-- The fields of any layout are written as bytes.
pub text-bytes : (layout : Layout) (fs : List Field) → AreBytes (fields_text layout fs)
unfolding fields_text
text-bytes (numbers ws) fs = fields-bytes fs
text-bytes ids fs =
    AreBytes-append (u32 (length fs)) (flat_map field_text fs) (AreBytes-u32 (length fs)) (fields-bytes fs)

-- ---- fields that are written are read

field-read : (f : Field) (rest : List ℕ) → FitsField f → field_in (width_of f) (field_text f ++ rest) ≡ Some (f, rest)
unfolding field_in
field-read (fields.U32 n) rest h =
    let len : 4 ≤ length (u32 n ++ rest) = omega (arith, length-append (u32 n) rest, length-u32 n) in
    let long : nat_le 4 (length (u32 n ++ rest)) ≡ true = grind (arith, nat_tests) in
    rw (long, u32_in-u32 n rest h, drop_at (u32 n) rest 4 (length-u32 n)) refl
field-read (fields.U64 n) rest h =
    let len : 8 ≤ length (u64 n ++ rest) = omega (arith, length-append (u64 n) rest, length-u64 n) in
    let long : nat_le 8 (length (u64 n ++ rest)) ≡ true = grind (arith, nat_tests) in
    rw (long, u64_in-u64 n rest h, drop_at (u64 n) rest 8 (length-u64 n)) refl

each-read : (fs : List Field) (rest : List ℕ) → All FitsField fs
    → read_each field_in (map width_of fs) (flat_map field_text fs ++ rest) ≡ Some (fs, rest)
each-read [] rest each = refl
each-read (f ∷ fs) rest each =
    rw
    (append_assoc (field_text f) (flat_map field_text fs) rest, field-read f (flat_map field_text fs ++ rest) (first-fits f fs each), each-read fs rest (others-fit f fs each))
    refl

-- Fields that fit are read again from their bytes.
pub numbers-read : (fs : List Field) → All FitsField fs
    → numbers_in (map width_of fs) (flat_map field_text fs) ≡ Some fs
unfolding numbers_in
numbers-read fs each =
    let whole : read_each field_in (map width_of fs) (flat_map field_text fs) ≡ Some (fs, []) =
    ap (read_each field_in (map width_of fs)) (sym (append-nil (flat_map field_text fs))) ∙ each-read fs [] each in
    rw whole refl

-- Fields that fit a layout are read again from its bytes.
pub text-read : (layout : Layout) (fs : List Field) → FitsLayout layout fs
    → fields_in layout (fields_text layout fs) ≡ Some fs
unfolding fields_in fields_text
text-read (numbers ws) fs h =
    ap (λ (vs : List Width). numbers_in vs (flat_map field_text fs)) (sym h.widths) ∙ numbers-read fs h.each
text-read ids fs h =
    let few = h.few in
    let text : List ℕ = u32 (length fs) ++ flat_map field_text fs in
    let len : 4 ≤ length text =
    omega (arith, length-append (u32 (length fs)) (flat_map field_text fs), length-u32 (length fs)) in
    let long : nat_le 4 (length text) ≡ true = grind (arith, nat_tests) in
    let says : u32_in text ≡ length fs = u32_in-u32 (length fs) (flat_map field_text fs) (omega arith) in
    let most : nat_le (length fs) 32 ≡ true = grind (arith, nat_tests) in
    rw (long, says, most, drop_at (u32 (length fs)) (flat_map field_text fs) 4 (length-u32 (length fs)), ← h.widths)
    (numbers-read fs h.each)

-- ---- fields that are read were written

pub record WasRead (w : Width) (bytes : List ℕ) (f : Field) (rest : List ℕ) : Type 0 where
  pub text : bytes ≡ field_text f ++ rest
  pub width : width_of f ≡ w
  pub fits : FitsField f
  pub left : AreBytes rest

field-was : (w : Width) (bytes : List ℕ) (one : Field × List ℕ) → AreBytes bytes → field_in w bytes ≡ Some one
    → WasRead w bytes one.0 one.1
unfolding field_in
field-was widths.U32 bytes one h e =
    let s = cond-some (nat_le 4 (length bytes)) (Some (fields.U32 (u32_in bytes), drop 4 bytes)) one e in
    let long : 4 ≤ length bytes = grind (arith, nat_tests, s.0) in
    subst (λ (p : Field × List ℕ). WasRead widths.U32 bytes p.0 p.1)
    (some-is (fields.U32 (u32_in bytes), drop 4 bytes) one s.1)
    (record { text = u32-front bytes long h; width = refl; fits = u32_in-below bytes h; left = AreBytes-drop 4 bytes h })
field-was widths.U64 bytes one h e =
    let s = cond-some (nat_le 8 (length bytes)) (Some (fields.U64 (u64_in bytes), drop 8 bytes)) one e in
    let long : 8 ≤ length bytes = grind (arith, nat_tests, s.0) in
    subst (λ (p : Field × List ℕ). WasRead widths.U64 bytes p.0 p.1)
    (some-is (fields.U64 (u64_in bytes), drop 8 bytes) one s.1)
    (record { text = u64-front bytes long h; width = refl; fits = u64_in-below bytes h; left = AreBytes-drop 8 bytes h })

pub record WereRead (ws : List Width) (bytes : List ℕ) (fs : List Field) (rest : List ℕ) : Type 0 where
  pub text : bytes ≡ flat_map field_text fs ++ rest
  pub widths : map width_of fs ≡ ws
  pub fits : All FitsField fs

-- what holds for bytes that are bytes
abbrev TheyWere : List Width → List ℕ → List Field → List ℕ → Type 0
TheyWere ws bytes fs rest = AreBytes bytes → WereRead ws bytes fs rest

none-were : (bytes : List ℕ) → TheyWere [] bytes [] bytes
none-were bytes h = record { text = refl; widths = refl; fits = none-fit }

more-were : (w : Width) (ws : List Width) (bytes : List ℕ) (one : Field × List ℕ) (more : List Field × List ℕ)
    → field_in w bytes ≡ Some one → TheyWere ws one.1 more.0 more.1
    → TheyWere (w ∷ ws) bytes (one.0 ∷ more.0) more.1
more-were w ws bytes one more e each h =
    let was = field-was w bytes one h e in
    let were = each was.left in
    record {
      text =
          was.text ∙ ap (λ (xs : List ℕ). field_text one.0 ++ xs) were.text
          ∙ sym (append_assoc (field_text one.0) (flat_map field_text more.0) more.1);
      widths = rw (was.width, were.widths) refl;
      fits = all-fit one.0 more.0 was.fits were.fits;
    }

each-was : (ws : List Width) (bytes : List ℕ) (read : List Field × List ℕ) → AreBytes bytes
    → read_each field_in ws bytes ≡ Some read → WereRead ws bytes read.0 read.1
each-was ws bytes read h e = each-by field_in TheyWere none-were more-were ws bytes read e h

nothing-left : (ws : List Width) (bytes : List ℕ) (o : Option (List Field × List ℕ)) (fs : List Field) → AreBytes bytes
    → read_each field_in ws bytes ≡ o
    → option_and_then (λ (read : List Field × List ℕ). if_size 0 read.1 read.0) o ≡ Some fs → WereRead ws bytes fs []
nothing-left ws bytes None fs h t e = absurd (cc)
nothing-left ws bytes (Some read) fs h t e =
    let s = size-some 0 read.1 read.0 fs e in
    let were = each-was ws bytes read h t in
    subst (λ (xs : List Field). WereRead ws bytes xs []) s.1
    (subst (λ (rest : List ℕ). WereRead ws bytes read.0 rest) (nil_from_length read.1 s.0) were)

-- Fields that are read from bytes are written as these bytes.
pub numbers-were : (ws : List Width) (bytes : List ℕ) (fs : List Field) → AreBytes bytes → numbers_in ws bytes ≡ Some fs
    → WereRead ws bytes fs []
unfolding numbers_in
numbers-were ws bytes fs h e = nothing-left ws bytes (read_each field_in ws bytes) fs h refl e

pub record WasWritten (layout : Layout) (bytes : List ℕ) (fs : List Field) : Type 0 where
  pub fits : FitsLayout layout fs
  pub text : bytes ≡ fields_text layout fs

-- Fields that are read by a short layout are written as the same bytes.
pub text-was : (layout : Layout) (bytes : List ℕ) (fs : List Field) → IsShort layout → AreBytes bytes
    → fields_in layout bytes ≡ Some fs → WasWritten layout bytes fs
unfolding fields_in fields_text
text-was (numbers ws) bytes fs few h e =
    let were = numbers-were ws bytes fs h e in
    record {
      fits =
          record
          { widths = were.widths; few = omega (arith, length-map fs width_of, ap length were.widths); each = were.fits };
      text = were.text ∙ append-nil (flat_map field_text fs);
    }
text-was ids bytes fs few h e =
    let count = u32_in bytes in
    let s =
    cond-some (nat_le 4 (length bytes) && nat_le count 32) (numbers_in (replicate count widths.U32) (drop 4 bytes))
    fs e in
    let tests = both-true (nat_le 4 (length bytes)) (nat_le count 32) s.0 in
    let long : 4 ≤ length bytes = grind (arith, nat_tests, tests.0) in
    let most : count ≤ 32 = grind (arith, nat_tests, tests.1) in
    let were = numbers-were (replicate count widths.U32) (drop 4 bytes) fs (AreBytes-drop 4 bytes h) s.1 in
    let len : length fs ≡ count =
    sym (length-map fs width_of) ∙ ap length were.widths ∙ length-replicate count widths.U32 in
    record {
      fits =
          record
          { widths = were.widths ∙ ap (λ (n : ℕ). replicate n widths.U32) (sym len); few = omega arith; each = were.fits };
      text =
          u32-front bytes long h
          ∙ ap (λ (xs : List ℕ). u32 count ++ xs) (were.text ∙ append-nil (flat_map field_text fs))
          ∙ ap (λ (n : ℕ). u32 n ++ flat_map field_text fs) (sym len);
    }
