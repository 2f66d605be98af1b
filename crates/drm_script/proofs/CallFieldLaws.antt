-- Fields are read from just the words that spell them.
use Rattle.std.proofs.Common.{◌≡◌, ℕ, suc, ◌≤◌, lit≤, List, [], ◌∷◌, ◌++◌, All, length, refl, sym, ap, subst, ◌∙◌, arith, Some}
use Rattle.std.specs.Prelude.{map, min, replicate}
use Rattle.std.proofs.Math.Nat.{min-le_right, min-eq_left}
use Rattle.std.proofs.lemmas.List.{append-nil, length-map, length-replicate}
use Rattle.drm_table.specs.declared.fields.Width.{Width}
use Rattle.drm_table.specs.declared.fields.Width.TheVariants as widths
use Rattle.drm_table.specs.declared.fields.Field.{Field}
use Rattle.drm_table.specs.declared.fields.Field.TheVariants as fields
use Rattle.drm_table.specs.Fields.{Layout, FitsField, FitsLayout, IsShort, width_of, read_each}
use Rattle.drm_table.specs.Fields.Layout.{numbers, ids}
use Rattle.drm_table.proofs.Readers.{each-by, none-fit, all-fit}
use Rattle.drm_script.specs.Fields.{Words, field_at, numbers_at, id_count, fields_at}
use Rattle.drm_script.specs.Grammar.{Part, Spells, SpellEach, field_part}
use Rattle.drm_script.proofs.FieldLaws.{some_same, bind_some, end_bind, number_bind, number_at_some, number32_at_some}

-- ---- what is read is spelled

-- a field was read from a word
pub record FieldWas (v : Width) (ws : Words) (f : Field) (rest : Words) : Type 0 where
  pub w : List ℕ
  pub words : ws ≡ w ∷ rest
  pub spells : Spells (field_part f) w
  pub width : width_of f ≡ v
  pub fits : FitsField f

field_was : (v : Width) (ws : Words) (one : Field × Words) → field_at v ws ≡ Some one → FieldWas v ws one.0 one.1
unfolding field_at
field_was widths.U32 ws one e =
    let a = number_bind 32 ws _ one e in
    subst (λ (p : Field × Words). FieldWas widths.U32 ws p.0 p.1) (some_same (fields.U32 a.n, a.rest) one a.goes_on)
    (record { w = a.w; words = a.words; spells = a.spells; width = refl; fits = a.spells.2 })
field_was widths.U64 ws one e =
    let a = number_bind 64 ws _ one e in
    subst (λ (p : Field × Words). FieldWas widths.U64 ws p.0 p.1) (some_same (fields.U64 a.n, a.rest) one a.goes_on)
    (record { w = a.w; words = a.words; spells = a.spells; width = refl; fits = a.spells.2 })

-- fields were read from the words in front
pub record WereSpelled (vs : List Width) (ws : Words) (fs : List Field) (rest : Words) : Type 0 where
  pub front : Words
  pub words : ws ≡ front ++ rest
  pub spells : SpellEach (map field_part fs) front
  pub widths : map width_of fs ≡ vs
  pub fits : All FitsField fs

none_were : (ws : Words) → WereSpelled [] ws [] ws
none_were ws = record { front = []; words = refl; spells = tt; widths = refl; fits = none-fit }

more_were : (v : Width) (vs : List Width) (ws : Words) (one : Field × Words) (more : List Field × Words)
    → field_at v ws ≡ Some one → WereSpelled vs one.1 more.0 more.1
    → WereSpelled (v ∷ vs) ws (one.0 ∷ more.0) more.1
more_were v vs ws one more e were =
    let was = field_was v ws one e in
    record {
      front = was.w ∷ were.front;
      words = was.words ∙ ap (λ (x : Words). was.w ∷ x) were.words;
      spells = (was.spells, were.spells);
      widths = rw (was.width, were.widths) refl;
      fits = all-fit one.0 more.0 was.fits were.fits;
    }

-- all words were read
pub record AreSpelled (vs : List Width) (ws : Words) (fs : List Field) : Type 0 where
  pub spells : SpellEach (map field_part fs) ws
  pub widths : map width_of fs ≡ vs
  pub fits : All FitsField fs

numbers_were : (vs : List Width) (ws : Words) (fs : List Field) → numbers_at vs ws ≡ Some fs → AreSpelled vs ws fs
unfolding numbers_at
numbers_were vs ws fs e =
    let a = bind_some (read_each field_at vs ws) _ fs e in
    let z = end_bind a.step.1 _ fs a.goes_on in
    let were = each-by field_at WereSpelled none_were more_were vs ws a.step a.made in
    let words : were.front ≡ ws = sym (were.words ∙ ap (λ (x : Words). were.front ++ x) z.0 ∙ append-nil were.front) in
    subst (λ (xs : List Field). AreSpelled vs ws xs) (some_same a.step.0 fs z.1)
    (record { spells = subst (λ (x : Words). SpellEach (map field_part a.step.0) x) words were.spells; widths = were.widths; fits = were.fits })

-- Words that are read as fields spell these fields, and the fields fit the layout.
pub fields_were : (layout : Layout) (ws : Words) (fs : List Field) → IsShort layout → fields_at layout ws ≡ Some fs
    → SpellEach (map field_part fs) ws × FitsLayout layout fs
unfolding fields_at
fields_were (numbers vs) ws fs few e =
    let are = numbers_were vs ws fs e in
    (are.spells, record { widths = are.widths; few = omega (arith, length-map fs width_of, ap length are.widths); each = are.fits })
fields_were ids ws fs few e =
    let count : ℕ = id_count ws in
    let are = numbers_were (replicate count widths.U32) ws fs e in
    let len : length fs ≡ count =
    sym (length-map fs width_of) ∙ ap length are.widths ∙ length-replicate count widths.U32 in
    let most : count ≤ 32 = min-le_right (length ws) 32 in
    (are.spells, record { widths = are.widths ∙ ap (λ (n : ℕ). replicate n widths.U32) (sym len); few = omega (arith, most, len); each = are.fits })

-- ---- what is spelled is read

field_read : (f : Field) (w : List ℕ) (ws : Words) → Spells (field_part f) w
    → field_at (width_of f) (w ∷ ws) ≡ Some (f, ws)
unfolding field_at
field_read (fields.U32 n) w ws s = rw (number32_at_some w ws n s) refl
field_read (fields.U64 n) w ws s = rw (number_at_some 64 w ws n (lit≤ tt) s) refl

each_read : (fs : List Field) (ws : Words) → SpellEach (map field_part fs) ws
    → read_each field_at (map width_of fs) ws ≡ Some (fs, [])
each_read [] [] s = refl
each_read [] (w ∷ ws) s = absurd s
each_read (f ∷ fs) [] s = absurd s
each_read (f ∷ fs) (w ∷ ws) s = rw (field_read f w ws s.0, each_read fs ws s.1) refl

numbers_read : (fs : List Field) (ws : Words) → SpellEach (map field_part fs) ws
    → numbers_at (map width_of fs) ws ≡ Some fs
unfolding numbers_at
numbers_read fs ws s = rw (each_read fs ws s) refl

length_spelled : (parts : List Part) (ws : Words) → SpellEach parts ws → length ws ≡ length parts
length_spelled [] [] s = refl
length_spelled [] (w ∷ ws) s = absurd s
length_spelled (part ∷ parts) [] s = absurd s
length_spelled (part ∷ parts) (w ∷ ws) s = ap (λ (n : ℕ). suc n) (length_spelled parts ws s.1)

-- Words that spell fields of a layout are read as these fields.
pub fields_read : (layout : Layout) (fs : List Field) (ws : Words) → FitsLayout layout fs
    → SpellEach (map field_part fs) ws → fields_at layout ws ≡ Some fs
unfolding fields_at
fields_read (numbers vs) fs ws h s = ap (λ (us : List Width). numbers_at us ws) (sym h.widths) ∙ numbers_read fs ws s
fields_read ids fs ws h s =
    let few = h.few in
    let len : length ws ≡ length fs = length_spelled (map field_part fs) ws s ∙ length-map fs field_part in
    let count : id_count ws ≡ length fs = ap (λ (n : ℕ). min n 32) len ∙ min-eq_left few in
    rw (count, ← h.widths) (numbers_read fs ws s)
