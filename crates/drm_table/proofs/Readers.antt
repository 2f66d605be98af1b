-- A reader of fields reads one after another.
use Rattle.std.proofs.Common.{◌≡◌, zero, suc, List, [], ◌∷◌, ◌++◌, Option, Some, None, refl, subst, arith, All}
use Rattle.std.specs.Option.{option_map, option_and_then}
use Rattle.drm_table.specs.declared.fields.Width.{Width}
use Rattle.drm_table.specs.declared.fields.Field.{Field}
use Rattle.drm_table.specs.Fields.{FitsField, put_before, read_each}

some-is : {A : Type 0} (x a : A) → Some x ≡ Some a → x ≡ a
some-is x a e = cc

-- fields that were read, in front of those that are read after them
abbrev pub ahead : {S : Type 0} → List Field → Option (List Field × S) → Option (List Field × S)
ahead fs o = option_map (λ more. (fs ++ more.0, more.1)) o

-- ---- what holds for one field after another holds for all that was read

more-by : {S : Type 0} (P : List Width → S → List Field → S → Type 0) (w : Width) (ws : List Width) (s : S) (f : Field) (o : Option (List Field × S)) (read : List Field × S)
    → ((more : List Field × S) → o ≡ Some more → P (w ∷ ws) s (f ∷ more.0) more.1)
    → option_map (put_before f) o ≡ Some read → P (w ∷ ws) s read.0 read.1
more-by P w ws s f None read each e = absurd (cc)
more-by P w ws s f (Some more) read each e =
    subst (λ p. P (w ∷ ws) s p.0 p.1) (some-is (f ∷ more.0, more.1) read e) (each more refl)

first-by : {S : Type 0} (read_one : Width → S → Option (Field × S)) (P : List Width → S → List Field → S → Type 0) (w : Width) (ws : List Width) (s : S) (o : Option (Field × S)) (read : List Field × S)
    → ((one : Field × S) (more : List Field × S) → o ≡ Some one → read_each read_one ws one.1 ≡ Some more → P (w ∷ ws) s (one.0 ∷ more.0) more.1)
    → option_and_then (λ one. option_map (put_before one.0) (read_each read_one ws one.1)) o ≡ Some read
    → P (w ∷ ws) s read.0 read.1
first-by read_one P w ws s None read each e = absurd (cc)
first-by read_one P w ws s (Some one) read each e =
    more-by P w ws s one.0 (read_each read_one ws one.1) read (λ more. each one more refl) e

-- What holds of no fields, and of one more in front of others, holds of all that are read.
pub each-by : {S : Type 0} (read_one : Width → S → Option (Field × S)) (P : List Width → S → List Field → S → Type 0)
    → ((s : S) → P [] s [] s)
    → ((w : Width) (ws : List Width) (s : S) (one : Field × S) (more : List Field × S) → read_one w s ≡ Some one → P ws one.1 more.0 more.1 → P (w ∷ ws) s (one.0 ∷ more.0) more.1)
    → (ws : List Width) (s : S) (read : List Field × S) → read_each read_one ws s ≡ Some read → P ws s read.0 read.1
each-by read_one P none step [] s read e = subst (λ p. P [] s p.0 p.1) (some-is ([], s) read e) (none s)
each-by read_one P none step (w ∷ ws) s read e =
    first-by read_one P w ws s (read_one w s) read
    (λ one more t u. step w ws s one more t (each-by read_one P none step ws one.1 more u)) e

-- ---- fields that fit, one by one

-- If all fields fit, the first one does.
pub first-fits : (f : Field) (fs : List Field) → All FitsField (f ∷ fs) → FitsField f
first-fits f fs each = each 0 f (omega arith)

-- If all fields fit, those after the first one do.
pub others-fit : (f : Field) (fs : List Field) → All FitsField (f ∷ fs) → All FitsField fs
others-fit f fs each = λ k d h. each (suc k) d (omega arith)

-- No fields all fit.
pub none-fit : All FitsField []
none-fit k d few = absurd (omega arith)

-- If the first field fits and the others do, all fit.
pub all-fit : (f : Field) (fs : List Field) → FitsField f → All FitsField fs → All FitsField (f ∷ fs)
all-fit f fs here there zero d h = here
all-fit f fs here there (suc k) d h = there k d (omega arith)
