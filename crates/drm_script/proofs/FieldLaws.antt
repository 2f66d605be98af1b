-- What each step of a reader has read.
use Rattle.std.proofs.Common.{◌≡◌, ℕ, ◌+◌, ◌-◌, ◌≤◌, ◌<◌, ◌^◌, List, [], ◌∷◌, refl, sym, ap, subst, ◌∙◌, arith, Bool, true, false, cond, ◌&&◌, Some, None, Option, nat_le, nat_lt, lit≤}
use Rattle.std.specs.List.{find}
use Rattle.std.specs.Str.{bytes_eq}
use Rattle.std.specs.Str.Parse.{digits_value}
use Rattle.std.proofs.lemmas.Slice.Eq.{bytes_eq-Decides}
use Rattle.std.proofs.lemmas.Bool.Decides.{nat_tests}
use Rattle.drm_table.proofs.FoundPasses.{found-passes}
use Rattle.drm_script.specs.Grammar.{Part, Spells, SpellsNumber, SpellEach}
use Rattle.drm_script.specs.Grammar.Part.{label}
use Rattle.drm_script.specs.Fields.{Words, ◌>>=◌, word_at, end_at, number_of, number_at, place_of, label_of}
use Rattle.drm_script.proofs.NumberLemmas.{own, IsNumber, number_some, number_is, and_true}

-- Equal options have equal values.
pub some_same : {A : Type 0} (x y : A) → Some x ≡ Some y → x ≡ y
some_same x y e = cc

-- a step was made, and the next one follows
pub record Steps {A B : Type 0} (o : Option A) (f : A → Option B) (y : B) : Type 0 where
  pub step : A
  pub made : o ≡ Some step
  pub goes_on : f step ≡ Some y

-- If two steps together return a value, the first one does, and the second one with its value.
pub bind_some : {A B : Type 0} (o : Option A) (f : A → Option B) (y : B) → (o >>= f) ≡ Some y → Steps o f y
bind_some None f y e = absurd (cc)
bind_some (Some x) f y e = record { step = x; made = refl; goes_on = e }

-- a word was read
pub record ReadsWord {B : Type 0} (ws : Words) (f : List ℕ × Words → Option B) (y : B) : Type 0 where
  pub w : List ℕ
  pub rest : Words
  pub words : ws ≡ w ∷ rest
  pub goes_on : f (w, rest) ≡ Some y

-- If a step after reading a word returns a value, there was a word.
pub word_bind : {B : Type 0} (ws : Words) (f : List ℕ × Words → Option B) (y : B) → (word_at ws >>= f) ≡ Some y
    → ReadsWord ws f y
word_bind [] f y e = absurd (cc)
word_bind (w ∷ ws) f y e = record { w = w; rest = ws; words = refl; goes_on = e }

-- The words are the one that was read and those after it.
pub words_behind : {w : List ℕ} {ws rest vs : Words} → ws ≡ w ∷ rest → rest ≡ vs → ws ≡ w ∷ vs
words_behind {w} e f = e ∙ ap (λ v. w ∷ v) f

-- If the words spell what was read, they spell an equal value.
pub spelled : {A : Type 0} (parts : A → List Part) (name : List ℕ) (ws vs : Words) (x this : A) → ws ≡ vs → this ≡ x
    → SpellEach (parts this) (name ∷ vs) → SpellEach (parts x) (name ∷ ws)
spelled {A} parts name ws vs x this words same s =
    let P : Words → Type 0 = λ v. SpellEach (parts x) (name ∷ v) in
    let Q : A → Type 0 = λ y. SpellEach (parts y) (name ∷ vs) in
    subst P (sym words) (subst Q same s)

-- If the words say what was read, they say an equal value.
pub same_said : {A : Type 0} (Says : A → Words → Type 0) (name : List ℕ) (ws vs : Words) (x this : A) → ws ≡ vs
    → this ≡ x → Says this (name ∷ vs) → Says x (name ∷ ws)
same_said {A} Says name ws vs x this words same s =
    let P : Words → Type 0 = λ v. Says x (name ∷ v) in
    let Q : A → Type 0 = λ y. Says y (name ∷ vs) in
    subst P (sym words) (subst Q same s)

-- If a step after the end of the words returns a value, no words are left.
pub end_bind : {B : Type 0} (ws : Words) (f : Unit {0} → Option B) (y : B) → (end_at ws >>= f) ≡ Some y
    → (ws ≡ []) × (f tt ≡ Some y)
end_bind [] f y e = (refl, e)
end_bind (w ∷ ws) f y e = absurd (cc)

-- ---- numbers

-- a number was read
pub record ReadsNumber {B : Type 0} (bits : ℕ) (ws : Words) (f : ℕ × Words → Option B) (y : B) : Type 0 where
  pub w : List ℕ
  pub rest : Words
  pub n : ℕ
  pub words : ws ≡ w ∷ rest
  pub spells : SpellsNumber bits n w
  pub goes_on : f (n, rest) ≡ Some y

fits_case : {B : Type 0} (b : Bool) (bits n : ℕ) (w : List ℕ) (rest : Words) (f : ℕ × Words → Option B) (y : B)
    → b ≡ nat_lt n (2 ^ bits) → number_of w ≡ Some n
    → ((cond b (Some n) None >>= (λ fitting. Some (fitting, rest))) >>= f) ≡ Some y → ReadsNumber bits (w ∷ rest) f y
fits_case true bits n w rest f y t h e =
    let i = number_is w n h in
    record { w = w; rest = rest; n = n; words = refl; spells = ((i.0.1, own.to w i.0.0), i.1, grind (arith, nat_tests)); goes_on = e }
fits_case false bits n w rest f y t h e = absurd (cc)

number_case : {B : Type 0} (o : Option ℕ) (bits : ℕ) (w : List ℕ) (rest : Words) (f : ℕ × Words → Option B) (y : B)
    → number_of w ≡ o
    → ((o >>= (λ n. cond (nat_lt n (2 ^ bits)) (Some n) None >>= (λ fitting. Some (fitting, rest)))) >>= f) ≡ Some y
    → ReadsNumber bits (w ∷ rest) f y
number_case None bits w rest f y h e = absurd (cc)
number_case (Some n) bits w rest f y h e = fits_case (nat_lt n (2 ^ bits)) bits n w rest f y refl h e

-- If a step after reading a number returns a value, the first word spells a number.
pub number_bind : {B : Type 0} (bits : ℕ) (ws : Words) (f : ℕ × Words → Option B) (y : B)
    → (number_at bits ws >>= f) ≡ Some y → ReadsNumber bits ws f y
unfolding number_at
number_bind bits [] f y e = absurd (cc)
number_bind bits (w ∷ rest) f y e = number_case (number_of w) bits w rest f y refl e

-- A word that spells a number of up to 64 bits is read as this number.
pub number_at_some : (bits : ℕ) (w : List ℕ) (ws : Words) (n : ℕ) → 2 ^ bits ≤ 2 ^ 64 → SpellsNumber bits n w
    → number_at bits (w ∷ ws) ≡ Some (n, ws)
unfolding number_at
number_at_some bits w ws n most s =
    let small : digits_value 10 w < 2 ^ bits = rw s.1 s.2 in
    let i : IsNumber w = (own.from w s.0.1, s.0.0, omega arith) in
    let fits : nat_lt n (2 ^ bits) ≡ true = grind (arith, nat_tests) in
    rw (← number_some w i) (rw s.1 (rw fits refl))

-- A word that spells a number of 32 bits is read as this number.
pub number32_at_some : (w : List ℕ) (ws : Words) (n : ℕ) → SpellsNumber 32 n w → number_at 32 (w ∷ ws) ≡ Some (n, ws)
number32_at_some w ws n s = number_at_some 32 w ws n (lit≤ tt) s

-- A word that spells a number of 16 bits is read as this number.
pub number16_at_some : (w : List ℕ) (ws : Words) (n : ℕ) → SpellsNumber 16 n w → number_at 16 (w ∷ ws) ≡ Some (n, ws)
number16_at_some w ws n s = number_at_some 16 w ws n (lit≤ tt) s

-- ---- labels

letter_case : (t : Bool) (b place : ℕ) → t ≡ (nat_le 97 b && nat_le b 122) → cond t (Some (b - 97)) None ≡ Some place
    → Spells (label place) (b ∷ [])
letter_case true b place t e =
    let h = and_true (nat_le 97 b) (nat_le b 122) (sym t) in
    let low : 97 ≤ b = grind (arith, nat_tests, h.0) in
    let high : b ≤ 122 = grind (arith, nat_tests, h.1) in
    let same : b - 97 ≡ place = some_same _ _ e in
    let whole : b ≡ 97 + place = omega arith in
    (omega arith, ap (λ x. x ∷ []) whole)
letter_case false b place t e = absurd (cc)

-- A word that is read as a label spells it.
pub label_spells : (w : List ℕ) (place : ℕ) → label_of w ≡ Some place → Spells (label place) w
unfolding label_of place_of
label_spells [] place e = absurd (cc)
label_spells (b ∷ []) place e = letter_case (nat_le 97 b && nat_le b 122) b place refl e
label_spells (b ∷ c ∷ bs) place e = absurd (cc)

letter_read : (b place : ℕ) → place < 26 → b ≡ 97 + place
    → cond (nat_le 97 b && nat_le b 122) (Some (b - 97)) None ≡ Some place
letter_read b place h e =
    let low : nat_le 97 b ≡ true = grind (arith, nat_tests) in
    let high : nat_le b 122 ≡ true = grind (arith, nat_tests) in
    let back : b - 97 ≡ place = omega arith in
    rw low (rw high (ap Some back))

-- A word that spells a label is read as this label.
pub label_read : (w : List ℕ) (place : ℕ) → Spells (label place) w → label_of w ≡ Some place
unfolding label_of place_of
label_read w place s = rw s.1 (letter_read (97 + place) place s.0 refl)

-- ---- words that are looked up by their texts

-- A word that is found by its text is this text.
pub found : {W : Type 0} (text : W → List ℕ) (w : List ℕ) (all : List W) (name : W)
    → find (λ v. bytes_eq (text v) w) all ≡ Some name → w ≡ text name
found text w all name e = sym ((bytes_eq-Decides (text name) w).0 (found-passes (λ v. bytes_eq (text v) w) all name e))
