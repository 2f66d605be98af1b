-- Which word is at fault, from what the readers found.
use Rattle.std.proofs.Common.{◌≡◌, ℕ, ◌-◌, ◌^◌, ◌≤◌, List, [], ◌∷◌, length, drop, refl, sym, ap, ◌∙◌, arith, Bool, true, false, cond, Some, None, Option, nat_lt, suc}
use Rattle.std.proofs.lemmas.List.{length-drop}
use Rattle.drm_script.specs.declared.malformations.Malformation.{Malformation}
use Rattle.drm_script.specs.Fields.{Words, ◌>>=◌, number_of, number_at, of_bits}
use Rattle.drm_script.proofs.FieldLaws.{some_same}
use Rattle.drm_script.specs.Faults.{Place, fault_at, fault_or, first_misfit, number_in_bits, IsFirstMisfit, IsFault, IsPassed}

-- A fault at the first place is the first misfit.
pub misfit_here : (p : Place) (ps : List Place) (ws : Words) (cause : Malformation) (at : Words) → IsFault p ws cause at
    → IsFirstMisfit (p ∷ ps) ws cause at
misfit_here p ps [] cause at h = rw (h.0, h.1) refl
misfit_here p ps (w ∷ ws) cause at h = rw (h.0, h.1) refl

-- After a word that fits, the first misfit is that of the words after it.
pub passed : (p : Place) (ps : List Place) (ws rest : Words) → IsPassed p ws rest
    → first_misfit (p ∷ ps) ws ≡ first_misfit ps rest
passed p ps [] rest h = absurd h
passed p ps (w ∷ ws) rest h = rw h.0 (rw h.1 refl)

-- ---- where the fault is

-- Words are the last of others.
record AreLast (ws at : Words) : Type 0 where
  pub place : ℕ
  pub within : place ≤ length ws
  pub words : at ≡ drop place ws

all_last : (ws at : Words) → at ≡ ws → AreLast ws at
all_last ws at e = record { place = 0; within = omega arith; words = e }

last_behind : (w : List ℕ) (ws at : Words) → AreLast ws at → AreLast (w ∷ ws) at
last_behind w ws at h =
    let within = h.within in
    record { place = suc h.place; within = omega arith; words = h.words }

misfit_case : (o : Option Malformation) (w : List ℕ) (ws : Words) (behind : Option (Malformation × Words)) (cause : Malformation) (at : Words)
    → (behind ≡ Some (cause, at) → AreLast ws at)
    → fault_or o (w ∷ ws) behind ≡ Some (cause, at) → AreLast (w ∷ ws) at
misfit_case (Some c) w ws behind cause at h e = all_last _ at (ap (λ p. p.1) (sym (some_same _ _ e)))
misfit_case None w ws behind cause at h e = last_behind w ws at (h e)

misfit_last : (ps : List Place) (ws : Words) (cause : Malformation) (at : Words) → IsFirstMisfit ps ws cause at
    → AreLast ws at
misfit_last [] [] cause at e = absurd (cc)
misfit_last [] (w ∷ ws) cause at e = all_last _ at (ap (λ p. p.1) (sym (some_same _ _ e)))
misfit_last (p ∷ ps) [] cause at e = all_last _ at (ap (λ p. p.1) (sym (some_same _ _ e)))
misfit_last (p ∷ ps) (w ∷ ws) cause at e =
    misfit_case (fault_at p w) w ws (first_misfit ps ws) cause at (misfit_last ps ws cause at) e

-- The words from the misfit on are the last ones of all.
pub misfit_at : (ps : List Place) (ws : Words) (cause : Malformation) (at : Words) → IsFirstMisfit ps ws cause at
    → drop (length ws - length at) ws ≡ at
misfit_at ps ws cause at e =
    let h = misfit_last ps ws cause at e in
    let within = h.within in
    let long : length at ≡ length ws - h.place = ap length h.words ∙ length-drop h.place ws in
    let place : length ws - length at ≡ h.place = omega arith in
    rw place (sym h.words)

-- ---- numbers

-- the number that was read is that of the first word
pub record IsNumberOf (bits : ℕ) (ws : Words) (n : ℕ) (rest : Words) : Type 0 where
  pub w : List ℕ
  pub words : ws ≡ w ∷ rest
  pub number : number_in_bits bits w ≡ Some n

fitting_case : (b : Bool) (bits m : ℕ) (w : List ℕ) (ws : Words) (found : ℕ × Words) → nat_lt m (2 ^ bits) ≡ b
    → number_of w ≡ Some m
    → Some found ≡ (cond b (Some m) None >>= (λ (fitting : ℕ). Some (fitting, ws)))
    → IsNumberOf bits (w ∷ ws) found.0 found.1
fitting_case true bits m w ws found t h e =
    let same : found ≡ (m, ws) = some_same found (m, ws) e in
    record { w = w; words = ap (λ (p : ℕ × Words). w ∷ p.1) (sym same); number = rw h (rw t (ap (λ (p : ℕ × Words). Some p.0) (sym same))) }
fitting_case false bits m w ws found t h e = absurd (cc)

number_case : (o : Option ℕ) (bits : ℕ) (w : List ℕ) (ws : Words) (found : ℕ × Words) → number_of w ≡ o
    → Some found ≡ (o >>= (λ (m : ℕ). of_bits bits m >>= (λ (fitting : ℕ). Some (fitting, ws))))
    → IsNumberOf bits (w ∷ ws) found.0 found.1
number_case None bits w ws found h e = absurd (cc)
number_case (Some m) bits w ws found h e = fitting_case (nat_lt m (2 ^ bits)) bits m w ws found refl h e

-- Words that a number is read from begin with a word that is this number.
pub number_was : (bits : ℕ) (ws : Words) (found : ℕ × Words) → Some found ≡ number_at bits ws
    → IsNumberOf bits ws found.0 found.1
unfolding number_at
number_was bits [] found e = absurd (cc)
number_was bits (w ∷ ws) found e = number_case (number_of w) bits w ws found refl e
