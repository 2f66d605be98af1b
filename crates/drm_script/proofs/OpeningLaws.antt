-- An opening is read from just the words that spell it.
use Rattle.std.proofs.Common.{◌≡◌, ℕ, List, [], ◌∷◌, refl, sym, ap, subst, ◌∙◌, Bool, true, false, Some, codes}
use Rattle.drm_table.specs.declared.events.Opening.{Opening}
use Rattle.drm_table.specs.declared.events.Opening.TheVariants as openings
use Rattle.drm_script.specs.declared.openings.OpeningWord.{OpeningWord}
use Rattle.drm_script.specs.declared.openings.OpeningWord.TheVariants as words
use Rattle.drm_script.specs.declared.openings.TheConstants.{OPENING_WORDS}
use Rattle.drm_script.specs.Fields.{Words, ◌>>=◌, end_at}
use Rattle.drm_script.specs.Grammar.{Part, SpellEach, Opens, opening_parts}
use Rattle.drm_script.specs.Grammar.Part.{word, number}
use Rattle.drm_script.specs.Openings.{opening_text, opening_word_of, lease_at, primary_at, render_at, opening_fields_at, opening_at}
use Rattle.drm_script.proofs.FieldLaws.{some_same, bind_some, word_bind, words_behind, spelled, end_bind, number_bind, number32_at_some, found}

-- ---- an opening by its word

plain_reads : (name : List ℕ) (ws : Words) (this opening : Opening) → SpellEach (opening_parts this) (name ∷ [])
    → (end_at ws >>= (λ _. Some this)) ≡ Some opening
    → (this ≡ opening) × SpellEach (opening_parts opening) (name ∷ ws)
plain_reads name ws this opening s e =
    let z = end_bind ws _ opening e in
    (some_same _ _ z.1, spelled opening_parts name ws [] opening this z.0 (some_same _ _ z.1) s)

primary_reads : (universal root : Bool) (name : List ℕ) (ws : Words) (opening : Opening)
    → SpellEach (opening_parts (openings.Primary root universal)) (name ∷ [])
    → primary_at universal root ws ≡ Some opening
    → Opens universal opening × SpellEach (opening_parts opening) (name ∷ ws)
unfolding primary_at
primary_reads universal root name ws opening s e =
    let it = plain_reads name ws (openings.Primary root universal) opening s e in
    (subst (Opens universal) it.0 refl, it.1)

lease_reads : (universal root : Bool) (name : List ℕ) (ws : Words) (opening : Opening)
    → ((token : ℕ) → opening_parts (openings.Lease token root universal) ≡ word name ∷ number 32 token ∷ [])
    → lease_at universal root ws ≡ Some opening
    → Opens universal opening × SpellEach (opening_parts opening) (name ∷ ws)
unfolding lease_at
lease_reads universal root name ws opening parts e =
    let a = number_bind 32 ws _ opening e in
    let z = end_bind a.rest _ opening a.goes_on in
    let P : List Part → Type 0 = λ p. SpellEach p (name ∷ a.w ∷ []) in (
      subst (Opens universal) (some_same _ _ z.1) refl,
      spelled opening_parts name ws (a.w ∷ []) opening (openings.Lease a.n root universal) (words_behind a.words z.0)
          (some_same _ _ z.1) (subst P (sym (parts a.n)) (refl, (a.spells, tt))),
    )

render_reads : (universal : Bool) (ws : Words) (opening : Opening) → render_at ws ≡ Some opening → Opens universal opening × SpellEach (opening_parts opening) (codes "render" ∷ ws)
unfolding render_at
render_reads universal ws opening e =
    let it = plain_reads (codes "render") ws openings.Render opening (refl, tt) e in
    (subst (Opens universal) it.0 tt, it.1)

fields_read : (universal : Bool) (name : OpeningWord) (ws : Words) (opening : Opening)
    → opening_fields_at universal name ws ≡ Some opening
    → Opens universal opening × SpellEach (opening_parts opening) (opening_text name ∷ ws)
fields_read universal words.Card ws opening e = primary_reads universal false (codes "card") ws opening (refl, tt) e
fields_read universal words.Root ws opening e = primary_reads universal true (codes "root") ws opening (refl, tt) e
fields_read universal words.Render ws opening e = render_reads universal ws opening e
fields_read universal words.Lease ws opening e = lease_reads universal false (codes "lease") ws opening (λ token. refl) e
fields_read universal words.RootLease ws opening e = lease_reads universal true (codes "rootlease") ws opening (λ token. refl) e

lease_read : (universal root : Bool) (ws : Words) (token : ℕ) → SpellEach (number 32 token ∷ []) ws
    → lease_at universal root ws ≡ Some (openings.Lease token root universal)
unfolding lease_at
lease_read universal root (w ∷ []) token s = rw (number32_at_some w [] token s.0) refl
lease_read universal root [] token s = absurd s
lease_read universal root (w ∷ v ∷ ws) token s = absurd s.1

-- ---- an opening

-- Words that are read as an opening spell it.
pub opening_reads : (universal : Bool) (ws : Words) (opening : Opening) → opening_at universal ws ≡ Some opening
    → Opens universal opening × SpellEach (opening_parts opening) ws
unfolding opening_at opening_word_of
opening_reads universal ws opening e =
    let a = word_bind ws _ opening e in
    let b = bind_some (opening_word_of a.w) _ opening a.goes_on in
    let P : Words → Type 0 = λ v. SpellEach (opening_parts opening) v in
    let named : a.w ≡ opening_text b.step = found opening_text a.w OPENING_WORDS b.step b.made in
    let it = fields_read universal b.step a.rest opening b.goes_on in
    (it.0, subst P (sym (a.words ∙ ap (λ w. w ∷ a.rest) named)) it.1)

primary_word_read : (w : List ℕ) (root universal : Bool)
    → SpellEach (opening_parts (openings.Primary root universal)) (w ∷ [])
    → opening_at universal (w ∷ []) ≡ Some (openings.Primary root universal)
unfolding opening_at opening_word_of primary_at
primary_word_read w false universal s = rw s.0 refl
primary_word_read w true universal s = rw s.0 refl

one_word : (w v : List ℕ) (ws : Words) (root universal : Bool)
    → SpellEach (opening_parts (openings.Primary root universal)) (w ∷ v ∷ ws) → ⊥
one_word w v ws false universal s = s.1
one_word w v ws true universal s = s.1

lease_word_read : (w : List ℕ) (ws : Words) (token : ℕ) (root universal : Bool)
    → SpellEach (opening_parts (openings.Lease token root universal)) (w ∷ ws)
    → opening_at universal (w ∷ ws) ≡ Some (openings.Lease token root universal)
unfolding opening_at opening_word_of
lease_word_read w ws token false universal s = rw s.0 (lease_read universal false ws token s.1)
lease_word_read w ws token true universal s = rw s.0 (lease_read universal true ws token s.1)

render_word_read : (w : List ℕ) (universal : Bool) → SpellEach (opening_parts openings.Render) (w ∷ [])
    → opening_at universal (w ∷ []) ≡ Some openings.Render
unfolding opening_at opening_word_of render_at
render_word_read w universal s = rw s.0 refl

opening_word_read : (on : Bool) (w : List ℕ) (ws : Words) (opening : Opening) → Opens on opening
    → SpellEach (opening_parts opening) (w ∷ ws) → opening_at on (w ∷ ws) ≡ Some opening
opening_word_read on w [] (openings.Primary root universal) o s =
    subst (λ b. opening_at b (w ∷ []) ≡ Some (openings.Primary root universal)) o (primary_word_read w root universal s)
opening_word_read on w (v ∷ ws) (openings.Primary root universal) o s = absurd (one_word w v ws root universal s)
opening_word_read on w [] openings.Render o s = render_word_read w on s
opening_word_read on w (v ∷ ws) openings.Render o s = absurd s.1
opening_word_read on w ws (openings.Lease token root universal) o s =
    subst (λ b. opening_at b (w ∷ ws) ≡ Some (openings.Lease token root universal)) o
    (lease_word_read w ws token root universal s)

no_opening : (opening : Opening) → SpellEach (opening_parts opening) [] → ⊥
no_opening (openings.Primary false universal) s = s
no_opening (openings.Primary true universal) s = s
no_opening openings.Render s = s
no_opening (openings.Lease token false universal) s = s
no_opening (openings.Lease token true universal) s = s

-- Words that spell an opening are read as this opening.
pub opening_read : (on : Bool) (ws : Words) (opening : Opening) → Opens on opening
    → SpellEach (opening_parts opening) ws → opening_at on ws ≡ Some opening
opening_read on [] opening o s = absurd (no_opening opening s)
opening_read on (w ∷ ws) opening o s = opening_word_read on w ws opening o s
