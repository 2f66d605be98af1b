-- Who redeemed a lease, by how clients stand to masters.
use Rattle.std.proofs.Common.{◌≡◌, ℕ, ◌==◌, Bool, true, false, cond, not, ◌&&◌, List, [], ◌∷◌, Option, None, Some, find, option_map, option_to_list, refl, sym, ◌∙◌, ap, arith, eq-eqb}
use Rattle.std.specs.Option.{option_or}
use Rattle.std.proofs.lemmas.Bool.{eqb-true}
use Rattle.drm_index_array.proofs.Numbers.{less-differ, flipped}
use Rattle.drm_model.specs.Rows.{is_option}
use Rattle.drm_history.specs.History.{AnsweredEvent, next_number}
use Rattle.drm_history.specs.Effects as told
use Rattle.drm_history.specs.Effects.{effect}
use Rattle.drm_history.specs.MasterState as standings
use Rattle.drm_history.specs.MasterState.{lease_in, master_state}
use Rattle.drm_history.proofs.Falls.{lease_up}
use Rattle.drm_rights.specs.Ledgers.{is_redemption, new_master_state, noted, opened, redeemed_by, lease_client_in, standings_in}
use Rattle.drm_rights.specs.declared.notes.MasterState.{MasterState}
use Rattle.std.proofs.lemmas.List.Folds.{find-append}
use Rattle.std.proofs.Math.Bool.{and-false}

abbrev pub client_of : Option MasterState → Option ℕ
client_of found = option_map (λ (s : MasterState). s.client) found

client_of-or : (a b : Option MasterState) → client_of (option_or a b) ≡ option_or (client_of a) (client_of b)
client_of-or None b = refl
client_of-or (Some s) b = refl

no_client : (s : MasterState) (b : Bool) → b ≡ false → client_of (cond b (Some s) None) ≡ None
no_client s b e = ap (λ b. client_of (cond b (Some s) None)) e

-- who founds a master or joins one redeems nothing
not_founded : (number lessee : ℕ) → is_redemption lessee (noted number number true (Some number)) ≡ false
not_founded number lessee = ap (λ b. (number == number) && b) (of (number == lessee)) ∙ and-false (number == number)
  where
    of : (b : Bool) → (b && not b) ≡ false
    of true = refl
    of false = refl

not_joined : (number c lessee : ℕ) (master : Option ℕ) → is_redemption lessee (noted number c false master) ≡ false
not_joined number c lessee master = and-false (number == c)

not_opened : (number lessee : ℕ) (owner : Option ℕ) → is_redemption lessee (opened number owner) ≡ false
not_opened number lessee None = not_founded number lessee
not_opened number lessee (Some owner) = not_joined number number lessee (Some owner)

not_set : (number c lessee : ℕ) → is_redemption lessee (noted number c true (Some number)) ≡ false
not_set number c lessee =
    (elim (number == c) as (λ b. (number == c) ≡ b → (b && ((number == lessee) && not (c == lessee))) ≡ false) [
      | true ↦ λ e. ap (λ b. (number == lessee) && not b) (sym (ap (λ n. n == lessee) (eqb-true number c e))) ∙ of (number == lessee)
      | false ↦ λ e. refl
    ]) refl
  where
    of : (b : Bool) → (b && not b) ≡ false
    of true = refl
    of false = refl

-- who opens by a token redeems its lessee, which is older
redeems : (number lessee : ℕ) (lease : Option ℕ) → ((m : ℕ) → lease ≡ Some m → (number == m) ≡ false)
    → is_redemption lessee (noted number number true lease) ≡ is_option lessee lease
redeems number lessee None older = and-false (number == number)
redeems number lessee (Some m) older =
    ap (λ b. b && ((m == lessee) && not (number == lessee))) (eq-eqb number number refl)
    ∙ (elim (m == lessee) as (λ b. (m == lessee) ≡ b → (b && not (number == lessee)) ≡ b) [
      | true ↦ λ e. ap not (ap (λ n. number == n) (sym (eqb-true m lessee e)) ∙ older m refl)
      | false ↦ λ e. refl
    ]) refl

newest : (past : List AnsweredEvent) (lessee : ℕ) (d : told.Effect) (s : standings.MasterState) →
    client_of (find (is_redemption lessee) (option_to_list (new_master_state d (next_number past) (lease_in past) s))) ≡
    redeemed_by d past lessee
newest past lessee (told.OpensPrimary root capabilities) s =
    no_client (opened (next_number past) s.owner) _ (not_opened (next_number past) lessee s.owner)
newest past lessee told.OpensRender s =
    no_client (noted (next_number past) (next_number past) false None) _
    (not_joined (next_number past) (next_number past) lessee None)
newest past lessee (told.Redeems token root capabilities) s =
    let older =
    λ (m : ℕ) (e : lease_in past token ≡ Some m). flipped m (next_number past)
    (less-differ m (next_number past) (let old = lease_up past token m e in omega (arith, old))) in
    ap (λ b. client_of (cond b (Some (noted (next_number past) (next_number past) true (lease_in past token))) None))
    (redeems (next_number past) lessee (lease_in past token) older)
    ∙ of (is_option lessee (lease_in past token))
  where
    of : (b : Bool)
        → client_of (cond b (Some (noted (next_number past) (next_number past) true (lease_in past token))) None) ≡ cond b (Some (next_number past)) None
    of true = refl
    of false = refl
newest past lessee (told.SetsMaster c) s = of (s.is_master c)
  where
    of : (b : Bool)
        → client_of (find (is_redemption lessee) (option_to_list (cond b None (Some (noted (next_number past) c true (Some (next_number past))))))) ≡ None
    of true = refl
    of false =
        no_client (noted (next_number past) c true (Some (next_number past))) _ (not_set (next_number past) c lessee)
newest past lessee _ s = refl

-- The client that the notes say redeemed a lease is the one that the history says.
pub lease_client_told : (history : List AnsweredEvent) (lessee : ℕ)
    → client_of (find (is_redemption lessee) (standings_in history)) ≡ lease_client_in history lessee
unfolding standings_in lease_client_in
lease_client_told [] lessee = refl
lease_client_told (step ∷ past) lessee =
    let new = option_to_list (new_master_state (effect step) (next_number past) (lease_in past) (master_state past)) in
    ap client_of (find-append (is_redemption lessee) (standings_in past) new)
    ∙ client_of-or (find (is_redemption lessee) (standings_in past)) (find (is_redemption lessee) new)
    ∙ (λ i. option_or (lease_client_told past lessee i) (newest past lessee (effect step) (master_state past) i))
