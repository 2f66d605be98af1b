-- Each open lease token is that of the last MODE_CREATE_LEASE that answered its number.
use Rattle.std.proofs.Common.{◌≡◌, ℕ, ◌+◌, ◌==◌, false, cond, List, ◌∷◌, Option, None, Some, refl, sym, ap, ◌∙◌, eq-eqb}
use Rattle.std.specs.Prelude.{if◌then◌else◌, IfSome}
use Rattle.std.specs.List.{AllByRecursion}
use Rattle.std.specs.Option.{is_some}
use Rattle.std.proofs.lemmas.Bool.{and_parts, not-true}
use Rattle.drm_index_array.proofs.Lists.{all_both, all_weaker}
use Rattle.drm_index_array.proofs.Each.{each_fails}
use Rattle.drm_index_array.proofs.Numbers.{flipped}
use Rattle.drm_table.specs.declared.calls.Call.TheVariants.{CreateLease}
use Rattle.drm_table.specs.declared.events.Event.{Event}
use Rattle.drm_table.specs.declared.events.Event.TheVariants.{Open, Ask, Close}
use Rattle.drm_table.specs.declared.events.Opening.TheVariants.{Primary, Render, Lease}
use Rattle.drm_table.specs.declared.rules.Rule.{Rule}
use Rattle.drm_model.specs.Rows.{Rows, MasterRow, is_option}
use Rattle.drm_model.specs.Leases.{new_lease_token, next_lease_token, is_free_lease_token, free_lessee}
use Rattle.drm_model.specs.Magics.{caller_master}
use Rattle.drm_model.specs.Calls.{meaning}
use Rattle.drm_model.specs.Verdict.{verdict}
use Rattle.drm_model.specs.Change.{changed, swept, journaled}
use Rattle.drm_model.specs.Reply.{answer_of}
use Rattle.drm_model.proofs.FewLeased.{rules_hold}
use Rattle.drm_history.specs.History.{AnsweredEvent, next_number}
use Rattle.drm_history.specs.Effects.{effect}
use Rattle.drm_history.specs.MasterState.{leased_by, lease_in}
use Rattle.drm_history.proofs.AlwaysHolds.{IsReached, denied, carried}
use Rattle.drm_history.proofs.Effects.{denied_nothing}
use Rattle.drm_history.proofs.FreeNumbers.{next_passes}
use Rattle.drm_history.proofs.ChangedRows.{masters_after}

abbrev pub TokenTold : List AnsweredEvent → MasterRow → Type 0
TokenTold past row = IfSome row.lease_token (λ token. lease_in past token ≡ Some row.master)

abbrev pub TokensTold : List AnsweredEvent → Rows → Type 0
TokensTold past w = AllByRecursion (TokenTold past) w.masters

-- An accepted MODE_CREATE_LEASE answers a token that no master has.
pub token_free : (w : Rows) (c : ℕ) (ids : List ℕ) → verdict w (Ask c (CreateLease ids)) ≡ None
    → AllByRecursion (λ (row : MasterRow). is_option (new_lease_token w) row.lease_token ≡ false) w.masters
unfolding meaning
token_free w c ids v =
    let full = (rules_hold w c (CreateLease ids) v).1.1.1.1.1.1.0 in
    let room = (and_parts (is_some (free_lessee w (caller_master w c))) (is_some (next_lease_token w)) full).1 in
    each_fails (λ (row : MasterRow). is_option (new_lease_token w) row.lease_token) w.masters
    (not-true _ (next_passes (is_free_lease_token w) w.last_lease_token w.limits.tokens room))

-- another lease leaves the tokens that it doesn't answer
other_token : (past : List AnsweredEvent) (n fresh : ℕ) (token : Option ℕ) (m : ℕ) → is_option fresh token ≡ false
    → IfSome token (λ t. lease_in past t ≡ Some m)
    → IfSome token (λ t. (if fresh == t then Some n else lease_in past t) ≡ Some m)
other_token past n fresh None m e h = tt
other_token past n fresh (Some t) m e h = ap (λ b. cond b (Some n) (lease_in past t)) (flipped t fresh e) ∙ h

tokens_leased : (past : List AnsweredEvent) (w : Rows) (c : ℕ) (ids : List ℕ) → IsReached past w
    → verdict w (Ask c (CreateLease ids)) ≡ None → TokensTold past w
    → TokensTold (carried w (Ask c (CreateLease ids)) ∷ past) (journaled (swept (changed w (Ask c (CreateLease ids)))))
unfolding lease_in effect answer_of meaning
tokens_leased past w c ids r v h =
    let n = next_number past in
    let fresh = new_lease_token w in
    masters_after w (λ row. (is_option fresh row.lease_token ≡ false) × TokenTold past row)
    (TokenTold (carried w (Ask c (CreateLease ids)) ∷ past))
    (λ row q. other_token past n fresh row.lease_token row.master q.0 q.1) (λ row q. tt)
    (Ask c (CreateLease ids))
    (all_both (λ (row : MasterRow). is_option fresh row.lease_token ≡ false) (TokenTold past) (λ row. (is_option fresh row.lease_token ≡ false) × TokenTold past row) (λ row e q. (e, q)) w.masters (token_free w c ids v) h)
    (ap (λ b. cond b (Some n) (lease_in past fresh)) (eq-eqb fresh fresh refl) ∙ ap (λ k. Some (k + 1)) (sym r.steps))

-- If lease tokens follow from the history, that is still so after an accepted event.
pub tokens_carried : (past : List AnsweredEvent) (w : Rows) (event : Event) → IsReached past w → verdict w event ≡ None
    → TokensTold past w → TokensTold (carried w event ∷ past) (journaled (swept (changed w event)))
unfolding lease_in effect answer_of meaning
tokens_carried past w (Open (Primary root universal)) r v h =
    masters_after w (TokenTold past) (TokenTold (carried w (Open (Primary root universal)) ∷ past)) (λ row q. q)
    (λ row q. tt) (Open (Primary root universal)) h tt
tokens_carried past w (Open Render) r v h =
    masters_after w (TokenTold past) (TokenTold (carried w (Open Render) ∷ past)) (λ row q. q) (λ row q. tt)
    (Open Render) h tt
tokens_carried past w (Open (Lease token root universal)) r v h =
    masters_after w (TokenTold past) (TokenTold (carried w (Open (Lease token root universal)) ∷ past)) (λ row q. q)
    (λ row q. tt) (Open (Lease token root universal)) h tt
tokens_carried past w (Ask c (CreateLease ids)) r v h = tokens_leased past w c ids r v h
tokens_carried past w (Ask c call) r v h =
    masters_after w (TokenTold past) (TokenTold (carried w (Ask c call) ∷ past)) (λ row q. q) (λ row q. tt) (Ask c call)
    h tt
tokens_carried past w (Close c) r v h =
    masters_after w (TokenTold past) (TokenTold (carried w (Close c) ∷ past)) (λ row q. q) (λ row q. tt) (Close c) h tt

lease_denied : (past : List AnsweredEvent) (event : Event) (rule : Rule) (token : ℕ)
    → lease_in (denied event rule ∷ past) token ≡ lease_in past token
unfolding lease_in
lease_denied past event rule token =
    ap (λ d. leased_by d token (next_number past) (lease_in past token)) (denied_nothing event rule)

still_told : (past : List AnsweredEvent) (event : Event) (rule : Rule) (token : Option ℕ) (m : ℕ)
    → IfSome token (λ t. lease_in past t ≡ Some m) → IfSome token (λ t. lease_in (denied event rule ∷ past) t ≡ Some m)
still_told past event rule None m h = tt
still_told past event rule (Some t) m h = lease_denied past event rule t ∙ h

-- If lease tokens follow from the history, that is still so after a denial.
pub tokens_denied : (past : List AnsweredEvent) (w : Rows) (event : Event) (rule : Rule) → TokensTold past w
    → TokensTold (denied event rule ∷ past) (journaled w)
tokens_denied past w event rule h =
    all_weaker (TokenTold past) (TokenTold (denied event rule ∷ past))
    (λ row q. still_told past event rule row.lease_token row.master q) w.masters h
