-- A client that closed has no row again, so that no event of it is carried out.
use Rattle.std.proofs.Common.{◌≡◌, ℕ, ◌≤◌, ◌==◌, true, false, ◌||◌, List, ◌∷◌, length, Option, None, Some, refl, sym, ap, ◌∙◌, subst, arith}
use Rattle.std.specs.Prelude.{IfSome}
use Rattle.std.specs.List.{list_any, AllByRecursion}
use Rattle.std.proofs.lemmas.Bool.{eqb-true}
use Rattle.drm_index_array.proofs.Lists.{none_left, some_passing}
use Rattle.drm_index_array.proofs.FoundInLists.{is_some-find}
use Rattle.drm_index_array.proofs.Numbers.{flipped, less-differ}
use Rattle.drm_table.specs.declared.calls.Call.{Call}
use Rattle.drm_table.specs.declared.calls.Call.TheVariants.{Version}
use Rattle.drm_table.specs.declared.events.Event.{Event}
use Rattle.drm_table.specs.declared.events.Event.TheVariants.{Open, Ask, Close}
use Rattle.drm_table.specs.declared.events.Opening.TheVariants.{Primary, Render, Lease}
use Rattle.drm_table.specs.declared.rules.Rule.{Rule}
use Rattle.drm_model.proofs.StepNumbers.{client-same, client-new}
use Rattle.drm_model.proofs.EventChanges.{client_stays, client_after, new_client_row, each_edits}
use Rattle.drm_index_array.proofs.Edits.{listed, none_edited}
use Rattle.drm_model.specs.Rows.{Rows, ClientRow, step_number, is_client, is_open}
use Rattle.drm_model.specs.Clients.{closed}
use Rattle.drm_model.specs.Calls.{meaning}
use Rattle.drm_model.specs.Verdict.{verdict}
use Rattle.drm_model.specs.Change.{changed, swept, journaled}
use Rattle.drm_model.specs.Reply.{reply, reply_by, answer_of}
use Rattle.drm_model.specs.Run.{DeviceValue}
use Rattle.drm_history.specs.History.{AnsweredEvent, history_of}
use Rattle.drm_history.specs.Effects.{effect, is_accepted}
use Rattle.drm_history.specs.Closings.{closes, has_closed, is_of, StaysClosed}
use Rattle.drm_history.specs.Authority.{ClosingsAreForGood}
use Rattle.drm_history.proofs.AlwaysHolds.{IsReached, replied, denied, carried, Keeps, by_verdict, at_each_step}
use Rattle.drm_history.proofs.Rules.{caller_open, closer_open}
use Rattle.drm_history.proofs.Effects.{denied_nothing}

-- ---- the rows of a client

abbrev IsAbsent : ℕ → Rows → Type 0
IsAbsent c w = list_any (is_client c) w.clients ≡ false

-- a new client is another
new-other : (w : Rows) (c : ℕ) → c ≤ w.steps → (o : Option ClientRow) → IfSome o (λ row. row.client ≡ step_number w)
    → list_any (is_client c) (listed o) ≡ false
new-other w c old None fresh = refl
new-other w c old (Some row) fresh =
    ap (λ b. b || false)
    (ap (λ n. n == c) fresh ∙ flipped c (step_number w) (less-differ c (step_number w) (omega (arith, old))))

changed-absent : (w : Rows) (event : Event) (c : ℕ) → c ≤ w.steps → IsAbsent c w → IsAbsent c (changed w event)
changed-absent w event c old h =
    ap (λ (v : Rows). list_any (is_client c) v.clients) (each_edits w event)
    ∙ none_edited (client_stays w event) (client_after w event) (listed (new_client_row w event)) w.clients
    (is_client c) (λ row k. ap (λ n. n == c) (client-same w event row) ∙ k)
    (new-other w c old (new_client_row w event) (client-new w event)) h

closed-absent : (w : Rows) (c : ℕ) → IsAbsent c (changed w (Close c))
unfolding changed closed
closed-absent w c = none_left (is_client c) (is_client c) (λ row e. e) w.clients

-- An open client is of a step that was made.
pub open_old : (w : Rows) (c : ℕ) → AllByRecursion (λ (row : ClientRow). row.client ≤ w.steps) w.clients
    → is_open w c ≡ true → c ≤ w.steps
open_old w c old h =
    let it =
    some_passing (is_client c) (λ (row : ClientRow). row.client ≤ w.steps) w.clients old
    (sym (is_some-find (is_client c) w.clients) ∙ h) in
    subst (λ n. n ≤ w.steps) (eqb-true it.0.client c it.1) it.2

-- ---- along a history

abbrev AreGone : List AnsweredEvent → Rows → Type 0
AreGone past w = (c : ℕ) → has_closed past c ≡ true → (c ≤ length past) × IsAbsent c w

closes_nothing : (w : Rows) (d : ℕ) (call : Call) (c : ℕ) → closes (effect (carried w (Ask d call))) c ≡ false
unfolding effect answer_of meaning
closes_nothing w d Version c = refl
closes_nothing w d _ c = refl

-- where the step closes none, and where it closes one
later : (past : List AnsweredEvent) (w : Rows) (event : Event) (step : AnsweredEvent) (c : ℕ) → IsReached past w
    → closes (effect step) c ≡ false → AreGone past w → has_closed (step ∷ past) c ≡ true
    → (c ≤ length (step ∷ past)) × IsAbsent c (changed w event)
unfolding has_closed
later past w event step c r e gone h =
    let before = gone c (ap (λ b. b || has_closed past c) (sym e) ∙ h) in
    let steps = r.steps in
    (let old = before.0 in omega (arith, old), changed-absent w event c (let old = before.0 in omega (arith, old, steps)) before.1)

now : (past : List AnsweredEvent) (w : Rows) (d c : ℕ) → IsReached past w → d ≤ w.steps → AreGone past w
    → has_closed (carried w (Close d) ∷ past) c ≡ true
    → (c ≤ length (carried w (Close d) ∷ past)) × IsAbsent c (changed w (Close d))
unfolding has_closed effect answer_of
now past w d c r old gone h =
    let steps = r.steps in
    (elim (d == c) as (λ b. (d == c) ≡ b → (b || has_closed past c) ≡ true → (c ≤ length (carried w (Close d) ∷ past)) × IsAbsent c (changed w (Close d))) [
      | true ↦ λ e k. let same = eqb-true d c e in (omega (arith, old, same, steps), subst (λ n. IsAbsent n (changed w (Close d))) same (closed-absent w d))
      | false ↦ λ e k. let before = gone c k in let older = before.0 in (omega (arith, older), changed-absent w (Close d) c (omega (arith, older, steps)) before.1)
    ]) refl h

gone_changed : (past : List AnsweredEvent) (w : Rows) (event : Event) → IsReached past w → verdict w event ≡ None
    → AreGone past w → (c : ℕ) → has_closed (carried w event ∷ past) c ≡ true
    → (c ≤ length (carried w event ∷ past)) × IsAbsent c (changed w event)
unfolding effect answer_of
gone_changed past w (Open (Primary root universal)) r v gone c h =
    later past w (Open (Primary root universal)) _ c r refl gone h
gone_changed past w (Open Render) r v gone c h = later past w (Open Render) _ c r refl gone h
gone_changed past w (Open (Lease token root universal)) r v gone c h =
    later past w (Open (Lease token root universal)) _ c r refl gone h
gone_changed past w (Ask d call) r v gone c h = later past w (Ask d call) _ c r (closes_nothing w d call c) gone h
gone_changed past w (Close d) r v gone c h =
    now past w d c r (open_old w d r.step_numbers.0.1 (closer_open w d v)) gone h

carried_gone : (past : List AnsweredEvent) (w : Rows) (event : Event) → IsReached past w → verdict w event ≡ None
    → AreGone past w → AreGone (carried w event ∷ past) (journaled (swept (changed w event)))
unfolding swept
carried_gone past w event r v gone c h = gone_changed past w event r v gone c h

denied_gone : (past : List AnsweredEvent) (w : Rows) (event : Event) (rule : Rule) → AreGone past w
    → AreGone (denied event rule ∷ past) (journaled w)
unfolding has_closed
denied_gone past w event rule gone c h =
    let before = gone c (ap (λ d. closes d c || has_closed past c) (sym (denied_nothing event rule)) ∙ h) in
    (let old = before.0 in omega (arith, old), before.1)

keeps_gone : Keeps AreGone
keeps_gone = by_verdict AreGone (λ past w event rule r gone. denied_gone past w event rule gone) carried_gone

-- ---- no event of such a client is carried out

absent_shut : (w : Rows) (c : ℕ) → IsAbsent c w → is_open w c ≡ true → ⊥
absent_shut w c h e = let k : false ≡ true = sym h ∙ sym (is_some-find (is_client c) w.clients) ∙ e in cc

not_carried : (w : Rows) (event : Event) (c : ℕ) → IsAbsent c w → is_of c event ≡ true → verdict w event ≡ None → ⊥
not_carried w (Open opening) c h e v = absurd (let k : false ≡ true = e in cc)
not_carried w (Ask d call) c h e v =
    absent_shut w d (subst (λ n. IsAbsent n w) (sym (eqb-true d c e)) h) (caller_open w d call v)
not_carried w (Close d) c h e v =
    absent_shut w d (subst (λ n. IsAbsent n w) (sym (eqb-true d c e)) h) (closer_open w d v)

refused : (w : Rows) (event : Event) (v : Option Rule) → (v ≡ None → ⊥) → is_accepted (reply_by v w event) ≡ false
refused w event (Some rule) never = refl
refused w event None never = absurd (never refl)

stays_closed : (past : List AnsweredEvent) (w : Rows) (event : Event) → AreGone past w
    → StaysClosed (replied w event) past
unfolding reply
stays_closed past w event gone c h e = refused w event (verdict w event) (λ v. not_carried w event c (gone c h).1 e v)

-- In any history no event of a client is carried out after its accepted closing.
pub closings_are_for_good : (h : DeviceValue) → ClosingsAreForGood (history_of h)
unfolding has_closed
closings_are_for_good h =
    at_each_step AreGone keeps_gone StaysClosed (λ past w event r gone. stays_closed past w event gone) h
    (λ c k. absurd (let e : false ≡ true = k in cc))
