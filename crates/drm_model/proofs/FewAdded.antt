-- A step adds few rows to each list.
use Rattle.std.proofs.Common.{ℕ, ◌≡◌, ◌+◌, ◌*◌, ◌≤◌, Bool, true, List, map, filter, length, Option, None, sym, subst, arith, ap}
use Rattle.std.proofs.lemmas.List.{length-map}
use Rattle.drm_index_array.proofs.Lists.{filter-shorter}
use Rattle.drm_table.specs.declared.audits.AuditKind.{AuditKind}
use Rattle.drm_table.specs.declared.audits.AuditKind.TheVariants as kinds
use Rattle.drm_table.specs.declared.calls.Call.TheVariants.{CreateLease}
use Rattle.drm_table.specs.declared.events.Event.{Event}
use Rattle.drm_table.specs.declared.events.Event.TheVariants.{Open, Ask, Close}
use Rattle.drm_modes.specs.Topology.{IsTopology}
use Rattle.drm_model.specs.Parts.{Part, Clients, Masters, Magics, Holds, Objects, Names, Tokens, Grants, Framebuffers, Shown, count_in}
use Rattle.drm_model.specs.StepNumbers.{FewRows, most_in}
use Rattle.drm_model.specs.Audit.{audit_rows}
use Rattle.drm_model.specs.Rows.{Rows, step_number, empty_rows}
use Rattle.drm_model.specs.Leases.{grant, leased}
use Rattle.drm_model.specs.Verdict.{verdict}
use Rattle.drm_model.specs.Change.{after, changed, swept, journaled}
use Rattle.drm_model.specs.Run.{rows_of, DeviceValue}
use Rattle.drm_model.proofs.Journals.{after-topology, after-steps}
use Rattle.drm_model.proofs.FewLeased.{few_leased}
use Rattle.drm_model.proofs.EventChanges.{along, by_verdict, client_after, client_stays, framebuffer_stays, handle_after, handle_stays, magic_after, magic_stays, master_after, new_client_row, new_framebuffer_row, new_grants, new_handle_row, new_magic_row, new_master_row, new_name_row, new_object_row, new_shown_row, new_token_row, object_after, shown_stays, token_stays, grant_stays, each_edits}
use Rattle.drm_index_array.proofs.Edits.{edited, length-edited, length-listed, listed}

few-filter : {X : Type 0} (p : X → Bool) (xs : List X) (most : ℕ) → length xs ≤ most → length (filter p xs) ≤ most
few-filter p xs most h = let f = filter-shorter p xs in omega (arith, f, h)

more_in : (part : Part) (n most : ℕ) → n ≤ most_in part most → n ≤ most_in part (most + 1)
more_in Grants n most h = omega (arith, h)
more_in part n most h = omega (arith, h)

later : (w : Rows) (most : ℕ) → FewRows most w → FewRows (most + 1) w
later w most h = λ part. more_in part (count_in part w) most (h part)

-- one row more at most
few-edited : {X : Type 0} (stays : X → Bool) (change : X → X) (new : Option X) (xs now : List X) (most : ℕ)
    → now ≡ edited stays change (listed new) xs → length xs ≤ most → length now ≤ most + 1
few-edited stays change new xs now most is h =
    let all = length-edited stays change (listed new) xs in
    let one = length-listed new in
    let same = ap length is in
    omega (arith, all, one, same, h)

-- and grants by accepted leases
granted-few : (w : Rows) (event : Event) → IsTopology w.topology → verdict w event ≡ None
    → length (new_grants w event) ≤ 64
granted-few w (Ask c (CreateLease ids)) topology accepted = let few = few_leased w c ids topology accepted in let all = length-map (leased w c ids) (grant (step_number w)) in omega (arith, few, all)
granted-few w (Ask c call) topology accepted = omega arith
granted-few w (Open opening) topology accepted = omega arith
granted-few w (Close c) topology accepted = omega arith

changed-few : (w : Rows) (event : Event) → IsTopology w.topology → verdict w event ≡ None → FewRows w.steps w
    → (part : Part) → count_in part (changed w event) ≤ most_in part (step_number w)
unfolding count_in
changed-few w event topology accepted h Clients =
    few-edited (client_stays w event) (client_after w event) (new_client_row w event) w.clients _ w.steps
    (ap (λ (v : Rows). v.clients) (each_edits w event)) (h Clients)
changed-few w event topology accepted h Masters =
    few-edited (λ row. true) (master_after w event) (new_master_row w event) w.masters _ w.steps
    (ap (λ (v : Rows). v.masters) (each_edits w event)) (h Masters)
changed-few w event topology accepted h Magics =
    few-edited (magic_stays w event) (magic_after w event) (new_magic_row w event) w.magics _ w.steps
    (ap (λ (v : Rows). v.magics) (each_edits w event)) (h Magics)
changed-few w event topology accepted h Holds =
    few-edited (handle_stays w event) (handle_after w event) (new_handle_row w event) w.holds _ w.steps
    (ap (λ (v : Rows). v.holds) (each_edits w event)) (h Holds)
changed-few w event topology accepted h Objects =
    few-edited (λ row. true) (object_after w event) (new_object_row w event) w.objects _ w.steps
    (ap (λ (v : Rows). v.objects) (each_edits w event)) (h Objects)
changed-few w event topology accepted h Names =
    few-edited (λ row. true) (λ row. row) (new_name_row w event) w.names _ w.steps
    (ap (λ (v : Rows). v.names) (each_edits w event)) (h Names)
changed-few w event topology accepted h Tokens =
    few-edited (token_stays w event) (λ row. row) (new_token_row w event) w.tokens _ w.steps
    (ap (λ (v : Rows). v.tokens) (each_edits w event)) (h Tokens)
changed-few w event topology accepted h Grants =
    let all = length-edited (grant_stays w event) (λ row. row) (new_grants w event) w.grants in
    let same = ap length (ap (λ (v : Rows). v.grants) (each_edits w event)) in
    let new = granted-few w event topology accepted in
    let old = h Grants in
    omega (arith, all, same, new, old)
changed-few w event topology accepted h Framebuffers =
    few-edited (framebuffer_stays w event) (λ row. row) (new_framebuffer_row w event) w.framebuffers _ w.steps
    (ap (λ (v : Rows). v.framebuffers) (each_edits w event)) (h Framebuffers)
changed-few w event topology accepted h Shown =
    few-edited (shown_stays event) (λ row. row) (new_shown_row event) w.shown _ w.steps
    (ap (λ (v : Rows). v.shown) (each_edits w event)) (h Shown)
changed-few w event topology accepted h part = omega arith

swept-few : (w : Rows) (most : ℕ) → FewRows most w → (part : Part) → count_in part (swept w) ≤ most_in part most
unfolding swept count_in
swept-few w most h Masters = few-filter _ w.masters most (h Masters)
swept-few w most h Objects = few-filter _ w.objects most (h Objects)
swept-few w most h Names = few-filter _ w.names most (h Names)
swept-few w most h Shown = few-filter _ w.shown most (h Shown)
swept-few w most h part = h part

journaled-few : (w : Rows) (most : ℕ) → FewRows most w → (part : Part) → count_in part (journaled w) ≤ most_in part most
unfolding count_in
journaled-few w most h Clients = h Clients
journaled-few w most h part = h part

after-few : (w : Rows) (event : Event) → IsTopology w.topology × FewRows w.steps w
    → IsTopology (after w event).topology × FewRows (after w event).steps (after w event)
after-few w event h = (
  subst IsTopology (sym (after-topology w event)) h.0,
  subst (λ n. FewRows n (after w event)) (sym (after-steps w event))
      (by_verdict (FewRows (step_number w)) w event (journaled-few w (step_number w) (later w w.steps h.1))
      (λ accepted. journaled-few (swept (changed w event)) (step_number w) (swept-few (changed w event) (step_number w) (changed-few w event h.0 accepted h.1)))),
)

none_yet : (h : DeviceValue) → (part : Part) → count_in part (empty_rows h.topology h.limits) ≤ most_in part 0
unfolding count_in
none_yet h Clients = omega arith
none_yet h part = omega arith

-- The rows of any history are no more than its steps can add.
pub few_rows : (h : DeviceValue) → IsTopology h.topology → FewRows (rows_of h).steps (rows_of h)
unfolding rows_of
few_rows h topology =
    (along (λ w. IsTopology w.topology × FewRows w.steps w) after-few h.journal (empty_rows h.topology h.limits) (topology, none_yet h)).1

mapped : {X Y : Type 0} (f : X → Y) (xs : List X) (most : ℕ) → length xs ≤ 64 * most → length (map f xs) ≤ 64 * most + 1
mapped f xs most h = let l = length-map xs f in omega (arith, l, h)

-- An audit lists no more rows than the steps can have added.
pub few_audit_rows : (w : Rows) (most : ℕ) → FewRows most w → (kind : AuditKind)
    → length (audit_rows w kind) ≤ 64 * most + 1
unfolding audit_rows count_in
few_audit_rows w most h kinds.Client = mapped _ w.clients most (let few = h Clients in omega (arith, few))
few_audit_rows w most h kinds.Master = mapped _ w.masters most (let few = h Masters in omega (arith, few))
few_audit_rows w most h kinds.Object = mapped _ w.objects most (let few = h Objects in omega (arith, few))
few_audit_rows w most h kinds.Name = mapped _ w.names most (let few = h Names in omega (arith, few))
few_audit_rows w most h kinds.Token = mapped _ w.tokens most (let few = h Tokens in omega (arith, few))
few_audit_rows w most h kinds.Hold = mapped _ w.holds most (let few = h Holds in omega (arith, few))
few_audit_rows w most h kinds.Grant = mapped _ w.grants most (h Grants)
few_audit_rows w most h kinds.Framebuffer =
    mapped _ w.framebuffers most (let few = h Framebuffers in omega (arith, few))
few_audit_rows w most h kinds.Shown = mapped _ w.shown most (let few = h Shown in omega (arith, few))
few_audit_rows w most h kinds.Device = omega arith
