-- A client has the capabilities on that the history says, and with universal planes off it is shown overlay planes alone.
use Rattle.std.proofs.Common.{◌≡◌, ℕ, ◌+◌, ◌≤◌, ◌==◌, Bool, true, false, not, ◌&&◌, ◌||◌, List, ◌∷◌, Option, None, Some, refl, sym, ap, ◌∙◌, arith}
use Rattle.std.specs.Prelude.{if◌then◌else◌}
use Rattle.std.specs.List.{AllByRecursion}
use Rattle.std.specs.Option.{is_some, option_map_or}
use Rattle.std.proofs.lemmas.Bool.{eqb-true, and_parts}
use Rattle.std.proofs.lemmas.Bool.Decides.{nat_tests}
use Rattle.drm_index_array.proofs.Lists.{all_both, all_filter, all_weaker, filter_true}
use Rattle.drm_index_array.proofs.Numbers.{flipped, less-differ}
use Rattle.drm_index_array.proofs.Rising.{each_is_there, found}
use Rattle.drm_table.specs.declared.calls.Call.{Call}
use Rattle.drm_table.specs.declared.calls.Call.TheVariants.{Version, SetClientCap, AuthMagic, SetMaster, GetPlaneResources, GetPlane, SetPlane}
use Rattle.drm_table.specs.declared.events.Event.{Event}
use Rattle.drm_table.specs.declared.events.Event.TheVariants.{Open, Ask, Close}
use Rattle.drm_table.specs.declared.events.Opening.TheVariants.{Primary, Render, Lease}
use Rattle.drm_table.specs.declared.rules.Rule.{Rule}
use Rattle.drm_modes.specs.Topology.{Topology, is_plane, is_encoder, plane_ids, is_primary_or_cursor}
use Rattle.drm_index_array.proofs.Edits.{either}
use Rattle.drm_model.specs.Rows.{Rows, ClientRow, step_number, is_client, is_option, client_row, is_open}
use Rattle.drm_model.specs.ClientCapabilities.{ClientCapabilities, no_capabilities, opening_capabilities, with_capability}
use Rattle.drm_model.specs.Sees.{client_capabilities, controls, has_universal, sees, sees_plane, visible_planes}
use Rattle.drm_model.specs.Magics.{caller_master, magic_client, is_current, is_master}
use Rattle.drm_model.specs.Calls.{meaning}
use Rattle.drm_model.specs.Verdict.{verdict}
use Rattle.drm_model.proofs.EventChanges.{primary_row, set_row}
use Rattle.drm_model.specs.Change.{changed, swept, journaled}
use Rattle.drm_model.specs.Reply.{reply, reply_by, answer_of}
use Rattle.drm_model.proofs.FewLeased.{rules_hold}
use Rattle.drm_history.specs.History.{AnsweredEvent, next_number}
use Rattle.drm_history.specs.Effects.{effect, is_accepted}
use Rattle.drm_history.specs.Shown.{capabilities_by, capabilities_in, is_universal_in, ShowsOverlays, KeepsToOverlays}
use Rattle.drm_history.proofs.AlwaysHolds.{IsReached, replied, denied, carried}
use Rattle.drm_history.proofs.Rules.{caller_open}
use Rattle.drm_history.proofs.Effects.{denied_nothing}
use Rattle.drm_history.proofs.ChangedRows.{clients_after}
use Rattle.drm_history.proofs.Apart.{plane_apart}
use Rattle.drm_model.specs.Clients.{opened}
use Rattle.drm_model.proofs.StepNumbers.{new_primary}

abbrev pub CapableTold : List AnsweredEvent → ClientRow → Type 0
CapableTold past row = row.capabilities ≡ capabilities_in past row.client

abbrev pub CapablesTold : List AnsweredEvent → Rows → Type 0
CapablesTold past w = AllByRecursion (CapableTold past) w.clients

-- ---- a step

abbrev Aged : List AnsweredEvent → Rows → ClientRow → Type 0
Aged past w row = CapableTold past row × (row.client ≤ w.steps)

aged : (past : List AnsweredEvent) (w : Rows) → IsReached past w → CapablesTold past w
    → AllByRecursion (Aged past w) w.clients
aged past w r a =
    all_both (CapableTold past) (λ (row : ClientRow). row.client ≤ w.steps) (Aged past w) (λ row h k. (h, k)) w.clients
    a r.step_numbers.0.1

module _ (past : List AnsweredEvent) (w : Rows) (r : IsReached past w) where
  -- an older client is unchanged where another opens
  still : (set : ClientCapabilities) (row : ClientRow) → Aged past w row
      → row.capabilities ≡ (if next_number past == row.client then set else capabilities_in past row.client)
  still set row h =
      let steps = r.steps in
      let older = h.1 in
      h.0
      ∙ sym
      (ap (λ b. if b then set else capabilities_in past row.client) (flipped row.client (next_number past) (less-differ row.client (next_number past) (omega (arith, older, steps)))))

  -- a new one is as its opening says
  new : (set : ClientCapabilities) (n : ℕ) → n ≡ step_number w
      → set ≡ (if next_number past == n then set else capabilities_in past n)
  new set n e =
      let steps = r.steps in
      let same : (next_number past == n) ≡ true =
      ap (λ m. next_number past == m) (e ∙ ap (λ m. m + 1) steps) ∙ itself (next_number past) in
      sym (ap (λ b. if b then set else capabilities_in past n) same)
    where
      itself : (m : ℕ) → (m == m) ≡ true
      itself m = grind (arith, nat_tests)

  primary_capabilities : (root universal : Bool) (m : Option ℕ)
      → (primary_row w root universal m).capabilities ≡ opening_capabilities universal
  primary_capabilities root universal None = refl
  primary_capabilities root universal (Some m) = refl

  opened_primary : (root universal : Bool) → CapablesTold past w
      → CapablesTold (carried w (Open (Primary root universal)) ∷ past) (journaled (swept (changed w (Open (Primary root universal)))))
  unfolding capabilities_in effect answer_of
  opened_primary root universal a =
      let row = primary_row w root universal w.device_master in
      clients_after w (CapableTold (carried w (Open (Primary root universal)) ∷ past)) (Open (Primary root universal))
      (Aged past w) (still (opening_capabilities universal))
      (primary_capabilities root universal w.device_master ∙ new (opening_capabilities universal) row.client (new_primary w root universal w.device_master))
      (aged past w r a)

  opened_render : CapablesTold past w
      → CapablesTold (carried w (Open Render) ∷ past) (journaled (swept (changed w (Open Render))))
  unfolding capabilities_in effect answer_of
  opened_render a =
      clients_after w (CapableTold (carried w (Open Render) ∷ past)) (Open Render) (Aged past w)
      (still (opening_capabilities true)) (new (opening_capabilities true) (step_number w) refl) (aged past w r a)

  opened_lease : (token : ℕ) (root universal : Bool) → CapablesTold past w
      → CapablesTold (carried w (Open (Lease token root universal)) ∷ past) (journaled (swept (changed w (Open (Lease token root universal)))))
  unfolding capabilities_in effect answer_of
  opened_lease token root universal a =
      clients_after w (CapableTold (carried w (Open (Lease token root universal)) ∷ past))
      (Open (Lease token root universal)) (Aged past w) (still (opening_capabilities universal))
      (new (opening_capabilities universal) (step_number w) refl) (aged past w r a)

-- SET_CLIENT_CAP
abbrev put : ℕ → Bool → ClientRow → ClientRow
put cap on row = record row { capabilities = with_capability cap on row.capabilities }

abbrev put_in : List AnsweredEvent → ℕ → ℕ → Bool → ℕ → ClientCapabilities
put_in past c cap on d = if c == d then with_capability cap on (capabilities_in past d) else capabilities_in past d

capable : (past : List AnsweredEvent) (c cap : ℕ) (on : Bool) (row : ClientRow) → CapableTold past row →
    (if is_client c row then put cap on row else row).capabilities ≡ put_in past c cap on
    (if is_client c row then put cap on row else row).client
capable past c cap on row h =
    elim (is_client c row) as (λ b. is_client c row ≡ b → (if b then put cap on row else row).capabilities ≡ put_in past c cap on (if b then put cap on row else row).client) [
      | true ↦ λ e. ap (with_capability cap on) h ∙ sym (ap (λ b. if b then with_capability cap on (capabilities_in past row.client) else capabilities_in past row.client) (turned row.client c e))
      | false ↦ λ e. h ∙ sym (ap (λ b. if b then with_capability cap on (capabilities_in past row.client) else capabilities_in past row.client) (flipped row.client c e))
    ] refl
  where
    turned : (m n : ℕ) → (m == n) ≡ true → (n == m) ≡ true
    turned m n e = grind (arith, nat_tests)

mastering : (past : List AnsweredEvent) (w : Rows) (c : ℕ) (current master : Bool) (row : ClientRow)
    → CapableTold past row → CapableTold past (set_row w c current master row)
mastering past w c true master row h = h
mastering past w c false true row h = h
mastering past w c false false row h =
    elim (is_client c row) as (λ b. CapableTold past (if b then record row { authenticated = true; once_master = true; is_master = true; master = Some (step_number w) } else row)) [ true ↦ h | false ↦ h ]

asked : (past : List AnsweredEvent) (w : Rows) (c : ℕ) (call : Call) → CapablesTold past w
    → CapablesTold (carried w (Ask c call) ∷ past) (journaled (swept (changed w (Ask c call))))
unfolding capabilities_in effect answer_of meaning
asked past w c Version a = clients_after w (CapableTold past) (Ask c Version) (CapableTold past) (λ row h. h) tt a
asked past w c (SetClientCap cap value) a =
    clients_after w (CapableTold (carried w (Ask c (SetClientCap cap value)) ∷ past)) (Ask c (SetClientCap cap value))
    (CapableTold past) (λ row h. capable past c cap (value == 1) row h) tt a
asked past w c (AuthMagic magic) a =
    clients_after w (CapableTold past) (Ask c (AuthMagic magic)) (CapableTold past)
    (λ row h. either (CapableTold past) (is_option row.client (magic_client w (caller_master w c) magic)) (record row { authenticated = true }) row h h)
    tt a
asked past w c SetMaster a =
    clients_after w (CapableTold past) (Ask c SetMaster) (CapableTold past)
    (λ row h. mastering past w c (is_current w c) (is_master w c) row h) tt a
asked past w c call a = clients_after w (CapableTold past) (Ask c call) (CapableTold past) (λ row h. h) tt a

closed : (past : List AnsweredEvent) (w : Rows) (c : ℕ) → CapablesTold past w
    → CapablesTold (carried w (Close c) ∷ past) (journaled (swept (changed w (Close c))))
unfolding capabilities_in effect answer_of
closed past w c a = clients_after w (CapableTold past) (Close c) (CapableTold past) (λ row h. h) tt a

-- If the history says which capabilities each client has on, that is still so after an accepted event.
pub capables_carried : (past : List AnsweredEvent) (w : Rows) (event : Event) → IsReached past w → CapablesTold past w
    → CapablesTold (carried w event ∷ past) (journaled (swept (changed w event)))
capables_carried past w (Open (Primary root universal)) r a = opened_primary past w r root universal a
capables_carried past w (Open Render) r a = opened_render past w r a
capables_carried past w (Open (Lease token root universal)) r a = opened_lease past w r token root universal a
capables_carried past w (Ask c call) r a = asked past w c call a
capables_carried past w (Close c) r a = closed past w c a

-- If the history says which capabilities each client has on, that is still so after a denial.
pub capables_denied : (past : List AnsweredEvent) (w : Rows) (event : Event) (rule : Rule) → CapablesTold past w
    → CapablesTold (denied event rule ∷ past) (journaled w)
unfolding capabilities_in
capables_denied past w event rule a =
    all_weaker (CapableTold past) (CapableTold (denied event rule ∷ past))
    (λ row h. h ∙ sym (ap (λ d. capabilities_by d (next_number past) row.client (capabilities_in past row.client)) (denied_nothing event rule)))
    w.clients a

-- An open client has the capabilities on that the history says.
pub capable_told : (past : List AnsweredEvent) (w : Rows) → CapablesTold past w → (c : ℕ) → is_open w c ≡ true
    → client_capabilities w c ≡ capabilities_in past c
capable_told past w a c opened = by (client_row w c) refl opened
  where
    by : (o : Option ClientRow) → client_row w c ≡ o → is_some o ≡ true
        → option_map_or (λ (row : ClientRow). row.capabilities) o no_capabilities ≡ capabilities_in past c
    by None e k = absurd (let n : false ≡ true = k in cc)
    by (Some row) e k =
        let it = found (is_client c) (CapableTold past) row w.clients a e in
        it.1 ∙ ap (capabilities_in past) (eqb-true row.client c it.0)

-- An open client has universal planes on exactly if the history says so.
pub universal_told : (past : List AnsweredEvent) (w : Rows) → CapablesTold past w → (c : ℕ) → is_open w c ≡ true
    → has_universal w c ≡ is_universal_in past c
universal_told past w a c opened = ap (λ (k : ClientCapabilities). k.universal_planes) (capable_told past w a c opened)

-- ---- what a client with universal planes off is answered

module _ (w : Rows) (c : ℕ) (off : has_universal w c ≡ false) where
  hidden : (encoder controlled own universal : Bool) → encoder ≡ false → universal ≡ false
      → (encoder || (controlled && (not own || universal))) ≡ true → own ≡ false
  hidden true controlled own universal e u h = absurd (let n : true ≡ false = e in cc)
  hidden false false own universal e u h = absurd (let n : false ≡ true = h in cc)
  hidden false true false universal e u h = refl
  hidden false true true universal e u h = absurd (let n : false ≡ true = sym u ∙ h in cc)

  overlay_seen : (x : ℕ) → is_plane w.topology x ≡ true → sees w c x ≡ true → is_primary_or_cursor w.topology x ≡ false
  unfolding sees
  overlay_seen x plane seen =
      hidden (is_encoder w.topology x) (controls w c x) (is_primary_or_cursor w.topology x) (has_universal w c)
      (plane_apart w.topology x plane) off seen

  overlay_named : (x : ℕ) → sees_plane w c x ≡ true → is_primary_or_cursor w.topology x ≡ false
  overlay_named x seen = let parts = and_parts (is_plane w.topology x) (sees w c x) seen in overlay_seen x parts.0 parts.1

  overlays_listed : AllByRecursion (λ x. is_primary_or_cursor w.topology x ≡ false) (visible_planes w c)
  overlays_listed =
      all_both (λ x. is_plane w.topology x ≡ true) (λ x. sees w c x ≡ true)
      (λ x. is_primary_or_cursor w.topology x ≡ false) overlay_seen (visible_planes w c)
      (all_filter (λ x. is_plane w.topology x ≡ true) (sees w c) (plane_ids w.topology) (each_is_there (λ x. x) (plane_ids w.topology)))
      (filter_true (sees w c) (plane_ids w.topology))

  shows : (call : Call) → verdict w (Ask c call) ≡ None → ShowsOverlays w.topology call (answer_of w (Ask c call))
  unfolding answer_of meaning
  shows Version v = tt
  shows (GetPlane plane) v = overlay_named plane (rules_hold w c (GetPlane plane) v).0
  shows (SetPlane plane crtc framebuffer) v =
      overlay_named plane (and_parts (sees_plane w c plane) _ (rules_hold w c (SetPlane plane crtc framebuffer) v).0).0
  shows GetPlaneResources v = overlays_listed
  shows _ v = tt

accepted : (t : Topology) (w : Rows) (c : ℕ) (call : Call) (v : Option Rule) → verdict w (Ask c call) ≡ v
    → (verdict w (Ask c call) ≡ None → ShowsOverlays t call (answer_of w (Ask c call)))
    → is_accepted (reply_by v w (Ask c call)) ≡ true → ShowsOverlays t call (reply_by v w (Ask c call))
accepted t w c call (Some rule) e f h = absurd (let n : false ≡ true = h in cc)
accepted t w c call None e f h = f e

-- A client with universal planes off gets no answer that names a primary or cursor plane.
pub keeps_to_overlays : (past : List AnsweredEvent) (w : Rows) (event : Event) → CapablesTold past w
    → KeepsToOverlays w.topology (replied w event) past
unfolding reply
keeps_to_overlays past w (Open opening) a = tt
keeps_to_overlays past w (Ask c call) a =
    λ off h. accepted w.topology w c call (verdict w (Ask c call)) refl
    (λ v. shows w c (universal_told past w a c (caller_open w c call v) ∙ off) call v) h
keeps_to_overlays past w (Close c) a = tt
