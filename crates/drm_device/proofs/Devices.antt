-- What is true of a device's fields, and of the fields after a step.
use Rattle.std.proofs.Common.{◌≡◌, ℕ, zero, suc, replicate, Ok, ◌+◌, ◌-◌, ◌<◌, ◌≤◌, ◌&&◌, ◌||◌, Bool, true, false, not, List, Option, find, refl, sym, ap, ◌∙◌, arith, subst, length, map, [], ◌∷◌, ◌++◌, nat_le, nat_lt, None, Some, filter, take}
use Rattle.std.specs.List.{filter_map, list_any, AllByRecursion}
use Rattle.std.specs.Option.{is_some, option_and_then}
use Rattle.std.proofs.lemmas.Bool.{leb-true, eqb-true, and_parts}
use Rattle.std.proofs.lemmas.Bool.Decides.{nat_tests}
use Rattle.drm_index_array.specs.Orders.{InOrder}
use Rattle.std.specs.Prelude.{unwrap_or}
use Rattle.std.proofs.lemmas.List.{length-map, length-append}
use Rattle.std.proofs.Math.Seq.{take-append_seam}
use Rattle.drm_index_array.proofs.Orders.{same-any, same-length}
use Rattle.drm_index_array.proofs.Rising.{found}
use Rattle.drm_index_array.proofs.Lists.{all_weaker, all_of_map}
use Rattle.drm_gem.specs.declared.object.Object.{Object}
use Rattle.drm_gem.specs.Objects.{ObjectSet}
use Rattle.drm_files.specs.declared.rows.FileHandle.{FileHandle}
use Rattle.drm_files.specs.declared.rows.FileClient.{FileClient}
use Rattle.drm_files.specs.Files.{FileLists, empty_files, is_open_client, handle_before}
use Rattle.drm_table.specs.declared.calls.Call.{Call}
use Rattle.drm_table.specs.declared.events.Event.{Event}
use Rattle.drm_table.specs.declared.events.Event.TheVariants.{Open, Ask, Close}
use Rattle.drm_table.specs.declared.events.Opening.{Opening}
use Rattle.drm_table.specs.declared.limits.Limits.{Limits}
use Rattle.drm_table.specs.Limits.{are_in_range, is_between}
use Rattle.drm_share.specs.Names.{NameList, empty_names}
use Rattle.drm_share.specs.Tokens.{TokenList, empty_tokens}
use Rattle.drm_model.specs.Rows.{Rows, ClientRow, MasterRow, ObjectRow, GrantRow, empty_rows}
use Rattle.drm_modes.specs.Topology.{Topology, IsTopology}
use Rattle.drm_table.specs.Results.{FitsOneFrame}
use Rattle.drm_model.specs.Reply.{reply}
use Rattle.drm_model.proofs.FewIds.{few_reply}
use Rattle.drm_modes.specs.Modes.{ModeSet, AreModes, empty_modes, scanout_count, lit_rows, shown_rows}
use Rattle.drm_model.specs.Change.{after}
use Rattle.drm_model.specs.Run.{FoundRoom, places_left, run, rows_of, journaled_in, no_room, start_of}
use Rattle.drm_model.proofs.StepNumbers.{step_numbers_rise}
use Rattle.drm_model.specs.StepNumbers.{GrantsMade}
use Rattle.drm_model.proofs.FewAdded.{few_rows}
use Rattle.drm_model.proofs.GrantedMasters.{grants_made}
use Rattle.drm_model.proofs.Journals.{found_room_push, rows_journaled, after-topology, after-steps, rows_of-topology, rows_of-limits, rows_of-steps, room_after}
use Rattle.drm_device.specs.declared.device.Device.TheInside.{Inside}
use Rattle.drm_masters.specs.declared.rows.Master.{Master}
use Rattle.drm_masters.specs.declared.rows.Member.{Member}
use Rattle.drm_masters.specs.Masters.{MasterSet, AreMasters, is_step_number, is_lessee}
use Rattle.drm_leases.specs.Tokens.{LeaseToken}
use Rattle.drm_leases.specs.Leases.{LeaseSet, AreLeases, no_leases}
use Rattle.drm_leases.specs.Calls.{IsNewLessee}
use Rattle.drm_state.specs.declared.state.State.{State}
use Rattle.drm_device.specs.Device.{value_of, IsDevice}
use Rattle.drm_device.specs.Journals.{JournalValue}
use Rattle.drm_state.specs.Parts.{client_row_of, master_row_of, magic_row_of, object_row_of, handle_row_of, holds_of, name_row_of, token_row_of, tokens_of, grant_row_of, grants_of, framebuffer_row_of, framebuffers_of, shown_row_of, keys_of, framebuffer_keys, referring, referring_keys}
use Rattle.drm_leases.specs.Agreed.{AreAgreed}
use Rattle.drm_state.specs.Invariants.{Invariant, MembersOpen, ClientsHave, MastersAre, MagicsSuffice, LeasesAre, TokensOfLessees, KeptHaveTokens, LeasesAgree, ModesAre, HasMaster, HoldsRise, ObjectsCounted, NamesHeld, meets_invariant, MeetsInvariants, IsLater, StepPrecondition, AreCounted, AreNamed, AreOfLessees, AreKeptBy}
use Rattle.drm_model.specs.Parts.{Part, Bounds, Masters, Magics, Holds, Clients, Objects, Names, Tokens, Grants, Framebuffers, Shown, DeviceMaster, LastToken, LastLeaseToken, count_in}
use Rattle.drm_state.specs.Refinement.{represents_part, Represents, RepresentsAt}
use Rattle.drm_state.proofs.Represented.{bounds_are, clients_are, masters_are, holds_are, objects_are, tokens_are, grants_are, framebuffers_are, modes_so, tokens_of_lessees}
use Rattle.drm_state.proofs.Refinements.{represented_count}
use Rattle.drm_state.proofs.Lookups.{is_open_is}

-- The state of a device represents the rows of its history.
pub stands : (d : Inside) (n : ℕ) → IsDevice d → n ≡ length d.journal.events
    → RepresentsAt d.state (n + 1) (rows_of (value_of d))
stands d n h e = record {
  rows = h.rows;
  step_numbers = step_numbers_rise (value_of d);
  step_number_is = ap (λ n. n + 1) (rows_of-steps (value_of d) ∙ sym e);
}

-- The journal has a place for the closing of each open client.
pub fits : (d : Inside) → IsDevice d
    → (rows_of (value_of d)).steps + length (rows_of (value_of d)).clients ≤ (rows_of (value_of d)).limits.journal
fits d h =
    let steps = rows_of-steps (value_of d) in
    let count = represented_count d.state (rows_of (value_of d)) h.rows in
    let limit : (rows_of (value_of d)).limits.journal ≡ d.limits.journal =
    ap (λ (l : Limits). l.journal) (rows_of-limits (value_of d)) in
    omega (arith, h.places)

-- After an event that found room the journal has a place for the closing of each open client.
pub fits_after : (d : Inside) (event : Event) → IsDevice d → no_room (rows_of (value_of d)) event ≡ false
    → length d.journal.events + 1 + length (after (rows_of (value_of d)) event).clients ≤ d.limits.journal
fits_after d event h room =
    let enough = room_after (rows_of (value_of d)) event (fits d h) room in
    let next = after-steps (rows_of (value_of d)) event in
    let steps = rows_of-steps (value_of d) in
    let limit : (rows_of (value_of d)).limits.journal ≡ d.limits.journal =
    ap (λ (l : Limits). l.journal) (rows_of-limits (value_of d)) in
    omega arith

-- An event more is a place more.
longer_by_one : (d : Inside) (event : Event) (journal : JournalValue) → journal.events ≡ d.journal.events ++ event ∷ []
    → length journal.events ≡ length d.journal.events + 1
longer_by_one d event journal items = ap length items ∙ length-append d.journal.events (event ∷ [])

-- The journal is within its limit after an event that found room.
pub within_after : (d : Inside) (event : Event) (journal : JournalValue) → IsDevice d
    → no_room (rows_of (value_of d)) event ≡ false →
    journal.events ≡ d.journal.events ++ event ∷ [] → length journal.events ≤ d.limits.journal
within_after d event journal h room items =
    omega (arith, fits_after d event h room, longer_by_one d event journal items)

-- The journal has memory for an event that found room.
pub has_room_for : (d : Inside) (event : Event) → IsDevice d → no_room (rows_of (value_of d)) event ≡ false
    → length d.journal.events < d.journal.room
has_room_for d event h room = omega (arith, fits_after d event h room, h.reserved)

-- After a recorded event the history of the device has this event more.
pub next_history : (d : Inside) (event : Event) (journal : JournalValue) (s : State)
    → journal.events ≡ d.journal.events ++ event ∷ [] → s.modes.topology ≡ d.state.modes.topology →
    value_of (record { limits = d.limits; journal = journal; state = s }) ≡ journaled_in (value_of d) event
next_history d event journal s e fixed = λ i. record { topology = fixed i; limits = d.limits; journal = e i }

-- The rows after a recorded event are those of the event after the rows before.
pub next_rows : (d : Inside) (event : Event) (journal : JournalValue) (s : State)
    → journal.events ≡ d.journal.events ++ event ∷ [] → s.modes.topology ≡ d.state.modes.topology →
    rows_of (value_of (record { limits = d.limits; journal = journal; state = s })) ≡ after (rows_of (value_of d)) event
next_rows d event journal s e fixed =
    ap rows_of (next_history d event journal s e fixed) ∙ rows_journaled (value_of d) event

-- A journal of the same events and a state with the same mode objects leave the history of the device.
pub same_history : (d : Inside) (journal : JournalValue) (s : State) → journal.events ≡ d.journal.events
    → s.modes.topology ≡ d.state.modes.topology
    → value_of (record { limits = d.limits; journal = journal; state = s }) ≡ value_of d
same_history d journal s e fixed = λ i. record { topology = fixed i; limits = d.limits; journal = e i }

-- The state keeps the fixed mode objects.
pub topology_same : (d : Inside) (s : State) (w : Rows) → Represents s w → w.topology ≡ (rows_of (value_of d)).topology
    → s.modes.topology ≡ d.state.modes.topology
topology_same d s w r e = (bounds_are s w r).7 ∙ e ∙ rows_of-topology (value_of d)

-- No event changes the fixed mode objects of the state.
pub topology_after : (d : Inside) (event : Event) (s : State) → Represents s (after (rows_of (value_of d)) event)
    → s.modes.topology ≡ d.state.modes.topology
topology_after d event s r =
    topology_same d s (after (rows_of (value_of d)) event) r (after-topology (rows_of (value_of d)) event)

-- each event of the longer journal found room
next_room : (d : Inside) (event : Event) → IsDevice d → no_room (rows_of (value_of d)) event ≡ false
    → FoundRoom (start_of (value_of d)) (d.journal.events ++ event ∷ [])
unfolding rows_of
next_room d event h room = found_room_push (start_of (value_of d)) d.journal.events event h.found_room room

-- A device is one after a recorded event too: the invariants hold and the state represents the new rows.
pub next_device : (d : Inside) (event : Event) (journal : JournalValue) (s : State) → IsDevice d
    → no_room (rows_of (value_of d)) event ≡ false →
    journal.events ≡ d.journal.events ++ event ∷ [] → journal.room ≡ d.journal.room →
    MeetsInvariants s → Represents s (after (rows_of (value_of d)) event) → IsDevice
    (record { limits = d.limits; journal = journal; state = s })
next_device d event journal s h room items capacity t r =
    let count = represented_count s (after (rows_of (value_of d)) event) r in
    let enough = fits_after d event h room in
    let fixed = topology_after d event s r in
    record {
      rows = subst (Represents s) (sym (next_rows d event journal s items fixed)) r;
      invariants = t;
      found_room =
          subst (λ t. FoundRoom (empty_rows t d.limits) journal.events) (sym fixed)
          (subst (FoundRoom (start_of (value_of d))) (sym items) (next_room d event h room));
      places = omega (arith, enough, count, longer_by_one d event journal items);
      reserved = omega (arith, h.reserved);
      in_range = h.in_range;
      journal_fits = h.journal_fits;
    }

-- A journal without the event that was just written has the events from before.
pub taken_back : (d : Inside) (longer journal : JournalValue) (event : Event)
    → longer.events ≡ d.journal.events ++ event ∷ []
    → journal.events ≡ take (length longer.events - 1) longer.events → journal.events ≡ d.journal.events
taken_back d longer journal event items is =
    let long : length longer.events - 1 ≡ length d.journal.events =
    omega (arith, longer_by_one d event longer items) in
    is ∙ ap (take (length longer.events - 1)) items ∙ ap (λ (n : ℕ). take n (d.journal.events ++ event ∷ [])) long
    ∙ take-append_seam d.journal.events (event ∷ [])

-- A device is one after refused memory too: its history is unchanged.
pub same_device : (d : Inside) (journal : JournalValue) (s : State) → IsDevice d → journal.events ≡ d.journal.events
    → journal.room ≡ d.journal.room → MeetsInvariants s → Represents s (rows_of (value_of d))
    → IsDevice (record { limits = d.limits; journal = journal; state = s })
same_device d journal s h e capacity t r =
    let now = represented_count s (rows_of (value_of d)) r in
    let before = represented_count d.state (rows_of (value_of d)) h.rows in
    let fixed = topology_same d s (rows_of (value_of d)) r refl in
    let same = same_history d journal s e fixed in
    let long : length journal.events ≡ length d.journal.events = ap length e in
    record {
      rows = subst (λ v. Represents s (rows_of v)) (sym same) r;
      invariants = t;
      found_room = subst (λ v. FoundRoom (start_of v) v.journal) (sym same) h.found_room;
      places = omega (arith, h.places, long);
      reserved = omega (arith, h.reserved, capacity);
      in_range = h.in_range;
      journal_fits = h.journal_fits;
    }

-- a number that is tested for its range is at most the greatest
at_most : (low high n : ℕ) → is_between low high n ≡ true → n ≤ high
at_most low high n h = leb-true n high (and_parts (nat_le low n) (nat_le n high) h).1

journal_fits : (limits : Limits) → are_in_range limits ≡ true → limits.journal ≤ 100000
unfolding are_in_range
journal_fits limits h = at_most 2 100000 limits.journal (and_parts _ (is_between 2 100000 limits.journal) h).1

at_least : (low high n : ℕ) → is_between low high n ≡ true → low ≤ n
at_least low high n h = leb-true low n (and_parts (nat_le low n) (nat_le n high) h).0

-- `&&` groups to the left: this many parts follow each limit
before_objects : (limits : Limits) → are_in_range limits ≡ true
    → (is_between 1 1024 limits.clients && is_between 1 65535 limits.handles && is_between 1 65535 limits.names && is_between 1 65535 limits.tokens) ≡ true
unfolding are_in_range
before_objects limits h =
    let before_journal = (and_parts _ _ h).0 in
    let before_lessees = (and_parts _ _ before_journal).0 in
    let before_framebuffers = (and_parts _ _ before_lessees).0 in
    (and_parts _ _ before_framebuffers).0

-- `&&` groups to the left here too
framebuffers_between : (limits : Limits) → are_in_range limits ≡ true → is_between 1 64 limits.framebuffers ≡ true
unfolding are_in_range
framebuffers_between limits h =
    let before_journal = (and_parts _ _ h).0 in
    let before_lessees = (and_parts _ _ before_journal).0 in
    (and_parts _ (is_between 1 64 limits.framebuffers) before_lessees).1

-- Limits in their ranges allow 64 lessees at most.
pub few_lessees_allowed : (limits : Limits) → are_in_range limits ≡ true → limits.lessees ≤ 64
unfolding are_in_range
few_lessees_allowed limits h =
    at_most 1 64 limits.lessees (and_parts _ (is_between 1 64 limits.lessees) (and_parts _ _ h).0).1

-- Limits in their ranges allow a framebuffer at least.
pub some_framebuffers : (limits : Limits) → are_in_range limits ≡ true → 1 ≤ limits.framebuffers
some_framebuffers limits h = at_least 1 64 limits.framebuffers (framebuffers_between limits h)

-- Limits in their ranges allow 64 framebuffers at most.
pub few_framebuffers_allowed : (limits : Limits) → are_in_range limits ≡ true → limits.framebuffers ≤ 64
few_framebuffers_allowed limits h = at_most 1 64 limits.framebuffers (framebuffers_between limits h)

-- Limits in their ranges allow a token at least.
pub some_tokens : (limits : Limits) → are_in_range limits ≡ true → 1 ≤ limits.tokens
some_tokens limits h =
    at_least 1 65535 limits.tokens (and_parts _ (is_between 1 65535 limits.tokens) (before_objects limits h)).1

-- Limits in their ranges allow a name at least.
pub some_names : (limits : Limits) → are_in_range limits ≡ true → 1 ≤ limits.names
some_names limits h =
    at_least 1 65535 limits.names
    (and_parts _ (is_between 1 65535 limits.names) (and_parts _ _ (before_objects limits h)).0).1

-- Limits in their ranges allow a handle at least.
pub some_handles : (limits : Limits) → are_in_range limits ≡ true → 1 ≤ limits.handles
some_handles limits h =
    at_least 1 65535 limits.handles
    (and_parts _ (is_between 1 65535 limits.handles) (and_parts _ _ (and_parts _ _ (before_objects limits h)).0).0).1

-- ---- a device without rows

abbrev no_masters : ℕ → ℕ → MasterSet
no_masters clients lessees =
    record { members = []; masters = []; device_master = None; last_magic = clients; last_lessee = lessees }

-- its parts are empty
pub record IsStart (s : State) (t : Topology) (limits : Limits) : Type 0 where
  pub files : s.files ≡ empty_files limits.clients limits.handles
  pub masters : s.masters ≡ no_masters limits.clients limits.lessees
  pub leases : s.leases ≡ no_leases limits.tokens
  pub objects : s.objects ≡ record { limit = limits.objects; objects = [] }
  pub names : s.names ≡ empty_names limits.names
  pub tokens : s.tokens ≡ empty_tokens limits.tokens
  pub modes : s.modes ≡ empty_modes t limits.framebuffers
  pub modes_are : AreModes s.modes
  pub leases_are : AreLeases s.leases
  pub lessees_few : limits.lessees ≤ 64

-- all is dark
all_dark : (x n : ℕ) → lit_rows x (replicate n 0) ≡ []
all_dark x zero = refl
all_dark x (suc n) = all_dark (x + 1) n

start_represents : (t : Topology) (limits : Limits) (s : State) → IsStart s t limits → (part : Part)
    → represents_part part s (empty_rows t limits)
unfolding represents_part
start_represents t limits s is Bounds =
    (ap (λ (f : FileLists). f.limit) is.files, ap (λ (f : FileLists). f.last_handle) is.files, ap (λ (o : ObjectSet). o.limit) is.objects, ap (λ (l : NameList). l.last) is.names, ap (λ (l : TokenList). l.last) is.tokens, ap (λ (v : MasterSet). v.last_magic) is.masters, ap (λ (set : ModeSet). set.last) is.modes, ap (λ (set : ModeSet). set.topology) is.modes, ap (λ (v : MasterSet). v.last_lessee) is.masters, ap (λ (l : LeaseSet). l.last) is.leases)
start_represents t limits s is Clients =
    sym (ap (λ (f : FileLists). map (client_row_of s.masters.members) f.clients) is.files)
start_represents t limits s is Masters =
    sym (ap (λ (v : MasterSet). map (master_row_of s.leases.tokens) v.masters) is.masters)
start_represents t limits s is Magics =
    λ test. sym (ap (λ (v : MasterSet). length (filter test (filter_map magic_row_of v.members))) is.masters)
start_represents t limits s is Holds =
    λ test. sym (ap (λ (f : FileLists). length (filter test (map (handle_row_of s.objects.objects) f.holds))) is.files)
start_represents t limits s is Objects = sym (ap (λ (o : ObjectSet). map object_row_of o.objects) is.objects)
start_represents t limits s is Names =
    λ test. sym (ap (λ (l : NameList). length (filter test (map (name_row_of s.objects.objects) l.names))) is.names)
start_represents t limits s is Tokens =
    λ test. sym (ap (λ (l : TokenList). length (filter test (map (token_row_of s.objects.objects) l.tokens))) is.tokens)
start_represents t limits s is Framebuffers =
    λ test. sym
    (ap (λ (set : ModeSet). length (filter test (map (framebuffer_row_of s.objects.objects) set.framebuffers))) is.modes)
start_represents t limits s is Shown =
    λ test. sym
    (ap (λ (set : ModeSet). length (filter test (map shown_row_of (shown_rows set)))) is.modes ∙ ap (λ l. length (filter test (map shown_row_of l))) (all_dark 1 (scanout_count t)))
start_represents t limits s is Grants =
    λ test. sym (ap (λ (l : LeaseSet). length (filter test (map grant_row_of l.grants))) is.leases)
start_represents t limits s is LastLeaseToken = sym (ap (λ (l : LeaseSet). unwrap_or l.last_given 0) is.leases)
start_represents t limits s is LastToken = sym (ap (λ (l : TokenList). unwrap_or l.last_given 0) is.tokens)
start_represents t limits s is DeviceMaster = sym (ap (λ (v : MasterSet). v.device_master) is.masters)

nobody : (clients lessees : ℕ) → lessees ≤ 64 → AreMasters (no_masters clients lessees)
nobody clients lessees few =
    record
    { members_rise = tt; masters_rise = tt; lessors_older = tt; masters_there = tt; device_own = λ m e. absurd (let n : None ≡ Some m = e in cc); used = tt; magics_differ = tt; few = omega arith; few_ids = few; device_owner = λ m e. absurd (let n : None ≡ Some m = e in cc); guests_of_owners = tt }

start_invariants : (t : Topology) (limits : Limits) (s : State) → IsStart s t limits → (invariant : Invariant)
    → meets_invariant invariant s
unfolding meets_invariant
start_invariants t limits s is MembersOpen =
    subst (λ (v : MasterSet). AllByRecursion (λ (x : Member). is_open_client s.files x.client ≡ true) v.members)
    (sym is.masters) tt
start_invariants t limits s is ClientsHave =
    subst (λ (f : FileLists). AllByRecursion (HasMaster s.masters) f.clients) (sym is.files) tt
start_invariants t limits s is MastersAre =
    subst AreMasters (sym is.masters) (nobody limits.clients limits.lessees is.lessees_few)
start_invariants t limits s is LeasesAre = is.leases_are
start_invariants t limits s is TokensOfLessees =
    subst (λ (l : LeaseSet). AreOfLessees l.tokens s.masters.masters) (sym is.leases) tt
start_invariants t limits s is KeptHaveTokens =
    subst (λ (v : MasterSet). AreKeptBy s.leases.tokens v.masters) (sym is.masters) tt
start_invariants t limits s is LeasesAgree = subst (λ (l : LeaseSet). AreAgreed l s.masters) (sym is.leases) tt
start_invariants t limits s is MagicsSuffice =
    ap (λ (v : MasterSet). v.last_magic) is.masters ∙ sym (ap (λ (f : FileLists). f.limit) is.files)
start_invariants t limits s is ModesAre = is.modes_are
start_invariants t limits s is HoldsRise =
    subst (λ (f : FileLists). InOrder (λ (x y : FileHandle). handle_before x y ≡ true) f.holds) (sym is.files) tt
start_invariants t limits s is ObjectsCounted =
    subst (λ (f : FileLists). AreCounted (keys_of f.holds) (referring_keys s) s.objects.objects) (sym is.files)
    (subst (λ (l : TokenList). AreCounted [] (referring l.tokens s.modes.framebuffers) s.objects.objects) (sym is.tokens)
    (subst (λ (set : ModeSet). AreCounted [] (framebuffer_keys set.framebuffers) s.objects.objects) (sym is.modes)
    (subst (λ (o : ObjectSet). AreCounted [] [] o.objects) (sym is.objects) (record { there = λ n h. absurd (let k : false ≡ true = h in cc); counted = tt; used = tt; keys_differ = tt; step_numbers_differ = tt }))))
start_invariants t limits s is NamesHeld =
    subst (λ (l : NameList). AreNamed (keys_of s.files.holds) l.names) (sym is.names) tt

-- A device that starts with limits in their ranges and an empty journal is one.
pub new_device : (d : Inside) (t : Topology) → are_in_range d.limits ≡ true → d.journal.events ≡ []
    → d.limits.journal ≤ d.journal.room → IsStart d.state t d.limits → IsDevice d
unfolding rows_of run FoundRoom
new_device d t good e room is =
    let fixed : d.state.modes.topology ≡ t = ap (λ (set : ModeSet). set.topology) is.modes in
    let start : rows_of (value_of d) ≡ empty_rows t d.limits =
    ap (run (empty_rows d.state.modes.topology d.limits)) e ∙ ap (λ t. empty_rows t d.limits) fixed in
    let journal : length d.journal.events ≡ 0 = ap length e in
    let clients : length d.state.files.clients ≡ 0 = ap (λ (f : FileLists). length f.clients) is.files in
    record {
      rows = subst (Represents d.state) (sym start) (start_represents t d.limits d.state is);
      invariants = start_invariants t d.limits d.state is;
      found_room = subst (FoundRoom (empty_rows d.state.modes.topology d.limits)) (sym e) tt;
      places = omega arith;
      reserved = room;
      in_range = good;
      journal_fits = journal_fits d.limits good;
    }

-- ---- the next step

not_later : (n last : ℕ) → n ≤ last → n < last + 1
not_later n last h = omega (arith, h)

-- The fixed mode objects of a device meet their facts.
pub fixed_topology : (d : Inside) → IsDevice d → IsTopology (value_of d).topology
fixed_topology d h = (modes_so d.state h.invariants).topology

-- a step makes one handle, one token and one framebuffer at most
few_holds : (d : Inside) → IsDevice d → length (rows_of (value_of d)).holds ≤ (rows_of (value_of d)).steps
unfolding count_in
few_holds d h = few_rows (value_of d) (fixed_topology d h) Holds

few_tokens : (d : Inside) → IsDevice d → length (rows_of (value_of d)).tokens ≤ (rows_of (value_of d)).steps
unfolding count_in
few_tokens d h = few_rows (value_of d) (fixed_topology d h) Tokens

few_framebuffers : (d : Inside) → IsDevice d → length (rows_of (value_of d)).framebuffers ≤ (rows_of (value_of d)).steps
unfolding count_in
few_framebuffers d h = few_rows (value_of d) (fixed_topology d h) Framebuffers

framebuffers_many : (s : State) (w : Rows) → Represents s w → length w.framebuffers ≡ length s.modes.framebuffers
framebuffers_many s w h =
    same-length w.framebuffers (framebuffers_of s) (framebuffers_are s w h)
    ∙ length-map s.modes.framebuffers (framebuffer_row_of s.objects.objects)

holds_many : (s : State) (w : Rows) → Represents s w → length w.holds ≡ length s.files.holds
holds_many s w h =
    same-length w.holds (holds_of s) (holds_are s w h) ∙ length-map s.files.holds (handle_row_of s.objects.objects)

tokens_many : (s : State) (w : Rows) → Represents s w → length w.tokens ≡ length s.tokens.tokens
tokens_many s w h =
    same-length w.tokens (tokens_of s) (tokens_are s w h) ∙ length-map s.tokens.tokens (token_row_of s.objects.objects)

-- grants of masters up to a number, in any order
none_over : (last : ℕ) (rows : List GrantRow) → AllByRecursion (λ (row : GrantRow). row.master ≤ last) rows
    → list_any (λ (row : GrantRow). nat_lt last row.master) rows ≡ false
none_over last [] h = refl
none_over last (row ∷ rows) h = let first = h.0 in let under : nat_lt last row.master ≡ false = grind (arith, nat_tests) in ap (λ b. b || list_any (λ (r : GrantRow). nat_lt last r.master) rows) under ∙ none_over last rows h.1

all_under : (last : ℕ) (rows : List GrantRow) → list_any (λ (row : GrantRow). nat_lt last row.master) rows ≡ false
    → AllByRecursion (λ (row : GrantRow). row.master < last + 1) rows
all_under last [] h = tt
all_under last (row ∷ rows) h = let k = neither (nat_lt last row.master) (list_any (λ (r : GrantRow). nat_lt last r.master) rows) h in let first = k.0 in (grind (arith, nat_tests), all_under last rows k.1)
  where
    neither : (a b : Bool) → (a || b) ≡ false → (a ≡ false) × (b ≡ false)
    neither true b e = absurd (let n : true ≡ false = e in cc)
    neither false b e = (refl, e)

-- a lessee is a master that exists
lessee_made : (last m : ℕ) (ms : List Master) → AllByRecursion (λ (x : Master). x.step_number < last + 1) ms
    → is_lessee ms m ≡ true → m < last + 1
lessee_made last m ms h e = by_row (find (is_step_number m) ms) refl e
  where
    by_row : (o : Option Master) → find (is_step_number m) ms ≡ o
        → is_some (option_and_then (λ (x : Master). x.lessor) o) ≡ true → m < last + 1
    by_row None k j = absurd (let n : false ≡ true = j in cc)
    by_row (Some x) k j = let it = found (is_step_number m) (λ (x : Master). x.step_number < last + 1) x ms h k in subst (λ n. n < last + 1) (eqb-true x.step_number m it.0) it.1

-- the lessees of tokens and grants were made
leases_later : (s : State) (w : Rows) → MeetsInvariants s → Represents s w → GrantsMade w.steps w
    → AllByRecursion (λ (x : Master). x.step_number < w.steps + 1) s.masters.masters
    → IsNewLessee s.leases (w.steps + 1)
leases_later s w t h made older = record {
  tokens =
      all_weaker (λ (row : LeaseToken). is_lessee s.masters.masters row.master ≡ true)
      (λ (row : LeaseToken). row.master < w.steps + 1)
      (λ row e. lessee_made w.steps row.master s.masters.masters older e) s.leases.tokens (tokens_of_lessees s t);
  grants = all_of_map (λ (row : GrantRow). row.master < w.steps + 1) grant_row_of s.leases.grants
      (all_under w.steps (grants_of s) (sym (same-any (λ (row : GrantRow). nat_lt w.steps row.master) w.grants (grants_of s) (grants_are s w h)) ∙ none_over w.steps w.grants made));
}

-- A device is ready for its next step.
pub precondition : (d : Inside) (n : ℕ) → IsDevice d → n ≡ length d.journal.events → StepPrecondition d.state (n + 1)
precondition d n h e =
    let w = rows_of (value_of d) in
    let steps : w.steps ≡ n = rows_of-steps (value_of d) ∙ sym e in
    let step_numbers = step_numbers_rise (value_of d) in
    let masters =
    all_weaker (λ (x : Master). x.step_number ≤ w.steps) (λ (x : Master). x.step_number < w.steps + 1)
    (λ x k. not_later x.step_number w.steps k) d.state.masters.masters
    (all_of_map (λ (row : MasterRow). row.master ≤ w.steps) (master_row_of d.state.leases.tokens) d.state.masters.masters (subst (AllByRecursion (λ (row : MasterRow). row.master ≤ w.steps)) (masters_are d.state w h.rows) step_numbers.1.1))
    in
    let later : IsLater d.state (w.steps + 1) = record {
      clients =
          all_weaker (λ (f : FileClient). f.client ≤ w.steps) (λ (f : FileClient). f.client < w.steps + 1)
          (λ f k. not_later f.client w.steps k) d.state.files.clients
          (all_of_map (λ (row : ClientRow). row.client ≤ w.steps) (client_row_of d.state.masters.members) d.state.files.clients (subst (AllByRecursion (λ (row : ClientRow). row.client ≤ w.steps)) (clients_are d.state w h.rows) step_numbers.0.1));
      objects =
          all_weaker (λ (x : Object). x.step_number ≤ w.steps) (λ (x : Object). x.step_number < w.steps + 1)
          (λ x k. not_later x.step_number w.steps k) d.state.objects.objects
          (all_of_map (λ (row : ObjectRow). row.object ≤ w.steps) object_row_of d.state.objects.objects (subst (AllByRecursion (λ (row : ObjectRow). row.object ≤ w.steps)) (objects_are d.state w h.rows) step_numbers.2.1));
      masters = masters;
      leases = leases_later d.state w h.invariants h.rows (grants_made (value_of d)) masters;
      holds =
          not_later (length d.state.files.holds) w.steps
          (subst (λ n. n ≤ w.steps) (holds_many d.state w h.rows) (few_holds d h));
      tokens =
          not_later (length d.state.tokens.tokens) w.steps
          (subst (λ n. n ≤ w.steps) (tokens_many d.state w h.rows) (few_tokens d h));
      framebuffers =
          not_later (length d.state.modes.framebuffers) w.steps
          (subst (λ n. n ≤ w.steps) (framebuffers_many d.state w h.rows) (few_framebuffers d h));
    } in
    record { invariants = h.invariants; later = subst (λ last. IsLater d.state (last + 1)) steps later; first = omega arith; fits = let places = h.places in let journal = h.journal_fits in omega (arith, e, places, journal) }

-- ---- what is answered

-- Each answer of a device fits one frame.
pub few_answer : (d : Inside) (event : Event) → IsDevice d → FitsOneFrame (Ok (reply (rows_of (value_of d)) event))
few_answer d event h =
    let w = rows_of (value_of d) in
    let are = modes_so d.state h.invariants in
    few_reply w event (subst IsTopology ((bounds_are d.state w h.rows).7) are.topology)
    (subst (λ n. n ≤ 64) (sym (framebuffers_many d.state w h.rows)) are.few)

-- ---- room in the journal

not_less : (a b : ℕ) → nat_le b a ≡ not (nat_lt a b)
not_less a b = grind (arith, nat_tests)

places_are : (d : Inside) → places_left (rows_of (value_of d)) ≡ d.limits.journal - length d.journal.events
places_are d =
    ap (λ (l : Limits). l.journal - (rows_of (value_of d)).steps) (rows_of-limits (value_of d))
    ∙ ap (λ n. d.limits.journal - n) (rows_of-steps (value_of d))

-- The test for room before an opening is exactly that of the rows.
pub room_to_open : (d : Inside) → IsDevice d → (opening : Opening)
    → nat_le (length d.state.files.clients + 2) (d.limits.journal - length d.journal.events) ≡ not (no_room (rows_of (value_of d)) (Open opening))
unfolding no_room
room_to_open d h opening =
    rw (places_are d, represented_count d.state (rows_of (value_of d)) h.rows)
    (not_less (d.limits.journal - length d.journal.events) (length d.state.files.clients + 2))

-- The test for room before a request is exactly that of the rows.
pub room_to_ask : (d : Inside) → IsDevice d → (c : ℕ) (call : Call)
    → nat_le (length d.state.files.clients + 1) (d.limits.journal - length d.journal.events) ≡ not (no_room (rows_of (value_of d)) (Ask c call))
unfolding no_room
room_to_ask d h c call =
    rw (places_are d, represented_count d.state (rows_of (value_of d)) h.rows)
    (not_less (d.limits.journal - length d.journal.events) (length d.state.files.clients + 1))

-- The closing of an open client always finds room.
pub room_to_close_open : (d : Inside) → IsDevice d → (c : ℕ) → is_open_client d.state.files c ≡ true
    → true ≡ not (no_room (rows_of (value_of d)) (Close c))
unfolding no_room
room_to_close_open d h c e = rw (is_open_is d.state (rows_of (value_of d)) h.rows c, e) refl

-- The test for room before the closing of a client that is not open is exactly that of the rows.
pub room_to_close : (d : Inside) → IsDevice d → (c : ℕ) → is_open_client d.state.files c ≡ false →
    nat_le (length d.state.files.clients + 1) (d.limits.journal - length d.journal.events) ≡ not
    (no_room (rows_of (value_of d)) (Close c))
unfolding no_room
room_to_close d h c e =
    rw
    (is_open_is d.state (rows_of (value_of d)) h.rows c, e, places_are d, represented_count d.state (rows_of (value_of d)) h.rows)
    (not_less (d.limits.journal - length d.journal.events) (length d.state.files.clients + 1))

-- The journal has its events, a place for each open client, and what is left.
pub journal_left_is : (d : Inside) → IsDevice d →
    d.limits.journal - length d.journal.events - length d.state.files.clients + length d.journal.events + length
    (rows_of (value_of d)).clients ≡ d.limits.journal
journal_left_is d h =
    let count = represented_count d.state (rows_of (value_of d)) h.rows in omega (arith, h.places)
