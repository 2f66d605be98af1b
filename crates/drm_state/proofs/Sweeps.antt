-- What a sweep leaves.
use Rattle.std.proofs.Common.{◌≡◌, ℕ, ◌==◌, Bool, true, false, cond, not, ◌&&◌, ◌||◌, List, [], ◌∷◌, ◌++◌, map, filter, Option, Some, None, refl, sym, ◌∙◌, ap, subst}
use Rattle.std.specs.Prelude.{if◌then◌else◌, unwrap_or}
use Rattle.std.specs.List.{list_any, filter_map, cons_option, AllByRecursion}
use Rattle.std.specs.Option.{is_some, option_map, option_map_or}
use Rattle.std.proofs.Math.Bool.{or_assoc}
use Rattle.std.proofs.lemmas.Bool.{eqb-true}
use Rattle.drm_index_array.specs.Orders.{SameRows, InOrder}
use Rattle.drm_index_array.specs.Chains as chains
use Rattle.drm_index_array.specs.Numbers.{is_among}
use Rattle.drm_index_array.proofs.Lists.{list_any-map, filter-map, filter_all, all_weaker, filter-same, filter_true, all_both}
use Rattle.drm_index_array.proofs.FoundInLists.{find_others}
use Rattle.drm_index_array.proofs.Numbers.{among-append, among-left, among-right, fewer_among, among-more}
use Rattle.drm_index_array.proofs.Orders.{same-any, same-filter, in_order_filter}
use Rattle.drm_gem.specs.declared.object.Object.{Object}
use Rattle.drm_gem.specs.Objects.{ObjectSet}
use Rattle.drm_files.specs.declared.rows.FileHandle.{FileHandle}
use Rattle.drm_share.specs.declared.rows.SharedName.{SharedName}
use Rattle.drm_share.specs.declared.rows.SharedToken.{SharedToken}
use Rattle.drm_share.specs.Names.{NameList}
use Rattle.drm_share.specs.Tokens.{is_exported_by}
use Rattle.drm_files.specs.Files as files
use Rattle.drm_files.specs.Files.{without_handle_row, without_client}
use Rattle.drm_modes.specs.declared.rows.Framebuffer.{Framebuffer}
use Rattle.drm_modes.specs.Modes as modes
use Rattle.drm_modes.specs.Modes.{ModeSet, AreModes, shown_rows}
use Rattle.drm_model.specs.Rows.{Rows, ClientRow, MasterRow, MagicRow, HandleRow, ObjectRow, NameRow, TokenRow, GrantRow, FramebufferRow, ShownRow, is_handle, is_option, is_framebuffer, client_row, without}
use Rattle.drm_model.specs.Masters.{is_under}
use Rattle.drm_model.specs.Leases as model
use Rattle.drm_model.specs.Change.{is_referred, is_living, swept}
use Rattle.drm_model.specs.Clients.{closed, ended_own, ended_if}
use Rattle.drm_files.specs.declared.rows.FileFlags.{FileFlags}
use Rattle.drm_files.specs.declared.rows.FileClient.{FileClient}
use Rattle.drm_masters.specs.declared.rows.Magic.{Magic}
use Rattle.drm_masters.specs.declared.rows.Master.{Master}
use Rattle.drm_masters.specs.declared.rows.Member.{Member}
use Rattle.drm_masters.specs.Masters as masters
use Rattle.drm_masters.specs.Masters.{MasterSet, AreMasters}
use Rattle.drm_leases.specs.Leases.{LeaseSet, AreLeases}
use Rattle.drm_state.specs.declared.state.State.{State}
use Rattle.drm_state.specs.Parts.{clients_of, masters_of, magics_of, names_of, objects_of, client_row_by, magic_row_of, handle_row_of, name_row_of, token_row_of, framebuffer_row_of, framebuffers_of, shown_row_of, object_row_of, master_row_of, step_number_at, keys_of, token_keys, framebuffer_keys, referring, referring_keys, without_tokens_of, LosesFramebuffersOf, grant_row_of, grants_of, device_without, own_master, is_below, released, ended, ends_with, without_its_master, without_its_leases}
use Rattle.drm_state.specs.Invariants.{Invariant, MembersOpen, ClientsHave, MastersAre, MagicsSuffice, LeasesAre, TokensOfLessees, KeptHaveTokens, LeasesAgree, ModesAre, HoldsRise, ObjectsCounted, NamesHeld, meets_invariant, MeetsInvariants, HasMaster, AreCounted, AreNamed, AreThoseNamed, Leaves, names_among}
use Rattle.drm_model.specs.Parts.{Part, Bounds, Clients, Masters, Magics, Holds, Objects, Names, Tokens, Grants, Framebuffers, Shown, DeviceMaster, LastToken}
use Rattle.drm_state.specs.Refinement.{represents_part, Represents}
use Rattle.drm_state.proofs.Represented.{bounds_are, clients_are, masters_are, magics_are, holds_are, objects_are, names_are, tokens_are, grants_are, framebuffers_are, shown_are, device_master_is, last_token_is, members_open, clients_have, masters_so, tokens_of_lessees, kept_have_tokens, leases_agree, magics_suffice, modes_so, holds_rise, objects_counted, names_held}
use Rattle.drm_state.proofs.Counting.{all_named}
use Rattle.drm_state.proofs.Naming.{references, references_by, among_numbers, among_key, holds_naming, holds_as_before, tokens_as_before, framebuffers_as_before, names_as_before, rows_left}
use Rattle.drm_state.proofs.FramebuffersThere.{shown_left, shown_yet, some_framed, framed_left}
use Rattle.drm_state.proofs.Members.{masters_named, members_open_left, rows_left as clients_left}
use Rattle.drm_state.proofs.Agreeing.{agreed_yet}
use Rattle.drm_state.proofs.StayingMasters.{above_is, swept_masters}
use Rattle.drm_state.proofs.Ended.{rows_released, rows_ended, grants_ended, none_released, none_ended, kept_ended, of_lessees_ended, of_lessees_swept, kept_swept}

-- ---- objects

either_way : (v : Rows) (n : ℕ)
    → is_referred v n ≡ (list_any (λ (row : HandleRow). row.object == n) v.holds || is_among (references v) n)
either_way v n =
    ap
    (λ b. list_any (λ (row : HandleRow). row.object == n) v.holds || b || list_any (λ (row : FramebufferRow). row.object == n) v.framebuffers)
    (sym (list_any-map (λ x. x == n) (λ (row : TokenRow). row.object) v.tokens))
    ∙ ap
    (λ b. list_any (λ (row : HandleRow). row.object == n) v.holds || is_among (map (λ (row : TokenRow). row.object) v.tokens) n || b)
    (sym (list_any-map (λ x. x == n) (λ (row : FramebufferRow). row.object) v.framebuffers))
    ∙ or_assoc (list_any (λ (row : HandleRow). row.object == n) v.holds)
    (is_among (map (λ (row : TokenRow). row.object) v.tokens) n)
    (is_among (map (λ (row : FramebufferRow). row.object) v.framebuffers) n)
    ∙ ap (λ b. list_any (λ (row : HandleRow). row.object == n) v.holds || b)
    (sym (among-append (map (λ (row : TokenRow). row.object) v.tokens) (map (λ (row : FramebufferRow). row.object) v.framebuffers) n))

-- an object is referred to where a key of a handle, a token or a framebuffer names it
referred_is : (v : Rows) (objects : List Object) (keys refs : List ℕ) (hs : List FileHandle) (now : List ℕ)
    → AreCounted keys refs objects → SameRows v.holds (map (handle_row_of objects) hs)
    → SameRows (references v) (map (step_number_at objects) now)
    → ((n : ℕ) → is_among (keys_of hs ++ now) n ≡ true → is_among (keys ++ refs) n ≡ true) →
    AllByRecursion (λ (x : Object). is_referred v x.step_number ≡ is_among (keys_of hs ++ now) x.key) objects
referred_is v objects keys refs hs now invariants h r sub =
    all_both
    (λ (x : Object). is_among (map (step_number_at objects) (keys_of hs)) x.step_number ≡ is_among (keys_of hs) x.key)
    (λ (x : Object). is_among (map (step_number_at objects) now) x.step_number ≡ is_among now x.key)
    (λ (x : Object). is_referred v x.step_number ≡ is_among (keys_of hs ++ now) x.key)
    (λ x e f.
    either_way v x.step_number
    ∙ ap (λ b. b || is_among (references v) x.step_number) (holds_naming v.holds objects hs x.step_number h ∙ e)
    ∙ ap (λ b. is_among (keys_of hs) x.key || b) (same-any (λ n. n == x.step_number) (references v) (map (step_number_at objects) now) r ∙ f) ∙ sym (among-append (keys_of hs) now x.key)) objects
    (among_numbers keys refs objects invariants (keys_of hs) (λ n e. sub n (among-left (keys_of hs) now n e)))
    (among_numbers keys refs objects invariants now (λ n e. sub n (among-right (keys_of hs) now n e)))

-- of objects that were all named those stay that are named yet
swept_objects : (v : Rows) (objects left : List Object) (keys refs : List ℕ) (hs : List FileHandle) (now : List ℕ)
    → AreCounted keys refs objects → SameRows v.holds (map (handle_row_of objects) hs)
    → SameRows (references v) (map (step_number_at objects) now)
    → ((n : ℕ) → is_among (keys_of hs ++ now) n ≡ true → is_among (keys ++ refs) n ≡ true) →
    v.objects ≡ map object_row_of objects → AreThoseNamed objects (keys_of hs ++ now) left → filter
    (λ (row : ObjectRow). is_referred v row.object) v.objects ≡ map object_row_of left
swept_objects v objects left keys refs hs now invariants h r sub o named =
    ap (filter (λ (row : ObjectRow). is_referred v row.object)) o
    ∙ filter-map (λ (row : ObjectRow). is_referred v row.object) object_row_of objects
    ∙ ap (map object_row_of)
    (filter-same (λ (x : Object). is_referred v x.step_number) (λ (x : Object). is_among (keys_of hs ++ now) x.key) objects (referred_is v objects keys refs hs now invariants h r sub))
    ∙ sym (rows_left objects left (keys_of hs ++ now) named)

-- the handles that pass a test
held_left : (rows : List HandleRow) (p : HandleRow → Bool) (objects : List Object) (hs : List FileHandle)
    → SameRows rows (map (handle_row_of objects) hs)
    → SameRows (filter p rows) (map (handle_row_of objects) (filter (λ x. p (handle_row_of objects x)) hs))
held_left rows p objects hs h =
    subst (SameRows (filter p rows)) (filter-map p (handle_row_of objects) hs)
    (same-filter p rows (map (handle_row_of objects) hs) h)

-- The handles that pass a test name only keys that handles name.
pub some_pass : (p : FileHandle → Bool) → (hs : List FileHandle) (n : ℕ) → is_among (keys_of (filter p hs)) n ≡ true
    → is_among (keys_of hs) n ≡ true
some_pass p [] n h = h
some_pass p (x ∷ xs) n h =
    elim (p x) as (λ b. is_among (keys_of (cond b (x ∷ filter p xs) (filter p xs))) n ≡ true → is_among (keys_of (x ∷ xs)) n ≡ true) [
      | true ↦ λ e. elim (x.object == n) as (λ d. (d || is_among (keys_of (filter p xs)) n) ≡ true → (d || is_among (keys_of xs) n) ≡ true) [ true ↦ λ k. refl | false ↦ λ k. some_pass p xs n k ] e
      | false ↦ λ e. among-more (keys_of xs) x.object n (some_pass p xs n e)
    ] h

-- Each name is of an object that something names.
pub names_known : (s : State) → MeetsInvariants s → AreNamed (keys_of s.files.holds ++ referring_keys s) s.names.names
names_known s t =
    all_weaker (λ (x : SharedName). is_among (keys_of s.files.holds) x.object ≡ true)
    (λ (x : SharedName). is_among (keys_of s.files.holds ++ referring_keys s) x.object ≡ true)
    (λ x e. among-left (keys_of s.files.holds) (referring_keys s) x.object e) s.names.names (names_held s t)

-- ---- masters

-- A master is named by a client's row exactly if a client belongs to it.
pub named_by_clients : (v : Rows) (s : State) → MeetsInvariants s → v.clients ≡ clients_of s → (m : ℕ)
    → list_any (λ (row : ClientRow). is_option m row.master) v.clients ≡ list_any (λ (x : Member). x.master == m) s.masters.members
named_by_clients v s t e m =
    ap (list_any (λ (row : ClientRow). is_option m row.master)) e
    ∙ masters_named m s.files.clients s.masters.members (members_open s t) (masters_so s t).members_rise

-- all of them stay
masters_left : (v : Rows) (s : State) → MeetsInvariants s → v.clients ≡ clients_of s → v.masters ≡ masters_of s
    → filter (λ (row : MasterRow). is_living v row.master) v.masters ≡ masters_of s
masters_left v s t e f =
    swept_masters v s.leases.tokens s.masters.masters s.masters.members f (kept_have_tokens s t)
    (named_by_clients v s t e)
    ∙ ap (map (master_row_of s.leases.tokens))
    (filter_all (λ (x : Master). masters.is_living s.masters.members s.masters.masters x.step_number) s.masters.masters (masters_so s t).used)

-- ---- names

-- of names those stay whose objects a handle names
swept_names : (v : Rows) (objects : List Object) (keys refs : List ℕ) (hs : List FileHandle) (ns : List SharedName)
    → AreCounted keys refs objects → SameRows v.holds (map (handle_row_of objects) hs)
    → SameRows v.names (map (name_row_of objects) ns) →
    ((n : ℕ) → is_among (keys_of hs) n ≡ true → is_among (keys ++ refs) n ≡ true) → AreNamed (keys ++ refs) ns
    → SameRows (filter (λ (row : NameRow). list_any (λ (hold : HandleRow). hold.object == row.object) v.holds) v.names) (map (name_row_of objects) (filter (λ (x : SharedName). is_among (keys_of hs) x.object) ns))
swept_names v objects keys refs hs ns invariants h m sub known =
    let stays = λ (row : NameRow). list_any (λ (hold : HandleRow). hold.object == row.object) v.holds in
    let same : filter stays (map (name_row_of objects) ns) ≡ map (name_row_of objects) (filter (λ (x : SharedName). is_among (keys_of hs) x.object) ns) =
    filter-map stays (name_row_of objects) ns
    ∙ ap (map (name_row_of objects)) (filter-same (λ (x : SharedName). stays (name_row_of objects x)) (λ (x : SharedName). is_among (keys_of hs) x.object) ns
    (all_weaker (λ (x : SharedName). is_among (keys ++ refs) x.object ≡ true) (λ (x : SharedName). stays (name_row_of objects x) ≡ is_among (keys_of hs) x.object)
    (λ x e. holds_naming v.holds objects hs (step_number_at objects x.object) h ∙ among_key keys refs objects invariants (keys_of hs) sub x.object e) ns known)) in
    subst (SameRows (filter stays v.names)) same (same-filter stays v.names (map (name_row_of objects) ns) m)

-- ---- what a sweep leaves of handles, tokens, framebuffers, names and objects

-- rows before a sweep, told by the objects that existed: handles, tokens, framebuffers and names; what shows a
-- framebuffer that exists is left, of the names those are left whose objects a handle names, and of the objects those
-- that are named
pub record Moves (s : State) (v : Rows) (hs : List FileHandle) (ts : List SharedToken) (ms : ModeSet) (ns left : List SharedName) (set : ObjectSet) : Type 0 where
  pub holds : SameRows v.holds (map (handle_row_of s.objects.objects) hs)
  pub tokens : SameRows v.tokens (map (token_row_of s.objects.objects) ts)
  pub framebuffers : SameRows v.framebuffers (map (framebuffer_row_of s.objects.objects) ms.framebuffers)
  pub shown : SameRows (filter (λ (row : ShownRow). is_framebuffer v row.framebuffer) v.shown) (map shown_row_of (shown_rows ms))
  pub names : SameRows v.names (map (name_row_of s.objects.objects) ns)
  pub known : (n : ℕ) → is_among (keys_of hs ++ referring ts ms.framebuffers) n ≡ true
      → is_among (keys_of s.files.holds ++ referring_keys s) n ≡ true
  pub known_names : AreNamed (keys_of s.files.holds ++ referring_keys s) ns
  pub left_names : left ≡ filter (λ (x : SharedName). is_among (keys_of hs) x.object) ns
  pub those : AreThoseNamed s.objects.objects (keys_of hs ++ referring ts ms.framebuffers) set.objects

name_keys : (keys : List ℕ) → (ns : List SharedName) (n : ℕ)
    → is_among (map (λ (x : SharedName). x.object) (filter (λ (x : SharedName). is_among keys x.object) ns)) n ≡ true
    → is_among keys n ≡ true
name_keys keys [] n h = absurd (let e : false ≡ true = h in cc)
name_keys keys (x ∷ xs) n h =
    let rest = filter (λ (x : SharedName). is_among keys x.object) xs in
    elim (is_among keys x.object) as (λ b. is_among keys x.object ≡ b → is_among (map (λ (x : SharedName). x.object) (cond b (x ∷ rest) rest)) n ≡ true → is_among keys n ≡ true) [
      | true ↦ λ is k. elim (x.object == n) as (λ b. (x.object == n) ≡ b → (b || is_among (map (λ (x : SharedName). x.object) rest) n) ≡ true → is_among keys n ≡ true)
          [ true ↦ λ e j. ap (is_among keys) (sym (eqb-true x.object n e)) ∙ is | false ↦ λ e j. name_keys keys xs n j ]
          refl k
      | false ↦ λ is k. name_keys keys xs n k
    ] refl h

module _ (s : State) (v : Rows) (hs : List FileHandle) (ts : List SharedToken) (ms : ModeSet) (ns left : List SharedName) (set : ObjectSet) (t : MeetsInvariants s) (m : Moves s v hs ts ms ns left set) where
  abbrev others : List ℕ
  others = referring ts ms.framebuffers

  -- ---- the same for handles, tokens and framebuffers: rows before a sweep are those of the new state

  pub holds_moved : SameRows v.holds (map (handle_row_of set.objects) hs)
  holds_moved =
      subst (SameRows v.holds)
      (sym (holds_as_before s.objects.objects set.objects _ hs m.those (λ n e. among-left (keys_of hs) others n e)))
      m.holds

  pub tokens_moved : SameRows v.tokens (map (token_row_of set.objects) ts)
  tokens_moved =
      subst (SameRows v.tokens)
      (sym (tokens_as_before s.objects.objects set.objects _ ts m.those (λ n e. among-right (keys_of hs) others n (among-left (token_keys ts) (framebuffer_keys ms.framebuffers) n e))))
      m.tokens

  pub framebuffers_moved : SameRows v.framebuffers (map (framebuffer_row_of set.objects) ms.framebuffers)
  framebuffers_moved =
      subst (SameRows v.framebuffers)
      (sym (framebuffers_as_before s.objects.objects set.objects _ ms.framebuffers m.those (λ n e. among-right (keys_of hs) others n (among-right (token_keys ts) (framebuffer_keys ms.framebuffers) n e))))
      m.framebuffers

  -- A sweep leaves the rows of the names whose objects a handle names.
  pub names_moved : SameRows (filter (λ (row : NameRow). list_any (λ (hold : HandleRow). hold.object == row.object) v.holds) v.names) (map (name_row_of set.objects) left)
  names_moved =
      let kept = filter (λ (x : SharedName). is_among (keys_of hs) x.object) ns in
      let swept_rows =
      filter (λ (row : NameRow). list_any (λ (hold : HandleRow). hold.object == row.object) v.holds) v.names in
      subst (λ l. SameRows swept_rows (map (name_row_of set.objects) l)) (sym m.left_names)
      (subst (SameRows swept_rows) (sym (names_as_before s.objects.objects set.objects _ kept m.those (λ n e. among-left (keys_of hs) others n (name_keys (keys_of hs) ns n e))))
      (swept_names v s.objects.objects (keys_of s.files.holds) (referring_keys s) hs ns (objects_counted s t) m.holds m.names (λ n e. m.known n (among-left (keys_of hs) others n e)) m.known_names))

  -- A sweep leaves the rows of the objects that handles, tokens or framebuffers name.
  pub objects_moved : v.objects ≡ objects_of s
      → filter (λ (row : ObjectRow). is_referred v row.object) v.objects ≡ map object_row_of set.objects
  objects_moved o =
      swept_objects v s.objects.objects set.objects (keys_of s.files.holds) (referring_keys s) hs others
      (objects_counted s t) m.holds (references_by v s.objects.objects ts ms.framebuffers m.tokens m.framebuffers)
      m.known o m.those

-- the state with other handles, tokens, framebuffers, names and objects
abbrev pub all_moved_to : State → List FileHandle → List SharedToken → Option ℕ → ModeSet → List SharedName → ObjectSet
    → State
all_moved_to s hs ts given ms left set = record s {
  files = record s.files { holds = hs };
  tokens = record s.tokens { tokens = ts; last_given = given };
  modes = ms;
  names = record s.names { names = left };
  objects = set;
}

-- the rows with other handles, tokens, framebuffers and names
abbrev pub all_shared_rows : Rows → List HandleRow → List TokenRow → ℕ → List FramebufferRow → List NameRow → Rows
all_shared_rows w holds tokens last framebuffers names =
    record w { holds = holds; tokens = tokens; last_token = last; framebuffers = framebuffers; names = names }

-- A state whose handles, tokens, framebuffers, names and objects changed represents the swept rows with the same
-- changes.
pub all_moved : (s : State) (w : Rows) (holds : List HandleRow) (tokens : List TokenRow) (last : ℕ) (framebuffers : List FramebufferRow) (names : List NameRow) (hs : List FileHandle) (ts : List SharedToken) (given : Option ℕ) (ms : ModeSet) (ns left : List SharedName) (set : ObjectSet) →
    MeetsInvariants s → Represents s w → Moves s (all_shared_rows w holds tokens last framebuffers names) hs ts ms ns
    left set → set.limit ≡ s.objects.limit → ms.topology ≡ s.modes.topology → ms.last ≡ s.modes.last → last ≡ unwrap_or
    given 0 →
    (part : Part)
    → represents_part part (all_moved_to s hs ts given ms left set) (swept (all_shared_rows w holds tokens last framebuffers names))
unfolding represents_part swept
all_moved s w holds tokens last framebuffers names hs ts given ms ns left set t h m l fixed most e Bounds = let k = bounds_are s w h in (k.0, k.1, l ∙ k.2, k.3, k.4, k.5, most ∙ k.6, fixed ∙ k.7, k.8, k.9)
all_moved s w holds tokens last framebuffers names hs ts given ms ns left set t h m l fixed most e Masters =
    masters_left (all_shared_rows w holds tokens last framebuffers names) s t (clients_are s w h) (masters_are s w h)
all_moved s w holds tokens last framebuffers names hs ts given ms ns left set t h m l fixed most e Holds =
    holds_moved s (all_shared_rows w holds tokens last framebuffers names) hs ts ms ns left set t m
all_moved s w holds tokens last framebuffers names hs ts given ms ns left set t h m l fixed most e Objects =
    objects_moved s (all_shared_rows w holds tokens last framebuffers names) hs ts ms ns left set t m
    (objects_are s w h)
all_moved s w holds tokens last framebuffers names hs ts given ms ns left set t h m l fixed most e Names =
    names_moved s (all_shared_rows w holds tokens last framebuffers names) hs ts ms ns left set t m
all_moved s w holds tokens last framebuffers names hs ts given ms ns left set t h m l fixed most e Tokens =
    tokens_moved s (all_shared_rows w holds tokens last framebuffers names) hs ts ms ns left set t m
all_moved s w holds tokens last framebuffers names hs ts given ms ns left set t h m l fixed most e Framebuffers =
    framebuffers_moved s (all_shared_rows w holds tokens last framebuffers names) hs ts ms ns left set t m
all_moved s w holds tokens last framebuffers names hs ts given ms ns left set t h m l fixed most e Shown = m.shown
all_moved s w holds tokens last framebuffers names hs ts given ms ns left set t h m l fixed most e LastToken = e
all_moved s w holds tokens last framebuffers names hs ts given ms ns left set t h m l fixed most e part = h part

-- A state whose handles, tokens, framebuffers and names changed keeps all invariants, if objects count what names
-- them.
pub all_moved_invariants : (s : State) (hs : List FileHandle) (ts : List SharedToken) (given : Option ℕ) (ms : ModeSet) (left : List SharedName) (set : ObjectSet)
    → MeetsInvariants s → InOrder (λ (x y : FileHandle). files.handle_before x y ≡ true) hs → AreModes ms →
    AreCounted (keys_of hs) (referring ts ms.framebuffers) set.objects → AreNamed (keys_of hs) left →
    (invariant : Invariant) → meets_invariant invariant (all_moved_to s hs ts given ms left set)
unfolding meets_invariant
all_moved_invariants s hs ts given ms left set t o are invariants named ModesAre = are
all_moved_invariants s hs ts given ms left set t o are invariants named HoldsRise = o
all_moved_invariants s hs ts given ms left set t o are invariants named ObjectsCounted = invariants
all_moved_invariants s hs ts given ms left set t o are invariants named NamesHeld = named
all_moved_invariants s hs ts given ms left set t o are invariants named invariant = t invariant

-- the same where framebuffers are unchanged
abbrev pub moved_to : State → List FileHandle → List SharedToken → Option ℕ → List SharedName → ObjectSet → State
moved_to s hs ts given left set = all_moved_to s hs ts given s.modes left set

abbrev pub shared_rows : Rows → List HandleRow → List TokenRow → ℕ → List NameRow → Rows
shared_rows w holds tokens last names = all_shared_rows w holds tokens last w.framebuffers names

-- A state whose handles, tokens and names changed represents the rows with the same changes, after a sweep.
pub moved : (s : State) (w : Rows) (holds : List HandleRow) (tokens : List TokenRow) (last : ℕ) (names : List NameRow) (hs : List FileHandle) (ts : List SharedToken) (given : Option ℕ) (ns left : List SharedName) (set : ObjectSet) →
    MeetsInvariants s → Represents s w → Moves s (shared_rows w holds tokens last names) hs ts s.modes ns left set →
    set.limit ≡ s.objects.limit → last ≡ unwrap_or given 0 → Represents (moved_to s hs ts given left set)
    (swept (shared_rows w holds tokens last names))
moved s w holds tokens last names hs ts given ns left set t h m l e =
    all_moved s w holds tokens last w.framebuffers names hs ts given s.modes ns left set t h m l refl refl e

-- A state whose handles, tokens and names changed keeps all invariants, if objects count what names them.
pub moved_invariants : (s : State) (hs : List FileHandle) (ts : List SharedToken) (given : Option ℕ) (left : List SharedName) (set : ObjectSet)
    → MeetsInvariants s → InOrder (λ (x y : FileHandle). files.handle_before x y ≡ true) hs →
    AreCounted (keys_of hs) (referring ts s.modes.framebuffers) set.objects → AreNamed (keys_of hs) left →
    MeetsInvariants (moved_to s hs ts given left set)
moved_invariants s hs ts given left set t o invariants named =
    all_moved_invariants s hs ts given s.modes left set t o (modes_so s t) invariants named

-- ---- nothing goes

nothing_moves : (s : State) (v : Rows) → MeetsInvariants s → Represents s v
    → Moves s v s.files.holds s.tokens.tokens s.modes s.names.names s.names.names s.objects
nothing_moves s v t h = record {
  holds = holds_are s v h;
  tokens = tokens_are s v h;
  framebuffers = framebuffers_are s v h;
  shown = shown_yet s v t h;
  names = names_are s v h;
  known = λ n e. e;
  known_names = names_known s t;
  left_names =
      sym (filter_all (λ (x : SharedName). is_among (keys_of s.files.holds) x.object) s.names.names (names_held s t));
  those = all_named (keys_of s.files.holds) (referring_keys s) s.objects.objects (objects_counted s t);
}

-- A sweep removes nothing of rows that a state represents that meets the invariants.
pub unswept : (s : State) (v : Rows) → MeetsInvariants s → Represents s v → (part : Part)
    → represents_part part s (swept v)
unfolding represents_part swept
unswept s v t h Masters = masters_left v s t (clients_are s v h) (masters_are s v h)
unswept s v t h Objects =
    objects_moved s v s.files.holds s.tokens.tokens s.modes s.names.names s.names.names s.objects t
    (nothing_moves s v t h) (objects_are s v h)
unswept s v t h Names =
    names_moved s v s.files.holds s.tokens.tokens s.modes s.names.names s.names.names s.objects t
    (nothing_moves s v t h)
unswept s v t h Shown = shown_yet s v t h
unswept s v t h part = h part

-- ---- fewer handles or tokens, and what they alone named

-- With fewer handles and tokens, and with the names and objects that they leave, rows and state change together.
pub leaving : (s : State) (w v : Rows) (hs : List FileHandle) (ts : List SharedToken) (names : NameList) (set : ObjectSet)
    → MeetsInvariants s → Represents s w → v.names ≡ w.names
    → SameRows v.holds (map (handle_row_of s.objects.objects) hs)
    → SameRows v.tokens (map (token_row_of s.objects.objects) ts) →
    SameRows v.framebuffers (framebuffers_of s) → SameRows
    (filter (λ (row : ShownRow). is_framebuffer v row.framebuffer) v.shown) (map shown_row_of (shown_rows s.modes)) →
    ((n : ℕ) → is_among (keys_of hs ++ referring ts s.modes.framebuffers) n ≡ true → is_among (keys_of s.files.holds ++ referring_keys s) n ≡ true)
    → Leaves s.names s.objects (keys_of hs) (referring ts s.modes.framebuffers) names set
    → Moves s v hs ts s.modes s.names.names names.names set
leaving s w v hs ts names set t h e held opened framed lit known left = record {
  holds = held;
  tokens = opened;
  framebuffers = framed;
  shown = lit;
  names = subst (λ l. SameRows l (names_of s)) (sym e) (names_are s w h);
  known = known;
  known_names = names_known s t;
  left_names = ap (λ (l : NameList). l.names) left.names;
  those = left.those;
}

-- the state without a handle, and without what it alone named
abbrev pub without_handle : State → ℕ → ℕ → NameList → ObjectSet → State
without_handle s c n names set = record s { files = without_handle_row s.files c n; names = names; objects = set }

-- The state without a handle, and without what it alone named, represents the swept rows without the handle.
pub handle_gone : (s : State) (w : Rows) (c n : ℕ) (names : NameList) (set : ObjectSet) → MeetsInvariants s
    → Leaves s.names s.objects (keys_of (without_handle_row s.files c n).holds) (referring_keys s) names set
    → Represents s w →
    Represents (without_handle s c n names set) (swept (record w { holds = without (is_handle c n) w.holds }))
handle_gone s w c n names set t left h =
    let q = λ (x : FileHandle). not (files.is_handle c n x) in
    let kept = names_among (keys_of (filter q s.files.holds)) s.names in
    let leaves : Leaves s.names s.objects (keys_of (filter q s.files.holds)) (referring_keys s) kept set =
    record { invariants = left.invariants; those = left.those; limit = left.limit; names = refl } in
    subst
    (λ ns. Represents (without_handle s c n ns set) (swept (record w { holds = without (is_handle c n) w.holds })))
    (sym left.names)
    (moved s w (without (is_handle c n) w.holds) w.tokens w.last_token w.names (filter q s.files.holds) s.tokens.tokens s.tokens.last_given s.names.names kept.names set t h
    (leaving s w (record w { holds = without (is_handle c n) w.holds }) (filter q s.files.holds) s.tokens.tokens kept set t h refl
    (held_left w.holds (λ row. not (is_handle c n row)) s.objects.objects s.files.holds (holds_are s w h))
    (tokens_are s w h) (framebuffers_are s w h) (shown_yet s w t h)
    (λ m e. fewer_among (keys_of (filter q s.files.holds)) (keys_of s.files.holds) (referring_keys s) m (some_pass q s.files.holds m) e) leaves) left.limit (last_token_is s w h))

-- ---- a client goes

-- the device's master without a client that belongs to masters so
abbrev device_left : Option ℕ → Option Member → Option ℕ
device_left d o = option_map_or (λ (x : Member). if x.is_master && masters.is_option x.master d then None else d) o d

same_option : (m : ℕ) (d : Option ℕ) → (if is_option m d then None else d) ≡ (if masters.is_option m d then None else d)
same_option m None = refl
same_option m (Some n) = refl

-- the state whose device has this master, where the leases of some masters ended
abbrev pub with_ended : State → (ℕ → Bool) → Option ℕ → State
with_ended s below d =
    record s
    { masters = record s.masters { masters = released below s.masters.masters; device_master = d }; leases = ended below s.leases }

-- A master is below another by rows exactly if it is in the state.
pub under_is : (s : State) (w : Rows) (top : ℕ) → Represents s w
    → is_under w.masters top ≡ is_below (Some top) s.masters.masters
under_is s w top h =
    (λ i. is_under (masters_are s w h i) top)
    ∙ (λ i. chains.is_under (above_is s.leases.tokens s.masters.masters i) top)

-- A state in which leases of a master and of all below it ended represents the rows in which they did.
pub ended_represents : (s : State) (w : Rows) (top : ℕ) → Represents s w → (part : Part)
    → represents_part part (with_ended s (is_below (Some top) s.masters.masters) s.masters.device_master) (model.ended w top)
unfolding represents_part model.ended
ended_represents s w top h Masters =
    let below : ℕ → Bool = is_below (Some top) s.masters.masters in
    (λ i. map (λ (row : MasterRow). if under_is s w top h i row.master then record row { lease_token = None } else row) (masters_are s w h i))
    ∙ rows_ended below s.leases.tokens s.masters.masters
    ∙ sym (rows_released (ended below s.leases).tokens below s.masters.masters)
ended_represents s w top h Grants =
    let below : ℕ → Bool = is_below (Some top) s.masters.masters in
    subst
    (λ (p : ℕ → Bool). SameRows (filter (λ (row : GrantRow). not (p row.master)) w.grants) (grants_of (with_ended s below s.masters.device_master)))
    (sym (under_is s w top h)) (grants_ended below w.grants s.leases.grants (grants_are s w h))
ended_represents s w top h part = h part

-- A state in which no lease ended represents the rows unchanged.
pub none_ended_represents : (s : State) (w : Rows) → Represents s w → (part : Part)
    → represents_part part (with_ended s (λ _. false) s.masters.device_master) w
unfolding represents_part
none_ended_represents s w h Masters =
    masters_are s w h
    ∙ (λ i. map (master_row_of (sym (none_ended s.leases) i).tokens) (sym (none_released s.masters.masters) i))
none_ended_represents s w h Grants =
    subst (λ (l : LeaseSet). SameRows w.grants (map grant_row_of l.grants)) (sym (none_ended s.leases))
    (grants_are s w h)
none_ended_represents s w h part = h part

-- what a client's own master returned goes, and the device's master if it was that
ended_by_own : (s : State) (w : Rows) (m : ℕ) (b : Bool) → Represents s w → (part : Part)
    → represents_part part (with_ended s (is_below (if b then Some m else None) s.masters.masters) (if b && masters.is_option m s.masters.device_master then None else s.masters.device_master)) (ended_if w b (Some m))
unfolding represents_part model.ended
ended_by_own s w m true h DeviceMaster =
    ap (λ (d : Option ℕ). if is_option m d then None else d) (device_master_is s w h)
    ∙ same_option m s.masters.device_master
ended_by_own s w m true h part = ended_represents s w m h part
ended_by_own s w m false h Clients = none_ended_represents s w h Clients
ended_by_own s w m false h part = none_ended_represents s w h part

ended_if_represents : (s : State) (w : Rows) (o : Option Member) → Represents s w
    → Represents (with_ended s (is_below (own_master o) s.masters.masters) (device_left s.masters.device_master o)) (ended_if w (option_map_or (λ (x : Member). x.is_master) o false) (option_map (λ (x : Member). x.master) o))
ended_if_represents s w None h = none_ended_represents s w h
ended_if_represents s w (Some x) h = ended_by_own s w x.master x.is_master h

-- the state without a client
abbrev pub without_its : State → ℕ → ModeSet → NameList → ObjectSet → State
without_its s c ms names set = record s {
  files = without_client s.files c;
  tokens = without_tokens_of c s.tokens;
  modes = ms;
  names = names;
  masters = without_its_master c s.masters;
  leases = without_its_leases c s.masters s.leases;
  objects = set;
}

-- what the handles, and what the tokens and framebuffers name without a client
abbrev pub keys_without : State → ℕ → List ℕ
keys_without s c = keys_of (without_client s.files c).holds

abbrev pub references_without : State → ℕ → ModeSet → List ℕ
references_without s c ms = referring (without_tokens_of c s.tokens).tokens ms.framebuffers

all_among : (keys : List ℕ) → (ns : List SharedName)
    → AreNamed keys (filter (λ (x : SharedName). is_among keys x.object) ns)
all_among keys ns = filter_true (λ (x : SharedName). is_among keys x.object) ns

-- The names that remain are of objects that handles name.
pub named_left : (names now : NameList) (objects set : ObjectSet) (keys refs : List ℕ)
    → Leaves names objects keys refs now set → AreNamed keys now.names
named_left names now objects set keys refs left =
    subst (λ (l : NameList). AreNamed keys l.names) (sym left.names) (all_among keys names.names)

-- those that are left have masters yet
have_left : (v : MasterSet) (c : ℕ) → (fs : List FileClient) → AllByRecursion (HasMaster v) fs
    → AllByRecursion (HasMaster (without_its_master c v)) (filter (λ (f : FileClient). not (files.is_client c f)) fs)
have_left v c [] h = tt
have_left v c (f ∷ fs) h =
    let rest = filter (λ (f : FileClient). not (files.is_client c f)) fs in
    (elim (f.client == c) as (λ b. (f.client == c) ≡ b → AllByRecursion (HasMaster (without_its_master c v)) (cond (not b) (f ∷ rest) rest)) [
      | true ↦ λ e. have_left v c fs h.1
      | false ↦ λ e. (ap (λ o. f.flags.render || is_some o) (find_others (λ (x : Member). x.client) f.client c e v.members) ∙ h.0, have_left v c fs h.1)
    ]) refl

-- A state without a client keeps all invariants.
pub client_gone_invariants : (s : State) (c : ℕ) (ms : ModeSet) (names : NameList) (set : ObjectSet) → MeetsInvariants s
    → AreMasters (without_its_master c s.masters) → AreLeases (without_its_leases c s.masters s.leases) → AreModes ms
    → Leaves s.names s.objects (keys_without s c) (references_without s c ms) names set →
    (invariant : Invariant) → meets_invariant invariant (without_its s c ms names set)
unfolding meets_invariant
client_gone_invariants s c ms names set t are leases_are modes_are left MembersOpen =
    members_open_left c s.files.clients s.masters.members (members_open s t)
client_gone_invariants s c ms names set t are leases_are modes_are left ClientsHave =
    have_left s.masters c s.files.clients (clients_have s t)
client_gone_invariants s c ms names set t are leases_are modes_are left MastersAre = are
client_gone_invariants s c ms names set t are leases_are modes_are left LeasesAre = leases_are
client_gone_invariants s c ms names set t are leases_are modes_are left TokensOfLessees =
    let below = ends_with s.masters c in
    of_lessees_swept (without_its_master c s.masters).members (ended below s.leases).tokens
    (released below s.masters.masters) (kept_ended below s.leases.tokens s.masters.masters (kept_have_tokens s t))
    (of_lessees_ended below s.leases.tokens s.masters.masters (tokens_of_lessees s t))
client_gone_invariants s c ms names set t are leases_are modes_are left KeptHaveTokens =
    let below = ends_with s.masters c in
    kept_swept (without_its_master c s.masters).members (ended below s.leases).tokens (released below s.masters.masters)
    (kept_ended below s.leases.tokens s.masters.masters (kept_have_tokens s t))
client_gone_invariants s c ms names set t are leases_are modes_are left LeasesAgree =
    agreed_yet s.masters s.leases c (masters_so s t) (leases_agree s t)
client_gone_invariants s c ms names set t are leases_are modes_are left MagicsSuffice = magics_suffice s t
client_gone_invariants s c ms names set t are leases_are modes_are left ModesAre = modes_are
client_gone_invariants s c ms names set t are leases_are modes_are left HoldsRise =
    in_order_filter (λ (x y : FileHandle). files.handle_before x y ≡ true) _ s.files.holds (holds_rise s t)
client_gone_invariants s c ms names set t are leases_are modes_are left ObjectsCounted = left.invariants
client_gone_invariants s c ms names set t are leases_are modes_are left NamesHeld =
    named_left s.names names s.objects set (keys_without s c) (references_without s c ms) left

-- The tokens that pass a test name only keys that tokens name.
pub some_opened : (p : SharedToken → Bool) → (ts : List SharedToken) (n : ℕ)
    → is_among (token_keys (filter p ts)) n ≡ true → is_among (token_keys ts) n ≡ true
some_opened p [] n h = h
some_opened p (x ∷ xs) n h =
    elim (p x) as (λ b. is_among (token_keys (cond b (x ∷ filter p xs) (filter p xs))) n ≡ true → is_among (token_keys (x ∷ xs)) n ≡ true) [
      | true ↦ λ e. elim (x.object == n) as (λ d. (d || is_among (token_keys (filter p xs)) n) ≡ true → (d || is_among (token_keys xs) n) ≡ true) [ true ↦ λ k. refl | false ↦ λ k. some_opened p xs n k ] e
      | false ↦ λ e. among-more (token_keys xs) x.object n (some_opened p xs n e)
    ] h

-- The rows of tokens that pass a test are those of the tokens that pass it.
pub opened_left : (rows : List TokenRow) (p : TokenRow → Bool) (objects : List Object) (ts : List SharedToken)
    → SameRows rows (map (token_row_of objects) ts)
    → SameRows (filter p rows) (map (token_row_of objects) (filter (λ x. p (token_row_of objects x)) ts))
opened_left rows p objects ts h =
    subst (SameRows (filter p rows)) (filter-map p (token_row_of objects) ts)
    (same-filter p rows (map (token_row_of objects) ts) h)

-- Fewer tokens and framebuffers name no other keys.
pub fewer_referring : (p : SharedToken → Bool) (q : Framebuffer → Bool) (ts : List SharedToken) (fs : List Framebuffer) (n : ℕ)
    → is_among (referring (filter p ts) (filter q fs)) n ≡ true → is_among (referring ts fs) n ≡ true
fewer_referring p q ts fs n e =
    let fewer = token_keys (filter p ts) in
    let other = framebuffer_keys (filter q fs) in
    let split : (is_among fewer n || is_among other n) ≡ true = sym (among-append fewer other n) ∙ e in
    elim (is_among fewer n) as (λ b. is_among fewer n ≡ b → (b || is_among other n) ≡ true → is_among (referring ts fs) n ≡ true) [
      | true ↦ λ is k. among-left (token_keys ts) (framebuffer_keys fs) n (some_opened p ts n is)
      | false ↦ λ is k. among-right (token_keys ts) (framebuffer_keys fs) n (some_framed q fs n k)
    ] refl split

-- Fewer handles, tokens and framebuffers name no other keys.
pub fewer_known : (s : State) (p : FileHandle → Bool) (q : SharedToken → Bool) (r : Framebuffer → Bool) (n : ℕ)
    → is_among (keys_of (filter p s.files.holds) ++ referring (filter q s.tokens.tokens) (filter r s.modes.framebuffers)) n ≡ true →
    is_among (keys_of s.files.holds ++ referring_keys s) n ≡ true
fewer_known s p q r n e =
    let fewer = keys_of (filter p s.files.holds) in
    let other = referring (filter q s.tokens.tokens) (filter r s.modes.framebuffers) in
    let split : (is_among fewer n || is_among other n) ≡ true = sym (among-append fewer other n) ∙ e in
    elim (is_among fewer n) as (λ b. is_among fewer n ≡ b → (b || is_among other n) ≡ true → is_among (keys_of s.files.holds ++ referring_keys s) n ≡ true) [
      | true ↦ λ is k. among-left (keys_of s.files.holds) (referring_keys s) n (some_pass p s.files.holds n is)
      | false ↦ λ is k. among-right (keys_of s.files.holds) (referring_keys s) n (fewer_referring q r s.tokens.tokens s.modes.framebuffers n k)
    ] refl split

-- a magic is its client's
magic_client : (x : Member) → (o : Option Magic) → x.magic ≡ o → (c : ℕ) → (xs : List MagicRow)
    → filter (λ (row : MagicRow). not (row.client == c)) (cons_option (magic_row_of x) xs) ≡ cond (not (x.client == c)) (cons_option (magic_row_of x) (filter (λ (row : MagicRow). not (row.client == c)) xs)) (filter (λ (row : MagicRow). not (row.client == c)) xs)
magic_client x o e c xs =
    ap (λ (g : Option Magic). filter (λ (row : MagicRow). not (row.client == c)) (cons_option (row_by g) xs)) e
    ∙ by_magic o
    ∙ ap
    (λ (g : Option Magic). cond (not (x.client == c)) (cons_option (row_by g) (filter (λ (row : MagicRow). not (row.client == c)) xs)) (filter (λ (row : MagicRow). not (row.client == c)) xs))
    (sym e)
  where
    row_by : Option Magic → Option MagicRow
    row_by g =
        option_map (λ (d : Magic). record { master = x.master; number = d.number; client = x.client; spent = d.spent })
        g

    by_magic : (g : Option Magic)
        → filter (λ (row : MagicRow). not (row.client == c)) (cons_option (row_by g) xs) ≡ cond (not (x.client == c)) (cons_option (row_by g) (filter (λ (row : MagicRow). not (row.client == c)) xs)) (filter (λ (row : MagicRow). not (row.client == c)) xs)
    by_magic None = none (not (x.client == c))
      where
        none : (b : Bool)
            → filter (λ (row : MagicRow). not (row.client == c)) xs ≡ cond b (filter (λ (row : MagicRow). not (row.client == c)) xs) (filter (λ (row : MagicRow). not (row.client == c)) xs)
        none true = refl
        none false = refl
    by_magic (Some d) = refl

-- Without a client, the rows of magics are those of all other clients.
pub magics_left : (c : ℕ) → (xs : List Member)
    → filter (λ (row : MagicRow). not (row.client == c)) (filter_map magic_row_of xs) ≡ filter_map magic_row_of (filter (λ (x : Member). not (masters.is_client c x)) xs)
magics_left c [] = refl
magics_left c (x ∷ xs) =
    let rest = filter (λ (y : Member). not (masters.is_client c y)) xs in
    magic_client x x.magic refl c (filter_map magic_row_of xs)
    ∙ elim (x.client == c) as (λ b. cond (not b) (cons_option (magic_row_of x) (filter (λ (row : MagicRow). not (row.client == c)) (filter_map magic_row_of xs))) (filter (λ (row : MagicRow). not (row.client == c)) (filter_map magic_row_of xs)) ≡ filter_map magic_row_of (cond (not b) (x ∷ rest) rest)) [
      | true ↦ magics_left c xs
      | false ↦ ap (cons_option (magic_row_of x)) (magics_left c xs)
    ]

module _ (s : State) (w : Rows) (c : ℕ) (flags : FileFlags) (ms : ModeSet) (names : NameList) (set : ObjectSet)
    (t : MeetsInvariants s) (are : AreMasters (without_its_master c s.masters)) (leases_are : AreLeases (without_its_leases c s.masters s.leases)) (modes_are : AreModes ms) (loses : LosesFramebuffersOf c s.modes ms) (of : client_row w c ≡ Some (client_row_by (record { client = c; flags = flags }) (masters.member_of s.masters.members c)))
    (gone : Leaves s.names s.objects (keys_without s c) (references_without s c ms) names set) (h : Represents s w) where
  now : MeetsInvariants (without_its s c ms names set)
  now = client_gone_invariants s c ms names set t are leases_are modes_are gone

  -- when what its own master returned is removed
  own_ended : Represents (with_ended s (ends_with s.masters c) (device_without s.masters c)) (ended_own w (client_row w c))
  own_ended =
      subst (λ o. Represents (with_ended s (ends_with s.masters c) (device_without s.masters c)) (ended_own w o))
      (sym of) (ended_if_represents s w (masters.member_of s.masters.members c) h)

  -- its row goes
  clients_now : without (λ (x : ClientRow). x.client == c) w.clients ≡ clients_of (without_its s c ms names set)
  clients_now =
      ap (without (λ (x : ClientRow). x.client == c)) (clients_are s w h)
      ∙ sym (clients_left c s.masters.members s.files.clients)

  masters_now : (v : Rows) → v.clients ≡ clients_of (without_its s c ms names set)
      → v.masters ≡ masters_of (with_ended s (ends_with s.masters c) (device_without s.masters c))
      → filter (λ (x : MasterRow). is_living v x.master) v.masters ≡ masters_of (without_its s c ms names set)
  masters_now v e f =
      swept_masters v (without_its_leases c s.masters s.leases).tokens
      (released (ends_with s.masters c) s.masters.masters) (without_its_master c s.masters).members f
      (kept_ended (ends_with s.masters c) s.leases.tokens s.masters.masters (kept_have_tokens s t))
      (named_by_clients v (without_its s c ms names set) now e)

  -- its framebuffers go
  framed : SameRows (closed w c).framebuffers (map (framebuffer_row_of s.objects.objects) ms.framebuffers)
  unfolding closed
  framed =
      subst
      (λ fs. SameRows (without (λ (x : FramebufferRow). x.client == c) w.framebuffers) (map (framebuffer_row_of s.objects.objects) fs))
      (sym loses.framebuffers)
      (framed_left w.framebuffers (λ x. not (x.client == c)) s.objects.objects s.modes.framebuffers (framebuffers_are s w h))

  -- its handles and tokens go, and what they and its framebuffers alone named
  moves : Moves s (closed w c) (without_client s.files c).holds (without_tokens_of c s.tokens).tokens ms s.names.names names.names set
  unfolding closed
  moves = record {
    holds = held_left w.holds (λ x. not (x.client == c)) s.objects.objects s.files.holds (holds_are s w h);
    tokens = opened_left w.tokens (λ x. not (x.client == c)) s.objects.objects s.tokens.tokens (tokens_are s w h);
    framebuffers = framed;
    shown = shown_left (closed w c) s.objects.objects s.modes ms framed (shown_are _ _ own_ended) loses.shown;
    names = names_are _ _ own_ended;
    known =
        λ n e. fewer_known s (λ x. not (files.of_client c x)) (λ x. not (is_exported_by c x))
        (λ x. not (modes.is_made_by c x)) n
        (subst (λ fs. is_among (keys_without s c ++ referring (without_tokens_of c s.tokens).tokens fs) n ≡ true) loses.framebuffers e);
    known_names = names_known s t;
    left_names = ap (λ (l : NameList). l.names) gone.names;
    those = gone.those;
  }

  objects_yet : (closed w c).objects ≡ objects_of s
  unfolding closed
  objects_yet = objects_are _ _ own_ended

  -- A state without a client represents the swept rows after its closing.
  pub client_gone : (part : Part) → represents_part part (without_its s c ms names set) (swept (closed w c))
  unfolding represents_part swept closed
  client_gone Bounds = let k = bounds_are _ _ own_ended in (k.0, k.1, gone.limit ∙ k.2, ap (λ (l : NameList). l.last) gone.names ∙ k.3, k.4, k.5, loses.last ∙ k.6, loses.topology ∙ k.7, k.8, k.9)
  client_gone Clients = clients_now
  client_gone Masters = masters_now (closed w c) clients_now (masters_are _ _ own_ended)
  client_gone Magics =
      subst (SameRows (without (λ (row : MagicRow). row.client == c) w.magics)) (magics_left c s.masters.members)
      (same-filter (λ (row : MagicRow). not (row.client == c)) w.magics (magics_of s) (magics_are s w h))
  client_gone Holds = holds_moved s (closed w c) _ _ ms s.names.names names.names set t moves
  client_gone Objects = objects_moved s (closed w c) _ _ ms s.names.names names.names set t moves objects_yet
  client_gone Names = names_moved s (closed w c) _ _ ms s.names.names names.names set t moves
  client_gone Tokens = tokens_moved s (closed w c) _ _ ms s.names.names names.names set t moves
  client_gone Framebuffers = framebuffers_moved s (closed w c) _ _ ms s.names.names names.names set t moves
  client_gone Shown = moves.shown
  client_gone part = own_ended part
