use Rattle.std.proofs.Common.{sym, ◌≡◌, ℕ, Bool, true, false, not, ◌||◌, List, ◌++◌, filter, refl, ap, ◌∙◌, subst}
use Rattle.std.specs.Option.{is_some}
use Rattle.drm_table.specs.declared.answers.Answer.TheVariants.{Closed}
use Rattle.drm_table.specs.declared.events.Event.TheVariants.{Close}
use Rattle.drm_table.specs.declared.rules.Rule.TheVariants.{NoClient}
use Rattle.drm_index_array.specs.Numbers.{is_among}
use Rattle.drm_index_array.proofs.Numbers.{among-append, among-left, among-right}
use Rattle.drm_files.specs.Files.{FileLists, of_client, without_client}
use Rattle.drm_share.specs.Tokens.{TokenList}
use Rattle.drm_model.specs.Rows.{is_open}
use Rattle.drm_model.specs.Change.{changed, swept}
use Rattle.drm_model.specs.Clients.{closed}
use Rattle.drm_model.specs.Reply.{answer_of}
use Rattle.drm_model.proofs.Closings.{closing_verdict}
use Rattle.drm_state.specs.declared.state.State.{State}
use Rattle.drm_masters.specs.Masters.{MasterSet, AreMasters}
use Rattle.drm_leases.specs.Leases.{LeaseSet, AreLeases}
use Rattle.drm_modes.specs.declared.rows.Framebuffer.{Framebuffer}
use Rattle.drm_modes.specs.Modes.{is_made_by}
use Rattle.drm_state.specs.Parts.{keys_of, token_keys, framebuffer_keys, referring, without_tokens_of, without_its_master, without_its_leases}
use Rattle.drm_state.specs.Invariants.{MeetsInvariants, Leaves}
use Rattle.drm_state.specs.Refinement.{RefinesAnswer, Represents}
use Rattle.drm_state.proofs.Counting.{named_trans}
use Rattle.drm_state.proofs.FramebuffersThere.{some_framed}
use Rattle.drm_state.proofs.Leaving.{names_stay, leaves_trans}
use Rattle.drm_state.proofs.Represented.{objects_counted, names_held, masters_so, kept_have_tokens, leases_agree}
use Rattle.drm_state.proofs.Lookups.{client_row_is, no_client}
use Rattle.drm_state.proofs.Refinements.{denied, carried}
use Rattle.drm_state.proofs.Sweeps.{client_gone, client_gone_invariants, without_its, keys_without, references_without, some_pass}
use Rattle.drm_client_calls.proofs.closings.close.Goals as goal

pub returns-in_default-clause-refines : goal.returns-in_default-clause-refines
unfolding RefinesAnswer
returns-in_default-clause-refines c = rw c.set_denied.ensures.denied (λ w h.
    let absent = no_client c.args.state.now w h c.args.client (sym c.in_default.is ∙ c.flags_of.ensures.flags) in
    denied c.args.state.now w (Close c.args.client) NoClient (closing_verdict w c.args.client ∙ rw absent refl) h)

pub close_tokens-requires : goal.close_tokens-requires
close_tokens-requires c =
    (keys_of c.args.state.now.files.holds, framebuffer_keys c.args.state.now.modes.framebuffers, objects_counted c.args.state.now c.requires)

pub close_framebuffers-requires : goal.close_framebuffers-requires
close_framebuffers-requires c =
    let s = c.args.state.now in
    (keys_of s.files.holds, token_keys c.close_tokens.new.tokens.tokens, c.close_tokens.ensures.invariants (keys_of s.files.holds) (framebuffer_keys s.modes.framebuffers) (objects_counted s c.requires))

pub release_all-requires-clause-invariants : goal.release_all-requires-clause-invariants
release_all-requires-clause-invariants c =
    let s = c.args.state.now in
    let keys = keys_of s.files.holds in
    let tokens = c.close_tokens.new.tokens.tokens in
    (referring tokens c.close_framebuffers.new.modes.framebuffers, c.close_framebuffers.ensures.invariants keys (token_keys tokens) (c.close_tokens.ensures.invariants keys (framebuffer_keys s.modes.framebuffers) (objects_counted s c.requires)))

pub release_all-requires-clause-named : goal.release_all-requires-clause-named
release_all-requires-clause-named c = names_held c.args.state.now c.requires

more_among : (keys fewer numbers : List ℕ) (n : ℕ) → (is_among fewer n ≡ true → is_among numbers n ≡ true)
    → is_among (keys ++ fewer) n ≡ true → is_among (keys ++ numbers) n ≡ true
more_among keys fewer numbers n f h =
    elim (is_among keys n) as (λ b. is_among keys n ≡ b → (b || is_among fewer n) ≡ true → is_among (keys ++ numbers) n ≡ true)
    [ true ↦ λ is e. among-left keys numbers n is | false ↦ λ is e. among-right keys numbers n (f e) ] refl
    (sym (among-append keys fewer n) ∙ h)

-- fewer framebuffers name fewer keys
fewer_framed : (keys tokens : List ℕ) (p : Framebuffer → Bool) (fs now : List Framebuffer) → now ≡ filter p fs → (n : ℕ)
    → is_among (keys ++ (tokens ++ framebuffer_keys now)) n ≡ true
    → is_among (keys ++ (tokens ++ framebuffer_keys fs)) n ≡ true
fewer_framed keys tokens p fs now is n e =
    let fewer = framebuffer_keys (filter p fs) in
    let all = framebuffer_keys fs in
    let told : is_among (keys ++ (tokens ++ fewer)) n ≡ true =
    subst (λ l. is_among (keys ++ (tokens ++ framebuffer_keys l)) n ≡ true) is e in
    more_among keys (tokens ++ fewer) (tokens ++ all) n
    (λ j. more_among tokens fewer all n (λ k. some_framed p fs n k) j) told

-- what is left by the tokens, the framebuffers and the handles that go
leaves : (c : goal.After-release_all)
    → Leaves c.args.state.now.names c.args.state.now.objects (keys_without c.args.state.now c.args.client) (references_without c.args.state.now c.args.client c.close_framebuffers.new.modes) c.release_all.new.names c.release_all.new.objects
leaves c =
    let s = c.args.state.now in
    let client = c.args.client in
    let keys = keys_of s.files.holds in
    let tokens = c.close_tokens.new.tokens.tokens in
    let frames = framebuffer_keys s.modes.framebuffers in
    let now_frames = c.close_framebuffers.new.modes.framebuffers in
    let refs = referring tokens now_frames in
    let middle = c.close_framebuffers.new.objects in
    let without_tokens = c.close_tokens.ensures.invariants keys frames (objects_counted s c.requires) in
    let invariants = c.close_framebuffers.ensures.invariants keys (token_keys tokens) without_tokens in
    let those = named_trans s.objects.objects c.close_tokens.new.objects.objects middle.objects (keys ++ (token_keys tokens ++ frames)) (keys ++ refs)
    (λ n e. fewer_framed keys (token_keys tokens) (λ (x : Framebuffer). not (is_made_by client x)) s.modes.framebuffers now_frames c.close_framebuffers.ensures.loses.framebuffers n e)
    (c.close_tokens.ensures.those keys frames (objects_counted s c.requires)) (c.close_framebuffers.ensures.those keys (token_keys tokens) without_tokens) in
    let closed : Leaves s.names s.objects keys refs s.names middle =
    record
    { invariants = invariants; those = those; limit = c.close_framebuffers.ensures.limit ∙ c.close_tokens.ensures.limit; names = names_stay s.names keys (names_held s c.requires) }
    in
    let released : Leaves s.names middle (keys_without s client) refs c.release_all.new.names c.release_all.new.objects =
    subst (λ (fs : FileLists). Leaves s.names middle (keys_of fs.holds) refs c.release_all.new.names c.release_all.new.objects) c.release_all.ensures.files (c.release_all.ensures.leaves refs invariants) in
    subst
    (λ (ts : TokenList). Leaves s.names s.objects (keys_without s client) (referring ts.tokens now_frames) c.release_all.new.names c.release_all.new.objects)
    c.close_tokens.ensures.tokens
    (leaves_trans s.names s.names c.release_all.new.names s.objects middle c.release_all.new.objects keys (keys_without s client) refs (λ n e. some_pass (λ x. not (of_client client x)) s.files.holds n e) closed released)

-- the state without the client
abbrev now : goal.After-release_all → FileLists → TokenList → MasterSet → LeaseSet → State
now c files tokens set leases =
    record c.args.state.now
    { files = files; tokens = tokens; modes = c.close_framebuffers.new.modes; names = c.release_all.new.names; masters = set; leases = leases; objects = c.release_all.new.objects }

-- the state, told by what its client had
told : (P : State → Type 0) (c : goal.After-release_all)
    → P (without_its c.args.state.now c.args.client c.close_framebuffers.new.modes c.release_all.new.names c.release_all.new.objects)
    → P (now c c.release_all.new.files c.close_tokens.new.tokens c.close_master.new.masters c.close_master.new.leases)
told P c h =
    let files = without_client c.args.state.now.files c.args.client in
    let tokens = without_tokens_of c.args.client c.args.state.now.tokens in
    subst (λ fs. P (now c fs c.close_tokens.new.tokens c.close_master.new.masters c.close_master.new.leases))
    (sym c.release_all.ensures.files)
    (subst (λ ts. P (now c files ts c.close_master.new.masters c.close_master.new.leases)) (sym c.close_tokens.ensures.tokens)
    (subst (λ set. P (now c files tokens set c.close_master.new.leases)) (sym c.close_master.ensures.masters)
    (subst (λ l. P (now c files tokens (without_its_master c.args.client c.args.state.now.masters) l)) (sym c.close_master.ensures.leases) h)))

are : (c : goal.After-release_all) → AreMasters (without_its_master c.args.client c.args.state.now.masters)
are c = subst AreMasters c.close_master.ensures.masters c.laws.ensures

leases_are : (c : goal.After-release_all)
    → AreLeases (without_its_leases c.args.client c.args.state.now.masters c.args.state.now.leases)
leases_are c = subst AreLeases c.close_master.ensures.leases c.laws-2.ensures

gone_invariants : (c : goal.After-release_all)
    → MeetsInvariants (without_its c.args.state.now c.args.client c.close_framebuffers.new.modes c.release_all.new.names c.release_all.new.objects)
gone_invariants c =
    client_gone_invariants c.args.state.now c.args.client c.close_framebuffers.new.modes c.release_all.new.names
    c.release_all.new.objects c.requires (are c) (leases_are c) c.laws-3.ensures (leaves c)

pub close_master-requires-clause-are : goal.close_master-requires-clause-are
close_master-requires-clause-are c = masters_so c.args.state.now c.requires

pub close_master-requires-clause-kept : goal.close_master-requires-clause-kept
close_master-requires-clause-kept c = kept_have_tokens c.args.state.now c.requires

pub close_master-requires-clause-agreed : goal.close_master-requires-clause-agreed
close_master-requires-clause-agreed c = leases_agree c.args.state.now c.requires

pub returns-clause-invariants : goal.returns-clause-invariants
returns-clause-invariants c = told MeetsInvariants c (gone_invariants c)

pub returns-clause-refines : goal.returns-clause-refines
unfolding RefinesAnswer changed answer_of
returns-clause-refines c = λ w h.
    let s = c.args.state.now in
    let is = client_row_is s w h c.args.client c.in-Some._flags (sym c.in-Some.is ∙ c.flags_of.ensures.flags) in
    let open_client : is_open w c.args.client ≡ true = ap is_some is in
    carried
    (now c c.release_all.new.files c.close_tokens.new.tokens c.close_master.new.masters c.close_master.new.leases) w
    (Close c.args.client) Closed (closing_verdict w c.args.client ∙ rw open_client refl) refl
    (told (λ t. Represents t (swept (closed w c.args.client))) c
    (client_gone s w c.args.client c.in-Some._flags c.close_framebuffers.new.modes c.release_all.new.names c.release_all.new.objects c.requires (are c) (leases_are c) c.laws-3.ensures c.close_framebuffers.ensures.loses is (leaves c) h))
