use Rattle.std.proofs.Common.{◌≡◌, ℕ, Option, None, Some, refl, sym, ap, ◌∙◌, subst, find}
use Rattle.std.specs.Option.{is_some, option_map}
use Rattle.drm_table.specs.declared.answers.Answer.TheVariants.{Done}
use Rattle.drm_table.specs.declared.calls.Call.TheVariants.{TokenClose}
use Rattle.drm_table.specs.declared.events.Event.TheVariants.{Ask}
use Rattle.drm_table.specs.declared.rules.Rule.TheVariants.{NoToken}
use Rattle.drm_index_array.proofs.FoundInLists.{is_some-map}
use Rattle.drm_share.specs.declared.rows.SharedToken.{SharedToken}
use Rattle.drm_share.specs.Tokens as tokens
use Rattle.drm_share.specs.Tokens.{without_token}
use Rattle.drm_model.specs.Rows.{Rows, without}
use Rattle.drm_model.specs.Sharing.{is_token_of}
use Rattle.drm_model.specs.Calls.{meaning}
use Rattle.drm_model.specs.Change.{changed, swept}
use Rattle.drm_model.specs.Reply.{answer_of}
use Rattle.drm_state.specs.declared.state.State.{State}
use Rattle.drm_state.specs.Parts.{keys_of, referring}
use Rattle.drm_state.specs.Invariants.{MeetsInvariants}
use Rattle.drm_state.specs.Refinement.{RefinesReply, Represents}
use Rattle.drm_state.proofs.Counting.{IsStep}
use Rattle.drm_state.proofs.Contents.{has_reference, unreferred_step, unrefer_limit}
use Rattle.drm_state.proofs.Refinements.{denied, carried, call_verdict}
use Rattle.drm_state.proofs.SharedLookups.{own_token_found}
use Rattle.drm_state.proofs.SharedChanges.{token_invariants, closed, closed_invariants}
use Rattle.drm_client_calls.proofs.tokens.token_close.Goals as goal

-- whether the client has the token, by what was found
is_own : (s : State) (w : Rows) (c n : ℕ) (o r : Option ℕ) → Represents s w
    → o ≡ option_map (λ (x : SharedToken). x.object) (find (tokens.is_token_of c n) s.tokens.tokens) → o ≡ r
    → is_some (find (is_token_of c n) w.tokens) ≡ is_some r
is_own s w c n o r h e f =
    own_token_found s w c n h
    ∙ sym (is_some-map (λ (x : SharedToken). x.object) (find (tokens.is_token_of c n) s.tokens.tokens))
    ∙ ap is_some (sym e ∙ f)

pub returns-in_default-clause-refines : goal.returns-in_default-clause-refines
unfolding RefinesReply meaning
returns-in_default-clause-refines c = rw c.set_denied.ensures.denied (λ w h a.
    let s = c.args.state.now in
    let none = is_own s w c.args.client c.args.token c.close.result None h c.close.ensures.object c.in_default.is in
    denied (record s { tokens = c.close.new.self }) w (Ask c.args.client (TokenClose c.args.token)) NoToken
    (call_verdict w c.args.client (TokenClose c.args.token) a ∙ rw none refl)
    (subst (λ ts. Represents (record s { tokens = ts }) w) (sym c.in_default.ensures.none) h))

pub unrefer-dead-requires : goal.unrefer-dead-requires
unrefer-dead-requires c =
    let s = c.args.state.now in
    has_reference s.objects c.in-Some.object (keys_of s.files.holds)
    (referring (without_token s.tokens c.args.token).tokens s.modes.framebuffers)
    (token_invariants s c.args.client c.args.token c.in-Some.object c.requires.invariants c.close.ensures.tokens (sym c.in-Some.is ∙ c.close.ensures.object))

step : (c : goal.After-set_done)
    → IsStep c.args.state.now.objects.objects (keys_of c.args.state.now.files.holds) (referring (without_token c.args.state.now.tokens c.args.token).tokens c.args.state.now.modes.framebuffers) c.unrefer-dead.new.self
step c =
    let s = c.args.state.now in
    unreferred_step s.objects c.unrefer-dead.new.self c.in-Some.object (keys_of s.files.holds)
    (referring (without_token s.tokens c.args.token).tokens s.modes.framebuffers) c.unrefer-dead.result
    (token_invariants s c.args.client c.args.token c.in-Some.object c.requires.invariants c.close.ensures.tokens (sym c.in-Some.is ∙ c.close.ensures.object))
    c.unrefer-dead.ensures.dead c.unrefer-dead.ensures.gone c.unrefer-dead.ensures.stays

pub returns-clause-invariants : goal.returns-clause-invariants
returns-clause-invariants c =
    let s = c.args.state.now in
    subst (λ ts. MeetsInvariants (record s { tokens = ts; objects = c.unrefer-dead.new.self }))
    (sym c.in-Some.ensures.closed)
    (closed_invariants s c.args.client c.args.token c.in-Some.object c.requires.invariants c.close.ensures.tokens (sym c.in-Some.is ∙ c.close.ensures.object) c.unrefer-dead.new.self (step c)
    (unrefer_limit s.objects c.unrefer-dead.new.self c.in-Some.object c.unrefer-dead.result c.unrefer-dead.ensures.gone c.unrefer-dead.ensures.stays))

pub returns-clause-refines : goal.returns-clause-refines
unfolding RefinesReply meaning changed answer_of
returns-clause-refines c = rw c.set_done.ensures.done (λ w h a.
    let s = c.args.state.now in
    let one =
    is_own s w c.args.client c.args.token c.close.result (Some c.in-Some.object) h c.close.ensures.object
    c.in-Some.is in
    carried (record s { tokens = c.close.new.self; objects = c.unrefer-dead.new.self }) w
    (Ask c.args.client (TokenClose c.args.token)) Done
    (call_verdict w c.args.client (TokenClose c.args.token) a ∙ rw one refl) refl
    (subst (λ ts. Represents (record s { tokens = ts; objects = c.unrefer-dead.new.self }) (swept (record w { tokens = without (is_token_of c.args.client c.args.token) w.tokens }))) (sym c.in-Some.ensures.closed)
    (closed s c.args.client c.args.token c.in-Some.object c.requires.invariants c.close.ensures.tokens (sym c.in-Some.is ∙ c.close.ensures.object) c.unrefer-dead.new.self (step c)
    (unrefer_limit s.objects c.unrefer-dead.new.self c.in-Some.object c.unrefer-dead.result c.unrefer-dead.ensures.gone c.unrefer-dead.ensures.stays) w h)))
