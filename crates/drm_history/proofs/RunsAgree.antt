-- Every run agrees with its history.
use Rattle.std.proofs.Common.{◌≡◌, ℕ, ◌==◌, Bool, true, false, cond, not, ◌&&◌, ◌||◌, List, [], ◌∷◌, length, find, Option, None, Some, refl, sym, ◌∙◌, ap, arith, eq-eqb, subst, Result, ◌↔◌}
use Rattle.std.specs.List.{AllByRecursion, list_any}
use Rattle.std.specs.Option.{option_map}
use Rattle.std.proofs.lemmas.Bool.{and_parts, eqb-true, or_left}
use Rattle.drm_index_array.proofs.Lists.{all_both, all_weaker, some_passing}
use Rattle.drm_table.specs.declared.answers.Answer.TheVariants.{Opened, Closed, Denied}
use Rattle.drm_table.specs.declared.calls.Call.{Call}
use Rattle.drm_table.specs.declared.calls.Call.TheVariants.{Version, SetMaster, GemClose, GemFlink, GemOpen, PrimeHandleToFd, PrimeFdToHandle, BufCreate, TokenClose, GetFb, AddFb, RmFb, CreateDumb, DestroyDumb}
use Rattle.drm_table.specs.declared.events.Event.{Event}
use Rattle.drm_table.specs.declared.events.Event.TheVariants.{Open, Ask, Close}
use Rattle.drm_table.specs.declared.events.Opening.{Opening}
use Rattle.drm_table.specs.declared.events.Opening.TheVariants.{Primary, Render, Lease}
use Rattle.drm_table.specs.declared.rules.Rule.{Rule}
use Rattle.drm_model.specs.Rows.{Rows, empty_rows, ClientRow, HandleRow, NameRow, TokenRow, FramebufferRow, step_number, client_row, is_handle}
use Rattle.drm_model.specs.Calls.{meaning}
use Rattle.drm_model.specs.Change.{after, after_verdict, changed, journaled}
use Rattle.drm_model.specs.Clients.{opened, opened_primary, closed, ended_own, ended_if}
use Rattle.drm_model.specs.Leases.{ended}
use Rattle.drm_model.specs.Magics.{is_current, is_master, mastered}
use Rattle.drm_model.specs.Reply.{reply, reply_by, answer_of}
use Rattle.drm_model.specs.Run.{Answers, DeviceValue, journaled_events, run, rows_of, start_of}
use Rattle.drm_model.specs.Verdict.{verdict}
use Rattle.drm_model.proofs.Journals.{after-steps}
use Rattle.drm_model.proofs.FewLeased.{rules_hold}
use Rattle.drm_model.proofs.Runs.{answers-run}
use Rattle.drm_table.specs.declared.answers.Answer.{Answer}
use Rattle.drm_table.specs.declared.apart.Apart.{Apart}
use Rattle.drm_table.specs.declared.limits.Limits.{Limits}
use Rattle.drm_modes.specs.Topology.{Topology}
use Rattle.drm_history.specs.History.{AnsweredEvent, recorded, history_of, with_journaled}
use Rattle.drm_history.specs.Steps.{Publishing, Name, Token, Framebuffer, given_by, taken_by, published_by, given, takes, published}
use Rattle.drm_history.specs.Holds.{Has, LastHad}
use Rattle.drm_history.specs.Laws.{IsLastAdded, holds_object, NumbersDiffer, NumbersFollow, HoldsFollow, HoldsHaveChains}
use Rattle.drm_history.proofs.HistoryFunctions.{last_under, last_is_so, gift, holder_under, Held, Published, Publisher, told, told_is_so, publisher_is_so, has_is_told, none_some}
use Rattle.drm_history.proofs.AnsweredJournals.{history_of_answers}
use Rattle.drm_history.proofs.Chained.{has_chain}
use Rattle.drm_history.proofs.HoldSteps.{object_at, no_holds, all_held, same_holder}
use Rattle.drm_history.proofs.NumberSteps.{WasAdded, adding}
use Rattle.drm_history.proofs.Facts.{Facts, FactsOf, Agrees, IsSilent, silent, taking, numbers_fewer, swept_facts}
use Rattle.drm_history.proofs.CallSteps.{Refines, asked_step, buf_create, create_dumb, gem_close, destroy_dumb, gem_flink, gem_open, prime_export, prime_import, token_close, add_fb, rm_fb, get_fb}
use Rattle.std.proofs.lemmas.Option.{same_Some}
use Rattle.drm_index_array.proofs.Numbers.{same_either}

-- ---- a step that says nothing of handles

nothing_said : (event : Event) (w : Rows) (past : List AnsweredEvent)
    → IsSilent (record { event = event; answer = answer_of w event }) → FactsOf past w
    → FactsOf (record { event = event; answer = answer_of w event } ∷ past) w
nothing_said event w past s f =
    silent past w.names w.tokens w.framebuffers (record { event = event; answer = answer_of w event }) w.holds s f

-- a new master changes clients, masters and magics
mastered_stays : (w : Rows) (past : List AnsweredEvent) (c : ℕ) (current master : Bool) → FactsOf past w
    → FactsOf past (mastered w c current master)
mastered_stays w past c true master f = f
mastered_stays w past c false true f = f
mastered_stays w past c false false f = f

module _ (w : Rows) (past : List AnsweredEvent) (c : ℕ) where
  -- a call that is not told here says nothing of handles
  each_call : (call : Call) → Refines w past c call
  unfolding meaning ended gift given takes holder_under published
  each_call (BufCreate size) = buf_create w past c size
  each_call (CreateDumb width height bpp) = create_dumb w past c width height bpp
  each_call (GemClose handle) = gem_close w past c handle
  each_call (DestroyDumb handle) = destroy_dumb w past c handle
  each_call (GemFlink handle) = gem_flink w past c handle
  each_call (GemOpen name) = gem_open w past c name
  each_call (PrimeHandleToFd handle) = prime_export w past c handle
  each_call (PrimeFdToHandle token) = prime_import w past c token
  each_call (TokenClose token) = token_close w past c token
  each_call (AddFb width height pitch bpp handle) = add_fb w past c width height pitch bpp handle
  each_call (RmFb framebuffer) = rm_fb w past c framebuffer
  each_call (GetFb framebuffer) = get_fb w past c framebuffer
  each_call SetMaster = λ s v f.
      mastered_stays w (asked_step w c SetMaster ∷ past) c (is_current w c) (is_master w c)
      (silent past w.names w.tokens w.framebuffers (asked_step w c SetMaster) w.holds (record { gives = λ d k. refl; takes_none = λ d k. refl; publishes = λ key. refl }) f)
  each_call Version =
      λ s v f. silent past w.names w.tokens w.framebuffers (asked_step w c Version) w.holds
      (record { gives = λ d k. refl; takes_none = λ d k. refl; publishes = λ key. refl }) f
  each_call call =
      λ s v f. silent past w.names w.tokens w.framebuffers (asked_step w c call) w.holds
      (record { gives = λ d k. refl; takes_none = λ d k. refl; publishes = λ key. refl }) f

opened_stays : (w : Rows) (past : List AnsweredEvent) (root universal : Bool) (m : Option ℕ) → FactsOf past w
    → FactsOf past (opened_primary w root universal m)
opened_stays w past root universal None f = f
opened_stays w past root universal (Some m) f = f

an_opening : (w : Rows) (past : List AnsweredEvent) (opening : Opening) → FactsOf past w
    → FactsOf (record { event = Open opening; answer = Opened (step_number w) } ∷ past) w
unfolding gift given takes holder_under published
an_opening w past opening f =
    silent past w.names w.tokens w.framebuffers (record { event = Open opening; answer = Opened (step_number w) })
    w.holds (record { gives = λ d k. refl; takes_none = λ d k. refl; publishes = λ key. refl }) f

-- what an own master returned has no part in it
ended_names : (w : Rows) (master : Bool) (m : Option ℕ) → (ended_if w master m).names ≡ w.names
unfolding ended
ended_names w true (Some m) = refl
ended_names w true None = refl
ended_names w false m = refl

ended_own_names : (w : Rows) (row : Option ClientRow) → (ended_own w row).names ≡ w.names
ended_own_names w None = refl
ended_own_names w (Some row) = ended_names w row.is_master row.master

a_closing : (w : Rows) (past : List AnsweredEvent) (c : ℕ) → FactsOf past w
    → FactsOf (record { event = Close c; answer = Closed } ∷ past) (closed w c)
unfolding closed gift given takes holder_under published
a_closing w past c f =
    let step : AnsweredEvent = record { event = Close c; answer = Closed } in
    let f' =
    taking past w.names w.tokens w.framebuffers step (λ d k. d == c) w.holds (λ d k. refl) (λ d k. same_either c d)
    (λ key. refl) f in
    with_names _ _ _ _ _ _ (sym (ended_own_names w (client_row w c))) (record {
      held = f'.held;
      numbers =
          numbers_fewer (step ∷ past) w.names w.tokens w.framebuffers (λ (row : TokenRow). not (row.client == c))
          (λ (row : FramebufferRow). not (row.client == c)) f'.numbers;
    })
  where
    with_names : (now : List AnsweredEvent) (holds : List HandleRow) (names same : List NameRow) (tokens : List TokenRow) (framebuffers : List FramebufferRow)
        → names ≡ same → Facts now holds names tokens framebuffers → Facts now holds same tokens framebuffers
    with_names now holds names same tokens framebuffers e f = subst (λ l. Facts now holds l tokens framebuffers) e f

-- ---- a step

accepted : (w : Rows) (past : List AnsweredEvent) (event : Event) → w.steps ≡ length past → verdict w event ≡ None
    → FactsOf past w → FactsOf (record { event = event; answer = answer_of w event } ∷ past) (changed w event)
unfolding changed opened answer_of
accepted w past (Open (Primary root universal)) s v f =
    opened_stays w _ root universal w.device_master (an_opening w past (Primary root universal) f)
accepted w past (Open Render) s v f = an_opening w past Render f
accepted w past (Open (Lease token root universal)) s v f = an_opening w past (Lease token root universal) f
accepted w past (Ask c call) s v f = each_call w past c call s (rules_hold w c call v) f
accepted w past (Close c) s v f = a_closing w past c f

-- a denial says nothing
denied_gives : (event : Event) (rule : Rule) → given_by event (Denied rule) ≡ None
denied_gives (Ask c Version) rule = refl
denied_gives (Ask c call) rule = refl
denied_gives (Open opening) rule = refl
denied_gives (Close c) rule = refl

denied_takes : (event : Event) (rule : Rule) (c h : ℕ) → taken_by event (Denied rule) c h ≡ false
denied_takes (Ask d Version) rule c h = refl
denied_takes (Ask d call) rule c h = refl
denied_takes (Open opening) rule c h = refl
denied_takes (Close d) rule c h = refl

denied_publishes : (event : Event) (rule : Rule) → published_by event (Denied rule) ≡ None
denied_publishes (Ask c Version) rule = refl
denied_publishes (Ask c call) rule = refl
denied_publishes (Open opening) rule = refl
denied_publishes (Close c) rule = refl

denied : (w : Rows) (past : List AnsweredEvent) (event : Event) (rule : Rule) → FactsOf past w
    → FactsOf (record { event = event; answer = Denied rule } ∷ past) (journaled w)
unfolding gift given takes holder_under published
denied w past event rule f =
    silent past w.names w.tokens w.framebuffers (record { event = event; answer = Denied rule }) w.holds
    (record { gives = λ c h. rw (denied_gives event rule) refl; takes_none = λ c h. denied_takes event rule c h; publishes = λ key. rw (denied_publishes event rule) refl })
    f

by_verdict : (w : Rows) (past : List AnsweredEvent) (event : Event) (v : Option Rule) → verdict w event ≡ v
    → w.steps ≡ length past → FactsOf past w →
    FactsOf (record { event = event; answer = reply_by v w event } ∷ past) (after_verdict v w event)
by_verdict w past event None e s f =
    swept_facts (record { event = event; answer = answer_of w event } ∷ past) (changed w event)
    (accepted w past event s e f)
by_verdict w past event (Some rule) e s f = denied w past event rule f

step_agrees : (w : Rows) (past : List AnsweredEvent) (event : Event) → Agrees past w
    → Agrees (record { event = event; answer = reply w event } ∷ past) (after w event)
unfolding after reply
step_agrees w past event a = record {
  steps = let journaled_one = after-steps w event in let before = a.steps in omega (arith, journaled_one, before);
  facts = by_verdict w past event (verdict w event) refl a.steps a.facts;
}

-- ---- a run

run_agrees : (events : List Event) (w : Rows) (past : List AnsweredEvent) → Agrees past w
    → Agrees (recorded w past events) (run w events)
unfolding run recorded
run_agrees [] w past a = a
run_agrees (event ∷ events) w past a =
    run_agrees events (after w event) (record { event = event; answer = reply w event } ∷ past)
    (step_agrees w past event a)

none_yet : (h : DeviceValue) → Agrees [] (start_of h)
none_yet h = record {
  steps = refl;
  facts = record {
    held = no_holds;
    numbers =
        record
        { named = record { objects = tt; differ = tt }; exported = record { numbered = record { objects = tt; differ = tt }; clients = tt }; framed = record { numbered = record { objects = tt; differ = tt }; clients = tt }; added = tt };
  };
}

-- The rows of any history agree with it.
pub agrees : (h : DeviceValue) → Agrees (history_of h) (rows_of h)
unfolding history_of rows_of
agrees h = run_agrees h.journal (start_of h) [] (none_yet h)

-- ---- the laws

-- In the rows of any history no two handles of a client, names, tokens or framebuffers have the same number.
pub numbers_differ : (h : DeviceValue) → NumbersDiffer (rows_of h)
numbers_differ h =
    let f = (agrees h).facts in
    record { handles = f.held.differ; names = f.numbers.named.differ; tokens = f.numbers.exported.numbered.differ; framebuffers = f.numbers.framed.numbered.differ }

-- the step that was reported of is the one that added the framebuffer
added_so : (past : List AnsweredEvent) (row : FramebufferRow) (last : LastHad past (Framebuffer row.framebuffer) row.client row.object) (handle : ℕ)
    → last_under past (Framebuffer row.framebuffer) ≡ Some (adding row handle) →
    last.published.step.event ≡ Ask row.client (AddFb row.width row.height row.pitch row.bpp last.handle)
unfolding published
added_so past row last handle e =
    let same : last.published.step ≡ adding row handle =
    same_Some _ (adding row handle)
    (sym (last_is_so past last.past (Framebuffer row.framebuffer) row.client last.handle last.published) ∙ e) in
    let its_handle : handle ≡ last.handle =
    ap (λ (p : Publishing). p.handle) (same_Some _ _ (sym (ap published same) ∙ last.published.under_key)) in
    ap (λ (step : AnsweredEvent). step.event) same
    ∙ ap (λ k. Ask row.client (AddFb row.width row.height row.pitch row.bpp k)) its_handle

-- In the rows of any history each name, token and framebuffer is that of the last step that published under its
-- number.
pub numbers_follow : (h : DeviceValue) → NumbersFollow h
numbers_follow h =
    let past = history_of h in
    let w = rows_of h in
    let f = (agrees h).facts.numbers in
    record {
      names =
          all_weaker (λ (row : NameRow). told past (Published (Name row.name)) ≡ Some row.object)
          (λ (row : NameRow). (c : ℕ) × LastHad past (Name row.name) c row.object)
          (λ row k. told_is_so past (Published (Name row.name)) row.object k) w.names f.named.objects;
      tokens =
          all_both (λ (row : TokenRow). told past (Published (Token row.token)) ≡ Some row.object)
          (λ (row : TokenRow). told past (Publisher (Token row.token)) ≡ Some row.client)
          (λ (row : TokenRow). LastHad past (Token row.token) row.client row.object)
          (λ row k e. publisher_is_so past (Token row.token) row.client row.object k e) w.tokens
          f.exported.numbered.objects f.exported.clients;
      framebuffers =
          all_both (λ (row : FramebufferRow). LastHad past (Framebuffer row.framebuffer) row.client row.object)
          (WasAdded past) (IsLastAdded past)
          (λ row last k. (last, added_so past row last k.0 k.1)) w.framebuffers
          (all_both (λ (row : FramebufferRow). told past (Published (Framebuffer row.framebuffer)) ≡ Some row.object) (λ (row : FramebufferRow). told past (Publisher (Framebuffer row.framebuffer)) ≡ Some row.client)
          (λ (row : FramebufferRow). LastHad past (Framebuffer row.framebuffer) row.client row.object)
          (λ row k e. publisher_is_so past (Framebuffer row.framebuffer) row.client row.object k e) w.framebuffers f.framed.numbered.objects f.framed.clients) f.added;
    }

-- a row that is found is there
found_there : (rows : List HandleRow) (c h o : ℕ) → object_at rows c h ≡ Some o
    → list_any (λ (row : HandleRow). is_handle c h row && (row.object == o)) rows ≡ true
found_there [] c h o e = none_some o e
found_there (x ∷ xs) c h o e =
    elim (is_handle c h x) as (λ b. option_map (λ (row : HandleRow). row.object) (cond b (Some x) (find (is_handle c h) xs)) ≡ Some o → ((b && (x.object == o)) || list_any (λ (row : HandleRow). is_handle c h row && (row.object == o)) xs) ≡ true)
    [ true ↦ λ k. or_left (x.object == o) _ (eq-eqb x.object o (same_Some x.object o k)) | false ↦ λ k. found_there xs c h o k ]
    e

there_found : (w : Rows) (c h o : ℕ)
    → AllByRecursion (λ (row : HandleRow). object_at w.holds row.client row.handle ≡ Some row.object) w.holds
    → holds_object w c h o ≡ true → object_at w.holds c h ≡ Some o
there_found w c h o all e =
    let row =
    some_passing (λ (row : HandleRow). is_handle c h row && (row.object == o))
    (λ (row : HandleRow). object_at w.holds row.client row.handle ≡ Some row.object) w.holds all e in
    let both = and_parts (is_handle c h row.0) (row.0.object == o) row.1 in
    sym (same_holder row.0.client row.0.handle c h (Option ℕ) (object_at w.holds) both.0) ∙ row.2
    ∙ ap (λ n. Some n) (eqb-true row.0.object o both.1)

-- In the rows of any history each client has the handles that the history grants it, of the same objects.
pub holds_follow : (h : DeviceValue) → HoldsFollow (rows_of h) (history_of h)
holds_follow h = λ c handle o.
    let f = (agrees h).facts.held in (
      λ e. told_is_so (history_of h) (Held c handle) o
          (f.agree c handle ∙ there_found (rows_of h) c handle o (all_held (rows_of h).holds f.differ) e),
      λ has. found_there (rows_of h).holds c handle o
          (sym (f.agree c handle) ∙ has_is_told o (history_of h) c handle f.kept has),
    )

-- In the rows of any history each handle has a chain to its object.
pub holds_have_chains : (h : DeviceValue) → HoldsHaveChains h
holds_have_chains h = λ c handle o e. has_chain o (history_of h) c handle ((holds_follow h c handle o).0 e)

-- Whatever a device answers to events, each client has the handles that the history of its answers grants.
pub holds_follow_answers : (topology : Topology) (limits : Limits) (events : List Event) (results : List (Result Answer Apart)) (v : Rows)
    → Answers (empty_rows topology limits) events results v →
    HoldsFollow v (with_journaled [] events results)
unfolding rows_of
holds_follow_answers topology limits events results v k =
    let h : DeviceValue = record { topology = topology; limits = limits; journal = journaled_events events results } in
    let its_rows : rows_of h ≡ v = sym (answers-run (empty_rows topology limits) events results v k) in
    (λ c handle o. subst (λ (x : Rows × List AnsweredEvent). (holds_object x.0 c handle o ≡ true) ↔ Has x.1 c handle o) (λ i. (its_rows i, history_of_answers h events results v k refl i)) (holds_follow h c handle o))
