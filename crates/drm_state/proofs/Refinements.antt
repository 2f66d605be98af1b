-- The cases of a refinement.
use Rattle.std.proofs.Common.{◌≡◌, ℕ, List, [], ◌∷◌, ◌++◌, Option, None, Some, Ok, Err, refl, sym, ◌∙◌, ap, subst, cond, true, false, not, ◌<◌, ◌≤◌, length, inl, inr, arith, length-append}
use Rattle.std.specs.Prelude.{nat_le, nat_lt}
use Rattle.std.specs.declared.alloc.AllocError.{AllocError}
use Rattle.std.specs.Option.{unwrap_or}
use Rattle.std.proofs.lemmas.Bool.{le-ltb, lt-ltb}
use Rattle.std.proofs.lemmas.Bool.Decides.{nat_tests}
use Rattle.std.proofs.lemmas.List.{length-map}
use Rattle.drm_table.specs.declared.answers.Answer.{Answer}
use Rattle.drm_table.specs.declared.answers.Answer.TheVariants.{Denied}
use Rattle.drm_table.specs.declared.calls.Call.{Call}
use Rattle.drm_table.specs.declared.events.Event.{Event}
use Rattle.drm_table.specs.declared.events.Event.TheVariants.{Open, Ask}
use Rattle.drm_table.specs.declared.events.Opening.{Opening}
use Rattle.drm_table.specs.declared.rules.Rule.{Rule}
use Rattle.drm_table.specs.Permit.{Check, first_failing, permit_checks}
use Rattle.drm_table.specs.Table.{flags_of}
use Rattle.drm_model.specs.Buffers.{with_object}
use Rattle.drm_model.specs.Rows.{Rows, ClientRow, step_number, client_row, free_handle, has_client_room, has_object_room}
use Rattle.drm_model.specs.Masters.{credentials_in}
use Rattle.drm_model.specs.Calls.{meaning}
use Rattle.drm_model.specs.Verdict.{verdict, checks, admission_checks, is_known, is_laid_out}
use Rattle.drm_model.specs.Clients.{opening_checks}
use Rattle.drm_model.specs.Change.{after, after_verdict, changed, swept, journaled}
use Rattle.drm_model.specs.Reply.{reply, reply_by, answer_of}
use Rattle.drm_model.specs.Run.{Growing, IsLonger}
use Rattle.drm_state.specs.declared.state.State.{State}
use Rattle.drm_state.specs.Parts.{client_row_of, object_row_of}
use Rattle.drm_state.specs.Invariants.{MeetsInvariants}
use Rattle.drm_model.specs.Parts.{Part, Clients}
use Rattle.drm_state.specs.Refinement.{represents_part, Represents, IsRefined, MadeBuffer, RefinesCall, RefinesReply, Refines, RefinesAnswer}
use Rattle.drm_state.proofs.Represented.{bounds_are, clients_are, objects_are}
use Rattle.drm_state.proofs.Sweeps.{unswept}

noted_represents : (s : State) (w : Rows) → Represents s w → (part : Part) → represents_part part s (journaled w)
unfolding represents_part
noted_represents s w h Clients = h Clients
noted_represents s w h part = h part

-- A denied event leaves the state and is answered with the rule of its verdict.
pub denied : (s : State) (w : Rows) (event : Event) (rule : Rule) → verdict w event ≡ Some rule → Represents s w
    → IsRefined w event (Ok (Denied rule)) s
unfolding reply after
denied s w event rule e h =
    (ap (λ v. reply_by v w event) (sym e), subst (λ v. Represents s (after_verdict v w event)) (sym e) (noted_represents s w h))

-- An accepted event is answered by the model's answer, and the state then represents the swept rows.
pub carried : (s : State) (w : Rows) (event : Event) (answer : Answer) → verdict w event ≡ None
    → answer ≡ answer_of w event → Represents s (swept (changed w event)) → IsRefined w event (Ok answer) s
unfolding reply after
carried s w event answer e a h =
    (a ∙ ap (λ v. reply_by v w event) (sym e), subst (λ v. Represents s (after_verdict v w event)) (sym e) (noted_represents s (swept (changed w event)) h))

-- An accepted event that removes nothing is answered by the model's answer, and the state represents the rows after
-- it.
pub carried_on : (s : State) (w : Rows) (event : Event) (answer : Answer) → MeetsInvariants s → verdict w event ≡ None
    → answer ≡ answer_of w event → Represents s (changed w event) → IsRefined w event (Ok answer) s
carried_on s w event answer t e a h = carried s w event answer e a (unswept s (changed w event) t h)

-- An accepted event that adds a row may be refused for lack of memory, with the state unchanged.
pub refused : (s : State) (w : Rows) (event : Event) (error : AllocError) → verdict w event ≡ None
    → IsLonger w (changed w event) → Represents s w → IsRefined w event (Err error) s
unfolding Growing
refused s w event error e l h = ((e, l), h)

-- A function that needs no memory for its answer refines the event with this answer.
pub is_done : (old : State) (step_number : ℕ) (event : Event) (answer : Answer) (new : State)
    → RefinesAnswer old event answer new → Refines old step_number event (Ok answer) new
unfolding RefinesAnswer Refines
is_done old step_number event answer new h = λ w s. h w s.rows

-- An answer to a call that needs no memory is a result of that call.
pub is_answered : (old : State) (step_number c : ℕ) (call : Call) (answer : Answer) (new : State)
    → RefinesReply old c call answer new → RefinesCall old step_number c call (Ok answer) new
unfolding RefinesReply RefinesCall
is_answered old step_number c call answer new h = λ w s a. h w s.rows a

-- An opening is denied by its first check that fails.
pub opening_verdict : (w : Rows) (opening : Opening)
    → verdict w (Open opening) ≡ first_failing (opening_checks w opening)
unfolding verdict checks
opening_verdict w opening = refl

first_failing-append : (xs ys : List Check) → first_failing xs ≡ None → first_failing (xs ++ ys) ≡ first_failing ys
first_failing-append [] ys h = refl
first_failing-append (x ∷ xs) ys h =
    (elim x.holds as (λ b. cond b (first_failing xs) (Some x.rule) ≡ None → cond b (first_failing (xs ++ ys)) (Some x.rule) ≡ first_failing ys)
    [ true ↦ first_failing-append xs ys | false ↦ λ e. cc ]) h

-- An admitted call is denied by the first rule of the call that fails.
pub call_verdict : (w : Rows) (c : ℕ) (call : Call) → first_failing (admission_checks w c call) ≡ None
    → verdict w (Ask c call) ≡ first_failing (meaning w c call).checks
unfolding verdict checks
call_verdict w c call h = first_failing-append (admission_checks w c call) (meaning w c call).checks h

first_failing-front : (xs ys : List Check) (rule : Rule) → first_failing xs ≡ Some rule
    → first_failing (xs ++ ys) ≡ Some rule
first_failing-front [] ys rule h = cc
first_failing-front (x ∷ xs) ys rule h =
    (elim x.holds as (λ b. cond b (first_failing xs) (Some x.rule) ≡ Some rule → cond b (first_failing (xs ++ ys)) (Some x.rule) ≡ Some rule)
    [ true ↦ first_failing-front xs ys rule | false ↦ λ e. e ]) h

-- A call that is not admitted is denied by the rule that does not admit it.
pub unadmitted : (w : Rows) (c : ℕ) (call : Call) (rule : Rule) → first_failing (admission_checks w c call) ≡ Some rule
    → verdict w (Ask c call) ≡ Some rule
unfolding verdict checks
unadmitted w c call rule h = first_failing-front (admission_checks w c call) (meaning w c call).checks rule h

-- A known call of an open client is admitted exactly if the client's flags permit it.
pub admitted_by_permit : (w : Rows) (c : ℕ) (call : Call) (row : ClientRow) → is_known call ≡ true
    → is_laid_out call ≡ true → client_row w c ≡ Some row →
    first_failing (admission_checks w c call) ≡ first_failing
    (permit_checks (flags_of call) (credentials_in w (Some row)))
unfolding admission_checks
admitted_by_permit w c call row k l o = rw (k, l, o) refl

client_count : (s : State) (w : Rows) → Represents s w → length w.clients ≡ length s.files.clients
client_count s w h = ap length (clients_are s w h) ∙ length-map s.files.clients (client_row_of s.masters.members)

-- The rows have as many open clients as the state.
pub represented_count : (s : State) (w : Rows) → Represents s w → length w.clients ≡ length s.files.clients
represented_count s w h = client_count s w h

not_most : (n most : ℕ) → nat_lt n most ≡ not (nat_le most n)
not_most n most = grind (arith, nat_tests)

-- The rows have room for one more client exactly if the state has.
pub client_room : (s : State) (w : Rows) → Represents s w
    → has_client_room w ≡ not (nat_le s.files.limit (length s.files.clients))
client_room s w h =
    ap (λ n. nat_lt n w.limits.clients) (client_count s w h)
    ∙ ap (nat_lt (length s.files.clients)) (sym (bounds_are s w h).0) ∙ not_most (length s.files.clients) s.files.limit

object_count : (s : State) (w : Rows) → Represents s w → length w.objects ≡ length s.objects.objects
object_count s w h = ap length (objects_are s w h) ∙ length-map s.objects.objects object_row_of

object_room_is : (s : State) (w : Rows) → Represents s w
    → has_object_room w ≡ nat_lt (length s.objects.objects) s.objects.limit
object_room_is s w h =
    ap (λ n. nat_lt n w.limits.objects) (object_count s w h)
    ∙ ap (nat_lt (length s.objects.objects)) (sym (bounds_are s w h).2)

-- If the state is full of objects, the rows have no room for one more.
pub no_object_room : (s : State) (w : Rows) → Represents s w → s.objects.limit ≤ length s.objects.objects
    → has_object_room w ≡ false
no_object_room s w h many = object_room_is s w h ∙ le-ltb (length s.objects.objects) s.objects.limit many

-- If the state is not full of objects, the rows have room for one more.
pub object_room : (s : State) (w : Rows) → Represents s w → length s.objects.objects < s.objects.limit
    → has_object_room w ≡ true
object_room s w h few = object_room_is s w h ∙ lt-ltb (length s.objects.objects) s.objects.limit few

-- A new buffer makes the list of handles longer.
pub longer : (w : Rows) (c size : ℕ) → IsLonger w (with_object w c size)
unfolding with_object
longer w c size =
    inr
    (inr (inr (inl (omega (arith, length-append w.holds (record { client = c; handle = unwrap_or (free_handle w c) 0; object = step_number w; export_order = None } ∷ []))))))

-- If no handle was free, making a buffer failed, and the state is the one of that case.
pub made_none : (w : Rows) (c size : ℕ) (s : State) (r : Option ℕ) → r ≡ None → MadeBuffer w c size (Ok r) s
    → MadeBuffer w c size (Ok None) s
made_none w c size s r e h = subst (λ o. MadeBuffer w c size (Ok o) s) e h

-- If a handle was free, making a buffer returned it, and the state is the one of that case.
pub made_some : (w : Rows) (c size : ℕ) (s : State) (r : Option ℕ) (handle : ℕ) → r ≡ Some handle
    → MadeBuffer w c size (Ok r) s → MadeBuffer w c size (Ok (Some handle)) s
made_some w c size s r handle e h = subst (λ o. MadeBuffer w c size (Ok o) s) e h
