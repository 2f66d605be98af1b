-- The lines of a journal, event by event.
use Rattle.std.proofs.Common.{◌≡◌, ℕ, ◌<◌, Bool, true, false, List, [], ◌∷◌, ◌++◌, position, Option, None, Some, Result, Ok, Err, OnOk, OnErr, IfNone, IfSome, slice_index, refl, sym, ap, ◌∙◌, subst, append_assoc}
use Rattle.std.proofs.lemmas.Bool.{eqb-true}
use Rattle.std.proofs.lemmas.List.Quantifiers.{position-Some}
use Rattle.drm_table.specs.declared.answers.Answer.{Answer}
use Rattle.drm_table.specs.declared.apart.Apart.{Apart}
use Rattle.drm_table.specs.declared.calls.Call.{Call}
use Rattle.drm_table.specs.declared.events.Event.{Event}
use Rattle.drm_table.specs.declared.events.Event.TheVariants as events
use Rattle.drm_table.specs.declared.limits.Limits.{Limits}
use Rattle.drm_model.specs.Run.{DeviceValue, Step, journaled_in, rows_of}
use Rattle.drm_runs.specs.Lines.{ended}
use Rattle.drm_runs.specs.Script.{bound, event_of, label_bound}
use Rattle.drm_runs.proofs.InterpreterLemmas.{steps_on}
use Rattle.drm_checks.specs.Updates.{with_answer}
use Rattle.drm_checks.specs.Journals.{AddsComment, AddsLine, Comments, HasNoLabel, IsScriptOf, IsWritten, IsWrittenAs, Lines, WriterView, finds, labels_used}
use Rattle.drm_checks.specs.Journals.Comments.{commented, none}
use Rattle.drm_checks.specs.Journals.Lines.{answered}
use Rattle.drm_checks.specs.Lines.{brief_event, command_at, command_text, comment_text, written_event}

-- ---- labels

-- The label that was found for a client names it.
pub named : (client : ℕ) (labels : List ℕ) (place : ℕ) → position (finds client) labels ≡ Some place
    → slice_index labels place ≡ client
named client labels place e =
    eqb-true (slice_index labels place) client (position-Some (finds client) labels place 0 e).1

-- If a label was found for a client, a closing by this label is that client's.
pub names_closed : (client : ℕ) (labels : List ℕ) (found : Option ℕ) → found ≡ position (finds client) labels
    → IfSome found (λ place. event_of labels (command_at place (events.Close client)) ≡ events.Close client)
names_closed client labels None e = tt
names_closed client labels (Some place) e = ap events.Close (named client labels place (sym e))

-- If a label was found for a client, a request by this label is that client's.
pub names_asked : (client : ℕ) (call : Call) (labels : List ℕ) (found : Option ℕ)
    → found ≡ position (finds client) labels
    → IfSome found (λ place. event_of labels (command_at place (events.Ask client call)) ≡ events.Ask client call)
names_asked client call labels None e = tt
names_asked client call labels (Some place) e = ap (λ (n : ℕ). events.Ask n call) (named client labels place (sym e))

-- If no label was found for a client, the labels have none of it.
pub nobody : (client : ℕ) (labels : List ℕ) (found : Option ℕ) → found ≡ position (finds client) labels
    → IfNone found (position (finds client) labels ≡ None)
nobody client labels None e = sym e
nobody client labels (Some place) e = tt

-- An event has no label if its written form has none.
pub unnamed : (labels : List ℕ) (e : Event) → HasNoLabel labels (written_event e) → HasNoLabel labels e
unnamed labels (events.Open opening) h = h
unnamed labels (events.Close client) h = h
unnamed labels (events.Ask client call) h = h

-- ---- lines

-- What is behind a text is behind it in a longer one.
behind : (front text text' more : List ℕ) → text' ≡ text ++ more → front ++ text ++ more ≡ front ++ text'
behind front text text' more new = append_assoc front text more ∙ ap (λ (l : List ℕ). front ++ l) (sym new)

-- An event with a label adds its line with the answer.
pub adds : (asked : Event) (place : ℕ) (result : Result Answer Apart) (text : List ℕ) (device : DeviceValue) (labels text' : List ℕ) (device' : DeviceValue) (labels' script : List ℕ)
    → place < 26 → event_of labels (command_at place asked) ≡ asked → script ≡ command_text (command_at place asked)
    → text' ≡ text ++ ended (with_answer script (Some result)) → Step (rows_of device) asked result (rows_of device')
    → OnOk result (device' ≡ journaled_in device asked) → OnErr result (device' ≡ device)
    → labels' ≡ bound labels (label_bound (command_at place asked)) result
    → AddsLine asked text device labels text' device' labels'
adds asked place result text device labels text' device' labels' script within names is new step ok err binds =
    λ limits first before front lines.
    let more = answered asked place result lines within names (steps_on device device' asked result step ok err) in
    let line = new ∙ ap (λ s. text ++ ended (with_answer s (Some result))) is in
    subst (λ (z : List ℕ × List ℕ). Lines limits first (before ++ asked ∷ []) z.0 device' z.1)
    (λ i. (behind front text text' _ line i, sym binds i)) more

-- ---- comments

-- An event without a label adds its comment with the answer.
pub adds_comment : (asked : Event) (result : Result Answer Apart) (text : List ℕ) (device : DeviceValue) (text' : List ℕ) (device' : DeviceValue) (words : List ℕ)
    → words ≡ comment_text (brief_event asked) → text' ≡ text ++ ended (with_answer words (Some result))
    → Step (rows_of device) asked result (rows_of device') → OnOk result (device' ≡ journaled_in device asked)
    → OnErr result (device' ≡ device)
    → AddsComment asked text device text' device'
adds_comment asked result text device text' device' words is new step ok err =
    λ start first before front comments.
    let more = commented asked result comments (steps_on device device' asked result step ok err) in
    let line = new ∙ ap (λ w. text ++ ended (with_answer w (Some result))) is in
    subst (λ (z : List ℕ). Comments start first (before ++ asked ∷ []) z device') (behind front text text' _ line) more

-- What holds if a result is no error implies what follows from it.
pub on_ok : {D E : Type 0} {P Q : Type 0} (r : Result D E) → (P → Q) → OnOk r P → OnOk r Q
on_ok (Ok d) step h = step h
on_ok (Err e) step h = tt

-- ---- a journal, event by event

-- If no label is left for an event, a line says so, and the event has a comment.
pub cut_written : (limits : Limits) (first device between after : DeviceValue) (before : List Event) (e : Event) (front text said text' labels labels' : List ℕ)
    → IsWrittenAs limits first before (front ++ text) device labels true
    → HasNoLabel labels e × (said ≡ text ++ ended labels_used) × (between ≡ device)
    → AddsComment e said between text' after
    → IsWrittenAs limits first (before ++ e ∷ []) (front ++ text') after labels' false
cut_written limits first device between after before e front text said text' labels labels' lines h more =
    let start = front ++ text ++ ended labels_used in
    let none_yet : Comments start device [] (front ++ said) between =
    subst (λ (z : List ℕ × DeviceValue). Comments start device [] z.0 z.1)
    (λ i. (behind front text said _ h.1 i, sym h.2 i)) none in (
      record {
        front = before;
        next = e;
        others = [];
        lines_text = front ++ text;
        device = device;
        after = after;
        labels = labels;
        parts = refl;
        lines = lines;
        unnamed = h.0;
        comments = more start device [] front none_yet;
      },
      refl,
    )

-- Each later event has a comment, too.
pub comment_written : (limits : Limits) (first device after : DeviceValue) (before : List Event) (e : Event) (front text text' labels labels' : List ℕ)
    → IsWrittenAs limits first before (front ++ text) device labels false → AddsComment e text device text' after
    → IsWrittenAs limits first (before ++ e ∷ []) (front ++ text') after labels' false
comment_written limits first device after before e front text text' labels labels' (cut, is) more =
    let start = cut.lines_text ++ ended labels_used in (
      record {
        front = cut.front;
        next = cut.next;
        others = cut.others ++ e ∷ [];
        lines_text = cut.lines_text;
        device = cut.device;
        after = after;
        labels = cut.labels;
        parts = ap (λ (l : List Event). l ++ e ∷ []) cut.parts ∙ append_assoc cut.front (cut.next ∷ cut.others) (e ∷ []);
        lines = cut.lines;
        unnamed = cut.unnamed;
        comments =
            more start cut.device (cut.next ∷ cut.others) front
            (subst (λ (d : DeviceValue). Comments start cut.device (cut.next ∷ cut.others) (front ++ text) d) is cut.comments);
      },
      refl,
    )

is_script_as : (limits : Limits) (first : DeviceValue) (es : List Event) (text : List ℕ) (device : DeviceValue) (labels : List ℕ) (is_whole : Bool)
    → IsWrittenAs limits first es text device labels is_whole → IsScriptOf limits first es text is_whole
is_script_as limits first es text device labels true lines = record { device = device; labels = labels; lines = lines }
is_script_as limits first es text device labels false (cut, is) = cut

-- What was written for the events is their script.
pub is_script : (limits : Limits) (first : DeviceValue) (es : List Event) (text : List ℕ) (writer : WriterView)
    → IsWritten limits first es text writer → IsScriptOf limits first es text writer.is_whole
is_script limits first es text writer h = is_script_as limits first es text writer.device writer.labels writer.is_whole h
