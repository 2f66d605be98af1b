-- The results of a script are answers from an empty device.
use Rattle.std.proofs.Common.{◌≡◌, ℕ, List, [], ◌∷◌, ◌++◌, refl, sym, ap, subst, ◌∙◌, append-nil, Result, Ok, Err}
use Rattle.drm_table.specs.declared.answers.Answer.{Answer}
use Rattle.drm_table.specs.declared.apart.Apart.{Apart}
use Rattle.drm_table.specs.declared.events.Event.{Event}
use Rattle.drm_table.specs.declared.limits.Limits.{Limits}
use Rattle.drm_modes.specs.Topology.{Topology}
use Rattle.drm_model.specs.Rows.{Rows, empty_rows}
use Rattle.drm_model.specs.Run.{DeviceValue, Answers, journaled_events, journaled_in, rows_of, run}
use Rattle.drm_model.proofs.Runs.{answers_push}
use Rattle.drm_runs.specs.Script.{Setting, Place, Script, AskFor, IsAt, IsNowhere, event_of, journaled_by, empty_device, limited_to, AnswersFromEmpty}
use Rattle.drm_runs.specs.Script.Place.{Planned, Made, Refused}
use Rattle.drm_runs.specs.Script.Script.{start, line}
use Rattle.drm_runs.specs.Script.Uses.{skipped, limited, asked}
use Rattle.drm_runs.specs.Script.AskFor.{nothing, skipped_line, limits_line, command_line}
use Rattle.drm_runs.proofs.RunLemmas.{unmade}

-- the device of a place is one
one_place : (device : Place) (a b : DeviceValue) → IsAt device a → IsAt device b → a ≡ b
one_place (Planned setting) a b p q = p ∙ sym q
one_place (Made made) a b p q = p ∙ sym q
one_place Refused a b p q = absurd p

no_events : (w : Rows) (events : List Event) (v : Rows) → Answers w events [] v → events ≡ []
unfolding Answers
no_events w [] v h = refl
no_events w (e ∷ es) v h = absurd h

same_setting : (a b : Setting) → Planned a ≡ Planned b → a ≡ b
same_setting a b e = cc

-- the events that were noted, where one more was answered
journaled-push : (w : Rows) (events : List Event) (results : List (Result Answer Apart)) (v : Rows) (event : Event) (result : Result Answer Apart)
    → Answers w events results v
    → journaled_events (events ++ event ∷ []) (results ++ result ∷ []) ≡ journaled_events events results ++ journaled_events (event ∷ []) (result ∷ [])
unfolding Answers
journaled-push w [] [] v event result a = refl
journaled-push w (e ∷ es) (Ok x ∷ rs) v event result a =
    ap (λ (z : List Event). e ∷ z) (journaled-push a.0 es rs v event result a.2)
journaled-push w (e ∷ es) (Err x ∷ rs) v event result a = journaled-push a.0 es rs v event result a.2
journaled-push w [] (r ∷ rs) v event result a = absurd a
journaled-push w (e ∷ es) [] v event result a = absurd a

abbrev with_journal : Topology → Limits → List Event → DeviceValue
with_journal topology limits journal = record { topology = topology; limits = limits; journal = journal }

one_more : (topology : Topology) (limits : Limits) (journal : List Event) (before after : DeviceValue) (event : Event) (result : Result Answer Apart)
    → before ≡ with_journal topology limits journal
    → after ≡ journaled_by before event result
    → after ≡ with_journal topology limits (journal ++ journaled_events (event ∷ []) (result ∷ []))
one_more topology limits journal before after event (Ok answer) h e =
    e ∙ ap (λ (b : DeviceValue). journaled_in b event) h
one_more topology limits journal before after event (Err apart) h e =
    e ∙ h ∙ ap (with_journal topology limits) (sym (append-nil journal))

-- The results of a script are the answers of an empty device to the events of its lines.
pub answered : {setting : Setting} {lines : List (List ℕ)} {results : List (Result Answer Apart)} {device : Place} {labels : List ℕ}
    → Script setting lines results device labels
    → AnswersFromEmpty setting.topology lines results device labels
unfolding Answers rows_of run
answered {setting} start = (setting.limits, [], nothing, empty_device setting, refl, refl, refl)
answered {setting} (line {lines = lines} {results = results} {device = device} {labels = labels} {next = next} s b (skipped h)) =
    let a = answered s in
    let P : List (Result Answer Apart) → Type 0 =
    λ r. AnswersFromEmpty setting.topology (lines ++ next ∷ []) r device labels in
    subst P (sym (append-nil results)) (a.0, a.1, skipped_line next a.2 h, a.3, a.4, a.5, a.6)
answered {setting} (line {lines = lines} {results = results} {device = device} {labels = labels} {next = next} s b (limited {setting = other} {limits = limits} n h)) =
    let a = answered s in
    let u = unmade s (subst IsNowhere (sym n) tt) in
    let same : other ≡ setting = same_setting other setting (sym n ∙ u.1) in
    let quiet : a.1 ≡ [] =
    no_events _ a.1 (rows_of a.3)
    (subst (λ r. Answers (empty_rows setting.topology a.0) a.1 r (rows_of a.3)) u.0 a.5) in
    let asks : AskFor (lines ++ next ∷ []) results [] labels =
    subst (λ es. AskFor (lines ++ next ∷ []) results es labels) quiet (limits_line next limits a.2 h) in
    let begun : rows_of (empty_device (limited_to other limits)) ≡ empty_rows setting.topology limits =
    ap (λ (x : Setting). rows_of (empty_device (limited_to x limits))) same in
    let P : List (Result Answer Apart) → Type 0 = λ r. Answers (empty_rows setting.topology limits) [] r (rows_of (empty_device (limited_to other limits))) in (
      limits,
      [],
      subst (λ r. AskFor (lines ++ next ∷ []) r [] labels) (sym (append-nil results)) asks,
      empty_device (limited_to other limits),
      refl,
      subst P (sym (append-nil results ∙ u.0)) begun,
      ap (λ (x : Setting). empty_device (limited_to x limits)) same,
    )
answered {setting} (line {lines = lines} {results = results} {device = device} {labels = labels} {next = next} s b (asked {command = command} {result = result} {after = after} before h i t)) =
    let a = answered s in
    let here : a.3 ≡ before = one_place device a.3 before a.4 i in
    let event = event_of labels command in
    let until : Answers (empty_rows setting.topology a.0) a.1 results (rows_of before) =
    subst (λ (d : DeviceValue). Answers (empty_rows setting.topology a.0) a.1 results (rows_of d)) here a.5 in
    let journal =
    one_more setting.topology a.0 (journaled_events a.1 results) before after event result (sym here ∙ a.6)
    t.journaled in
    let more = journaled-push (empty_rows setting.topology a.0) a.1 results (rows_of a.3) event result a.5 in (
      a.0,
      a.1 ++ event ∷ [],
      command_line next command result a.2 h,
      after,
      refl,
      answers_push (empty_rows setting.topology a.0) a.1 results (rows_of before) event result (rows_of after) until
          t.answered,
      journal ∙ ap (with_journal setting.topology a.0) (sym more),
    )
