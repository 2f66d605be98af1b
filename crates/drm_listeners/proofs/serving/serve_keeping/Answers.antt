use Rattle.std.proofs.Common.{◌≡◌, List, ◌∙◌, length, sym, ap, subst, arith}
use Rattle.drm_model.specs.Run.{DeviceValue}
use Rattle.drm_turns.specs.declared.history.Entry.{Entry}
use Rattle.drm_turns.specs.History.{IsLegal, StartsWith, device_at, journaled_before}
use Rattle.drm_turns.specs.Participants.{Closes, ParticipantView}
use Rattle.drm_turns.proofs.ParticipantsIn.{starts_on}
use Rattle.drm_listeners.specs.Serving.{Continues, HaveSat}
use Rattle.drm_listeners.proofs.Gathering.{told-by-class}
use Rattle.drm_listeners.proofs.Keeping.{as-before, same-device}
use Rattle.drm_listeners.proofs.serving.serve_keeping.Goals as goal

pub returns-in-Ok-served-clause-history : goal.returns-in-Ok-served-clause-history
returns-in-Ok-served-clause-history g c =
    let last : ParticipantView = c.serve_counted-served.new.participant in
    let closes : Closes last c.in-Ok-close.device = c.in-Ok-close.ensures.closes in
    let sat : HaveSat c.args.counts last c.in-Ok-served.sessions.items = c.in-Ok-served.ensures.participants in
    let same = c.serve_counted-served.ensures.same in
    let log : List Entry = closes.0 in
    let origin : last.origin ≡ c.args.device = same.0.2 ∙ c.in-Ok.ensures.seen.0 in
    let begun : StartsWith last.seen (journaled_before c.args.device) =
    subst (λ (l : List Entry). StartsWith last.seen l) c.in-Ok.ensures.seen.1 same.1 in
    let told = told-by-class log c.args.counts last c.in-Ok-served.sessions.items closes.3 sat in
    record {
      log = log;
      device = closes.1 ∙ ap (λ (h : DeviceValue). device_at h log) origin;
      legal = subst (λ (h : DeviceValue). IsLegal h log) origin closes.2;
      begins = starts_on log last.seen (journaled_before c.args.device) closes.3 begun;
      sittings = sat.sittings;
      are = sat.are;
      cards = told.0;
      renders = told.1;
      roots = told.2;
      differ = sat.differ;
    }

pub returns-in-Err-clause-kept : goal.returns-in-Err-clause-kept
returns-in-Err-clause-kept g c =
    subst (λ (d : DeviceValue). Continues c.args.device d) (sym c.in-Err.ensures.refused)
    (as-before c.args.device c.journal-journal.ensures.found_room)

pub returns-in-Err-served-clause-memory : goal.returns-in-Err-served-clause-memory
returns-in-Err-served-clause-memory g c = λ is.
    let last : ParticipantView = c.serve_counted-served.new.participant in
    let still = c.in-Err-served.ensures.memory is in
    let closes : Closes last c.in-Ok-close.device = c.in-Ok-close.ensures.closes in
    let log : List Entry = closes.0 in
    let origin : last.origin ≡ c.args.device = ap (λ (s : ParticipantView). s.origin) still ∙ c.in-Ok.ensures.seen.0 in
    let seen : last.seen ≡ journaled_before c.args.device =
    ap (λ (s : ParticipantView). s.seen) still ∙ c.in-Ok.ensures.seen.1 in
    let number = ap (λ (s : ParticipantView). s.number) still ∙ c.in-Ok.ensures.number in
    let outstanding = ap (λ (s : ParticipantView). s.outstanding) still ∙ c.in-Ok.ensures.none_outstanding in
    let counted = c.in-Ok-close.ensures.counted number outstanding in
    let none = ap (λ (s : ParticipantView). s.journaled) still ∙ c.in-Ok.ensures.counts.1 in
    let before = ap (λ (d : DeviceValue). length d.journal) origin in
    same-device c.args.device c.in-Ok-close.device log (closes.1 ∙ ap (λ (h : DeviceValue). device_at h log) origin)
    (subst (λ (l : List Entry). StartsWith log l) seen closes.3)
    (omega (arith, counted, none, before))
