-- A device that nothing was asked of while it was shared.
use Rattle.std.proofs.Common.{◌≡◌, ℕ, suc, List, [], ◌∷◌, ◌++◌, length, refl, sym, ap, ◌∙◌, append-nil, length-append, arith}
use Rattle.drm_table.specs.declared.events.Event.{Event}
use Rattle.drm_model.specs.Run.{DeviceValue, FoundRoom, start_of}
use Rattle.drm_turns.specs.declared.history.Entry.{Entry}
use Rattle.drm_turns.specs.History.{StartsWith, device_at, events_of, journaled_before}
use Rattle.drm_turns.proofs.GrowingHistories.{replayed-events, replayed-legal}
use Rattle.drm_listeners.specs.Serving.{Continues}

events-length : (es : List Entry) → length (events_of es) ≡ length es
events-length [] = refl
events-length (e ∷ es) = ap suc (events-length es)

no-more : {A : Type 0} (xs : List A) → length xs ≡ 0 → xs ≡ []
no-more [] e = refl
no-more (x ∷ xs) e = absurd (omega (arith, e))

-- what it had recorded before is its history
device-before : (before : DeviceValue) → device_at before (journaled_before before) ≡ before
device-before before =
    ap (λ (es : List Event). record before { journal = es }) (replayed-events (start_of before) before.journal)

-- A device to which no event was sent while it was shared continues unchanged.
pub as-before : (before : DeviceValue) → FoundRoom (start_of before) before.journal → Continues before before
as-before before found = record {
  log = journaled_before before;
  device = sym (device-before before);
  legal = replayed-legal (start_of before) before.journal found;
  begins = ([], sym (append-nil (journaled_before before)));
}

-- A device whose history begins with what it recorded before, and is as long, is unchanged.
pub same-device : (before after : DeviceValue) (log : List Entry) → after ≡ device_at before log
    → StartsWith log (journaled_before before) → length after.journal ≡ length before.journal → after ≡ before
same-device before after log is begins count =
    let journaled : List Entry = journaled_before before in
    let events = ap (λ (d : DeviceValue). length d.journal) is in
    let entries = events-length log in
    let parts = ap (λ (l : List Entry). length l) begins.1 ∙ length-append journaled begins.0 in
    let told = events-length journaled in
    let noted = ap (λ (l : List Event). length l) (replayed-events (start_of before) before.journal) in
    let none = no-more begins.0 (omega (arith, events, entries, parts, told, noted, count)) in
    is
    ∙ ap (λ (l : List Entry). device_at before l)
    (begins.1 ∙ ap (λ (l : List Entry). journaled ++ l) none ∙ append-nil journaled)
    ∙ device-before before
