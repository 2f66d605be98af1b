-- Histories that grow by one entry.
use Rattle.std.proofs.Common.{◌≡◌, ◌≢◌, ℕ, suc, ◌==◌, Bool, true, false, List, [], ◌∷◌, ◌++◌, sym, refl, ap, ◌∙◌, arith, append_assoc, append-nil, cond, eq-eqb, ne_eqb}
use Rattle.drm_table.specs.declared.events.Event.{Event}
use Rattle.drm_model.specs.Rows.{Rows}
use Rattle.drm_model.specs.Change.{after}
use Rattle.drm_model.specs.Reply.{reply}
use Rattle.drm_model.specs.Run.{FoundRoom, DeviceValue, no_room, rows_of, run, start_of}
use Rattle.drm_turns.specs.declared.history.Entry.{Entry}
use Rattle.drm_turns.specs.History.{IsLegal, Legal, StartsWith, calls_by, entry, events_of, replayed, rows_after}

-- The events of a history with one more entry end with the entry's event.
pub events-snoc : (log : List Entry) (e : Entry) → events_of (log ++ e ∷ []) ≡ events_of log ++ e.event ∷ []
events-snoc [] e = refl
events-snoc (x ∷ xs) e = ap (λ l. x.event ∷ l) (events-snoc xs e)

skips : (b : Bool) (x : Entry) (a c d : List Entry) → a ≡ c ++ d → cond b (x ∷ a) a ≡ cond b (x ∷ c) c ++ d
skips true x a c d is = ap (λ l. x ∷ l) is
skips false x a c d is = is

-- The entries of a participant in a history with one more entry are its old ones, then the new one if it is its own.
pub calls-snoc : (n : ℕ) (log : List Entry) (e : Entry)
    → calls_by n (log ++ e ∷ []) ≡ calls_by n log ++ calls_by n (e ∷ [])
calls-snoc n [] e = refl
calls-snoc n (x ∷ xs) e =
    skips (x.by == n) x (calls_by n (xs ++ e ∷ [])) (calls_by n xs) (calls_by n (e ∷ [])) (calls-snoc n xs e)

-- An entry of another participant leaves a participant's entries.
pub calls_other : (n : ℕ) (log : List Entry) (e : Entry) → e.by ≢ n → calls_by n (log ++ e ∷ []) ≡ calls_by n log
calls_other n log e ne =
    calls-snoc n log e
    ∙ (ap (λ (b : Bool). calls_by n log ++ cond b (e ∷ []) []) (ne_eqb e.by n ne) ∙ append-nil (calls_by n log))

-- The newest entry of a history, if the participant made it, is the last of its entries.
pub calls_own : (n : ℕ) (log : List Entry) (e : Entry) → e.by ≡ n
    → calls_by n (log ++ e ∷ []) ≡ calls_by n log ++ e ∷ []
calls_own n log e is = calls-snoc n log e ∙ ap (λ (b : Bool). calls_by n log ++ cond b (e ∷ []) []) (eq-eqb e.by n is)

legal-snoc : (w : Rows) (log : List Entry) (e : Entry) → Legal w log → no_room (run w (events_of log)) e.event ≡ false
    → e.answer ≡ reply (run w (events_of log)) e.event → Legal w (log ++ e ∷ [])
unfolding run
legal-snoc w [] e l room answer = (room, answer, tt)
legal-snoc w (x ∷ xs) e l room answer = (l.0, l.1, legal-snoc (after w x.event) xs e l.2 room answer)

-- A legal history stays legal with an entry whose event found room and was answered as the device answers it.
pub legal-more : (origin : DeviceValue) (log : List Entry) (e : Entry) → IsLegal origin log
    → no_room (rows_after origin log) e.event ≡ false → e.answer ≡ reply (rows_after origin log) e.event
    → IsLegal origin (log ++ e ∷ [])
unfolding rows_of
legal-more origin log e l room answer = legal-snoc (start_of origin) log e l room answer

-- A history still begins with what was seen when it has one more entry.
pub starts_more : (log seen : List Entry) (e : Entry) → StartsWith log seen → StartsWith (log ++ e ∷ []) seen
starts_more log seen e s = (s.0 ++ e ∷ [], ap (λ l. l ++ e ∷ []) s.1 ∙ append_assoc seen s.0 (e ∷ []))

-- A history begins with itself.
pub starts_whole : (log : List Entry) → StartsWith log log
starts_whole log = ([], sym (append-nil log))

-- Each history begins with the empty one.
pub starts_with_none : (log : List Entry) → StartsWith log []
starts_with_none log = (log, refl)

-- A replay has the events that were replayed.
pub replayed-events : (w : Rows) (es : List Event) → events_of (replayed w es) ≡ es
replayed-events w [] = refl
replayed-events w (e ∷ es) = ap (λ l. e ∷ l) (replayed-events (after w e) es)

-- A replay of events that found room is legal.
pub replayed-legal : (w : Rows) (es : List Event) → FoundRoom w es → Legal w (replayed w es)
unfolding FoundRoom
replayed-legal w [] f = tt
replayed-legal w (e ∷ es) f = (f.0, refl, replayed-legal (after w e) es f.1)

-- No participant made what the device had recorded before it was shared.
pub replayed-calls : (n : ℕ) (w : Rows) (es : List Event) → calls_by (suc n) (replayed w es) ≡ []
replayed-calls n w [] = refl
replayed-calls n w (e ∷ es) =
    ap
    (λ (b : Bool). cond b (entry 0 e (reply w e) ∷ calls_by (suc n) (replayed (after w e) es)) (calls_by (suc n) (replayed (after w e) es)))
    (ne_eqb 0 (suc n) (λ h. omega arith))
    ∙ replayed-calls n (after w e) es

calls-append : (n : ℕ) (xs ys : List Entry) → calls_by n (xs ++ ys) ≡ calls_by n xs ++ calls_by n ys
calls-append n [] ys = refl
calls-append n (x ∷ xs) ys =
    skips (x.by == n) x (calls_by n (xs ++ ys)) (calls_by n xs) (calls_by n ys) (calls-append n xs ys)

left_none : (xs ys : List Entry) → xs ++ ys ≡ [] → xs ≡ []
left_none [] ys e = refl
left_none (x ∷ xs) ys e = absurd (cc)

-- A participant that made no entry of a history made none of its beginning.
pub none_before : (n : ℕ) (log seen : List Entry) → StartsWith log seen → calls_by n log ≡ [] → calls_by n seen ≡ []
none_before n log seen s none =
    left_none (calls_by n seen) (calls_by n s.0) (sym (calls-append n seen s.0) ∙ (ap (calls_by n) (sym s.1) ∙ none))
