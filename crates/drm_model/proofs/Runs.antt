-- A run that continues by one step, and what it leaves.
use Rattle.std.proofs.Common.{◌≡◌, List, [], ◌∷◌, ◌++◌, Result, Ok, Err, refl, ap, ◌∙◌, subst}
use Rattle.drm_table.specs.declared.answers.Answer.{Answer}
use Rattle.drm_table.specs.declared.apart.Apart.{Apart}
use Rattle.drm_table.specs.declared.apart.Apart.TheVariants.{JournalFull, NoMemory, Worn}
use Rattle.drm_table.specs.declared.events.Event.{Event}
use Rattle.drm_model.specs.Rows.{Rows}
use Rattle.drm_model.specs.Run.{Step, Answers, run, journaled_events}

-- If a device answered events, and then one more, it answered them all, one after the other.
pub answers_push : (w : Rows) (events : List Event) (results : List (Result Answer Apart)) (v : Rows) (event : Event) (result : Result Answer Apart) (u : Rows) →
    Answers w events results v → Step v event result u → Answers w (events ++ event ∷ []) (results ++ result ∷ []) u
unfolding Answers
answers_push w [] [] v event result u h s = (u, subst (λ x. Step x event result u) h s, refl)
answers_push w (e ∷ es) (r ∷ rs) v event result u h s = (h.0, h.1, answers_push h.0 es rs v event result u h.2 s)
answers_push w [] (r ∷ rs) v event result u h s = absurd h
answers_push w (e ∷ es) [] v event result u h s = absurd h

-- The rows after a run are those of its recorded events alone.
pub answers-run : (w : Rows) (events : List Event) (results : List (Result Answer Apart)) (v : Rows)
    → Answers w events results v → v ≡ run w (journaled_events events results)
unfolding Answers run Step
answers-run w [] [] v h = h
answers-run w (e ∷ es) (Ok a ∷ rs) v h = answers-run h.0 es rs v h.2 ∙ ap (λ x. run x (journaled_events es rs)) h.1.2
answers-run w (e ∷ es) (Err JournalFull ∷ rs) v h =
    answers-run h.0 es rs v h.2 ∙ ap (λ x. run x (journaled_events es rs)) h.1.1
answers-run w (e ∷ es) (Err NoMemory ∷ rs) v h =
    answers-run h.0 es rs v h.2 ∙ ap (λ x. run x (journaled_events es rs)) h.1.2
answers-run w (e ∷ es) (Err Worn ∷ rs) v h = absurd h.1
answers-run w [] (r ∷ rs) v h = absurd h
answers-run w (e ∷ es) [] v h = absurd h
