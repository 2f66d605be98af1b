-- A closing adds no row, so that it takes no memory.
use Rattle.std.proofs.Common.{[], ◌≡◌, ◌∙◌, ℕ, ◌≤◌, Bool, true, false, cond, length, None, Some, refl, ap, arith, List}
use Rattle.std.specs.Prelude.{Ok, Err, Result}
use Rattle.drm_table.specs.declared.answers.Answer.{Answer}
use Rattle.drm_table.specs.declared.answers.Answer.TheVariants.{Closed}
use Rattle.drm_table.specs.declared.apart.Apart.{Apart}
use Rattle.drm_table.specs.declared.apart.Apart.TheVariants.{JournalFull, NoMemory, Worn}
use Rattle.drm_table.specs.declared.events.Event.TheVariants.{Close}
use Rattle.drm_table.specs.declared.rules.Rule.TheVariants.{NoClient}
use Rattle.drm_model.specs.Rows.{Rows, is_open}
use Rattle.drm_model.specs.Verdict.{verdict, checks}
use Rattle.drm_model.specs.Change.{changed}
use Rattle.drm_model.specs.Reply.{reply, reply_by, answer_of}
use Rattle.drm_model.specs.Run.{Step, Growing, IsLonger, no_room}
use Rattle.drm_model.proofs.EventChanges.{client_after, client_stays, framebuffer_stays, handle_after, handle_stays, magic_after, magic_stays, master_after, object_after, token_stays, grant_stays, each_edits}
use Rattle.drm_index_array.proofs.Edits.{edited, length-edited}

longer-not : (w v : Rows) → length v.clients ≤ length w.clients → length v.masters ≤ length w.masters
    → length v.magics ≤ length w.magics →
    length v.holds ≤ length w.holds → length v.objects ≤ length w.objects → length v.names ≤ length w.names → length
    v.tokens ≤ length w.tokens →
    length v.grants ≤ length w.grants → length v.framebuffers ≤ length w.framebuffers → IsLonger w v → ⊥
longer-not w v a b c d e f g h i longer = omega (arith, longer)

-- No list but that of shown rows gets longer by a closing, so a closing never needs memory.
pub closing_adds_no_row : (w : Rows) (c : ℕ) → Growing w (Close c) → ⊥
unfolding Growing
closing_adds_no_row w c grows =
    let is = each_edits w (Close c) in
    let never = longer-not w (changed w (Close c)) in
    never
    (shorter (client_stays w (Close c)) (client_after w (Close c)) w.clients _ (ap (λ (v : Rows). v.clients) is))
    (shorter (λ row. true) (master_after w (Close c)) w.masters _ (ap (λ (v : Rows). v.masters) is))
    (shorter (magic_stays w (Close c)) (magic_after w (Close c)) w.magics _ (ap (λ (v : Rows). v.magics) is))
    (shorter (handle_stays w (Close c)) (handle_after w (Close c)) w.holds _ (ap (λ (v : Rows). v.holds) is))
    (shorter (λ row. true) (object_after w (Close c)) w.objects _ (ap (λ (v : Rows). v.objects) is))
    (shorter (λ row. true) (λ row. row) w.names _ (ap (λ (v : Rows). v.names) is))
    (shorter (token_stays w (Close c)) (λ row. row) w.tokens _ (ap (λ (v : Rows). v.tokens) is))
    (shorter (grant_stays w (Close c)) (λ row. row) w.grants _ (ap (λ (v : Rows). v.grants) is))
    (shorter (framebuffer_stays w (Close c)) (λ row. row) w.framebuffers _ (ap (λ (v : Rows). v.framebuffers) is))
    grows.1
  where
    shorter : {X : Type 0} (stays : X → Bool) (change : X → X) (xs now : List X) → now ≡ edited stays change [] xs
        → length now ≤ length xs
    shorter stays change xs now e = let all = length-edited stays change [] xs in let same = ap length e in omega (arith, all, same)

-- A closing is denied only if its client is not open, with `NoClient`.
pub closing_verdict : (w : Rows) (c : ℕ) → verdict w (Close c) ≡ cond (is_open w c) None (Some NoClient)
unfolding verdict checks
closing_verdict w c = refl

-- The closing of an open client is accepted.
pub closing_accepted : (w : Rows) (c : ℕ) → is_open w c ≡ true → verdict w (Close c) ≡ None
closing_accepted w c open_client = closing_verdict w c ∙ ap (λ b. cond b None (Some NoClient)) open_client

-- A device answers the closing of an open client with `Closed`: the journal has room, and memory is not refused.
pub closing_is_carried_out : (w : Rows) (c : ℕ) (result : Result Answer Apart) (v : Rows) → is_open w c ≡ true
    → Step w (Close c) result v → result ≡ Ok Closed
unfolding Step reply no_room answer_of
closing_is_carried_out w c (Ok answer) v open_client step =
    ap Ok (step.1 ∙ ap (λ r. reply_by r w (Close c)) (closing_accepted w c open_client))
closing_is_carried_out w c (Err JournalFull) v open_client step =
    absurd (let e : false ≡ true = rw open_client at step.0 in cc)
closing_is_carried_out w c (Err NoMemory) v open_client step = absurd (closing_adds_no_row w c step.1)
closing_is_carried_out w c (Err Worn) v open_client step = absurd step
