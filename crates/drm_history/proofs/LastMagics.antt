-- Each magic is that of the last GET_MAGIC that answered its number under its master, spent or not.
use Rattle.std.proofs.Common.{◌≡◌, ℕ, ◌≤◌, ◌==◌, true, not, length, Option, None, Some, refl, sym, ap, ◌∙◌, subst, arith}
use Rattle.std.specs.Prelude.{IfSome}
use Rattle.std.specs.List.{list_any, AllByRecursion}
use Rattle.std.specs.Option.{option_map}
use Rattle.std.proofs.lemmas.Bool.{eqb-true, ltb-true}
use Rattle.drm_index_array.specs.Orders.{InOrder}
use Rattle.drm_index_array.proofs.Lists.{all_weaker, all_each, filter-shorter}
use Rattle.drm_index_array.proofs.FoundInLists.{is_some-find, none_found}
use Rattle.drm_table.specs.declared.calls.Call.TheVariants.{GetMagic, AuthMagic}
use Rattle.drm_table.specs.declared.events.Event.{Event}
use Rattle.drm_table.specs.declared.events.Event.TheVariants.{Open, Ask, Close}
use Rattle.drm_table.specs.declared.events.Opening.{Opening}
use Rattle.drm_table.specs.declared.events.Opening.TheVariants.{Primary, Render, Lease}
use Rattle.drm_model.specs.Rows.{Rows, ClientRow, MagicRow, is_client, magic_row, has_client_room}
use Rattle.drm_history.proofs.ChangedRows.{LeftBy, magics_after, ForMagic}
use Rattle.drm_model.specs.Magics.{caller_master, magic_of, is_open_magic}
use Rattle.drm_model.specs.Clients.{opening_checks, closed}
use Rattle.drm_model.specs.Calls.{meaning}
use Rattle.drm_model.specs.Verdict.{verdict, checks}
use Rattle.drm_model.proofs.StepNumbers.{client-same}
use Rattle.drm_model.proofs.EventChanges.{client_after, client_stays, new_client_row, magic_stays, magic_after, got_magic, new_magic_row, each_edits}
use Rattle.drm_model.specs.Change.{changed, swept, journaled}
use Rattle.drm_model.proofs.Journals.{after_verdict-limits, asked-count, opened-count}
use Rattle.drm_history.proofs.Rules.{each_holds, caller_open}
use Rattle.drm_history.proofs.Few.{ClientOpen, AreApart, MagicsFit}
use Rattle.drm_index_array.proofs.Edits.{any_edited, either, in_order_edited, left, listed}

-- ---- the clients of magics stay open, and have one each

client_left : (w : Rows) (event : Event) (row : MagicRow) → LeftBy w event row → (client : ClientRow)
    → is_client row.client client ≡ true → client_stays w event client ≡ true
client_left w (Close c) row left client e = ap (λ n. not (n == c)) (eqb-true client.client row.client e) ∙ ap not left
client_left w (Ask c call) row left client e = refl
client_left w (Open opening) row left client e = refl

still_open : (w : Rows) (event : Event) (row : MagicRow) → ClientOpen w.clients row → LeftBy w event row
    → ClientOpen (changed w event).clients row
still_open w event row h left =
    ap (λ (v : Rows). list_any (is_client row.client) v.clients) (each_edits w event)
    ∙ any_edited (client_stays w event) (client_after w event) (listed (new_client_row w event)) w.clients
    (is_client row.client)
    (λ client e. (client_left w event row left client e, ap (λ n. n == row.client) (client-same w event client) ∙ e)) h

open_new : (w : Rows) (event : Event) → verdict w event ≡ None → ForMagic (ClientOpen (changed w event).clients) w event
unfolding changed meaning
open_new w (Ask c GetMagic) v = λ e. sym (is_some-find (is_client c) w.clients) ∙ caller_open w c GetMagic v
open_new w (Ask c call) v = tt
open_new w (Open opening) v = tt
open_new w (Close c) v = tt

no_magic_row : (o : Option MagicRow) → option_map (λ (row : MagicRow). row.number) o ≡ None → o ≡ None
no_magic_row None e = refl
no_magic_row (Some row) e = absurd (let n : Some row.number ≡ None = e in cc)

-- A client without a number of a magic has no row of one.
pub none_of : (w : Rows) (c : ℕ) → magic_of w c ≡ None → magic_row w c ≡ None
none_of w c e = no_magic_row (magic_row w c) e

-- a new magic is of a client that has none
new-apart : (w : Rows) (event : Event)
    → AllByRecursion (λ row. IfSome (new_magic_row w event) (AreApart (magic_after w event row))) w.magics
new-apart w (Ask c GetMagic) = got (magic_of w c) refl
  where
    got : (magic : Option ℕ) → magic_of w c ≡ magic
        → AllByRecursion (λ row. IfSome (got_magic w c magic) (AreApart row)) w.magics
    got (Some number) e = all_each (λ row. Unit {0}) (λ row. tt) w.magics
    got None e = none_found (λ (row : MagicRow). row.client == c) w.magics (none_of w c e)
new-apart w (Ask c call) = all_each (λ row. Unit {0}) (λ row. tt) w.magics
new-apart w (Open opening) = all_each (λ row. Unit {0}) (λ row. tt) w.magics
new-apart w (Close c) = all_each (λ row. Unit {0}) (λ row. tt) w.magics

magic-same : (w : Rows) (event : Event) (row : MagicRow) → (magic_after w event row).client ≡ row.client
magic-same w (Ask c (AuthMagic magic)) row =
    either (λ (x : MagicRow). x.client ≡ row.client) (is_open_magic (caller_master w c) magic row)
    (record row { spent = true }) row refl refl
magic-same w (Ask c call) row = refl
magic-same w (Open opening) row = refl
magic-same w (Close c) row = refl

still_apart : (w : Rows) (event : Event) → InOrder AreApart w.magics → InOrder AreApart (changed w event).magics
still_apart w event h =
    subst (InOrder AreApart) (sym (ap (λ (v : Rows). v.magics) (each_edits w event)))
    (in_order_edited (magic_stays w event) (magic_after w event) (new_magic_row w event) w.magics AreApart (λ x y k. rw (magic-same w event x, magic-same w event y) k)
    (all_weaker (λ row. IfSome (new_magic_row w event) (AreApart (magic_after w event row))) (λ row. magic_stays w event row ≡ true → IfSome (new_magic_row w event) (AreApart (magic_after w event row))) (λ row k _. k) w.magics (new-apart w event)) h)

room : (w : Rows) (opening : Opening) → verdict w (Open opening) ≡ None → has_client_room w ≡ true
unfolding checks opening_checks
room w (Primary root universal) v = (each_holds w (Open (Primary root universal)) v).0
room w Render v = (each_holds w (Open Render) v).0
room w (Lease token root universal) v = (each_holds w (Open (Lease token root universal)) v).1.0

still_few : (w : Rows) (event : Event) → verdict w event ≡ None → length w.clients ≤ w.limits.clients
    → length (changed w event).clients ≤ w.limits.clients
unfolding changed closed
still_few w (Open opening) v h = let lt = ltb-true (length w.clients) w.limits.clients (room w opening v) in let more = opened-count w opening in omega (arith, lt, more)
still_few w (Ask c call) v h = let same = asked-count w c call in omega (arith, h, same)
still_few w (Close c) v h = let fewer = filter-shorter (λ (row : ClientRow). not (row.client == c)) w.clients in omega (arith, h, fewer)

-- After an accepted event each open client still has one magic at most, and no more clients are open than allowed.
pub fit_carried : (w : Rows) (event : Event) → verdict w event ≡ None → MagicsFit w
    → MagicsFit (journaled (swept (changed w event)))
unfolding swept
fit_carried w event v h =
    let limits = after_verdict-limits w event None in (
      still_apart w event h.0,
      magics_after w (ClientOpen w.clients) (ClientOpen (changed w event).clients) (λ row k. k) event
          (still_open w event) (open_new w event v) h.1,
      subst (λ l. length (changed w event).clients ≤ l.clients) (sym limits) (still_few w event v h.2),
    )
