-- What is so of all clients, masters or magics after an event that is carried out: it is so of each row that stays, as its event
-- changes it, and of the new one.
use Rattle.std.proofs.Common.{◌≡◌, ℕ, ◌==◌, true, false, not, ◌||◌, Option, None, Some, refl, sym, ap, subst, ◌∙◌}
use Rattle.std.specs.Prelude.{IfSome}
use Rattle.std.specs.List.{AllByRecursion}
use Rattle.std.proofs.lemmas.Bool.{not-true}
use Rattle.drm_index_array.proofs.Lists.{all_weaker, all_filter}
use Rattle.drm_index_array.proofs.Edits.{listed, either, all_listed, all_edited}
use Rattle.drm_table.specs.declared.calls.Call.TheVariants.{GetMagic, AuthMagic, SetMaster, CreateLease}
use Rattle.drm_table.specs.declared.events.Event.{Event}
use Rattle.drm_table.specs.declared.events.Event.TheVariants.{Open, Ask, Close}
use Rattle.drm_table.specs.declared.events.Opening.TheVariants.{Primary, Render, Lease}
use Rattle.drm_model.specs.Rows.{Rows, ClientRow, MasterRow, MagicRow, step_number}
use Rattle.drm_model.specs.Masters.{new_master}
use Rattle.drm_model.specs.Leases.{new_lessee}
use Rattle.drm_model.specs.Magics.{caller_master, magic_of, is_open_magic, is_current, is_master}
use Rattle.drm_model.specs.Change.{changed, swept, journaled, is_living}
use Rattle.drm_model.proofs.EventChanges.{client_stays, client_after, new_client_row, spends_token, master_after, founded_master, new_master_row, magic_stays, magic_after, new_magic, got_magic, new_magic_row, each_edits}

-- ---- clients

-- what is asked of a new client
abbrev pub ForClient : (ClientRow → Type 0) → Rows → Event → Type 0
ForClient R w event = IfSome (new_client_row w event) R

-- All clients have a property after an event, before the sweep, if those that stay and the new one have it.
pub changed-all : (w : Rows) (R : ClientRow → Type 0) (event : Event)
    → AllByRecursion (λ row. R (client_after w event row)) w.clients → ForClient R w event
    → AllByRecursion R (changed w event).clients
changed-all w R event h new =
    subst (AllByRecursion R) (sym (ap (λ (v : Rows). v.clients) (each_edits w event)))
    (all_edited (client_stays w event) (client_after w event) (listed (new_client_row w event)) w.clients (λ row. R (client_after w event row)) R (λ row k _. k) (all_listed R (new_client_row w event) new) h)

-- All clients have a property after an accepted event, if those that stay and the new one have it.
pub clients_after : (w : Rows) (R : ClientRow → Type 0) (event : Event) (Q : ClientRow → Type 0)
    → ((row : ClientRow) → Q row → R (client_after w event row)) → ForClient R w event →
    AllByRecursion Q w.clients → AllByRecursion R (journaled (swept (changed w event))).clients
unfolding swept
clients_after w R event Q stays new h =
    changed-all w R event (all_weaker Q (λ row. R (client_after w event row)) stays w.clients h) new

-- ---- masters

-- what is asked of a new master
abbrev pub ForMaster : (MasterRow → Type 0) → Rows → Event → Type 0
ForMaster R w (Open (Primary root universal)) = R (new_master (step_number w))
ForMaster R w (Ask c SetMaster) = R (new_master (step_number w))
ForMaster R w (Ask c (CreateLease ids)) = R (new_lessee w (caller_master w c))
ForMaster R w _ = Unit {0}

module _ (w : Rows) (Q R : MasterRow → Type 0) (stays : (row : MasterRow) → Q row → R row) (untokened : (row : MasterRow) → Q row → R (record row { lease_token = None })) where
  founded : (m : Option ℕ) → R (new_master (step_number w)) → IfSome (founded_master w m) R
  founded None new = new
  founded (Some m) new = tt

  new_one : (event : Event) → ForMaster R w event → IfSome (new_master_row w event) R
  new_one (Open (Primary root universal)) new = founded w.device_master new
  new_one (Open Render) new = tt
  new_one (Open (Lease token root universal)) new = tt
  new_one (Ask c SetMaster) new =
      either (λ (o : Option MasterRow). IfSome o R) (is_current w c || is_master w c) None
      (Some (new_master (step_number w))) tt new
  new_one (Ask c (CreateLease ids)) new = new
  new_one (Ask c call) new = tt
  new_one (Close c) new = tt

  -- All masters have a property after an event, before the sweep, if those that stay and the new one have it.
  pub masters_changed : (event : Event) → AllByRecursion Q w.masters → ForMaster R w event
      → AllByRecursion R (changed w event).masters
  masters_changed event h new =
      subst (AllByRecursion R) (sym (ap (λ (v : Rows). v.masters) (each_edits w event)))
      (all_edited (λ row. true) (master_after w event) (listed (new_master_row w event)) w.masters Q R (λ row k _. either R (spends_token w event row) (record row { lease_token = None }) row (untokened row k) (stays row k))
      (all_listed R (new_master_row w event) (new_one event new)) h)

  -- All masters have a property after an accepted event, if those that stay and the new one have it.
  pub masters_after : (event : Event) → AllByRecursion Q w.masters → ForMaster R w event
      → AllByRecursion R (journaled (swept (changed w event))).masters
  unfolding swept
  masters_after event h new =
      all_filter R (λ row. is_living (changed w event) row.master) (changed w event).masters
      (masters_changed event h new)

-- ---- magics

-- what is asked of a new magic
abbrev pub ForMagic : (MagicRow → Type 0) → Rows → Event → Type 0
ForMagic R w (Ask c GetMagic) = magic_of w c ≡ None → R (new_magic w c)
ForMagic R w _ = Unit {0}

-- what is so of a magic that stays
abbrev pub LeftBy : Rows → Event → MagicRow → Type 0
LeftBy w (Ask c SetMaster) row = is_current w c ≡ false → is_master w c ≡ false → (row.client == c) ≡ false
LeftBy w (Close c) row = (row.client == c) ≡ false
LeftBy w _ row = Unit {0}

module _ (w : Rows) (Q R : MagicRow → Type 0) (spends : (row : MagicRow) → R row → R (record row { spent = true })) where
  new_got : (c : ℕ) (magic : Option ℕ) → magic_of w c ≡ magic → (magic_of w c ≡ None → R (new_magic w c))
      → IfSome (got_magic w c magic) R
  new_got c (Some number) e new = tt
  new_got c None e new = new e

  new_magic-so : (event : Event) → ForMagic R w event → IfSome (new_magic_row w event) R
  new_magic-so (Ask c GetMagic) new = new_got c (magic_of w c) refl new
  new_magic-so (Ask c call) new = tt
  new_magic-so (Open opening) new = tt
  new_magic-so (Close c) new = tt

  left_by : (event : Event) (row : MagicRow) → magic_stays w event row ≡ true → LeftBy w event row
  left_by (Ask c SetMaster) row e =
      λ current master. not-true (row.client == c)
      (ap (λ b. b || not (row.client == c)) (sym master) ∙ ap (λ b. b || (is_master w c || not (row.client == c))) (sym current) ∙ e)
  left_by (Ask c call) row e = tt
  left_by (Open opening) row e = tt
  left_by (Close c) row e = not-true (row.client == c) e

  spent_or_not : (event : Event) (row : MagicRow) → R row → R (magic_after w event row)
  spent_or_not (Ask c (AuthMagic magic)) row k =
      either R (is_open_magic (caller_master w c) magic row) (record row { spent = true }) row (spends row k) k
  spent_or_not (Ask c call) row k = k
  spent_or_not (Open opening) row k = k
  spent_or_not (Close c) row k = k

  -- All magics have a property after an accepted event, if those that stay and the new one have it.
  pub magics_after : (event : Event) → ((row : MagicRow) → Q row → LeftBy w event row → R row) → ForMagic R w event
      → AllByRecursion Q w.magics → AllByRecursion R (journaled (swept (changed w event))).magics
  unfolding swept
  magics_after event stays new h =
      subst (AllByRecursion R) (sym (ap (λ (v : Rows). v.magics) (each_edits w event)))
      (all_edited (magic_stays w event) (magic_after w event) (listed (new_magic_row w event)) w.magics Q R (λ row k e. spent_or_not event row (stays row k (left_by event row e)))
      (all_listed R (new_magic_row w event) (new_magic-so event new)) h)
