-- After a closing no row names its client, and what its own master lent has ended; after a revocation what the lessee had.
use Rattle.std.proofs.Common.{◌≡◌, ◌∙◌, ℕ, ◌==◌, Bool, true, false, ◌&&◌, List, Option, None, Some, refl, sym, ap, subst}
use Rattle.std.specs.Prelude.{if◌then◌else◌}
use Rattle.std.specs.List.{list_any}
use Rattle.std.specs.Option.{is_some, option_map_or, option_and_then}
use Rattle.std.proofs.lemmas.Bool.{eqb-true, and_right}
use Rattle.drm_index_array.proofs.Lists.{list_any-map, none_each, none_left, none_filtered}
use Rattle.drm_table.specs.declared.events.Event.TheVariants.{Ask, Close}
use Rattle.drm_table.specs.declared.calls.Call.TheVariants.{RevokeLease}
use Rattle.drm_model.specs.Rows.{Rows, ClientRow, MasterRow, is_open, client_row}
use Rattle.drm_model.specs.Masters.{is_under, master_of}
use Rattle.drm_model.specs.Magics.{caller_master, is_master}
use Rattle.drm_model.specs.Leases.{ended, lessee_master}
use Rattle.drm_model.specs.Clients.{closed, ended_own, ended_if}
use Rattle.drm_model.specs.Calls.{meaning}
use Rattle.drm_model.specs.Verdict.{verdict}
use Rattle.drm_model.specs.Change.{after, after_verdict, changed, swept, journaled, is_living}
use Rattle.drm_model.specs.Endings.{IsForgotten, HasEnded, is_grant_of, is_open_lease}
use Rattle.drm_model.proofs.Closings.{closing_accepted}

closed_after : (w : Rows) (c : ℕ) → is_open w c ≡ true → after w (Close c) ≡ journaled (swept (closed w c))
unfolding after changed
closed_after w c open_client = ap (λ v. after_verdict v w (Close c)) (closing_accepted w c open_client)

forgotten : (w : Rows) (c : ℕ) → IsForgotten (journaled (swept (closed w c))) c
unfolding swept closed
forgotten w c = record {
  clients = none_left (λ row. row.client == c) (λ row. row.client == c) (λ row e. e) w.clients;
  magics = none_left (λ row. row.client == c) (λ row. row.client == c) (λ row e. e) w.magics;
  holds = none_left (λ row. row.client == c) (λ row. row.client == c) (λ row e. e) w.holds;
  tokens = none_left (λ row. row.client == c) (λ row. row.client == c) (λ row e. e) w.tokens;
  framebuffers = none_left (λ row. row.client == c) (λ row. row.client == c) (λ row e. e) w.framebuffers;
}

-- After an open client closes, no client, magic, handle, token or framebuffer has its number.
pub closing_forgets : (w : Rows) (c : ℕ) → is_open w c ≡ true → IsForgotten (after w (Close c)) c
closing_forgets w c open_client = subst (λ v. IsForgotten v c) (sym (closed_after w c open_client)) (forgotten w c)

-- ---- what ends with a master

-- a row of a master that is below
below : (rows : List MasterRow) (top n m : ℕ) → is_under rows top m ≡ true → (n == m) ≡ true
    → is_under rows top n ≡ true
below rows top n m under e = ap (is_under rows top) (eqb-true n m e) ∙ under

untokened : (row : MasterRow) (m : ℕ) (under : Bool) → ((row.master == m) ≡ true → under ≡ true)
    → is_open_lease m (if under then record row { lease_token = None } else row) ≡ false
untokened row m true h = and_right (row.master == m) false refl
untokened row m false h =
    elim (row.master == m) as (λ b. (b ≡ true → false ≡ true) → (b && is_some row.lease_token) ≡ false) [ true ↦ λ f. absurd (let no : false ≡ true = f refl in cc) | false ↦ λ f. refl ] h

module _ (w : Rows) (top m : ℕ) (under : is_under w.masters top m ≡ true) where
  no_grant : list_any (is_grant_of m) (ended w top).grants ≡ false
  unfolding ended
  no_grant =
      none_left (is_grant_of m) (λ row. is_under w.masters top row.master)
      (λ row e. below w.masters top row.master m under e) w.grants

  no_token : list_any (is_open_lease m) (ended w top).masters ≡ false
  unfolding ended
  no_token =
      list_any-map (is_open_lease m) _ w.masters
      ∙ none_each _
      (λ (row : MasterRow). untokened row m (is_under w.masters top row.master) (λ e. below w.masters top row.master m under e))
      w.masters

-- of the client's own master

own_ended : (w : Rows) (own : ℕ) (o : Option ClientRow)
    → option_map_or (λ (row : ClientRow). row.is_master) o false ≡ true
    → option_and_then (λ (row : ClientRow). row.master) o ≡ Some own → ended_own w o ≡ ended_if w true (Some own)
own_ended w own None e h = absurd (let no : false ≡ true = e in cc)
own_ended w own (Some row) e h = λ i. ended_if w (e i) (h i)

closed-ended : (w : Rows) (c own m : ℕ) → is_under w.masters own m ≡ true
    → ended_own w (client_row w c) ≡ ended_if w true (Some own) → HasEnded (journaled (swept (closed w c))) m
unfolding swept closed
closed-ended w c own m under e = record {
  grants = ap (λ (v : Rows). list_any (is_grant_of m) v.grants) e ∙ no_grant w own m under;
  lease_token =
      none_filtered (is_open_lease m) (λ row. is_living (closed w c) row.master) (ended_own w (client_row w c)).masters
      (ap (λ (v : Rows). list_any (is_open_lease m) v.masters) e ∙ no_token w own m under);
}

-- After the closing of a master client, neither its own master nor any below it has a grant or an open lease token.
pub closing_ends : (w : Rows) (c own m : ℕ) → is_open w c ≡ true → is_master w c ≡ true → master_of w c ≡ Some own
    → is_under w.masters own m ≡ true → HasEnded (after w (Close c)) m
closing_ends w c own m open_client master its_master under =
    subst (λ v. HasEnded v m) (sym (closed_after w c open_client))
    (closed-ended w c own m under (own_ended w own (client_row w c) master its_master))

-- of a lessee

revoked : (w : Rows) (top m : ℕ) → is_under w.masters top m ≡ true → HasEnded (journaled (swept (ended w top))) m
unfolding swept
revoked w top m under = record {
  grants = no_grant w top m under;
  lease_token =
      none_filtered (is_open_lease m) (λ row. is_living (ended w top) row.master) (ended w top).masters
      (no_token w top m under);
}

revoked_after : (w : Rows) (c lessee : ℕ) → verdict w (Ask c (RevokeLease lessee)) ≡ None
    → after w (Ask c (RevokeLease lessee)) ≡ journaled (swept (ended w (lessee_master w (caller_master w c) lessee)))
unfolding after changed meaning
revoked_after w c lessee accepted = ap (λ v. after_verdict v w (Ask c (RevokeLease lessee))) accepted

-- After an accepted MODE_REVOKE_LEASE, neither the lessee nor any below it has a grant or an open lease token.
pub revocation_ends : (w : Rows) (c lessee m : ℕ) → verdict w (Ask c (RevokeLease lessee)) ≡ None
    → is_under w.masters (lessee_master w (caller_master w c) lessee) m ≡ true
    → HasEnded (after w (Ask c (RevokeLease lessee))) m
revocation_ends w c lessee m accepted under =
    subst (λ v. HasEnded v m) (sym (revoked_after w c lessee accepted))
    (revoked w (lessee_master w (caller_master w c) lessee) m under)
