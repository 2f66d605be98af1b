-- The laws of a device's history and its rows.
use Rattle.std.proofs.Common.{◌≡◌, true, false, List, [], Option, None, Some, Result, refl, sym, ap, ◌∙◌, subst, arith}
use Rattle.std.specs.Option.{is_some, option_map_or}
use Rattle.std.proofs.lemmas.Bool.{eqb-true}
use Rattle.drm_index_array.proofs.Lists.{all_weaker, all_both}
use Rattle.drm_index_array.proofs.Rising.{found}
use Rattle.drm_table.specs.declared.answers.Answer.{Answer}
use Rattle.drm_table.specs.declared.apart.Apart.{Apart}
use Rattle.drm_table.specs.declared.events.Event.{Event}
use Rattle.drm_table.specs.declared.limits.Limits.{Limits}
use Rattle.drm_modes.specs.Topology.{Topology}
use Rattle.drm_model.specs.Rows.{Rows, ClientRow, MasterRow, MagicRow, client_row, is_client, empty_rows}
use Rattle.drm_model.specs.Masters.{owner_of}
use Rattle.drm_model.specs.Run.{Answers, DeviceValue, journaled_events, rows_of, start_of}
use Rattle.drm_model.proofs.StepNumbers.{step_numbers_rise}
use Rattle.drm_model.proofs.Runs.{answers-run}
use Rattle.drm_history.specs.History.{AnsweredEvent, history_of, with_journaled}
use Rattle.drm_history.proofs.AnsweredJournals.{history_of_answers}
use Rattle.drm_history.specs.MasterState.{master_state}
use Rattle.drm_history.specs.Lessees.{top_in, granted}
use Rattle.drm_history.specs.Magics.{magic_in, is_named_in, known}
use Rattle.drm_history.specs.Shown.{KeepsToOverlays}
use Rattle.drm_history.specs.SeesNothing.{KeepsSeeingNothing}
use Rattle.drm_history.specs.Authority.{AuthorityFollows, CapabilitiesFollow, OverlaysAlone, OwnerFollows, OwnersFollow, ClientsFollow, LeaseTokensFollow, LessorsFollow, LesseesFollow, GrantsFollow, EndedLesseesSeeNothing, MagicsFollow, AuthenticationFollows, MastersDiffer, HasOtherToken, HasOtherId, IsOtherMagic}
use Rattle.drm_history.proofs.AlwaysHolds.{Keeps, replied, by_verdict, at_all_times, at_each_step}
use Rattle.drm_history.proofs.Capable.{capable_told, keeps_to_overlays}
use Rattle.drm_history.proofs.Stands.{open_stands}
use Rattle.drm_history.proofs.NamedMasters.{is_there, row_there}
use Rattle.drm_history.proofs.LessorsAndIds.{Descended, IdTold, owner_same}
use Rattle.drm_history.proofs.GrantsOfHistory.{Lending, lending_denied, lending_carried}
use Rattle.drm_history.proofs.SeesNothing.{keeps_seeing_nothing}
use Rattle.drm_history.proofs.NamedMagics.{Magical, MagicTold, magical_denied, magical_carried}
use Rattle.drm_history.proofs.ClosedForGood.{closings_are_for_good}
use Rattle.drm_history.proofs.Mastership.{masters_become}
use Rattle.drm_history.proofs.Differ.{in_order_so, IsOlder, IdOwned, other_token, other_id, other_magic}
use Rattle.drm_history.proofs.Tokens.{TokenTold}
use Rattle.drm_history.proofs.Few.{AreApart}
use Rattle.drm_history.proofs.Known.{AuthTold, AuthsTold, auths_denied, auths_carried}

-- ---- of leases

lending_start : (h : DeviceValue) → Lending h.topology [] (start_of h)
unfolding master_state granted
lending_start h = ((((tt, record { owner = refl; clients = tt }), (tt, tt, tt, tt)), tt, tt), (λ m x. refl), tt, refl)

keeps_lending : (t : Topology) → Keeps (Lending t)
keeps_lending t = by_verdict (Lending t) (lending_denied t) (lending_carried t)

lending : (h : DeviceValue) → Lending h.topology (history_of h) (rows_of h)
lending h = at_all_times (Lending h.topology) (keeps_lending h.topology) h (lending_start h)

descended : (h : DeviceValue) → Descended (history_of h) (rows_of h)
descended h = (lending h).0

-- In the rows of any history the device's master is the one that the history says.
pub owner_follows : (h : DeviceValue) → OwnerFollows (rows_of h) (history_of h)
owner_follows h = (descended h).0.0.1.owner

-- Each open client is a master exactly if the history says so, and has the master that it says.
pub clients_follow : (h : DeviceValue) → ClientsFollow (rows_of h) (history_of h)
clients_follow h c opened = let it = open_stands (history_of h) (rows_of h) (descended h).0.0.1 c opened in record { is_master = it.0; master = it.1 }

-- Each open lease token is that of the last MODE_CREATE_LEASE that answered it.
pub lease_tokens_follow : (h : DeviceValue) → LeaseTokensFollow (rows_of h) (history_of h)
lease_tokens_follow h = (descended h).0.0.0

-- Each master has the lessor that the history says.
pub lessors_follow : (h : DeviceValue) → LessorsFollow (rows_of h) (history_of h)
lessors_follow h = (descended h).1

-- The owner of each master is the top of its chain of lessors by the history.
pub owners_follow : (h : DeviceValue) → OwnersFollow (rows_of h) (history_of h)
owners_follow h =
    let p = descended h in
    let w = rows_of h in
    all_weaker (λ (row : MasterRow). is_there w.masters row.master ≡ true)
    (λ (row : MasterRow). owner_of w.masters row.master ≡ top_in (history_of h) row.master)
    (λ row there. owner_same (history_of h) w p.1 p.0.1 row.master there) w.masters (row_there w.masters)

-- Each lessee's id is that of the last MODE_CREATE_LEASE that answered it below the same owner.
pub lessees_follow : (h : DeviceValue) → LesseesFollow (rows_of h) (history_of h)
lessees_follow h = (descended h).2

-- A lease has exactly the mode objects that the history says.
pub grants_follow : (h : DeviceValue) → GrantsFollow h.topology (rows_of h) (history_of h)
grants_follow h = (lending h).1

-- In any history a client whose lease ended is answered nothing of CRTCs, connectors and planes.
pub ended_lessees_see_nothing : (h : DeviceValue) → EndedLesseesSeeNothing (history_of h)
ended_lessees_see_nothing h =
    at_each_step (Lending h.topology) (keeps_lending h.topology) KeepsSeeingNothing
    (λ past w event r p. keeps_seeing_nothing h.topology past w event p) h (lending_start h)

-- ---- of capabilities

-- An open client has the capabilities on that the history says.
pub capabilities_follow : (h : DeviceValue) → CapabilitiesFollow (rows_of h) (history_of h)
capabilities_follow h c opened = capable_told (history_of h) (rows_of h) (lending h).2 c opened

-- In any history a client with universal planes off is answered nothing of primary and cursor planes.
pub overlays_alone : (h : DeviceValue) → OverlaysAlone h.topology (history_of h)
overlays_alone h =
    at_each_step (Lending h.topology) (keeps_lending h.topology) (KeepsToOverlays h.topology)
    (λ past w event r p. subst (λ t. KeepsToOverlays t (replied w event) past) p.3 (keeps_to_overlays past w event p.2))
    h (lending_start h)

-- ---- of magics

abbrev Authentic : Topology → List AnsweredEvent → Rows → Type 0
Authentic t past w = Lending t past w × Magical past w × AuthsTold past w

authentic_start : (h : DeviceValue) → Authentic h.topology [] (start_of h)
unfolding is_named_in
authentic_start h = (lending_start h, ((tt, tt, omega arith), tt, λ d late. refl), tt)

authentic : (h : DeviceValue) → Authentic h.topology (history_of h) (rows_of h)
authentic h =
    at_all_times (Authentic h.topology)
    (by_verdict (Authentic h.topology)
    (λ past w event rule r p. (lending_denied h.topology past w event rule r p.0, magical_denied past w event rule p.1, auths_denied past w event rule p.2))
    (λ past w event r v p. let stands = p.0.0.0.0.1 in (lending_carried h.topology past w event r v p.0, magical_carried past w event r v stands p.1, auths_carried past w r stands p.1 event v p.2)))
    h (authentic_start h)

-- Each magic is that of the last GET_MAGIC that answered its number under its master.
pub magics_follow : (h : DeviceValue) → MagicsFollow (rows_of h) (history_of h)
magics_follow h =
    all_weaker (MagicTold (history_of h))
    (λ (row : MagicRow). magic_in (history_of h) row.master row.number ≡ Some row.client) (λ row told. told.0)
    (rows_of h).magics (authentic h).1.1

-- An open client is authenticated exactly if the history says so.
pub authentication_follows : (h : DeviceValue) → AuthenticationFollows (rows_of h) (history_of h)
authentication_follows h c opened = by (client_row (rows_of h) c) refl opened
  where
    by : (o : Option ClientRow) → client_row (rows_of h) c ≡ o → is_some o ≡ true
        → option_map_or (λ (row : ClientRow). row.authenticated) o false ≡ known (history_of h) c
    by None e k = absurd (let n : false ≡ true = k in cc)
    by (Some row) e k =
        let it = found (is_client c) (AuthTold (history_of h)) row (rows_of h).clients (authentic h).2 e in
        it.1 ∙ ap (known (history_of h)) (eqb-true row.client c it.0)

-- ---- all of these

authority_follows : (h : DeviceValue) → AuthorityFollows h.topology (rows_of h) (history_of h)
authority_follows h = record {
  owner = owner_follows h;
  clients = clients_follow h;
  masters = masters_become h;
  tokens = lease_tokens_follow h;
  lessors = lessors_follow h;
  owners = owners_follow h;
  ids = lessees_follow h;
  grants = grants_follow h;
  capabilities = capabilities_follow h;
  magics = magics_follow h;
  authentication = authentication_follows h;
  closed = closings_are_for_good h;
  sees_nothing = ended_lessees_see_nothing h;
  overlays = overlays_alone h;
}

-- Whatever a device answers to events, its rows follow from the history of its answers.
pub authority_of_answers : (topology : Topology) (limits : Limits) (events : List Event) (results : List (Result Answer Apart)) (v : Rows)
    → Answers (empty_rows topology limits) events results v
    → AuthorityFollows topology v (with_journaled [] events results)
unfolding rows_of
authority_of_answers topology limits events results v k =
    let h : DeviceValue = record { topology = topology; limits = limits; journal = journaled_events events results } in
    let its_rows : rows_of h ≡ v = sym (answers-run (empty_rows topology limits) events results v k) in
    subst (λ (x : Rows × List AnsweredEvent). AuthorityFollows topology x.0 x.1)
    (λ i. (its_rows i, history_of_answers h events results v k refl i)) (authority_follows h)

-- ---- no two the same

-- The masters of a device differ from each other.
pub masters_differ : (h : DeviceValue) → MastersDiffer (rows_of h)
masters_differ h =
    let past = history_of h in
    let w = rows_of h in
    let rise = (step_numbers_rise h).1.0 in
    record {
      tokens =
          in_order_so (TokenTold past) IsOlder HasOtherToken (other_token past) w.masters (lease_tokens_follow h) rise;
      ids = in_order_so (IdOwned past w.masters) IsOlder (HasOtherId w.masters) (other_id past w.masters) w.masters
          (all_both (IdTold past) (λ (row : MasterRow). owner_of w.masters row.master ≡ top_in past row.master) (IdOwned past w.masters) (λ row told owned. (told, owned)) w.masters (lessees_follow h) (owners_follow h))
          rise;
      magics =
          in_order_so (λ (row : MagicRow). magic_in past row.master row.number ≡ Some row.client) AreApart IsOtherMagic
          (other_magic past) w.magics (magics_follow h) (authentic h).1.0.0;
    }
