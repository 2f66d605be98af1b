use Rattle.std.proofs.Common.{◌≡◌, ◌∷◌, ◌++◌, [], option_to_list, sym, ◌∙◌, ap}
use Rattle.std.specs.Prelude.{if◌then◌else◌}
use Rattle.drm_history.specs.History.{next_number}
use Rattle.drm_history.specs.Effects.{effect}
use Rattle.drm_history.specs.MasterState.{lease_in, caller_master_in, owner_in, master_state, transition}
use Rattle.drm_history.specs.Lessees.{ended_by}
use Rattle.drm_history.specs.Magics.{magic_in}
use Rattle.drm_trails.specs.Effects.{effect_of, leased_by}
use Rattle.drm_trails.specs.Steps.{entry_of, history_of}
use Rattle.drm_rights.specs.Leases.{new_lease, end_with}
use Rattle.drm_rights.specs.Ledgers.{new_authentication, new_capability, new_magic, new_root, new_master_state, is_same_master, owner_since_in}
use Rattle.drm_trails.proofs.HistoryLemmas.{followed_by-append}
use Rattle.drm_rights.proofs.LedgerLemmas.{ledger_after, ledger_along}
use Rattle.drm_rights.proofs.ledger.Ledger.note.Goals as goal

pub invariant_of-result : goal.invariant_of-result
invariant_of-result c =
    let old = c.self.inside in
    let past = history_of old.trail in
    let step = entry_of c.args.step in
    let ids = leased_by c.args.step.event c.args.step.answer in
    let d : effect_of ids c.effect-effect.result ≡ effect step = c.effect-effect.ensures in
    let v : c.args.self ≡ past = sym c.self.view_is in
    let n : c.next_number-number.result ≡ next_number past = c.next_number-number.ensures ∙ ap next_number v in
    let owner =
    c.owner_after-owner.ensures ids ∙ (λ i. (transition (d i) (n i) (lease_in (v i)) (master_state (v i))).owner) in
    let since =
    c.owner_since_after-owner_since.ensures
    ∙
    (λ i. if is_same_master (owner_in (v i)) c.owner_after-owner.result then owner_since_in (v i) else next_number (v i))
    in
    ledger_along (step ∷ past) _ c.owner_after-owner.result c.owner_since_after-owner_since.result _ _ _ _ _ _ _ _ _ _ _
    _ _ _
    (ap history_of c.in_ok-push.ensures ∙ followed_by-append [] old.trail c.args.step)
    (c.in_ok-with_item.ensures ∙ ap (λ o. old.standings.items ++ option_to_list o) (c.master_state_by-master_state.ensures ids ∙ (λ i. new_master_state (d i) (n i) (lease_in (v i)) (master_state (v i)))))
    (c.in_ok-with_item-2.ensures ∙ ap (λ o. old.leases.items ++ option_to_list o) (c.lease_by-lease.ensures ids ∙ (λ i. new_lease (d i) (v i))))
    (c.in_ok-with_item-3.ensures ∙ ap (λ o. old.ends.items ++ option_to_list o) (c.end_by-end.ensures ids ∙ (λ i. end_with (v i) (ended_by (d i) (v i)))))
    (c.in_ok-with_item-4.ensures ∙ ap (λ o. old.magics.items ++ option_to_list o) (c.magic_by-magic.ensures ids ∙ (λ i. new_magic (d i) (n i) (caller_master_in (v i)))))
    (c.in_ok-with_item-5.ensures ∙ ap (λ o. old.authentications.items ++ option_to_list o) (c.authentication_by-authentication.ensures ids ∙ (λ i. new_authentication (d i) (n i) (caller_master_in (v i)) (magic_in (v i)))))
    (c.in_ok-with_item-6.ensures ∙ ap (λ o. old.roots.items ++ option_to_list o) (c.root_by.ensures ids ∙ (λ i. new_root (d i) (n i))))
    (c.in_ok-with_item-7.ensures ∙ ap (λ o. old.capabilities.items ++ option_to_list o) (c.capability_by.ensures ids ∙ (λ i. new_capability (d i) (n i))))
    (ledger_after past step old.owner c.owner_after-owner.result old.owner_since c.owner_since_after-owner_since.result old.standings.items old.leases.items old.ends.items old.magics.items old.authentications.items old.roots.items old.capabilities.items c.self.invariant owner since)

pub returns : goal.returns
returns c =
    ap history_of c.in_ok-push.ensures ∙ followed_by-append [] c.self.inside.trail c.args.step
    ∙ ap (λ l. entry_of c.args.step ∷ l) c.self.view_is
