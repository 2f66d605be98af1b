-- Leases agree with masters without a client.
use Rattle.std.proofs.Common.{◌≡◌, ℕ, Bool, true, not, List, filter, None, Some, ap, subst, ◌∙◌}
use Rattle.std.specs.Prelude.{if◌then◌else◌}
use Rattle.std.specs.List.{AllByRecursion}
use Rattle.drm_index_array.proofs.Chains.{itself}
use Rattle.drm_index_array.proofs.Lists.{filter_all, filter_true}
use Rattle.drm_masters.specs.declared.rows.Master.{Master}
use Rattle.drm_masters.specs.declared.rows.Member.{Member}
use Rattle.drm_masters.specs.Masters as masters
use Rattle.drm_masters.specs.Masters.{MasterSet, AreMasters}
use Rattle.drm_leases.specs.Leases.{LeaseSet, Lending}
use Rattle.drm_leases.specs.Agreed.{IsAgreed, AreAgreed}
use Rattle.drm_leases.proofs.Agreeing.{agreed_left, agreed_released}
use Rattle.drm_state.specs.Parts.{own_master, is_below, released, ends_with, without_its_master, without_its_leases}

-- Without a client, leases still agree with masters.
pub agreed_yet : (v : MasterSet) (l : LeaseSet) (c : ℕ) → AreMasters v → AreAgreed l v
    → AreAgreed (without_its_leases c v l) (without_its_master c v)
agreed_yet v l c are agreed =
    let below = ends_with v c in
    let left = filter (λ (x : Member). not (masters.is_client c x)) v.members in
    agreed_again below (filter (λ (x : Lending). not (below x.lessee)) l.lendings)
    (filter_true (λ (x : Lending). not (below x.lessee)) l.lendings) left v.masters
    (agreed_left v.members c v.masters below l.lendings are.members_rise (λ x here own. ap (λ o. is_below (own_master o) v.masters x.master) here ∙ ap (λ b. is_below (if b then Some x.master else None) v.masters x.master) own ∙ itself (masters.lessor_of v.masters) x.master x.master) agreed)
  where
    agreed_again : (below : ℕ → Bool) (xs : List Lending)
        → AllByRecursion (λ (x : Lending). not (below x.lessee) ≡ true) xs → (members : List Member) (ms : List Master)
        → AllByRecursion (IsAgreed members ms) xs →
        AllByRecursion
        (IsAgreed members (filter (λ (y : Master). masters.is_living members (released below ms) y.step_number) (released below ms)))
        xs
    agreed_again below xs out members ms h =
        subst
        (AllByRecursion (IsAgreed members (filter (λ (y : Master). masters.is_living members (released below ms) y.step_number) (released below ms))))
        (filter_all (λ (x : Lending). not (below x.lessee)) xs out)
        (agreed_released below below (λ n e. e) members ms xs h)
