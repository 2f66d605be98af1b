-- A client or a master with a greater number than all others.
use Rattle.std.proofs.Common.{◌≡◌, ℕ, ◌<◌, true, false, List, [], ◌∷◌, ◌++◌, is_some, ap, subst, ◌∙◌}
use Rattle.std.specs.Prelude.{IfSome}
use Rattle.std.specs.List.{AllByRecursion}
use Rattle.std.proofs.lemmas.Bool.{eqb-true, lt-ltb}
use Rattle.drm_index_array.proofs.Lists.{all_weaker}
use Rattle.drm_index_array.proofs.FoundInLists.{is_some-find, all_found}
use Rattle.drm_index_array.proofs.Each.{none_passes, some_found}
use Rattle.drm_index_array.proofs.Numbers.{less-differ}
use Rattle.drm_index_array.proofs.Placed.{placed_last}
use Rattle.drm_index_array.proofs.Rising.{found}
use Rattle.drm_masters.specs.declared.rows.Master.{Master}
use Rattle.drm_masters.specs.declared.rows.Member.{Member}
use Rattle.drm_masters.specs.Masters.{MasterSet, AreMasters, is_client, is_step_number, member_of, master_at, member_before, master_before}
use Rattle.drm_masters.specs.Calls.{IsNewClient, IsNewStepNumber, with_member, with_master}

-- ---- a client

-- A client newer than all others does not exist yet.
pub newest_absent : (v : MasterSet) (c : ℕ) → IsNewClient v c → is_some (member_of v.members c) ≡ false
newest_absent v c newest =
    is_some-find (is_client c) v.members
    ∙ none_passes (is_client c) v.members
    (all_weaker (λ (x : Member). x.client < c) (λ (x : Member). is_client c x ≡ false) (λ x less. less-differ x.client c less) v.members newest)

abbrev pub with_last_member : Member → MasterSet → MasterSet
with_last_member y v = record v { members = v.members ++ y ∷ [] }

-- The place of a client newer than all others is the end.
pub newest_last : (v : MasterSet) (y : Member) → IsNewClient v y.client → with_member y v ≡ with_last_member y v
newest_last v y newest =
    ap (λ (ms : List Member). record v { members = ms })
    (placed_last (λ (x : Member). member_before x y) y v.members (all_weaker (λ (x : Member). x.client < y.client) (λ (x : Member). member_before x y ≡ true) (λ x less. lt-ltb x.client y.client less) v.members newest))

-- ---- a master

-- No master has a step number above all others.
pub newest_unused : (ms : List Master) (birth : ℕ) → AllByRecursion (λ (x : Master). x.step_number < birth) ms
    → is_some (master_at ms birth) ≡ false
newest_unused ms birth newest =
    is_some-find (is_step_number birth) ms
    ∙ none_passes (is_step_number birth) ms
    (all_weaker (λ (x : Master). x.step_number < birth) (λ (x : Master). is_step_number birth x ≡ false) (λ x less. less-differ x.step_number birth less) ms newest)

-- Every master that exists is older than a step number above all others.
pub newest_older : (ms : List Master) (birth : ℕ) → AllByRecursion (λ (x : Master). x.step_number < birth) ms → (m : ℕ)
    → is_some (master_at ms m) ≡ true → m < birth
newest_older ms birth newest m there =
    let x = some_found (master_at ms m) there in
    let is = found (is_step_number m) (λ (y : Master). y.step_number < birth) x.0 ms newest x.1 in
    subst (λ n. n < birth) (eqb-true x.0.step_number m is.0) is.1

-- Every client's master is older than a step number above all others.
pub member_older : (v : MasterSet) → AreMasters v → (birth : ℕ)
    → AllByRecursion (λ (x : Master). x.step_number < birth) v.masters → (c : ℕ)
    → IfSome (member_of v.members c) (λ (x : Member). x.master < birth)
member_older v are birth newest c =
    all_found (λ (x : Member). x.master < birth) (is_client c) v.members
    (all_weaker (λ (x : Member). is_some (master_at v.masters x.master) ≡ true) (λ (x : Member). x.master < birth) (λ x there. newest_older v.masters birth newest x.master there) v.members are.masters_there)

abbrev pub with_last_master : Master → MasterSet → MasterSet
with_last_master y v = record v { masters = v.masters ++ y ∷ [] }

-- The place of a master newer than all others is the end.
pub newest_master : (v : MasterSet) (y : Master) → IsNewStepNumber v y.step_number
    → with_master y v ≡ with_last_master y v
newest_master v y newest =
    ap (λ (ms : List Master). record v { masters = ms })
    (placed_last (λ (x : Master). master_before x y) y v.masters (all_weaker (λ (x : Master). x.step_number < y.step_number) (λ (x : Master). master_before x y ≡ true) (λ x less. lt-ltb x.step_number y.step_number less) v.masters newest))
