-- Masters of the rows and of the part: their lessors, and which of them stay.
use Rattle.std.proofs.Common.{◌≡◌, ℕ, ◌==◌, Bool, false, ◌&&◌, ◌||◌, List, [], ◌∷◌, map, find, filter, Option, None, Some, refl, sym, ◌∙◌, ap}
use Rattle.std.specs.List.{list_any, AllByRecursion}
use Rattle.std.specs.Option.{is_some, option_map, option_map_or, option_and_then}
use Rattle.drm_index_array.specs.Chains as chains
use Rattle.drm_index_array.specs.Chains.{top_of}
use Rattle.drm_index_array.proofs.Lists.{all_each, all_weaker, filter-map, list_any-map, filter-same}
use Rattle.drm_index_array.proofs.FoundInLists.{find-map}
use Rattle.drm_masters.specs.declared.rows.Master.{Master}
use Rattle.drm_masters.specs.declared.rows.Member.{Member}
use Rattle.drm_masters.specs.Masters as masters
use Rattle.drm_model.specs.Rows.{Rows, ClientRow, MasterRow, is_option}
use Rattle.drm_model.specs.Masters.{lessor_of, is_owner, is_under}
use Rattle.drm_model.specs.Change.{is_held, is_living}
use Rattle.drm_leases.specs.Tokens.{LeaseToken}
use Rattle.drm_leases.specs.Leases.{token_of}
use Rattle.drm_state.specs.Parts.{master_row_of}
use Rattle.drm_state.specs.Invariants.{AreKeptBy}

-- A master has the same lessor by rows as in the state.
pub lessors_are : (tokens : List LeaseToken) (ms : List Master) (n : ℕ)
    → lessor_of (map (master_row_of tokens) ms) n ≡ masters.lessor_of ms n
lessors_are tokens ms n =
    ap (option_and_then (λ (row : MasterRow). row.lessor))
    (find-map (λ (row : MasterRow). row.master == n) (master_row_of tokens) ms)
    ∙ same (find (masters.is_step_number n) ms)
  where
    same : (o : Option Master)
        → option_and_then (λ (row : MasterRow). row.lessor) (option_map (master_row_of tokens) o) ≡ option_and_then (λ (x : Master). x.lessor) o
    same None = refl
    same (Some x) = refl

abbrev pub above_is : (tokens : List LeaseToken) (ms : List Master)
    → lessor_of (map (master_row_of tokens) ms) ≡ masters.lessor_of ms
above_is tokens ms = λ i n. lessors_are tokens ms n i

-- A client is current by its row exactly if it is by how it belongs to masters.
pub current_is : (tokens : List LeaseToken) (ms : List Master) (device : Option ℕ) (o : Option Member) →
    (option_map_or (λ (x : Member). x.is_master) o false && is_owner (map (master_row_of tokens) ms) device (option_map (λ (x : Member). x.master) o))
    ≡ option_map_or (λ (x : Member). x.is_master && masters.is_option (masters.owner_of ms x.master) device) o false
current_is tokens ms device None = refl
current_is tokens ms None (Some x) = refl
current_is tokens ms (Some d) (Some x) =
    ap (λ (above : ℕ → Option ℕ). x.is_master && (d == top_of above x.master)) (above_is tokens ms)

any_same : {X : Type 0} (p q : X → Bool) → (xs : List X) → AllByRecursion (λ x. p x ≡ q x) xs
    → list_any p xs ≡ list_any q xs
any_same p q [] h = refl
any_same p q (x ∷ xs) h = ap (λ b. b || list_any p xs) h.0 ∙ ap (λ b. q x || b) (any_same p q xs h.1)

-- the rows of masters that stay, where the same masters are named, and those kept that have an open lease token
module _ (v : Rows) (tokens : List LeaseToken) (ms : List Master) (members : List Member) (are : v.masters ≡ map (master_row_of tokens) ms) (kept : AreKeptBy tokens ms)
    (named : (m : ℕ) → list_any (λ (row : ClientRow). is_option m row.master) v.clients ≡ list_any (λ (x : Member). x.master == m) members) where
  held_is : (x : Master) → x.kept ≡ is_some (token_of tokens x.step_number)
      → is_held v (master_row_of tokens x) ≡ masters.is_held members x
  held_is x e =
      ap (λ b. is_some (token_of tokens x.step_number) || b) (named x.step_number)
      ∙ ap (λ b. b || list_any (λ (y : Member). y.master == x.step_number) members) (sym e)

  living_is : (m : ℕ) → is_living v m ≡ masters.is_living members ms m
  living_is m =
      ap (λ rows. list_any (λ (row : MasterRow). is_held v row && is_under rows m row.master) rows) are
      ∙ list_any-map (λ (row : MasterRow). is_held v row && is_under (map (master_row_of tokens) ms) m row.master)
      (master_row_of tokens) ms
      ∙ any_same
      (λ (x : Master). is_held v (master_row_of tokens x) && is_under (map (master_row_of tokens) ms) m x.step_number)
      (λ (x : Master). masters.is_held members x && chains.is_under (masters.lessor_of ms) m x.step_number) ms
      (all_weaker (λ (x : Master). x.kept ≡ is_some (token_of tokens x.step_number)) (λ (x : Master). (is_held v (master_row_of tokens x) && is_under (map (master_row_of tokens) ms) m x.step_number) ≡ (masters.is_held members x && chains.is_under (masters.lessor_of ms) m x.step_number))
      (λ x e i. held_is x e i && chains.is_under (above_is tokens ms i) m x.step_number) ms kept)

  -- A sweep of the rows leaves the rows of the masters that live in the state.
  pub swept_masters : filter (λ (row : MasterRow). is_living v row.master) v.masters ≡ map (master_row_of tokens) (filter (λ (x : Master). masters.is_living members ms x.step_number) ms)
  swept_masters =
      ap (filter (λ (row : MasterRow). is_living v row.master)) are
      ∙ filter-map (λ (row : MasterRow). is_living v row.master) (master_row_of tokens) ms
      ∙ ap (map (master_row_of tokens))
      (filter-same (λ (x : Master). is_living v x.step_number) (λ (x : Master). masters.is_living members ms x.step_number) ms (all_each (λ (x : Master). is_living v x.step_number ≡ masters.is_living members ms x.step_number) (λ x. living_is x.step_number) ms))
