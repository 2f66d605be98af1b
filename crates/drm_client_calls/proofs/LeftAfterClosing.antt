-- What is left of masters and leases without a client.
use Rattle.std.proofs.Common.{◌≡◌, ℕ, ◌==◌, Bool, true, false, cond, not, ◌&&◌, ◌||◌, List, [], ◌∷◌, map, filter, find, Option, None, Some, refl, sym, ap, subst, ◌∙◌, eq-eqb}
use Rattle.std.proofs.Math.Bool.{or-false, or-true}
use Rattle.std.specs.Prelude.{if◌then◌else◌}
use Rattle.std.specs.Option.{option_map, option_map_or}
use Rattle.std.proofs.lemmas.Bool.{eqb-true}
use Rattle.drm_index_array.proofs.Lists.{all_each, all_weaker, filter_all}
use Rattle.std.specs.List.{list_any}
use Rattle.std.proofs.lemmas.Option.{none-some, same_Some}
use Rattle.drm_index_array.proofs.FoundInLists.{none_found}
use Rattle.drm_index_array.proofs.Rising.{found, all_found}
use Rattle.drm_masters.specs.declared.rows.Member.{Member}
use Rattle.drm_masters.specs.declared.rows.Master.{Master}
use Rattle.drm_masters.specs.Masters as masters
use Rattle.drm_masters.specs.Masters.{MasterSet, AreMasters, swept, is_step_number}
use Rattle.drm_masters.specs.Calls as calls
use Rattle.drm_masters.specs.Calls.{ClosedBy, ClosedOf, closed_own, without_member, kept_as}
use Rattle.drm_masters.proofs.Pushed.{kept_at, step_number_stays, lessor_stays, over_at, kept_lessors}
use Rattle.drm_masters.proofs.Released.{released_next, spared_here}
use Rattle.drm_leases.specs.Leases.{LeaseSet}
use Rattle.drm_leases.specs.Calls as leases
use Rattle.drm_leases.specs.Agreed.{AreAgreed}
use Rattle.drm_leases.proofs.Agreeing.{agreed_closed_own}
use Rattle.drm_index_array.specs.Chains.{is_under}
use Rattle.drm_index_array.proofs.Chains.{itself}
use Rattle.drm_state.specs.Parts.{device_without, own_master, is_below, released, ended, ends_with, without_its_master, without_its_leases}
use Rattle.drm_state.specs.Invariants.{AreKeptBy}
use Rattle.drm_state.proofs.Ended.{none_released, none_ended, closed_released}

-- no master ends with it
none_ends : (v : MasterSet) (c : ℕ) → own_master (masters.member_of v.members c) ≡ None → ends_with v c ≡ (λ _. false)
none_ends v c e = λ i m. is_below (e i) v.masters m

-- A closing ends no lease if the client is no master.
pub leases_stay : (v : MasterSet) (c : ℕ) (l : LeaseSet) → own_master (masters.member_of v.members c) ≡ None
    → l ≡ without_its_leases c v l
leases_stay v c l e = sym ((λ i. ended (none_ends v c e i) l) ∙ none_ended l)

unreleased : (v : MasterSet) (c : ℕ) → own_master (masters.member_of v.members c) ≡ None
    → v.masters ≡ released (ends_with v c) v.masters
unreleased v c e = sym ((λ i. released (none_ends v c e i) v.masters) ∙ none_released v.masters)

-- The masters are unchanged without a client that belongs to none.
pub nobody_gone : (v : MasterSet) (c : ℕ) → AreMasters v → masters.member_of v.members c ≡ None
    → v ≡ without_its_master c v
nobody_gone v c are none =
    let stay : filter (λ (x : Member). not (masters.is_client c x)) v.members ≡ v.members =
    filter_all (λ (x : Member). not (masters.is_client c x)) v.members
    (all_weaker (λ (x : Member). masters.is_client c x ≡ false) (λ (x : Member). not (masters.is_client c x) ≡ true) (λ x e. ap not e) v.members (none_found (masters.is_client c) v.members none))
    in
    let device : device_without v c ≡ v.device_master =
    ap
    (λ o. option_map_or (λ (x : Member). if x.is_master && masters.is_option x.master v.device_master then None else v.device_master) o v.device_master)
    none in
    let all = filter_all (λ (x : Master). masters.is_living v.members v.masters x.step_number) v.masters are.used in
    (λ i. record v { masters = sym all i })
    ∙
    (λ i. swept (record v { members = sym stay i; masters = unreleased v c (ap own_master none) i; device_master = sym device i }))

-- the device's master without a client whose row is this
device_is : (v : MasterSet) (c : ℕ) (x : Member) → masters.member_of v.members c ≡ Some x
    → (if x.is_master && masters.is_option x.master v.device_master then None else v.device_master) ≡ device_without v c
device_is v c x here =
    ap
    (λ o. option_map_or (λ (y : Member). if y.is_master && masters.is_option y.master v.device_master then None else v.device_master) o v.device_master)
    (sym here)

number_is : (v : MasterSet) (c : ℕ) (x : Member) → masters.member_of v.members c ≡ Some x → x.client ≡ c
number_is v c x here =
    eqb-true x.client c
    (found (masters.is_client c) (λ _. Unit {0}) x v.members (all_each (λ _. Unit {0}) (λ _. tt) v.members) here).0

own_is : (v : MasterSet) (c : ℕ) (x : Member) (b : Bool) → masters.member_of v.members c ≡ Some x → x.is_master ≡ b
    → own_master (masters.member_of v.members c) ≡ (if b then Some x.master else None)
own_is v c x b here is = ap own_master here ∙ ap (λ d. if d then Some x.master else None) is

-- one of another's master
non_master_gone : (v new : MasterSet) (c : ℕ) (x : Member) → masters.member_of v.members c ≡ Some x
    → x.is_master ≡ false → new ≡ swept (without_member x.client v) → new ≡ without_its_master c v
non_master_gone v new c x here non_master e =
    let device : v.device_master ≡ device_without v c =
    ap (λ b. if b && masters.is_option x.master v.device_master then None else v.device_master) (sym non_master)
    ∙ device_is v c x here in
    e
    ∙
    (λ i. swept (record (without_member (number_is v c x here i) v) { masters = unreleased v c (own_is v c x false here non_master) i; device_master = device i }))

-- that its own master was kept is nothing once it is released
kept_above : (m : ℕ) (ms : List Master)
    → masters.lessor_of (map (λ (x : Master). if is_step_number m x then kept_as true x else x) ms) ≡ masters.lessor_of ms
kept_above m ms = λ i n. kept_lessors m true ms n i

released_again : (below : ℕ → Bool) (m : ℕ) → below m ≡ true → (ms : List Master)
    → released below (map (λ (x : Master). if is_step_number m x then kept_as true x else x) ms) ≡ released below ms
released_again below m is [] = refl
released_again below m is (x ∷ xs) = λ i. one i ∷ released_again below m is xs i
  where
    change : Master → Master
    change y = if below y.step_number then kept_as false y else y

    one : change (if is_step_number m x then kept_as true x else x) ≡ change x
    one =
        (elim (x.step_number == m) as (λ b. (x.step_number == m) ≡ b → change (if b then kept_as true x else x) ≡ change x) [
          | true ↦ λ e.
              let here : below x.step_number ≡ true = ap below (eqb-true x.step_number m e) ∙ is in
              ap (λ b. if b then kept_as false x else kept_as true x) here
              ∙ sym (ap (λ b. if b then kept_as false x else x) here)
          | false ↦ λ e. refl
        ]) refl

-- it is kept then
closed_kept : (own : ℕ) (ms : List Master) (x : Master)
    → masters.master_at (map (λ (y : Master). if is_step_number own y then kept_as true y else y) ms) x.step_number ≡ Some x
    → x.step_number ≡ own → x.kept ≡ true
closed_kept own ms x at number =
    by_row (masters.master_at ms x.step_number) refl
    (sym (over_at (kept_at own true) (step_number_stays own true) (lessor_stays own true) ms x.step_number) ∙ at)
  where
    by_row : (o : Option Master) → masters.master_at ms x.step_number ≡ o → option_map (kept_at own true) o ≡ Some x
        → x.kept ≡ true
    by_row None e k = absurd (none-some x k)
    by_row (Some y) e k =
        let is : kept_at own true y ≡ x = same_Some (kept_at own true y) x k in
        let num : (y.step_number == own) ≡ true =
        ap (λ n. n == own) (sym (step_number_stays own true y) ∙ ap (λ (z : Master). z.step_number) is)
        ∙ eq-eqb x.step_number own number in
        sym (ap (λ (z : Master). z.kept) is) ∙ ap (λ b. (if b then kept_as true y else y).kept) num

-- one of its own master, whose leases end with all below it
module _ (v middle : MasterSet) (c : ℕ) (x : Member) (here : masters.member_of v.members c ≡ Some x) (own : x.is_master ≡ true) (is : middle ≡ closed_own x.client x.master v) where
  below_is : is_below (Some x.master) middle.masters ≡ ends_with v c
  below_is =
      (λ i. is_below (Some x.master) (is i).masters)
      ∙ (λ i n. is_under (kept_above x.master v.masters i) x.master n)
      ∙ (λ i. is_below (sym (own_is v c x true here own) i) v.masters)

  -- The masters are those without the client, once its own master and all below it are released.
  pub owner_gone : (new : MasterSet)
      → new ≡ swept (calls.released (is_under (masters.lessor_of middle.masters) x.master) middle)
      → new ≡ without_its_master c v
  owner_gone new f =
      let device : (if masters.is_option x.master v.device_master then None else v.device_master) ≡ device_without v c =
      ap (λ b. if b && masters.is_option x.master v.device_master then None else v.device_master) (sym own)
      ∙ device_is v c x here in
      let top : ends_with v c x.master ≡ true =
      ap (λ (p : ℕ → Bool). p x.master) (sym below_is)
      ∙ itself (masters.lessor_of middle.masters) x.master x.master in
      f ∙ (λ i. swept (record middle { masters = released (below_is i) middle.masters }))
      ∙ (λ i. swept (record (is i) { masters = released (ends_with v c) (is i).masters }))
      ∙
      (λ i. swept (record (without_member (number_is v c x here i) v) { masters = released_again (ends_with v c) x.master top v.masters i; device_master = device i }))

  -- After the closing of a client with an own master, leases still agree with masters.
  pub owner_agrees : (l : LeaseSet) → AreMasters v → AreAgreed l v → AreAgreed l middle
  owner_agrees l are agreed =
      subst (AreAgreed l) (sym is)
      (subst (λ n. AreAgreed l (closed_own n x.master v)) (sym (number_is v c x here)) (agreed_closed_own v c x l.lendings are.members_rise here agreed))

  -- The leases are those without the client, once its own master's leases and all below are ended.
  pub owner_leases : (l new : LeaseSet) → new ≡ leases.ended middle.masters x.master l → new ≡ without_its_leases c v l
  owner_leases l new f = f ∙ (λ i. ended (below_is i) l)

-- ---- by what the closing returned back

-- If a closing returned no key, the client had no own master, and the masters are those without the client.
pub closed_without : (v new : MasterSet) (c : ℕ) → AreMasters v → ClosedBy v (masters.member_of v.members c) None new
    → (own_master (masters.member_of v.members c) ≡ None) × (new ≡ without_its_master c v)
closed_without v new c are h = by_member (masters.member_of v.members c) refl h
  where
    by_own : (x : Member) → masters.member_of v.members c ≡ Some x → (b : Bool) → x.is_master ≡ b
        → ClosedOf v x b None new → (own_master (masters.member_of v.members c) ≡ None) × (new ≡ without_its_master c v)
    by_own x here true own k = absurd (let n : None ≡ Some k.0.0 = k.0.1 in cc)
    by_own x here false own k = (own_is v c x false here own, non_master_gone v new c x here own k.1)

    by_member : (o : Option Member) → masters.member_of v.members c ≡ o → ClosedBy v o None new
        → (own_master (masters.member_of v.members c) ≡ None) × (new ≡ without_its_master c v)
    by_member None none k = (ap own_master none, k.1 ∙ nobody_gone v c are none)
    by_member (Some x) here k = by_own x here x.is_master refl k

-- the row of a client whose own master's key it returned back
pub record Closing (v middle : MasterSet) (c key : ℕ) : Type 0 where
  pub row : Member
  pub here : masters.member_of v.members c ≡ Some row
  pub own : row.is_master ≡ true
  pub is : middle ≡ closed_own row.client row.master v
  pub keyed : masters.IsKeyOf middle.masters row.master key

-- If a closing returned a key, the client had an own master, which is kept, and the key is this master's.
pub closed_with : (v middle : MasterSet) (c key : ℕ) → ClosedBy v (masters.member_of v.members c) (Some key) middle
    → Closing v middle c key
closed_with v middle c key h = by_member (masters.member_of v.members c) refl h
  where
    by_own : (x : Member) → masters.member_of v.members c ≡ Some x → (b : Bool) → x.is_master ≡ b
        → ClosedOf v x b (Some key) middle → Closing v middle c key
    by_own x here true own k =
        record
        { row = x; here = here; own = own; is = k.1; keyed = subst (masters.IsKeyOf middle.masters x.master) (sym (same_Some key k.0.0 k.0.1)) k.0.2 }
    by_own x here false own k = absurd (none-some key (sym k.0))

    by_member : (o : Option Member) → masters.member_of v.members c ≡ o → ClosedBy v o (Some key) middle
        → Closing v middle c key
    by_member None none k = absurd (none-some key (sym k.0))
    by_member (Some x) here k = by_own x here x.is_master refl k

-- ---- its leases end, and it is released

module _ (v middle : MasterSet) (c key : ℕ) (k : Closing v middle c key) (l : LeaseSet) (are : AreMasters v) (middle_are : AreMasters middle) (kept : AreKeptBy l.tokens v.masters) where
  abbrev own : ℕ
  own = k.row.master

  abbrev below : ℕ → Bool
  below = is_under (masters.lessor_of middle.masters) own

  abbrev chosen : ℕ → Bool
  chosen = leases.is_opened_under l.tokens middle.masters own

  -- whichever is chosen of its own master, the sweep leaves the same
  same_left : (f : ℕ → Bool) → ((m : ℕ) → (m == own) ≡ false → f m ≡ chosen m) → f own ≡ true
      → swept (calls.released f middle) ≡ swept (calls.released below middle)
  same_left f others its = λ i. swept (record middle { masters = same i })
    where
      here : middle.masters ≡ map (λ (x : Master). if is_step_number own x then kept_as true x else x) v.masters
      here = ap (λ (w : MasterSet). w.masters) k.is

      same : released f middle.masters ≡ released below middle.masters
      same =
          ap (released f) here
          ∙ closed_released l.tokens below f own others its (itself (masters.lessor_of middle.masters) own own)
          v.masters kept
          ∙ ap (released below) (sym here)

  -- it is there, unless its open token was taken
  there_or : (v2 : MasterSet) → v2 ≡ swept (calls.released chosen middle) → masters.master_at v2.masters own ≡ None
      → chosen own ≡ true
  there_or v2 e gone = by_test (chosen own) refl
    where
      by_row : (o : Option Master) → find (masters.is_key key) middle.masters ≡ o
          → option_map (λ (x : Master). x.step_number) o ≡ Some own → chosen own ≡ false → ⊥
      by_row None f h spared = none-some own h
      by_row (Some x) f h spared =
          let number : x.step_number ≡ own = same_Some x.step_number own h in
          let here =
          (found (masters.is_key key) (λ (y : Master). masters.master_at middle.masters y.step_number ≡ Some y) x middle.masters (all_found (λ (y : Master). y.step_number) middle.masters middle_are.masters_rise) f).1
          in
          let row_kept : x.kept ≡ true =
          closed_kept own v.masters x
          (ap (λ (w : MasterSet). masters.master_at w.masters x.step_number) (sym k.is) ∙ here) number in
          let left =
          spared_here middle middle_are.masters_rise middle_are.lessors_older chosen x here
          (ap (λ b. b || list_any (λ (y : Member). y.master == x.step_number) middle.members) row_kept)
          (ap chosen number ∙ spared) in
          none-some x
          (sym (ap (λ (u : MasterSet). masters.master_at u.masters own) (sym e) ∙ gone) ∙ ap (masters.master_at (swept (calls.released chosen middle)).masters) (sym number) ∙ left)

      by_test : (b : Bool) → chosen own ≡ b → chosen own ≡ true
      by_test true h = h
      by_test false h = absurd (by_row (find (masters.is_key key) middle.masters) refl k.keyed h)

  -- If the client's own master was freed, the masters are those after the release of all that end.
  pub spared_left : (v2 : MasterSet) → v2 ≡ swept (calls.released chosen middle)
      → masters.master_at v2.masters own ≡ None → v2 ≡ swept (calls.released below middle)
  spared_left v2 e gone = e ∙ same_left chosen (λ m other. refl) (there_or v2 e gone)

  -- If the client's own master still existed, its release leaves the masters after the release of all that end.
  pub released_left : (v2 v3 : MasterSet) (its : ℕ) → v2 ≡ swept (calls.released chosen middle)
      → masters.step_number_at v2.masters its ≡ own
      → v3 ≡ swept (calls.with_kept (masters.step_number_at v2.masters its) false v2)
      → v3 ≡ swept (calls.released below middle)
  released_left v2 v3 its e number f =
      f ∙ ap (λ n. swept (calls.with_kept n false v2)) number
      ∙ ap (λ (u : MasterSet). swept (calls.with_kept own false u)) e
      ∙ released_next middle middle_are.masters_rise middle_are.lessors_older chosen own
      ∙ same_left (λ m. chosen m || (m == own)) (λ m other. ap (λ b. chosen m || b) other ∙ or-false (chosen m))
      (ap (λ b. chosen own || b) (eq-eqb own own refl) ∙ or-true (chosen own))
