-- What is true of the masters at all times is true after each change.
use Rattle.std.proofs.Common.{◌≡◌, ℕ, ◌<◌, ◌≤◌, ◌==◌, nat_lt, Bool, true, false, not, ◌&&◌, ◌||◌, List, map, filter, find, length, Option, None, Some, refl, sym, ap, subst, ◌∙◌, eq-eqb, arith}
use Rattle.std.specs.Prelude.{if◌then◌else◌, IfSome}
use Rattle.std.specs.List.{list_any, AllByRecursion}
use Rattle.std.specs.Option.{is_some, option_map, option_map_or}
use Rattle.std.proofs.Math.Bool.{and-false}
use Rattle.std.proofs.lemmas.List.{length-map}
use Rattle.std.proofs.lemmas.Bool.{eqb-true, or_left, or_right, and_parts, and_from}
use Rattle.drm_index_array.specs.Rows.{placed}
use Rattle.drm_index_array.specs.Orders.{InOrder}
use Rattle.drm_index_array.proofs.Lists.{all_weaker, all_both, all_each, all_filter, all_mapped, filter-shorter, list_any-map, list_any_agree, some_passing}
use Rattle.drm_index_array.proofs.Each.{each_fails}
use Rattle.drm_index_array.proofs.FoundInLists.{is_some-find, none_found}
use Rattle.drm_index_array.proofs.Orders.{in_order_filter}
use Rattle.drm_index_array.proofs.Numbers.{flipped}
use Rattle.drm_index_array.proofs.Placed.{any_placed, length_placed, all_placed, in_order_placed, rise_placed}
use Rattle.drm_index_array.proofs.Rising.{found, any_found, any_more, any_left, all_found, all_found_apart, in_order_kept, in_order_mapped, in_order_both, each_is_there}
use Rattle.drm_masters.specs.declared.rows.Magic.{Magic}
use Rattle.drm_masters.specs.declared.rows.Member.{Member}
use Rattle.drm_masters.specs.declared.rows.Master.{Master}
use Rattle.drm_masters.specs.Masters.{MasterSet, AreMasters, HaveOtherMagics, HasOlderLessor, is_client, member_before, master_before, is_step_number, is_key, is_option, IsKeyOf, step_number_at, member_of, master_at, lessor_of, is_held, is_used, is_living, has_magic, has_open_magic, swept}
use Rattle.drm_masters.specs.declared.masters.Masters.TheInside.{Inside}
use Rattle.drm_masters.specs.Fields.{set_of, IsSound}
use Rattle.drm_masters.specs.Calls.{with_member, with_master, with_device, without_member, changed_member, with_kept, with_magic, closed_own}
use Rattle.drm_masters.proofs.Pushed.{step_number_stays, lessor_stays, kept_at, kept_there, kept_rise, kept_older, kept_used, same_used, there_too, new_there, pushed_rise, pushed_older, pushed_used, kept_lessors, pushed_lessor, new_lessor}
use Rattle.drm_masters.proofs.MasterChains.{Rise, IsFresh}
use Rattle.drm_masters.proofs.Upward.{OthersUsed, all_living_used}
use Rattle.drm_masters.proofs.Swept.{none_left, swept_older, swept_used, named_there}
use Rattle.drm_masters.proofs.FreeMagics.{no_magic, other_none, none_other, given_before, given_behind, spent_same}

abbrev pub Keyed : List Master → Type 0
Keyed ms = InOrder (λ (x y : Master). (x.key == y.key) ≡ false) ms

abbrev MembersRise : List Member → Type 0
MembersRise xs = InOrder (λ (x y : Member). x.client < y.client) xs

-- all of it but that each master is used
pub record AreTied (v : MasterSet) : Type 0 where
  pub members_rise : InOrder (λ (x y : Member). x.client < y.client) v.members
  pub masters_rise : InOrder (λ (x y : Master). x.step_number < y.step_number) v.masters
  pub lessors_older : AllByRecursion (HasOlderLessor v.masters) v.masters
  pub masters_there : AllByRecursion (λ (x : Member). is_some (master_at v.masters x.master) ≡ true) v.members
  pub device_own : (m : ℕ) → v.device_master ≡ Some m
      → list_any (λ (x : Member). x.is_master && (x.master == m)) v.members ≡ true
  pub device_owner : (m : ℕ) → v.device_master ≡ Some m → lessor_of v.masters m ≡ None
  pub guests_of_owners : AllByRecursion (λ (x : Member). x.is_master ≡ false → lessor_of v.masters x.master ≡ None) v.members
  pub magics_differ : InOrder HaveOtherMagics v.members
  pub few : length v.members ≤ v.last_magic
  pub few_ids : v.last_lessee ≤ 64

-- a client that is no master belongs to a master without a lessor
abbrev IsNonMaster : List Master → Member → Type 0
IsNonMaster ms x = x.is_master ≡ false → lessor_of ms x.master ≡ None

guests_over : (ms others : List Master) → ((n : ℕ) → lessor_of others n ≡ lessor_of ms n) → (xs : List Member)
    → AllByRecursion (IsNonMaster ms) xs → AllByRecursion (IsNonMaster others) xs
guests_over ms others same xs h =
    all_weaker (IsNonMaster ms) (IsNonMaster others) (λ x g own. same x.master ∙ g own) xs h

guests_pushed : (ms : List Master) (z : Master) → IsFresh ms z.step_number → (xs : List Member)
    → AllByRecursion (λ (x : Member). is_some (master_at ms x.master) ≡ true) xs → AllByRecursion (IsNonMaster ms) xs →
    AllByRecursion (IsNonMaster (placed master_before z ms)) xs
guests_pushed ms z fresh xs there h =
    all_both (λ (x : Member). is_some (master_at ms x.master) ≡ true) (IsNonMaster ms)
    (IsNonMaster (placed master_before z ms)) (λ x t g own. pushed_lessor ms z fresh x.master t ∙ g own) xs there h

-- a new master without a lessor is the device's
new_owner : (ms : List Master) (z : Master) → IsFresh ms z.step_number → z.lessor ≡ None → (m : ℕ)
    → Some z.step_number ≡ Some m → lessor_of (placed master_before z ms) m ≡ None
new_owner ms z fresh top m e =
    subst (λ n. lessor_of (placed master_before z ms) n ≡ None) (let s : z.step_number ≡ m = cc in s)
    (new_lessor ms z fresh ∙ top)

-- If all facts but the use of each master hold, all facts hold after a sweep.
pub swept_are : (v : MasterSet) → AreTied v → AreMasters (swept v)
swept_are v t = record {
  members_rise = t.members_rise;
  masters_rise =
      in_order_filter (λ (x y : Master). x.step_number < y.step_number)
      (λ (x : Master). is_living v.members v.masters x.step_number) v.masters t.masters_rise;
  lessors_older = swept_older v.members v.masters t.masters_rise t.lessors_older;
  masters_there =
      all_both (λ (x : Member). is_some (master_at v.masters x.master) ≡ true)
      (λ (x : Member). list_any (λ (y : Member). y.master == x.master) v.members ≡ true)
      (λ (x : Member). is_some (master_at (swept v).masters x.master) ≡ true)
      (λ x there named. named_there v.members v.masters t.masters_rise t.lessors_older x there named) v.members
      t.masters_there (each_is_there (λ (x : Member). x.master) v.members);
  device_own = t.device_own;
  device_owner = λ m e. none_left v.members v.masters t.masters_rise t.lessors_older m (t.device_owner m e);
  guests_of_owners =
      all_weaker (IsNonMaster v.masters) (IsNonMaster (swept v).masters)
      (λ x g own. none_left v.members v.masters t.masters_rise t.lessors_older x.master (g own)) v.members
      t.guests_of_owners;
  used = swept_used v.members v.masters t.masters_rise t.lessors_older;
  magics_differ = t.magics_differ;
  few = t.few;
  few_ids = t.few_ids;
}

-- ---- who is held

-- no other client has the number
others_apart : (members : List Member) (c : ℕ) → is_some (member_of members c) ≡ false
    → AllByRecursion (λ (x : Member). is_client c x ≡ false) members
others_apart members c absent = each_fails (is_client c) members (sym (is_some-find (is_client c) members) ∙ absent)

-- what some client passes it passes with one more
any_stays : (q : Member → Bool) (xs : List Member) (y : Member) → list_any q xs ≡ true
    → list_any q (placed member_before y xs) ≡ true
any_stays q xs y h = any_placed q (λ x. member_before x y) y xs ∙ or_right (q y) (list_any q xs) h

all_come : (P : Member → Type 0) (xs : List Member) (y : Member) → AllByRecursion P xs → P y
    → AllByRecursion P (placed member_before y xs)
all_come P xs y h k = all_placed P (λ (x : Member). member_before x y) y xs k h

or_more : (a b c : Bool) → (b ≡ true → c ≡ true) → (a || b) ≡ true → (a || c) ≡ true
or_more true b c f h = refl
or_more false b c f h = f h

held_more : (members : List Member) (y : Member) (x : Master) → is_held members x ≡ true
    → is_held (placed member_before y members) x ≡ true
held_more members y x h =
    or_more x.kept (list_any (λ (z : Member). z.master == x.step_number) members)
    (list_any (λ (z : Member). z.master == x.step_number) (placed member_before y members))
    (any_stays (λ z. z.master == x.step_number) members y) h

few_more : (xs : List Member) (y : Member) (last : ℕ) → length xs < last → length (placed member_before y xs) ≤ last
few_more xs y last lt = let e = length_placed (λ (x : Member). member_before x y) y xs in omega (arith, e, lt)

-- the new client names its master
names_new : (xs : List Member) (y : Member) (m : ℕ) → y.master ≡ m
    → list_any (λ (z : Member). z.master == m) (placed member_before y xs) ≡ true
names_new xs y m e =
    any_placed (λ (z : Member). z.master == m) (λ x. member_before x y) y xs
    ∙ or_left (y.master == m) (list_any (λ (z : Member). z.master == m) xs) (eq-eqb y.master m e)

module _ (v : MasterSet) (a : AreMasters v) where
  -- The device's master exists.
  pub device_there : (m : ℕ) → v.device_master ≡ Some m → is_some (master_at v.masters m) ≡ true
  device_there m e =
      let w =
      some_passing (λ (x : Member). x.is_master && (x.master == m))
      (λ (x : Member). is_some (master_at v.masters x.master) ≡ true) v.members a.masters_there (a.device_own m e)
      in
      subst (λ n. is_some (master_at v.masters n) ≡ true)
      (eqb-true w.0.master m (and_parts w.0.is_master (w.0.master == m) w.1).1) w.2

  -- a new client without a magic
  module _ (y : Member) (absent : is_some (member_of v.members y.client) ≡ false) (room : length v.members < v.last_magic) (none : y.magic ≡ None) where
    come_rise : MembersRise (placed member_before y v.members)
    come_rise =
        rise_placed (λ (x : Member). x.client) y v.members a.members_rise (others_apart v.members y.client absent)

    come_differ : InOrder HaveOtherMagics (placed member_before y v.members)
    come_differ =
        in_order_placed (λ (x : Member). x.client) y v.members a.members_rise HaveOtherMagics a.magics_differ
        (all_each (λ (x : Member). x.client < y.client → HaveOtherMagics x y) (λ x lt. other_none y none x) v.members)
        (all_each (λ (x : Member). nat_lt x.client y.client ≡ false → HaveOtherMagics y x) (λ x e. none_other y none x) v.members)

    -- The facts hold after a client joins an existing master, if a client that is no master joins one without a lessor.
    pub non_master_are : is_some (master_at v.masters y.master) ≡ true → IsNonMaster v.masters y
        → AreMasters (with_member y v)
    non_master_are there non_master = record {
      members_rise = come_rise;
      masters_rise = a.masters_rise;
      lessors_older = a.lessors_older;
      masters_there =
          all_come (λ (x : Member). is_some (master_at v.masters x.master) ≡ true) v.members y a.masters_there there;
      device_own = λ m e. any_stays (λ (x : Member). x.is_master && (x.master == m)) v.members y (a.device_own m e);
      device_owner = a.device_owner;
      guests_of_owners = all_come (IsNonMaster v.masters) v.members y a.guests_of_owners non_master;
      used = same_used v.members (placed member_before y v.members) v.masters (held_more v.members y) a.used;
      magics_differ = come_differ;
      few = few_more v.members y v.last_magic room;
      few_ids = a.few_ids;
    }

    -- The facts hold after a client opens with its own new master, which becomes the device's.
    pub opener_are : (z : Master) → z.lessor ≡ None → y.master ≡ z.step_number → y.is_master ≡ true
        → IsFresh v.masters z.step_number
        → AreMasters (with_device (Some z.step_number) (with_member y (with_master z v)))
    opener_are z top own is_own fresh = record {
      members_rise = come_rise;
      masters_rise = pushed_rise v.masters z fresh;
      lessors_older =
          pushed_older v.masters z fresh (λ l e. absurd (let n : None ≡ Some l = sym top ∙ e in cc)) a.lessors_older;
      masters_there =
          all_come (λ (x : Member). is_some (master_at (placed master_before z v.masters) x.master) ≡ true) v.members y
          (all_weaker (λ (x : Member). is_some (master_at v.masters x.master) ≡ true) (λ (x : Member). is_some (master_at (placed master_before z v.masters) x.master) ≡ true) (λ x e. there_too v.masters z fresh x.master e) v.members a.masters_there)
          (ap (λ n. is_some (master_at (placed master_before z v.masters) n)) own ∙ new_there v.masters z fresh);
      device_own =
          λ m e. any_placed (λ (x : Member). x.is_master && (x.master == m)) (λ x. member_before x y) y v.members
          ∙ or_left (y.is_master && (y.master == m))
          (list_any (λ (x : Member). x.is_master && (x.master == m)) v.members)
          (and_from y.is_master (y.master == m) is_own (eq-eqb y.master m (own ∙ (let s : Some z.step_number ≡ Some m = e in cc))));
      device_owner = new_owner v.masters z fresh top;
      guests_of_owners =
          all_come (IsNonMaster (placed master_before z v.masters)) v.members y
          (guests_pushed v.masters z fresh v.members a.masters_there a.guests_of_owners)
          (λ g. absurd (let j : true ≡ false = sym is_own ∙ g in cc));
      used =
          pushed_used v.masters z fresh v.members (placed member_before y v.members) a.lessors_older
          (held_more v.members y)
          (or_right z.kept (list_any (λ (x : Member). x.master == z.step_number) (placed member_before y v.members)) (names_new v.members y z.step_number own))
          a.used;
      magics_differ = come_differ;
      few = few_more v.members y v.last_magic room;
      few_ids = a.few_ids;
    }

    -- The facts hold after a client redeems an existing lessee.
    pub redeemed_are : is_some (master_at v.masters y.master) ≡ true → y.is_master ≡ true
        → AreMasters (with_kept y.master false (with_member y v))
    redeemed_are there is_own = record {
      members_rise = come_rise;
      masters_rise = kept_rise y.master false v.masters a.masters_rise;
      lessors_older = kept_older y.master false v.masters a.lessors_older;
      masters_there =
          all_come (λ (x : Member). is_some (master_at (map (kept_at y.master false) v.masters) x.master) ≡ true)
          v.members y
          (all_weaker (λ (x : Member). is_some (master_at v.masters x.master) ≡ true) (λ (x : Member). is_some (master_at (map (kept_at y.master false) v.masters) x.master) ≡ true) (λ x e. kept_there y.master false v.masters x.master ∙ e) v.members a.masters_there)
          (kept_there y.master false v.masters y.master ∙ there);
      device_own = λ m e. any_stays (λ (x : Member). x.is_master && (x.master == m)) v.members y (a.device_own m e);
      device_owner = λ m e. kept_lessors y.master false v.masters m ∙ a.device_owner m e;
      guests_of_owners =
          all_come (IsNonMaster (map (kept_at y.master false) v.masters)) v.members y
          (guests_over v.masters (map (kept_at y.master false) v.masters) (kept_lessors y.master false v.masters) v.members a.guests_of_owners)
          (λ g. absurd (let j : true ≡ false = sym is_own ∙ g in cc));
      used = kept_used y.master false v.masters v.members (placed member_before y v.members) held a.used;
      magics_differ = come_differ;
      few = few_more v.members y v.last_magic room;
      few_ids = a.few_ids;
    }
      where
        held : (x : Master) → is_held v.members x ≡ true
            → is_held (placed member_before y v.members) (kept_at y.master false x) ≡ true
        held x h =
            (elim (x.step_number == y.master) as (λ b. (x.step_number == y.master) ≡ b → is_held (placed member_before y v.members) (if b then record x { kept = false } else x) ≡ true) [
              | true ↦ λ e. names_new v.members y x.step_number (sym (eqb-true x.step_number y.master e))
              | false ↦ λ e. held_more v.members y x h
            ]) refl

  -- The facts hold with another device's master that has no lessor and is a client's own.
  pub device_are : (d : Option ℕ)
      → ((m : ℕ) → d ≡ Some m → list_any (λ (x : Member). x.is_master && (x.master == m)) v.members ≡ true)
      → ((m : ℕ) → d ≡ Some m → lessor_of v.masters m ≡ None) → AreMasters (with_device d v)
  device_are d own top =
      record
      { members_rise = a.members_rise; masters_rise = a.masters_rise; lessors_older = a.lessors_older; masters_there = a.masters_there; device_own = own; device_owner = top; guests_of_owners = a.guests_of_owners; used = a.used; magics_differ = a.magics_differ; few = a.few; few_ids = a.few_ids }

  -- The facts hold after a new master is created that is kept and whose lessor exists.
  pub lessee_are : (z : Master) → z.kept ≡ true → HasOlderLessor v.masters z → IsFresh v.masters z.step_number
      → AreMasters (with_master z v)
  lessee_are z kept there fresh = record {
    members_rise = a.members_rise;
    masters_rise = pushed_rise v.masters z fresh;
    lessors_older = pushed_older v.masters z fresh there a.lessors_older;
    masters_there =
        all_weaker (λ (x : Member). is_some (master_at v.masters x.master) ≡ true)
        (λ (x : Member). is_some (master_at (placed master_before z v.masters) x.master) ≡ true)
        (λ x e. there_too v.masters z fresh x.master e) v.members a.masters_there;
    device_own = a.device_own;
    device_owner = λ m e. pushed_lessor v.masters z fresh m (device_there m e) ∙ a.device_owner m e;
    guests_of_owners = guests_pushed v.masters z fresh v.members a.masters_there a.guests_of_owners;
    used =
        pushed_used v.masters z fresh v.members v.members a.lessors_older (λ x h. h)
        (or_left z.kept (list_any (λ (x : Member). x.master == z.step_number) v.members) kept) a.used;
    magics_differ = a.magics_differ;
    few = a.few;
    few_ids = a.few_ids;
  }

  -- The facts but the use of each master hold after a master is kept, or no more.
  pub kept_ties : (m : ℕ) (kept : Bool) → AreTied (with_kept m kept v)
  kept_ties m kept = record {
    members_rise = a.members_rise;
    masters_rise = kept_rise m kept v.masters a.masters_rise;
    lessors_older = kept_older m kept v.masters a.lessors_older;
    masters_there =
        all_weaker (λ (x : Member). is_some (master_at v.masters x.master) ≡ true)
        (λ (x : Member). is_some (master_at (map (kept_at m kept) v.masters) x.master) ≡ true)
        (λ x e. kept_there m kept v.masters x.master ∙ e) v.members a.masters_there;
    device_own = a.device_own;
    device_owner = λ n e. kept_lessors m kept v.masters n ∙ a.device_owner n e;
    guests_of_owners =
        guests_over v.masters (map (kept_at m kept) v.masters) (kept_lessors m kept v.masters) v.members
        a.guests_of_owners;
    magics_differ = a.magics_differ;
    few = a.few;
    few_ids = a.few_ids;
  }

  -- each client is found by its number
  clients_found : AllByRecursion (λ (x : Member). member_of v.members x.client ≡ Some x) v.members
  clients_found = all_found (λ (x : Member). x.client) v.members a.members_rise

  -- A client found by a test passes it and is found by its number.
  pub open_found : (p : Member → Bool) (x : Member) → find p v.members ≡ Some x
      → (p x ≡ true) × (member_of v.members x.client ≡ Some x)
  open_found p x e = found p (λ (y : Member). member_of v.members y.client ≡ Some y) x v.members clients_found e

  -- Each client's master exists.
  pub master_there : (c : ℕ) (x : Member) → member_of v.members c ≡ Some x
      → is_some (master_at v.masters x.master) ≡ true
  master_there c x e =
      (found (is_client c) (λ (y : Member). is_some (master_at v.masters y.master) ≡ true) x v.members a.masters_there e).1

  -- a client is removed
  module _ (x : Member) (here : member_of v.members x.client ≡ Some x) where
    is_it : (y : Member) → member_of v.members y.client ≡ Some y → is_client x.client y ≡ true → y ≡ x
    is_it y e is = let s : Some y ≡ Some x = sym e ∙ ap (member_of v.members) (eqb-true y.client x.client is) ∙ here in cc

    still_there : (q : Member → Bool) → q x ≡ false → list_any q v.members ≡ true
        → list_any q (filter (λ (y : Member). not (is_client x.client y)) v.members) ≡ true
    still_there q fails h =
        any_left (λ (y : Member). member_of v.members y.client ≡ Some y) (is_client x.client) q
        (λ y e is. ap q (is_it y e is) ∙ fails) v.members clients_found h

    gone_rise : MembersRise (filter (λ (y : Member). not (is_client x.client y)) v.members)
    gone_rise =
        in_order_filter (λ (y z : Member). y.client < z.client) (λ (y : Member). not (is_client x.client y)) v.members
        a.members_rise

    gone_differ : InOrder HaveOtherMagics (filter (λ (y : Member). not (is_client x.client y)) v.members)
    gone_differ = in_order_filter HaveOtherMagics (λ (y : Member). not (is_client x.client y)) v.members a.magics_differ

    gone_few : length (filter (λ (y : Member). not (is_client x.client y)) v.members) ≤ v.last_magic
    gone_few = let s = filter-shorter (λ (y : Member). not (is_client x.client y)) v.members in let few = a.few in omega (arith, s, few)

    -- The facts but the use of each master hold without a client that is no master.
    pub gone_ties : x.is_master ≡ false → AreTied (without_member x.client v)
    gone_ties not_own = record {
      members_rise = gone_rise;
      masters_rise = a.masters_rise;
      lessors_older = a.lessors_older;
      masters_there =
          all_filter (λ (y : Member). is_some (master_at v.masters y.master) ≡ true)
          (λ (y : Member). not (is_client x.client y)) v.members a.masters_there;
      device_own =
          λ m e. still_there (λ (y : Member). y.is_master && (y.master == m)) (ap (λ b. b && (x.master == m)) not_own)
          (a.device_own m e);
      device_owner = a.device_owner;
      guests_of_owners =
          all_filter (IsNonMaster v.masters) (λ (y : Member). not (is_client x.client y)) v.members a.guests_of_owners;
      magics_differ = gone_differ;
      few = gone_few;
      few_ids = a.few_ids;
    }

    -- Without a client, all masters but its own are still used.
    pub gone_used : OthersUsed (filter (λ (y : Member). not (is_client x.client y)) v.members) v.masters x.master
    gone_used =
        all_weaker (λ (z : Master). is_used v.members v.masters z ≡ true)
        (λ (z : Master). (z.step_number == x.master) ≡ false → is_used (filter (λ (y : Member). not (is_client x.client y)) v.members) v.masters z ≡ true)
        (λ z used differs. still_used z differs used) v.masters
        (all_living_used v.members v.masters a.masters_rise a.lessors_older a.used)
      where
        either : (a b c d : Bool) → (b ≡ true → d ≡ true) → ((a || b) || c) ≡ true → ((a || d) || c) ≡ true
        either true b c d f h = h
        either false true c d f h = ap (λ e. e || c) (f refl)
        either false false c d f h = or_right d c h

        still_used : (z : Master) → (z.step_number == x.master) ≡ false → is_used v.members v.masters z ≡ true
            → is_used (filter (λ (y : Member). not (is_client x.client y)) v.members) v.masters z ≡ true
        still_used z differs used =
            either z.kept (list_any (λ (y : Member). y.master == z.step_number) v.members)
            (list_any (λ (y : Master). is_option z.step_number y.lessor) v.masters)
            (list_any (λ (y : Member). y.master == z.step_number) (filter (λ (y : Member). not (is_client x.client y)) v.members))
            (still_there (λ (y : Member). y.master == z.step_number) (flipped z.step_number x.master differs)) used

    -- The facts hold after a client closes whose own master is kept.
    pub own_are : AreMasters (closed_own x.client x.master v)
    own_are = record {
      members_rise = gone_rise;
      masters_rise = kept_rise x.master true v.masters a.masters_rise;
      lessors_older = kept_older x.master true v.masters a.lessors_older;
      masters_there =
          all_filter (λ (y : Member). is_some (master_at (map (kept_at x.master true) v.masters) y.master) ≡ true)
          (λ (y : Member). not (is_client x.client y)) v.members
          (all_weaker (λ (y : Member). is_some (master_at v.masters y.master) ≡ true) (λ (y : Member). is_some (master_at (map (kept_at x.master true) v.masters) y.master) ≡ true) (λ y e. kept_there x.master true v.masters y.master ∙ e) v.members a.masters_there);
      device_own = λ m e. of_device m v.device_master refl e;
      device_owner = λ m e. kept_lessors x.master true v.masters m ∙ a.device_owner m (still_device v.device_master e);
      guests_of_owners =
          all_filter (IsNonMaster (map (kept_at x.master true) v.masters)) (λ (y : Member). not (is_client x.client y))
          v.members
          (guests_over v.masters (map (kept_at x.master true) v.masters) (kept_lessors x.master true v.masters) v.members a.guests_of_owners);
      used =
          kept_used x.master true v.masters v.members (filter (λ (y : Member). not (is_client x.client y)) v.members)
          held a.used;
      magics_differ = gone_differ;
      few = gone_few;
      few_ids = a.few_ids;
    }
      where
        still_device : {m : ℕ} (d : Option ℕ) → (if is_option x.master d then None else d) ≡ Some m → d ≡ Some m
        still_device {m} d e =
            (elim (is_option x.master d) as (λ b. (if b then None else d) ≡ Some m → d ≡ Some m) [ true ↦ λ k. absurd (let n : None ≡ Some m = k in cc) | false ↦ λ k. k ])
            e

        others : (m : ℕ) → (m == x.master) ≡ false → (x.master == m) ≡ false
        others m e =
            (elim (x.master == m) as (λ b. (x.master == m) ≡ b → b ≡ false) [ true ↦ λ k. absurd (let j : false ≡ true = sym e ∙ eq-eqb m x.master (sym (eqb-true x.master m k)) in cc) | false ↦ λ k. refl ])
            refl

        of_device : (m : ℕ) (d : Option ℕ) → v.device_master ≡ d → (if is_option x.master d then None else d) ≡ Some m
            → list_any (λ (y : Member). y.is_master && (y.master == m)) (filter (λ (y : Member). not (is_client x.client y)) v.members) ≡ true
        of_device m None is e = absurd (let n : None ≡ Some m = e in cc)
        of_device m (Some d) is e =
            (elim (d == x.master) as (λ b. (d == x.master) ≡ b → (if b then None else Some d) ≡ Some m → list_any (λ (y : Member). y.is_master && (y.master == m)) (filter (λ (y : Member). not (is_client x.client y)) v.members) ≡ true) [
              | true ↦ λ k n. absurd (let j : None ≡ Some m = n in cc)
              | false ↦ λ k n.
                  let same : d ≡ m = cc in
                  still_there (λ (y : Member). y.is_master && (y.master == m))
                  (ap (λ b. x.is_master && b) (others m (sym (ap (λ j. j == x.master) same) ∙ k)) ∙ and-false x.is_master)
                  (a.device_own m (is ∙ n))
            ]) refl e

        held : (z : Master) → is_held v.members z ≡ true
            → is_held (filter (λ (y : Member). not (is_client x.client y)) v.members) (kept_at x.master true z) ≡ true
        held z h =
            (elim (z.step_number == x.master) as (λ b. (z.step_number == x.master) ≡ b → is_held (filter (λ (y : Member). not (is_client x.client y)) v.members) (if b then record z { kept = true } else z) ≡ true) [
              | true ↦ λ e. refl
              | false ↦ λ e. or_more z.kept (list_any (λ (y : Member). y.master == z.step_number) v.members) (list_any (λ (y : Member). y.master == z.step_number) (filter (λ (y : Member). not (is_client x.client y)) v.members)) (still_there (λ (y : Member). y.master == z.step_number) (others z.step_number e)) h
            ]) refl

  -- a client's row is another now
  module _ (x y : Member) (here : member_of v.members x.client ≡ Some x) (same : y.client ≡ x.client) where
    abbrev put : Member → Member
    put z = if is_client y.client z then y else z

    put_client : (z : Member) → (put z).client ≡ z.client
    put_client z =
        (elim (z.client == y.client) as (λ b. (z.client == y.client) ≡ b → (if b then y else z).client ≡ z.client) [ true ↦ λ e. sym (eqb-true z.client y.client e) | false ↦ λ e. refl ])
        refl

    -- A change of a client's row keeps the order of the clients.
    pub put_rise : MembersRise (map put v.members)
    put_rise =
        in_order_kept (λ (z u : Member). z.client < u.client) put
        (λ z u lt. omega (arith, lt, put_client z, put_client u)) v.members a.members_rise

    -- it is this row, or the row is unchanged
    by_row : (P : Member → Type 0) (z : Member) → member_of v.members z.client ≡ Some z → (z ≡ x → P y) → P z
        → P (put z)
    by_row P z e it other =
        (elim (z.client == y.client) as (λ b. (z.client == y.client) ≡ b → P (if b then y else z)) [
          | true ↦ λ k. it (is_it x here z e (ap (λ n. z.client == n) (sym same) ∙ k))
          | false ↦ λ k. other
        ]) refl

    -- a test that passes with the old row passes with the new one
    put_any : (q : Member → Bool) → q y ≡ q x → list_any q v.members ≡ true → list_any q (map put v.members) ≡ true
    put_any q e h =
        list_any-map q put v.members
        ∙ any_more (λ (z : Member). member_of v.members z.client ≡ Some z) q (λ z. q (put z))
        (λ z at t. by_row (λ u. q u ≡ true) z at (λ zx. e ∙ ap q (sym zx) ∙ t) t) v.members clients_found h

    few_put : length (map put v.members) ≤ v.last_magic
    few_put = let e = length-map v.members put in let few = a.few in omega (arith, e, few)

    -- The facts hold after a client's row is changed with the same master, if no magics become equal.
    pub changed_are : y.master ≡ x.master → y.is_master ≡ x.is_master → InOrder HaveOtherMagics (map put v.members)
        → AreMasters (changed_member y v)
    changed_are of_one is differ = record {
      members_rise = put_rise;
      masters_rise = a.masters_rise;
      lessors_older = a.lessors_older;
      masters_there =
          all_mapped (λ (z : Member). is_some (master_at v.masters z.master) ≡ true) put v.members
          (all_both (λ (z : Member). member_of v.members z.client ≡ Some z) (λ (z : Member). is_some (master_at v.masters z.master) ≡ true) (λ z. is_some (master_at v.masters (put z).master) ≡ true)
          (λ z at there. by_row (λ u. is_some (master_at v.masters u.master) ≡ true) z at (λ zx. ap (λ n. is_some (master_at v.masters n)) (of_one ∙ ap (λ (u : Member). u.master) (sym zx)) ∙ there) there) v.members clients_found a.masters_there);
      device_own =
          λ m e. put_any (λ (z : Member). z.is_master && (z.master == m))
          (ap (λ b. b && (y.master == m)) is ∙ ap (λ n. x.is_master && (n == m)) of_one) (a.device_own m e);
      device_owner = a.device_owner;
      guests_of_owners =
          all_mapped (IsNonMaster v.masters) put v.members
          (all_both (λ (z : Member). member_of v.members z.client ≡ Some z) (IsNonMaster v.masters) (λ z. IsNonMaster v.masters (put z))
          (λ z at h. by_row (IsNonMaster v.masters) z at (λ zx own. ap (lessor_of v.masters) (of_one ∙ ap (λ (u : Member). u.master) (sym zx)) ∙ h (ap (λ (u : Member). u.is_master) zx ∙ sym is ∙ own)) h) v.members clients_found a.guests_of_owners);
      used =
          same_used v.members (map put v.members) v.masters
          (λ z h. or_more z.kept (list_any (λ (u : Member). u.master == z.step_number) v.members) (list_any (λ (u : Member). u.master == z.step_number) (map put v.members)) (put_any (λ (u : Member). u.master == z.step_number) (ap (λ n. n == z.step_number) of_one)) h)
          a.used;
      magics_differ = differ;
      few = few_put;
      few_ids = a.few_ids;
    }

    -- The facts but the use of each master hold after a client gets a new master.
    pub remade_ties : (z : Master) → z.lessor ≡ None → y.master ≡ z.step_number → y.is_master ≡ true → y.magic ≡ None
        → IsFresh v.masters z.step_number
        → AreTied (with_device (Some z.step_number) (changed_member y (with_master z v)))
    remade_ties z top own is_own none fresh = record {
      members_rise = put_rise;
      masters_rise = pushed_rise v.masters z fresh;
      lessors_older =
          pushed_older v.masters z fresh (λ l e. absurd (let n : None ≡ Some l = sym top ∙ e in cc)) a.lessors_older;
      masters_there =
          all_mapped (λ (u : Member). is_some (master_at (placed master_before z v.masters) u.master) ≡ true) put
          v.members
          (all_both (λ (u : Member). member_of v.members u.client ≡ Some u) (λ (u : Member). is_some (master_at v.masters u.master) ≡ true) (λ u. is_some (master_at (placed master_before z v.masters) (put u).master) ≡ true)
          (λ u at there. by_row (λ w. is_some (master_at (placed master_before z v.masters) w.master) ≡ true) u at (λ ux. ap (λ n. is_some (master_at (placed master_before z v.masters) n)) own ∙ new_there v.masters z fresh) (there_too v.masters z fresh u.master there)) v.members clients_found a.masters_there);
      device_own = λ m e. is_device m (let s : Some z.step_number ≡ Some m = e in cc);
      device_owner = new_owner v.masters z fresh top;
      guests_of_owners =
          all_mapped (IsNonMaster (placed master_before z v.masters)) put v.members
          (all_both (λ (u : Member). member_of v.members u.client ≡ Some u) (IsNonMaster (placed master_before z v.masters)) (λ u. IsNonMaster (placed master_before z v.masters) (put u))
          (λ u at h. by_row (IsNonMaster (placed master_before z v.masters)) u at (λ ux g. absurd (let j : true ≡ false = sym is_own ∙ g in cc)) h) v.members clients_found (guests_pushed v.masters z fresh v.members a.masters_there a.guests_of_owners));
      magics_differ =
          in_order_mapped (λ (u : Member). member_of v.members u.client ≡ Some u) HaveOtherMagics HaveOtherMagics put
          (λ u w at au h. differ u w at au h) v.members clients_found a.magics_differ;
      few = few_put;
      few_ids = a.few_ids;
    }
      where
        is_device : (m : ℕ) → z.step_number ≡ m
            → list_any (λ (u : Member). u.is_master && (u.master == m)) (map put v.members) ≡ true
        is_device m e =
            let q = λ (u : Member). u.is_master && (u.master == m) in
            list_any-map q put v.members
            ∙ any_found (is_client x.client) (λ u. q (put u)) x v.members here
            (ap (λ b. q (if b then y else x)) (eq-eqb x.client y.client (sym same)) ∙ and_from y.is_master (y.master == m) is_own (eq-eqb y.master m (own ∙ e)))

        differ : (u w : Member) → member_of v.members u.client ≡ Some u → member_of v.members w.client ≡ Some w
            → HaveOtherMagics u w → HaveOtherMagics (put u) (put w)
        differ u w at aw h =
            by_row (λ b. HaveOtherMagics b (put w)) u at
            (λ ux n k. absurd (let j : false ≡ true = sym (no_magic y.master n y none) ∙ k in cc))
            (by_row (λ b. HaveOtherMagics u b) w aw (λ wx. other_none y none u) h)

    -- After a client gets a new master, all masters but its former one are used.
    pub remade_used : (z : Master) → y.master ≡ z.step_number
        → OthersUsed (map put v.members) (placed master_before z v.masters) x.master
    remade_used z own =
        all_placed
        (λ (u : Master). (u.step_number == x.master) ≡ false → is_used (map put v.members) (placed master_before z v.masters) u ≡ true)
        (λ (u : Master). master_before u z) z v.masters
        (λ _. or_left (is_held (map put v.members) z) (list_any (λ (w : Master). is_option z.step_number w.lessor) (placed master_before z v.masters)) (or_right z.kept (list_any (λ (u : Member). u.master == z.step_number) (map put v.members)) named))
        (all_weaker (λ (u : Master). is_used v.members v.masters u ≡ true) (λ (u : Master). (u.step_number == x.master) ≡ false → is_used (map put v.members) (placed master_before z v.masters) u ≡ true) each v.masters (all_living_used v.members v.masters a.masters_rise a.lessors_older a.used))
      where
        named : list_any (λ (u : Member). u.master == z.step_number) (map put v.members) ≡ true
        named =
            list_any-map (λ (u : Member). u.master == z.step_number) put v.members
            ∙ any_found (is_client x.client) (λ u. (put u).master == z.step_number) x v.members here
            (ap (λ b. (if b then y else x).master == z.step_number) (eq-eqb x.client y.client (sym same)) ∙ eq-eqb y.master z.step_number own)

        either : (k b c d e : Bool) → (b ≡ true → d ≡ true) → (c ≡ true → e ≡ true) → ((k || b) || c) ≡ true
            → ((k || d) || e) ≡ true
        either true b c d e f g h = refl
        either false true c d e f g h = or_left d e (f refl)
        either false false c d e f g h = or_right d e (g h)

        each : (u : Master) → is_used v.members v.masters u ≡ true → (u.step_number == x.master) ≡ false
            → is_used (map put v.members) (placed master_before z v.masters) u ≡ true
        each u used differs =
            either u.kept (list_any (λ (w : Member). w.master == u.step_number) v.members)
            (list_any (λ (w : Master). is_option u.step_number w.lessor) v.masters)
            (list_any (λ (w : Member). w.master == u.step_number) (map put v.members))
            (list_any (λ (w : Master). is_option u.step_number w.lessor) (placed master_before z v.masters))
            still
            (λ h. any_placed (λ (w : Master). is_option u.step_number w.lessor) (λ w. master_before w z) z v.masters ∙ or_right (is_option u.step_number z.lessor) (list_any (λ (w : Master). is_option u.step_number w.lessor) v.masters) h)
            used
          where
            still : list_any (λ (w : Member). w.master == u.step_number) v.members ≡ true
                → list_any (λ (w : Member). w.master == u.step_number) (map put v.members) ≡ true
            still h =
                list_any-map (λ (w : Member). w.master == u.step_number) put v.members
                ∙ any_more (λ (w : Member). member_of v.members w.client ≡ Some w)
                (λ (w : Member). w.master == u.step_number) (λ w. (put w).master == u.step_number)
                (λ w at t. by_row (λ r. (r.master == u.step_number) ≡ true) w at
                (λ wx. absurd (let j : false ≡ true = sym differs ∙ eq-eqb u.step_number x.master (sym (eqb-true w.master u.step_number t) ∙ ap (λ (r : Member). r.master) wx) in cc)) t) v.members clients_found h

  -- a client's number
  module _ (x : Member) (here : member_of v.members x.client ≡ Some x) (n : ℕ) where
    -- The facts hold after a client gets a magic that no client of its master has.
    pub given_are : list_any (has_magic x.master n) v.members ≡ false
        → AreMasters (changed_member (with_magic n false x) v)
    given_are free =
        changed_are x (with_magic n false x) here refl refl refl
        (in_order_mapped Free (λ u w. (u.client < w.client) × HaveOtherMagics u w) HaveOtherMagics (put x (with_magic n false x) here refl) (λ u w fu fw h. differ u w fu fw h.0 h.1) v.members
        (all_both (λ (z : Member). member_of v.members z.client ≡ Some z) (λ z. has_magic x.master n z ≡ false) Free (λ z e f. (e, f)) v.members clients_found (each_fails (has_magic x.master n) v.members free)) (in_order_both (λ (u w : Member). u.client < w.client) HaveOtherMagics v.members a.members_rise a.magics_differ))
      where
        Free : Member → Type 0
        Free z = (member_of v.members z.client ≡ Some z) × (has_magic x.master n z ≡ false)

        differ : (u w : Member) → Free u → Free w → u.client < w.client → HaveOtherMagics u w
            → HaveOtherMagics (put x (with_magic n false x) here refl u) (put x (with_magic n false x) here refl w)
        differ u w fu fw lt h =
            let new = with_magic n false x in
            by_row x new here refl (λ b. HaveOtherMagics b (put x new here refl w)) u fu.0
            (λ ux. by_row x new here refl (HaveOtherMagics new) w fw.0 (λ wx. absurd (let one : u.client ≡ w.client = ap (λ (b : Member). b.client) (ux ∙ sym wx) in omega (arith, lt, one))) (given_before x n false w fw.1))
            (by_row x new here refl (HaveOtherMagics u) w fw.0 (λ wx. given_behind x n false u fu.1) h)

    -- The facts hold after an unspent magic is spent.
    pub spent_are : (m : ℕ) → has_open_magic m n x ≡ true → AreMasters (changed_member (with_magic n true x) v)
    spent_are m unspent =
        changed_are x (with_magic n true x) here refl refl refl
        (in_order_mapped (λ (z : Member). member_of v.members z.client ≡ Some z) (λ u w. (u.client < w.client) × HaveOtherMagics u w) HaveOtherMagics (put x (with_magic n true x) here refl) (λ u w at aw h. differ u w at aw h.0 h.1) v.members clients_found
        (in_order_both (λ (u w : Member). u.client < w.client) HaveOtherMagics v.members a.members_rise a.magics_differ))
      where
        number : (b : Bool) (g : Option Magic)
            → (b && option_map_or (λ (d : Magic). (d.number == n) && not d.spent) g false) ≡ true
            → option_map_or (λ (d : Magic). d.number == n) g false ≡ true
        number b None h = absurd (let j : false ≡ true = sym (and-false b) ∙ h in cc)
        number b (Some d) h =
            (and_parts (d.number == n) (not d.spent) (and_parts b ((d.number == n) && not d.spent) h).1).0

        as_it : (k j : ℕ) → has_magic k j (with_magic n true x) ≡ has_magic k j x
        as_it k j = spent_same k j n true x (number (x.master == m) x.magic unspent)

        differ : (u w : Member) → member_of v.members u.client ≡ Some u → member_of v.members w.client ≡ Some w
            → u.client < w.client → HaveOtherMagics u w
            → HaveOtherMagics (put x (with_magic n true x) here refl u) (put x (with_magic n true x) here refl w)
        differ u w at aw lt h =
            let new = with_magic n true x in
            by_row x new here refl (λ b. HaveOtherMagics b (put x new here refl w)) u at
            (λ ux. by_row x new here refl (HaveOtherMagics new) w aw (λ wx. absurd (let one : u.client ≡ w.client = ap (λ (b : Member). b.client) (ux ∙ sym wx) in omega (arith, lt, one))) (λ k e. subst (λ (b : Member). HaveOtherMagics b w) ux h k (sym (as_it x.master k) ∙ e)))
            (by_row x new here refl (HaveOtherMagics u) w aw (λ wx k e. as_it u.master k ∙ ap (has_magic u.master k) (sym wx) ∙ h k e) h)

-- After a master is kept no more, all others are used.
pub released_used : (v : MasterSet) → AreMasters v → (m : ℕ) → OthersUsed v.members (with_kept m false v).masters m
released_used v a m =
    all_mapped (λ (z : Master). (z.step_number == m) ≡ false → is_used v.members (with_kept m false v).masters z ≡ true)
    (kept_at m false) v.masters
    (all_weaker (λ (z : Master). is_used v.members v.masters z ≡ true) (λ (z : Master). ((kept_at m false z).step_number == m) ≡ false → is_used v.members (with_kept m false v).masters (kept_at m false z) ≡ true)
    (λ z used differs.
    let other : (z.step_number == m) ≡ false = ap (λ n. n == m) (sym (step_number_stays m false z)) ∙ differs in
    let same : kept_at m false z ≡ z = ap (λ b. if b then record z { kept = false } else z) other in
    ap (λ (u : Master). is_used v.members (with_kept m false v).masters u) same
    ∙ ap (λ b. is_held v.members z || b)
    (list_any-map (λ (y : Master). is_option z.step_number y.lessor) (kept_at m false) v.masters ∙ list_any_agree (λ (y : Master). is_option z.step_number (kept_at m false y).lessor) (λ (y : Master). is_option z.step_number y.lessor) (λ y. ap (is_option z.step_number) (lessor_stays m false y)) v.masters)
    ∙ used
    ) v.masters (all_living_used v.members v.masters a.masters_rise a.lessors_older a.used))

-- ---- the fields

-- If all facts hold of the set that the fields represent, the fields are sound.
pub sound : (a : Inside) (v : MasterSet) → set_of a ≡ v → AreMasters v → Keyed v.masters → IsSound a
sound a v e are keyed = record {
  are = subst AreMasters (sym e) are;
  keyed = subst (λ (w : MasterSet). Keyed w.masters) (sym e) keyed;
}

-- and of which it is so then
pub record Known (a : Inside) (v : MasterSet) : Type 0 where
  pub are : AreMasters v
  pub keyed : Keyed v.masters

-- The facts about the fields are facts about the set that they represent.
pub known : (a : Inside) (v : MasterSet) → set_of a ≡ v → IsSound a → Known a v
known a v e so = record {
  are = subst AreMasters e so.are;
  keyed = subst (λ (w : MasterSet). Keyed w.masters) e so.keyed;
}

-- a master is found by its key
each_keyed : (ms : List Master) → Keyed ms → AllByRecursion (λ (x : Master). find (is_key x.key) ms ≡ Some x) ms
each_keyed ms keyed = all_found_apart (λ (x : Master). x.key) ms keyed

-- The master at a step number is found by its key.
pub keyed_found : (ms : List Master) (n : ℕ) (x : Master) → Keyed ms → master_at ms n ≡ Some x → IsKeyOf ms n x.key
keyed_found ms n x keyed e =
    let is = found (is_step_number n) (λ (y : Master). find (is_key y.key) ms ≡ Some y) x ms (each_keyed ms keyed) e in
    ap (option_map (λ (y : Master). y.step_number)) is.1 ∙ ap Some (eqb-true x.step_number n is.0)

-- The key of a master found at a step number finds this master.
pub keyed_at : (ms : List Master) (n : ℕ) → Keyed ms → (o : Option Master) → o ≡ master_at ms n
    → IfSome o (λ x. IsKeyOf ms n x.key)
keyed_at ms n keyed None e = tt
keyed_at ms n keyed (Some x) e = keyed_found ms n x keyed (sym e)

-- The key of a master found by any test finds this master.
pub keyed_each : (ms : List Master) → Keyed ms → (p : Master → Bool) (o : Option Master) → o ≡ find p ms
    → IfSome o (λ x. IsKeyOf ms x.step_number x.key)
keyed_each ms keyed p None e = tt
keyed_each ms keyed p (Some x) e =
    ap (option_map (λ (y : Master). y.step_number))
    (found p (λ (y : Master). find (is_key y.key) ms ≡ Some y) x ms (each_keyed ms keyed) (sym e)).1

-- With a new master under a free key, no two masters have the same key.
pub keyed_more : (ms : List Master) (z : Master) (k : ℕ) → Rise ms → Keyed ms → find (is_key k) ms ≡ None → z.key ≡ k
    → Keyed (placed master_before z ms)
keyed_more ms z k rise keyed free is =
    let others = none_found (is_key k) ms free in
    in_order_placed (λ (x : Master). x.step_number) z ms rise (λ (x y : Master). (x.key == y.key) ≡ false) keyed
    (all_weaker (λ (x : Master). is_key k x ≡ false) (λ (x : Master). x.step_number < z.step_number → (x.key == z.key) ≡ false) (λ x e lt. ap (λ n. x.key == n) is ∙ e) ms others)
    (all_weaker (λ (x : Master). is_key k x ≡ false) (λ (x : Master). nat_lt x.step_number z.step_number ≡ false → (z.key == x.key) ≡ false) (λ x e lt. flipped x.key z.key (ap (λ n. x.key == n) is ∙ e)) ms others)

-- With fewer masters, still no two have the same key.
pub keyed_fewer : (ms : List Master) (p : Master → Bool) → Keyed ms → Keyed (filter p ms)
keyed_fewer ms p keyed = in_order_filter (λ (x y : Master). (x.key == y.key) ≡ false) p ms keyed

-- A client that is found has the number, and its row is found by it.
pub client_found : (xs : List Member) (c : ℕ) (x : Member) → member_of xs c ≡ Some x
    → (x.client ≡ c) × (member_of xs x.client ≡ Some x)
client_found xs c x e =
    let num : x.client ≡ c =
    eqb-true x.client c (found (is_client c) (λ _. Unit {0}) x xs (all_each (λ _. Unit {0}) (λ _. tt) xs) e).0 in
    (num, ap (member_of xs) num ∙ e)

-- The master found by a key has the step number of this key and exists.
pub of_key : (ms : List Master) (key : ℕ) (x : Master) → find (is_key key) ms ≡ Some x
    → (step_number_at ms key ≡ x.step_number) × (is_some (master_at ms x.step_number) ≡ true)
of_key ms key x e = (
  ap (λ o. option_map_or (λ (y : Master). y.step_number) o 0) e,
  is_some-find (is_step_number x.step_number) ms
      ∙ any_found (is_key key) (is_step_number x.step_number) x ms e (eq-eqb x.step_number x.step_number refl),
)

-- The master found by a step number has it.
pub at_step_number : (ms : List Master) (m : ℕ) (x : Master) → master_at ms m ≡ Some x
    → (x.step_number ≡ m) × (master_at ms x.step_number ≡ Some x)
at_step_number ms m x e =
    let num : x.step_number ≡ m =
    eqb-true x.step_number m
    (found (is_step_number m) (λ _. Unit {0}) x ms (all_each (λ _. Unit {0}) (λ _. tt) ms) e).0 in
    (num, ap (master_at ms) num ∙ e)
