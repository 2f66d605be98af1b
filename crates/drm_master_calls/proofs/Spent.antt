-- The magic that AUTH_MAGIC spends.
use Rattle.std.proofs.Common.{◌≡◌, ℕ, ◌==◌, ◌&&◌, Bool, true, false, not, cond, List, [], ◌∷◌, map, find, Option, None, Some, refl, sym, ap, subst, ◌∙◌, eq-eqb}
use Rattle.std.specs.Prelude.{if◌then◌else◌}
use Rattle.std.specs.Option.{option_map, option_map_or, option_and_then}
use Rattle.std.specs.List.{filter_map, cons_option, AllByRecursion}
use Rattle.std.proofs.lemmas.Bool.{eqb-true, and_parts}
use Rattle.drm_index_array.specs.Orders.{SameRows, InOrder}
use Rattle.drm_index_array.proofs.Lists.{all_weaker, all_both, all_each}
use Rattle.drm_index_array.proofs.Numbers.{same_either}
use Rattle.drm_index_array.proofs.Orders.{same-map}
use Rattle.drm_index_array.proofs.Rising.{found, all_found}
use Rattle.drm_masters.specs.declared.rows.Magic.{Magic}
use Rattle.drm_masters.specs.declared.rows.Member.{Member}
use Rattle.drm_masters.specs.Masters.{MasterSet, HaveOtherMagics, AreMasters, member_of, has_magic, has_open_magic}
use Rattle.drm_masters.specs.Calls.{with_magic, changed_member}
use Rattle.drm_files.specs.Files as files
use Rattle.drm_model.specs.Rows.{Rows, ClientRow, MagicRow}
use Rattle.drm_model.specs.Magics.{is_open_magic, magic_client, with_spent, with_authenticated}
use Rattle.drm_model.specs.Parts.{Part, Clients, Magics}
use Rattle.drm_state.specs.declared.state.State.{State}
use Rattle.drm_state.specs.Parts.{magic_row_of, magics_of, clients_of}
use Rattle.drm_state.specs.Invariants.{MeetsInvariants}
use Rattle.drm_state.specs.Refinement.{represents_part, Represents}
use Rattle.drm_state.proofs.Represented.{clients_are, magics_are, masters_so}
use Rattle.drm_state.proofs.MagicRows.{find-filter_map, all-filter_map, found_in_any_order, OnlyIt}
use Rattle.drm_master_calls.proofs.Callers.{open_is}
use Rattle.drm_master_calls.proofs.Authenticated.{put, changed_clients}
use Rattle.std.proofs.lemmas.Option.{same_Some}

-- a number that a client does not have it does not have unspent either
narrower : (a b c : Bool) → (a && b) ≡ false → (a && (b && c)) ≡ false
narrower true true c e = absurd (let k : true ≡ false = e in cc)
narrower true false c e = refl
narrower false b c e = refl

not_open : (m n : ℕ) (z : Member) → has_magic m n z ≡ false → has_open_magic m n z ≡ false
not_open m n z h = by_magic z.magic h
  where
    by_magic : (g : Option Magic) → ((z.master == m) && option_map_or (λ (d : Magic). d.number == n) g false) ≡ false
        → ((z.master == m) && option_map_or (λ (d : Magic). (d.number == n) && not d.spent) g false) ≡ false
    by_magic None e = e
    by_magic (Some d) e = narrower (z.master == m) (d.number == n) (not d.spent) e

clash : (b : Bool) → b ≡ false → b ≡ true → ⊥
clash b e k = cc

-- ---- the client that has the magic unspent

module _ (m n : ℕ) (y : Member) where
  -- its number and its master
  its_magic : has_open_magic m n y ≡ true → (y.master ≡ m) × (d : Magic) × (y.magic ≡ Some d) × (d.number ≡ n)
  its_magic h = by_magic y.magic refl h
    where
      by_magic : (g : Option Magic) → y.magic ≡ g
          → ((y.master == m) && option_map_or (λ (d : Magic). (d.number == n) && not d.spent) g false) ≡ true
          → (y.master ≡ m) × (d : Magic) × (y.magic ≡ Some d) × (d.number ≡ n)
      by_magic None e k = absurd (clash false refl (and_parts (y.master == m) false k).1)
      by_magic (Some d) e k =
          let b = and_parts (y.master == m) ((d.number == n) && not d.spent) k in
          (eqb-true y.master m b.0, d, e, eqb-true d.number n (and_parts (d.number == n) (not d.spent) b.1).0)

  has_it : has_open_magic m n y ≡ true → has_magic y.master n y ≡ true
  has_it h =
      let k = its_magic h in
      ap (λ b. b && option_map_or (λ (d : Magic). d.number == n) y.magic false) (eq-eqb y.master y.master refl)
      ∙ ap (λ g. option_map_or (λ (d : Magic). d.number == n) g false) k.2 ∙ eq-eqb k.1.number n k.3

  -- no other has it
  one_open : (xs : List Member) → InOrder HaveOtherMagics xs → find (has_open_magic m n) xs ≡ Some y
      → AllByRecursion (λ (u : Member). has_open_magic m n u ≡ true → u ≡ y) xs
  one_open [] rise e = tt
  one_open (z ∷ zs) rise e =
      (elim (has_open_magic m n z) as (λ b. has_open_magic m n z ≡ b → cond b (Some z) (find (has_open_magic m n) zs) ≡ Some y → AllByRecursion (λ (u : Member). has_open_magic m n u ≡ true → u ≡ y) (z ∷ zs)) [
        | true ↦ λ k j.
            let same : z ≡ y = same_Some z y j in
            (λ _. same, all_weaker (λ (u : Member). HaveOtherMagics z u) (λ (u : Member). has_open_magic m n u ≡ true → u ≡ y) (λ u others o. absurd (clash (has_open_magic m n u) (not_open m n u (others_have u (subst (λ v. HaveOtherMagics v u) same others) (ap (has_open_magic m n) (sym same) ∙ k))) o)) zs rise.0)
        | false ↦ λ k j. (λ o. absurd (clash (has_open_magic m n z) k o), one_open zs rise.1 j)
      ]) refl e
    where
      others_have : (u : Member) → HaveOtherMagics y u → has_open_magic m n y ≡ true → has_magic m n u ≡ false
      others_have u others o = ap (λ k. has_magic k n u) (sym (its_magic o).0) ∙ others n (has_it o)

  -- ---- its row

  abbrev spend : MagicRow → MagicRow
  spend row = if is_open_magic m n row then record row { spent = true } else row

  row_stays : (z : Member) → has_open_magic m n z ≡ false → option_map spend (magic_row_of z) ≡ magic_row_of z
  row_stays z e = by_row (magic_row_of z) (open_is m n z ∙ e)
    where
      by_row : (o : Option MagicRow) → option_map_or (is_open_magic m n) o false ≡ false → option_map spend o ≡ o
      by_row None k = refl
      by_row (Some r) k = ap (λ b. Some (if b then record r { spent = true } else r)) k

  row_spent : has_open_magic m n y ≡ true → option_map spend (magic_row_of y) ≡ magic_row_of (with_magic n true y)
  row_spent h =
      let k = its_magic h in
      by_row (magic_row_of y) refl (open_is m n y ∙ h)
      ∙ ap (option_map (λ (r : MagicRow). record r { spent = true })) (ap (option_map (λ (d : Magic). row_by d)) k.2)
      ∙ (λ i. Some (record { master = y.master; number = k.3 i; client = y.client; spent = true }))
    where
      row_by : Magic → MagicRow
      row_by d = record { master = y.master; number = d.number; client = y.client; spent = d.spent }

      by_row : (o : Option MagicRow) → magic_row_of y ≡ o → option_map_or (is_open_magic m n) o false ≡ true
          → option_map spend o ≡ option_map (λ (r : MagicRow). record r { spent = true }) o
      by_row None e j = refl
      by_row (Some r) e j = ap (λ b. Some (if b then record r { spent = true } else r)) j

  map_option : (o : Option MagicRow) (rows : List MagicRow)
      → map spend (cons_option o rows) ≡ cons_option (option_map spend o) (map spend rows)
  map_option None rows = refl
  map_option (Some r) rows = refl

  each_row : (xs : List Member)
      → AllByRecursion (λ (u : Member). option_map spend (magic_row_of u) ≡ magic_row_of (put (with_magic n true y) u)) xs
      → map spend (filter_map magic_row_of xs) ≡ filter_map magic_row_of (map (put (with_magic n true y)) xs)
  each_row [] h = refl
  each_row (u ∷ us) h =
      map_option (magic_row_of u) (filter_map magic_row_of us) ∙ (λ i. cons_option (h.0 i) (each_row us h.1 i))

  module _ (v : MasterSet) (are : AreMasters v) (e : find (has_open_magic m n) v.members ≡ Some y) where
    opens : has_open_magic m n y ≡ true
    opens = (found (has_open_magic m n) (λ _. Unit {0}) y v.members (all_each (λ _. Unit {0}) (λ _. tt) v.members) e).0

    -- The client that has the magic unspent is found by its number.
    pub member_is : member_of v.members y.client ≡ Some y
    member_is =
        (found (has_open_magic m n) (λ (u : Member). member_of v.members u.client ≡ Some u) y v.members (all_found (λ (u : Member). u.client) v.members are.members_rise) e).1

    one : (u : Member) → (has_open_magic m n u ≡ true → u ≡ y) → member_of v.members u.client ≡ Some u
        → option_map spend (magic_row_of u) ≡ magic_row_of (put (with_magic n true y) u)
    one u only at =
        (elim (u.client == y.client) as (λ b. (u.client == y.client) ≡ b → option_map spend (magic_row_of u) ≡ magic_row_of (if b then with_magic n true y else u)) [
          | true ↦ λ k.
              let same : u ≡ y =
              same_Some u y (sym at ∙ ap (member_of v.members) (eqb-true u.client y.client k) ∙ member_is) in
              ap (λ z. option_map spend (magic_row_of z)) same ∙ row_spent opens
          | false ↦ λ k. row_stays u (closed u k only)
        ]) refl
      where
        closed : (u : Member) → (u.client == y.client) ≡ false → (has_open_magic m n u ≡ true → u ≡ y)
            → has_open_magic m n u ≡ false
        closed u k only =
            (elim (has_open_magic m n u) as (λ b. has_open_magic m n u ≡ b → b ≡ false) [ true ↦ λ o. absurd (clash (u.client == y.client) k (eq-eqb u.client y.client (ap (λ (z : Member). z.client) (only o)))) | false ↦ λ o. refl ])
            refl

    -- The rows of magics change for the spent magic alone.
    pub spent_rows : map spend (filter_map magic_row_of v.members) ≡ filter_map magic_row_of (map (put (with_magic n true y)) v.members)
    spent_rows =
        each_row v.members (all_both (λ (u : Member). has_open_magic m n u ≡ true → u ≡ y) (λ (u : Member). member_of v.members u.client ≡ Some u) (λ (u : Member). option_map spend (magic_row_of u) ≡ magic_row_of (put (with_magic n true y) u)) one v.members
        (one_open v.members are.magics_differ e) (all_found (λ (u : Member). u.client) v.members are.members_rise))

    -- the row of the magic, in any order
    only_row : (r : MagicRow) → find (is_open_magic m n) (filter_map magic_row_of v.members) ≡ Some r
        → OnlyIt (is_open_magic m n) (filter_map magic_row_of v.members) r
    only_row r f =
        all-filter_map (λ (z : MagicRow). is_open_magic m n z ≡ true → z ≡ r) magic_row_of v.members
        (all_weaker (λ (u : Member). has_open_magic m n u ≡ true → u ≡ y) (λ (u : Member). (z : MagicRow) → magic_row_of u ≡ Some z → is_open_magic m n z ≡ true → z ≡ r) (λ u only z k o.
        let open_u : has_open_magic m n u ≡ true =
        sym (open_is m n u) ∙ ap (λ q. option_map_or (is_open_magic m n) q false) k ∙ o in
        same_Some z r (sym k ∙ ap magic_row_of (only open_u) ∙ sym row_found ∙ f)) v.members (one_open v.members are.magics_differ e))
      where
        row_found : find (is_open_magic m n) (filter_map magic_row_of v.members) ≡ magic_row_of y
        row_found =
            find-filter_map (is_open_magic m n) magic_row_of v.members
            ∙ ap (λ (test : Member → Bool). option_and_then magic_row_of (find test v.members)) (λ i u. open_is m n u i)
            ∙ ap (option_and_then magic_row_of) e

    -- The rows find the client of the magic, in any order.
    pub client_is : (w : Rows) → SameRows w.magics (filter_map magic_row_of v.members)
        → magic_client w m n ≡ Some y.client
    client_is w same =
        ap (option_map (λ (row : MagicRow). row.client)) (found_in_any_order (is_open_magic m n) w.magics (filter_map magic_row_of v.members) same only_row
        ∙ find-filter_map (is_open_magic m n) magic_row_of v.members ∙ ap (λ (test : Member → Bool). option_and_then magic_row_of (find test v.members)) (λ i u. open_is m n u i) ∙ ap (option_and_then magic_row_of) e)
        ∙ ap
        (λ (g : Option Magic). option_map (λ (row : MagicRow). row.client) (option_map (λ (d : Magic). record { master = y.master; number = d.number; client = y.client; spent = d.spent }) g))
        (its_magic opens).2

-- the state represents the rows where the magic is spent and its client is authenticated
module _ (s : State) (w : Rows) (m n : ℕ) (y : Member) (t : MeetsInvariants s) (e : find (has_open_magic m n) s.masters.members ≡ Some y) (h : Represents s w) where
  abbrev pub authenticated_rows : Rows
  authenticated_rows =
      record w { clients = with_authenticated (Some y.client) w.clients; magics = with_spent m n w.magics }

  clients_now : with_authenticated (Some y.client) w.clients ≡ clients_of (record s { files = files.with_authenticated s.files y.client; masters = changed_member (with_magic n true y) s.masters })
  unfolding with_authenticated
  clients_now =
      (λ i. map (λ (row : ClientRow). if same_either y.client row.client i then record row { authenticated = true } else row) (clients_are s w h i))
      ∙ sym
      (changed_clients y (with_magic n true y) (λ (row : ClientRow). record row { authenticated = true }) s.masters.members (member_is m n y s.masters (masters_so s t) e) refl (λ f. refl) s.files.clients)

  magics_now : SameRows (with_spent m n w.magics) (magics_of (record s { masters = changed_member (with_magic n true y) s.masters }))
  unfolding with_spent
  magics_now =
      subst
      (SameRows (map (λ (row : MagicRow). if is_open_magic m n row then record row { spent = true } else row) w.magics))
      (spent_rows m n y s.masters (masters_so s t) e)
      (same-map (λ (row : MagicRow). if is_open_magic m n row then record row { spent = true } else row) w.magics (magics_of s) (magics_are s w h))

  -- The state in which AUTH_MAGIC spent a magic represents the rows after this call.
  pub spent_represents : (part : Part)
      → represents_part part (record s { files = files.with_authenticated s.files y.client; masters = changed_member (with_magic n true y) s.masters }) authenticated_rows
  unfolding represents_part
  spent_represents Clients = clients_now
  spent_represents Magics = magics_now
  spent_represents part = h part
