-- What the calls leave of masters.
use Rattle.std.proofs.Common.{◌≡◌, ℕ, ◌<◌, ◌==◌, ◌&&◌, ◌||◌, true, false, cond, List, [], ◌∷◌, ◌++◌, map, Option, None, Some, refl, sym, ap, subst, ◌∙◌}
use Rattle.std.specs.Prelude.{if◌then◌else◌}
use Rattle.std.specs.Option.{is_some, option_map}
use Rattle.std.proofs.lemmas.Bool.{eqb-true}
use Rattle.drm_index_array.proofs.Lists.{all_weaker, all_each, all_mapped}
use Rattle.drm_index_array.proofs.Numbers.{flipped, less-differ}
use Rattle.drm_index_array.proofs.FoundInLists.{find-map, find-same, is_some-map}
use Rattle.drm_files.specs.declared.rows.FileClient.{FileClient}
use Rattle.drm_files.specs.Files.{is_open_client}
use Rattle.drm_masters.specs.declared.rows.Member.{Member}
use Rattle.std.specs.List.{filter_map, cons_option, AllByRecursion}
use Rattle.drm_index_array.specs.Orders.{SameRows, InOrder}
use Rattle.drm_index_array.proofs.Orders.{last_first, same-cons, same-sym, same-trans}
use Rattle.drm_masters.specs.Masters.{AreMasters, is_client, member_of}
use Rattle.drm_masters.specs.Calls.{with_device, changed_member}
use Rattle.drm_index_array.proofs.Rising.{found}
use Rattle.drm_leases.proofs.Agreeing.{agreed_changed}
use Rattle.drm_model.specs.Rows.{Rows, MagicRow}
use Rattle.drm_state.specs.Parts.{client_row_by, client_row_of, magic_row_of}
use Rattle.drm_model.specs.Parts.{Part, DeviceMaster, Clients, Magics}
use Rattle.drm_state.specs.declared.state.State.{State}
use Rattle.drm_state.specs.Invariants.{Invariant, MembersOpen, ClientsHave, MastersAre, LeasesAgree, HasMaster, meets_invariant, MeetsInvariants}
use Rattle.drm_state.specs.Refinement.{represents_part, Represents}
use Rattle.drm_state.proofs.Represented.{members_open, clients_have, clients_are, magics_are, masters_so, leases_agree}

-- Another device's master keeps all invariants, if the masters meet theirs.
pub device_invariants : (s : State) (d : Option ℕ) → MeetsInvariants s → AreMasters (with_device d s.masters)
    → (invariant : Invariant) → meets_invariant invariant (record s { masters = with_device d s.masters })
unfolding meets_invariant
device_invariants s d t are MembersOpen = t MembersOpen
device_invariants s d t are MastersAre = are
device_invariants s d t are invariant = t invariant

-- The state with another device's master represents the rows with it.
pub device_represents : (s : State) (w : Rows) (d : Option ℕ) → Represents s w → (part : Part)
    → represents_part part (record s { masters = with_device d s.masters }) (record w { device_master = d })
unfolding represents_part
device_represents s w d h Clients = h Clients
device_represents s w d h DeviceMaster = refl
device_represents s w d h part = h part

-- ---- another row of a client

-- the rows of clients and the invariants, where a client has another magic
module _ (s : State) (x y : Member) (look : member_of s.masters.members x.client ≡ Some x) (client : y.client ≡ x.client) (once : y.once_master ≡ x.once_master) (own : y.is_master ≡ x.is_master) (master : y.master ≡ x.master) where
  abbrev put : Member → Member
  put z = if is_client y.client z then y else z

  put_client : (z : Member) → (put z).client ≡ z.client
  put_client z =
      (elim (z.client == y.client) as (λ b. (z.client == y.client) ≡ b → (if b then y else z).client ≡ z.client) [ true ↦ λ e. sym (eqb-true z.client y.client e) | false ↦ λ e. refl ])
      refl

  -- A client with an entry still has one after an entry was changed.
  pub found_yet : (c : ℕ) → member_of (map put s.masters.members) c ≡ option_map put (member_of s.masters.members c)
  found_yet c =
      find-map (is_client c) put s.masters.members
      ∙ ap (option_map put)
      (find-same (λ z. is_client c (put z)) (is_client c) s.masters.members (all_each (λ z. is_client c (put z) ≡ is_client c z) (λ z. ap (λ n. n == c) (put_client z)) s.masters.members))

  -- Another magic of a client keeps all invariants.
  pub magic_invariants : MeetsInvariants s → AreMasters (changed_member y s.masters) → (invariant : Invariant)
      → meets_invariant invariant (record s { masters = changed_member y s.masters })
  unfolding meets_invariant
  magic_invariants t are MembersOpen =
      all_mapped (λ (z : Member). is_open_client s.files z.client ≡ true) put s.masters.members
      (all_weaker (λ (z : Member). is_open_client s.files z.client ≡ true) (λ z. is_open_client s.files (put z).client ≡ true) (λ z e. ap (is_open_client s.files) (put_client z) ∙ e) s.masters.members (members_open s t))
  magic_invariants t are ClientsHave =
      all_weaker (HasMaster s.masters) (HasMaster (changed_member y s.masters))
      (λ f h. ap (λ b. f.flags.render || b) (ap is_some (found_yet f.client) ∙ is_some-map put (member_of s.masters.members f.client)) ∙ h)
      s.files.clients (clients_have s t)
  magic_invariants t are MastersAre = are
  magic_invariants t are LeasesAgree =
      agreed_changed s.masters.members x y s.masters.masters s.leases.lendings (masters_so s t).members_rise
      (ap (member_of s.masters.members) client ∙ look) (λ n its. (λ i. own i && (master i == n)) ∙ its)
      (leases_agree s t)
  magic_invariants t are invariant = t invariant

  -- of what holds for the client in its row nothing changes
  row_yet : (f : FileClient) (o : Option Member) → member_of s.masters.members f.client ≡ o
      → client_row_by f (option_map put o) ≡ client_row_by f o
  row_yet f None e = refl
  row_yet f (Some z) e =
      (elim (z.client == y.client) as (λ b. (z.client == y.client) ≡ b → client_row_by f (Some (if b then y else z)) ≡ client_row_by f (Some z)) [
        | true ↦ λ k.
            let same : z ≡ x = it z e k in
            (λ i. record (client_row_by f (Some y)) { once_master = once i; is_master = own i; master = Some (master i) })
            ∙ ap (λ u. client_row_by f (Some u)) (sym same)
        | false ↦ λ k. refl
      ]) refl
    where
      it : (z : Member) → member_of s.masters.members f.client ≡ Some z → (z.client == y.client) ≡ true → z ≡ x
      it z e k =
          let num : z.client ≡ f.client =
          eqb-true z.client f.client
          (found (is_client f.client) (λ _. Unit {0}) z s.masters.members (all_each (λ _. Unit {0}) (λ _. tt) s.masters.members) e).0
          in
          let t : Some z ≡ Some x =
          sym e ∙ ap (member_of s.masters.members) (sym num ∙ eqb-true z.client y.client k ∙ client) ∙ look in
          cc

  -- Another magic of a client leaves the rows of clients.
  pub clients_yet : (fs : List FileClient)
      → map (client_row_of (map put s.masters.members)) fs ≡ map (client_row_of s.masters.members) fs
  clients_yet [] = refl
  clients_yet (f ∷ fs) =
      λ i. (ap (client_row_by f) (found_yet f.client) ∙ row_yet f (member_of s.masters.members f.client) refl) i ∷
      clients_yet fs i

-- ---- a magic is assigned

unmoved : (y : Member) → (zs : List Member) → AllByRecursion (λ (u : Member). is_client y.client u ≡ false) zs
    → map (λ (u : Member). if is_client y.client u then y else u) zs ≡ zs
unmoved y [] h = refl
unmoved y (u ∷ zs) h =
    ap (λ b. (if b then y else u) ∷ map (λ (v : Member). if is_client y.client v then y else v) zs) h.0
    ∙ ap (λ l. u ∷ l) (unmoved y zs h.1)

-- A client that receives a magic adds a row, and all other rows stay.
pub magic_given : (y : Member) (r : MagicRow) → magic_row_of y ≡ Some r → (x : Member) → magic_row_of x ≡ None
    → y.client ≡ x.client → (xs : List Member) → InOrder (λ (z u : Member). z.client < u.client) xs
    → member_of xs x.client ≡ Some x →
    SameRows (filter_map magic_row_of xs ++ r ∷ [])
    (filter_map magic_row_of (map (λ (z : Member). if is_client y.client z then y else z) xs))
magic_given y r e x none client [] rise look = absurd (let n : None ≡ Some x = look in cc)
magic_given y r e x none client (z ∷ zs) rise look =
    (elim (z.client == x.client) as (λ b. (z.client == x.client) ≡ b → cond b (Some z) (member_of zs x.client) ≡ Some x → SameRows (filter_map magic_row_of (z ∷ zs) ++ r ∷ []) (filter_map magic_row_of (map (λ (u : Member). if is_client y.client u then y else u) (z ∷ zs)))) [
      | true ↦ λ k l. here k (let t : Some z ≡ Some x = l in cc)
      | false ↦ λ k l. there k (magic_given y r e x none client zs rise.1 l)
    ]) refl look
  where
    rest : List Member
    rest = map (λ (u : Member). if is_client y.client u then y else u) zs

    here : (z.client == x.client) ≡ true → z ≡ x
        → SameRows (filter_map magic_row_of (z ∷ zs) ++ r ∷ []) (filter_map magic_row_of (map (λ (u : Member). if is_client y.client u then y else u) (z ∷ zs)))
    here k same =
        let yes : is_client y.client z ≡ true = ap (λ n. z.client == n) client ∙ k in
        let left : filter_map magic_row_of (z ∷ zs) ≡ filter_map magic_row_of zs =
        ap (λ o. cons_option o (filter_map magic_row_of zs)) (ap magic_row_of same ∙ none) in
        let right : filter_map magic_row_of (map (λ (u : Member). if is_client y.client u then y else u) (z ∷ zs)) ≡ r ∷ filter_map magic_row_of zs =
        ap (λ b. cons_option (magic_row_of (if b then y else z)) (filter_map magic_row_of rest)) yes
        ∙ ap (λ o. cons_option o (filter_map magic_row_of rest)) e
        ∙ ap (λ l. r ∷ filter_map magic_row_of l) (unmoved y zs (all_weaker (λ (u : Member). z.client < u.client) (λ (u : Member). is_client y.client u ≡ false) (λ u lt. flipped y.client u.client (ap (λ n. n == u.client) (client ∙ sym (eqb-true z.client x.client k)) ∙ less-differ z.client u.client lt)) zs rise.0)) in
        subst
        (λ l. SameRows (l ++ r ∷ []) (filter_map magic_row_of (map (λ (u : Member). if is_client y.client u then y else u) (z ∷ zs))))
        (sym left)
        (subst (SameRows (filter_map magic_row_of zs ++ r ∷ [])) (sym right) (last_first (filter_map magic_row_of zs) r))

    there : (z.client == x.client) ≡ false
        → SameRows (filter_map magic_row_of zs ++ r ∷ []) (filter_map magic_row_of (map (λ (u : Member). if is_client y.client u then y else u) zs))
        → SameRows (filter_map magic_row_of (z ∷ zs) ++ r ∷ []) (filter_map magic_row_of (map (λ (u : Member). if is_client y.client u then y else u) (z ∷ zs)))
    there k again =
        let no : is_client y.client z ≡ false = ap (λ n. z.client == n) client ∙ k in
        subst
        (λ b. SameRows (filter_map magic_row_of (z ∷ zs) ++ r ∷ []) (cons_option (magic_row_of (if b then y else z)) (filter_map magic_row_of rest)))
        (sym no) (by_row (magic_row_of z))
      where
        by_row : (o : Option MagicRow)
            → SameRows (cons_option o (filter_map magic_row_of zs) ++ r ∷ []) (cons_option o (filter_map magic_row_of rest))
        by_row None = again
        by_row (Some q) = same-cons q (filter_map magic_row_of zs ++ r ∷ []) (filter_map magic_row_of rest) again

same_more : (r : MagicRow) (xs ys : List MagicRow) → SameRows xs ys → SameRows (xs ++ r ∷ []) (ys ++ r ∷ [])
same_more r xs ys h =
    same-trans (xs ++ r ∷ []) (r ∷ xs) (ys ++ r ∷ []) (last_first xs r)
    (same-trans (r ∷ xs) (r ∷ ys) (ys ++ r ∷ []) (same-cons r xs ys h) (same-sym (ys ++ r ∷ []) (r ∷ ys) (last_first ys r)))

-- The state with one magic more represents the rows with it.
pub given_represents : (s : State) (w : Rows) (x y : Member) (r : MagicRow) (look : member_of s.masters.members x.client ≡ Some x) (client : y.client ≡ x.client) (once : y.once_master ≡ x.once_master) (own : y.is_master ≡ x.is_master) (master : y.master ≡ x.master)
    → magic_row_of x ≡ None → magic_row_of y ≡ Some r → AreMasters s.masters → Represents s w →
    (part : Part)
    → represents_part part (record s { masters = changed_member y s.masters }) (record w { magics = w.magics ++ r ∷ [] })
unfolding represents_part
given_represents s w x y r look client once own master none new are h Clients =
    clients_are s w h ∙ sym (clients_yet s x y look client once own master s.files.clients)
given_represents s w x y r look client once own master none new are h Magics =
    same-trans (w.magics ++ r ∷ []) (filter_map magic_row_of s.masters.members ++ r ∷ [])
    (filter_map magic_row_of (changed_member y s.masters).members)
    (same_more r w.magics (filter_map magic_row_of s.masters.members) (magics_are s w h))
    (magic_given y r new x none client s.masters.members are.members_rise look)
given_represents s w x y r look client once own master none new are h part = h part
