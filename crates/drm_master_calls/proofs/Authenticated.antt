-- A client that is authenticated now, and belongs to masters otherwise.
use Rattle.std.proofs.Common.{◌≡◌, ℕ, ◌≤◌, ◌==◌, ◌||◌, true, false, List, [], ◌∷◌, map, find, Option, None, Some, refl, sym, ap, subst, ◌∙◌, eq-eqb}
use Rattle.std.specs.Prelude.{if◌then◌else◌}
use Rattle.std.specs.Option.{is_some, option_map}
use Rattle.std.specs.List.{AllByRecursion}
use Rattle.std.proofs.lemmas.Bool.{eqb-true}
use Rattle.drm_index_array.proofs.Lists.{all_weaker, all_each, all_mapped}
use Rattle.drm_index_array.proofs.FoundInLists.{find-map, find-same, is_some-map}
use Rattle.drm_index_array.proofs.Rising.{found}
use Rattle.drm_files.specs.declared.rows.FileClient.{FileClient}
use Rattle.drm_files.specs.Files as files
use Rattle.drm_files.specs.Files.{FileLists, is_open_client, authenticated, with_authenticated}
use Rattle.drm_masters.specs.declared.rows.Member.{Member}
use Rattle.drm_masters.specs.Masters.{MasterSet, AreMasters, is_client, member_of}
use Rattle.drm_masters.specs.Calls.{changed_member}
use Rattle.drm_model.specs.Rows.{ClientRow}
use Rattle.drm_state.specs.declared.state.State.{State}
use Rattle.drm_state.specs.Parts.{client_row_by, client_row_of}
use Rattle.drm_leases.specs.Agreed.{AreAgreed}
use Rattle.drm_state.specs.Invariants.{Invariant, MembersOpen, ClientsHave, MastersAre, MagicsSuffice, TokensOfLessees, KeptHaveTokens, LeasesAgree, HasMaster, AreOfLessees, AreKeptBy, meets_invariant, MeetsInvariants}
use Rattle.drm_state.proofs.Represented.{members_open, clients_have, magics_suffice}

-- ---- a client that belongs to masters otherwise

abbrev pub put : Member → Member → Member
put y z = if is_client y.client z then y else z

-- A change of a client's entry leaves whose entry it is.
pub put_client : (y z : Member) → (put y z).client ≡ z.client
put_client y z =
    (elim (z.client == y.client) as (λ b. (z.client == y.client) ≡ b → (if b then y else z).client ≡ z.client) [ true ↦ λ e. sym (eqb-true z.client y.client e) | false ↦ λ e. refl ])
    refl

-- A client with an entry still has one after an entry was changed.
pub found_yet : (y : Member) (xs : List Member) (c : ℕ)
    → member_of (map (put y) xs) c ≡ option_map (put y) (member_of xs c)
found_yet y xs c =
    find-map (is_client c) (put y) xs
    ∙ ap (option_map (put y))
    (find-same (λ z. is_client c (put y z)) (is_client c) xs (all_each (λ z. is_client c (put y z) ≡ is_client c z) (λ z. ap (λ n. n == c) (put_client y z)) xs))

-- Another entry of a client keeps all invariants, among masters that meet theirs.
pub changed_invariants : (s : State) (y : Member) (set : MasterSet) → MeetsInvariants s
    → set.members ≡ (changed_member y s.masters).members → AreMasters set → AreOfLessees s.leases.tokens set.masters
    → AreKeptBy s.leases.tokens set.masters → AreAgreed s.leases set → set.last_magic ≡ s.masters.last_magic
    → (invariant : Invariant) → meets_invariant invariant (record s { masters = set })
unfolding meets_invariant
changed_invariants s y set t e are lessees kept agreed last MembersOpen =
    subst (AllByRecursion (λ (x : Member). is_open_client s.files x.client ≡ true)) (sym e)
    (all_mapped (λ (z : Member). is_open_client s.files z.client ≡ true) (put y) s.masters.members (all_weaker (λ (z : Member). is_open_client s.files z.client ≡ true) (λ z. is_open_client s.files (put y z).client ≡ true) (λ z h. ap (is_open_client s.files) (put_client y z) ∙ h) s.masters.members (members_open s t)))
changed_invariants s y set t e are lessees kept agreed last ClientsHave =
    all_weaker (HasMaster s.masters) (HasMaster set)
    (λ f h. ap (λ b. f.flags.render || b) (ap (λ l. is_some (member_of l f.client)) e ∙ ap is_some (found_yet y s.masters.members f.client) ∙ is_some-map (put y) (member_of s.masters.members f.client)) ∙ h)
    s.files.clients (clients_have s t)
changed_invariants s y set t e are lessees kept agreed last MastersAre = are
changed_invariants s y set t e are lessees kept agreed last MagicsSuffice = last ∙ magics_suffice s t
changed_invariants s y set t e are lessees kept agreed last TokensOfLessees = lessees
changed_invariants s y set t e are lessees kept agreed last KeptHaveTokens = kept
changed_invariants s y set t e are lessees kept agreed last LeasesAgree = agreed
changed_invariants s y set t e are lessees kept agreed last invariant = t invariant

-- ---- one that is authenticated

abbrev pub known : ℕ → FileClient → FileClient
known c f = if files.is_client c f then authenticated f else f

known_client : (c : ℕ) (f : FileClient) → (known c f).client ≡ f.client
known_client c f = elim (f.client == c) as (λ b. (if b then authenticated f else f).client ≡ f.client) [ true ↦ refl | false ↦ refl ]

open_client_yet : (fs : FileLists) (c n : ℕ) → is_open_client (with_authenticated fs c) n ≡ is_open_client fs n
open_client_yet fs c n =
    ap is_some
    (find-map (files.is_client n) (known c) fs.clients ∙ ap (option_map (known c)) (find-same (λ f. files.is_client n (known c f)) (files.is_client n) fs.clients (all_each (λ f. files.is_client n (known c f) ≡ files.is_client n f) (λ f. ap (λ m. m == n) (known_client c f)) fs.clients)))
    ∙ is_some-map (known c) (find (files.is_client n) fs.clients)

-- An authentication keeps all invariants.
pub authenticated_invariants : (s : State) (c : ℕ) → MeetsInvariants s → (invariant : Invariant)
    → meets_invariant invariant (record s { files = with_authenticated s.files c })
unfolding meets_invariant
authenticated_invariants s c t MembersOpen =
    all_weaker (λ (z : Member). is_open_client s.files z.client ≡ true)
    (λ (z : Member). is_open_client (with_authenticated s.files c) z.client ≡ true)
    (λ z e. open_client_yet s.files c z.client ∙ e) s.masters.members (members_open s t)
authenticated_invariants s c t ClientsHave =
    all_mapped (HasMaster s.masters) (known c) s.files.clients
    (all_weaker (HasMaster s.masters) (λ f. HasMaster s.masters (known c f)) (λ f h. elim (f.client == c) as (λ b. HasMaster s.masters (if b then authenticated f else f)) [ true ↦ h | false ↦ h ]) s.files.clients (clients_have s t))
authenticated_invariants s c t invariant = t invariant

-- ---- their rows

module _ (x y : Member) (g : ClientRow → ClientRow) (members : List Member) (look : member_of members x.client ≡ Some x) (client : y.client ≡ x.client) (row : (f : FileClient) → client_row_by (authenticated f) (Some y) ≡ g (client_row_by f (Some x))) where
  here : (f : FileClient) → (f.client == x.client) ≡ true
      → client_row_by (authenticated f) (member_of (map (put y) members) f.client) ≡ g (client_row_of members f)
  here f e =
      let it : member_of members f.client ≡ Some x = ap (member_of members) (eqb-true f.client x.client e) ∙ look in
      ap (client_row_by (authenticated f))
      (found_yet y members f.client ∙ ap (option_map (put y)) it ∙ ap (λ b. Some (if b then y else x)) (eq-eqb x.client y.client (sym client)))
      ∙ row f ∙ ap (λ o. g (client_row_by f o)) (sym it)

  there : (f : FileClient) → (f.client == x.client) ≡ false
      → client_row_by f (member_of (map (put y) members) f.client) ≡ client_row_of members f
  there f e = ap (client_row_by f) (found_yet y members f.client ∙ by_row (member_of members f.client) refl)
    where
      by_row : (o : Option Member) → member_of members f.client ≡ o → option_map (put y) o ≡ o
      by_row None k = refl
      by_row (Some z) k =
          let num : z.client ≡ f.client =
          eqb-true z.client f.client
          (found (is_client f.client) (λ _. Unit {0}) z members (all_each (λ _. Unit {0}) (λ _. tt) members) k).0 in
          ap (λ b. Some (if b then y else z)) (ap (λ n. n == y.client) num ∙ ap (λ n. f.client == n) client ∙ e)

  one : (f : FileClient)
      → client_row_of (map (put y) members) (known x.client f) ≡ (if f.client == x.client then g (client_row_of members f) else client_row_of members f)
  one f =
      (elim (f.client == x.client) as (λ b. (f.client == x.client) ≡ b → client_row_of (map (put y) members) (if b then authenticated f else f) ≡ (if b then g (client_row_of members f) else client_row_of members f))
      [ true ↦ λ e. here f e | false ↦ λ e. there f e ]) refl

  -- The rows of clients change for one client alone, if its file and its entry change.
  pub changed_clients : (fs : List FileClient)
      → map (client_row_of (map (put y) members)) (map (known x.client) fs) ≡ map (λ (r : ClientRow). if r.client == x.client then g r else r) (map (client_row_of members) fs)
  changed_clients [] = refl
  changed_clients (f ∷ fs) = λ i. one f i ∷ changed_clients fs i
