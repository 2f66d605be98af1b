-- A lease token that opens a client, and is spent then.
use Rattle.std.proofs.Common.{◌≡◌, ℕ, ◌+◌, ◌<◌, ◌==◌, ◌&&◌, Bool, true, false, not, List, [], ◌∷◌, ◌++◌, map, filter, find, Option, None, Some, refl, sym, ap, ◌∙◌, subst, eq-eqb}
use Rattle.std.specs.Prelude.{if◌then◌else◌}
use Rattle.std.specs.Cmp.{both_ways}
use Rattle.std.specs.List.{AllByRecursion}
use Rattle.std.specs.Option.{is_some, option_map, option_map_or, option_and_then}
use Rattle.std.proofs.lemmas.Bool.{eqb-true}
use Rattle.drm_index_array.specs.Orders.{SameRows, InOrder}
use Rattle.drm_index_array.proofs.Lists.{map-map, filter-same, all_each, all_weaker, all_both}
use Rattle.drm_index_array.proofs.FoundInLists.{find-map, find-same, find_none, none_found}
use Rattle.drm_index_array.proofs.Rising.{found, all_found, all_found_apart}
use Rattle.drm_masters.specs.declared.rows.Master.{Master}
use Rattle.drm_files.specs.declared.rows.FileFlags.{FileFlags}
use Rattle.drm_files.specs.Files.{new_flags}
use Rattle.drm_masters.specs.Masters.{MasterSet, AreMasters, is_step_number, is_key, is_lessee, master_at, IsKeyOf}
use Rattle.drm_masters.specs.Calls.{IsNewClient, lease_client, with_kept, redeemed}
use Rattle.drm_masters.proofs.NewestMember.{newest_last, with_last_member}
use Rattle.drm_leases.specs.Tokens.{LeaseToken}
use Rattle.drm_leases.proofs.NewestLease.{tokens_differ}
use Rattle.drm_leases.specs.Leases.{AreLeases, is_token, is_token_of, token_of, token_master}
use Rattle.drm_leases.specs.Calls.{without_token}
use Rattle.drm_leases.specs.Agreed.{AreAgreed}
use Rattle.drm_model.specs.ClientCapabilities.{opening_capabilities}
use Rattle.drm_model.specs.Rows.{Rows, MasterRow, step_number, is_option}
use Rattle.drm_model.specs.Clients.{opened_lease}
use Rattle.drm_model.specs.Leases.{lease_master}
use Rattle.drm_state.specs.Parts.{client_row_by, master_row_of, released}
use Rattle.drm_state.specs.declared.state.State.{State}
use Rattle.drm_state.specs.Invariants.{MeetsInvariants, IsLater, AreKeptBy, AreOfLessees}
use Rattle.drm_model.specs.Parts.{Part, Clients, Masters, Magics}
use Rattle.drm_state.specs.Refinement.{represents_part, Represents}
use Rattle.drm_leases.proofs.Agreeing.{agreed_redeemed}
use Rattle.drm_state.proofs.Represented.{clients_are, masters_are, magics_are, members_open, leases_so, tokens_of_lessees, kept_have_tokens, leases_agree}
use Rattle.drm_state.proofs.Ended.{rows_ended, rows_released, kept_ended, of_lessees_ended}
use Rattle.drm_state.proofs.Members.{client_pushed}
use Rattle.drm_client_calls.proofs.Opened.{joined, joined_invariants, no_magic_more}
use Rattle.std.proofs.lemmas.Option.{same_Some}

abbrev Differ : List LeaseToken → Type 0
Differ tokens = InOrder (λ (x y : LeaseToken). (x.token == y.token) ≡ false) tokens

abbrev Apart : List LeaseToken → Type 0
Apart tokens = InOrder (λ (x y : LeaseToken). (x.master == y.master) ≡ false) tokens

-- the row of a master by the token that it has open
leased_by : (w : Rows) (tokens : List LeaseToken) (ms : List Master) (t : ℕ) → w.masters ≡ map (master_row_of tokens) ms
    → lease_master w t ≡ option_map (master_row_of tokens) (find (λ (x : Master). is_option t (token_of tokens x.step_number)) ms)
leased_by w tokens ms t are =
    ap (find (λ (row : MasterRow). is_option t row.lease_token)) are
    ∙ find-map (λ (row : MasterRow). is_option t row.lease_token) (master_row_of tokens) ms

-- A token that is not open has no master in the rows.
pub not_leased : (w : Rows) (tokens : List LeaseToken) (ms : List Master) (t : ℕ)
    → w.masters ≡ map (master_row_of tokens) ms → find (is_token t) tokens ≡ None → lease_master w t ≡ None
not_leased w tokens ms t are none =
    leased_by w tokens ms t are
    ∙ ap (option_map (master_row_of tokens))
    (find_none (λ (x : Master). is_option t (token_of tokens x.step_number)) ms (all_each (λ (x : Master). is_option t (token_of tokens x.step_number) ≡ false) (λ x. other x.step_number) ms))
  where
    other : (m : ℕ) → is_option t (token_of tokens m) ≡ false
    other m = by_row (find (is_token_of m) tokens) refl
      where
        by_row : (o : Option LeaseToken) → find (is_token_of m) tokens ≡ o
            → is_option t (option_map (λ (row : LeaseToken). row.token) o) ≡ false
        by_row None e = refl
        by_row (Some row) e =
            (found (is_token_of m) (λ (r : LeaseToken). is_token t r ≡ false) row tokens (none_found (is_token t) tokens none) e).1

module _ (tokens : List LeaseToken) (t : ℕ) (row : LeaseToken) (is : find (is_token t) tokens ≡ Some row) (differ : Differ tokens) (apart : Apart tokens) where
  its_token : row.token ≡ t
  its_token =
      eqb-true row.token t
      (found (is_token t) (λ _. Unit {0}) row tokens (all_each (λ _. Unit {0}) (λ _. tt) tokens) is).0

  by_master : AllByRecursion (λ (r : LeaseToken). find (is_token_of r.master) tokens ≡ Some r) tokens
  by_master = all_found_apart (λ (r : LeaseToken). r.master) tokens apart

  of_its_master : find (is_token_of row.master) tokens ≡ Some row
  of_its_master =
      (found (is_token t) (λ (r : LeaseToken). find (is_token_of r.master) tokens ≡ Some r) row tokens by_master is).1

  -- only its lessee has the token, and no other
  each : AllByRecursion (λ (r : LeaseToken). (r.token == t) ≡ (r.master == row.master)) tokens
  each =
      all_both (λ (r : LeaseToken). find (is_token r.token) tokens ≡ Some r) (λ (r : LeaseToken). find (is_token_of r.master) tokens ≡ Some r) (λ (r : LeaseToken). (r.token == t) ≡ (r.master == row.master)) (λ r f g.
      both_ways (r.token == t) (r.master == row.master)
      (λ e. let it : r ≡ row = same_Some r row (sym f ∙ ap (λ n. find (is_token n) tokens) (eqb-true r.token t e) ∙ is) in eq-eqb r.master row.master (ap (λ (z : LeaseToken). z.master) it))
      (λ e. let it : r ≡ row = same_Some r row (sym g ∙ ap (λ n. find (is_token_of n) tokens) (eqb-true r.master row.master e) ∙ of_its_master) in eq-eqb r.token t (ap (λ (z : LeaseToken). z.token) it ∙ its_token)))
      tokens (all_found_apart (λ (r : LeaseToken). r.token) tokens differ) by_master

  -- A master has the open token exactly if it is the token's lessee.
  pub option_is : (m : ℕ) → is_option t (token_of tokens m) ≡ (m == row.master)
  option_is m = by_row (find (is_token_of m) tokens) refl
    where
      not_it : find (is_token_of m) tokens ≡ None → false ≡ (m == row.master)
      not_it e = (elim (m == row.master) as (λ b. (m == row.master) ≡ b → false ≡ b) [
        | true ↦ λ k. absurd (let n : None ≡ Some row = sym e ∙ ap (λ n. find (is_token_of n) tokens) (eqb-true m row.master k) ∙ of_its_master in cc)
        | false ↦ λ k. refl
      ]) refl

      by_row : (o : Option LeaseToken) → find (is_token_of m) tokens ≡ o
          → is_option t (option_map (λ (r : LeaseToken). r.token) o) ≡ (m == row.master)
      by_row None e = not_it e
      by_row (Some r) e = let it = found (is_token_of m) (λ (r : LeaseToken). (r.token == t) ≡ (r.master == row.master)) r tokens each e in it.1 ∙ ap (λ n. n == row.master) (eqb-true r.master m it.0)

  -- The lessee of an open token has this token.
  pub its_open : token_of tokens row.master ≡ Some t
  its_open = ap (option_map (λ (r : LeaseToken). r.token)) of_its_master ∙ ap Some its_token

  -- The tokens without an open one are those of all other lessees.
  pub spent : filter (λ (r : LeaseToken). not (is_token t r)) tokens ≡ filter (λ (r : LeaseToken). not (r.master == row.master)) tokens
  spent =
      filter-same (λ (r : LeaseToken). not (is_token t r)) (λ (r : LeaseToken). not (r.master == row.master)) tokens
      (all_weaker (λ (r : LeaseToken). (r.token == t) ≡ (r.master == row.master)) (λ (r : LeaseToken). not (r.token == t) ≡ not (r.master == row.master)) (λ r e. ap not e) tokens each)

  -- The rows find for an open token the row of its lessee.
  pub leased_is : (w : Rows) (ms : List Master) → w.masters ≡ map (master_row_of tokens) ms
      → lease_master w t ≡ option_map (master_row_of tokens) (master_at ms row.master)
  leased_is w ms are =
      leased_by w tokens ms t are
      ∙ ap (option_map (master_row_of tokens))
      (find-same (λ (x : Master). is_option t (token_of tokens x.step_number)) (is_step_number row.master) ms (all_each (λ (x : Master). is_option t (token_of tokens x.step_number) ≡ (x.step_number == row.master)) (λ x. option_is x.step_number) ms))

  -- The rows of masters without a spent token are those without its lessee's token, which no longer keeps it.
  pub rows_spent : (ms : List Master)
      → map (λ (r : MasterRow). if is_option t r.lease_token then record r { lease_token = None } else r) (map (master_row_of tokens) ms) ≡ map (master_row_of (filter (λ (r : LeaseToken). not (is_token t r)) tokens)) (released (λ n. n == row.master) ms)
  rows_spent ms =
      let below : ℕ → Bool = λ n. n == row.master in
      map-map (λ (r : MasterRow). if is_option t r.lease_token then record r { lease_token = None } else r)
      (master_row_of tokens) ms
      ∙
      (λ i. map (λ (x : Master). if option_is x.step_number i then record (master_row_of tokens x) { lease_token = None } else master_row_of tokens x) ms)
      ∙ sym
      (map-map (λ (r : MasterRow). if below r.master then record r { lease_token = None } else r) (master_row_of tokens) ms)
      ∙ rows_ended below tokens ms
      ∙ (λ i. map (master_row_of (sym spent i)) ms)
      ∙ sym (rows_released (filter (λ (r : LeaseToken). not (is_token t r)) tokens) below ms)

-- ---- the lessee

-- A master of a key is the one of its step number.
pub at_key : (ms : List Master) (m key : ℕ) → InOrder (λ (x y : Master). x.step_number < y.step_number) ms
    → IsKeyOf ms m key
    → (x : Master) × (find (is_key key) ms ≡ Some x) × (x.step_number ≡ m) × (master_at ms m ≡ Some x)
at_key ms m key rise h = by_row (find (is_key key) ms) refl h
  where
    by_row : (o : Option Master) → find (is_key key) ms ≡ o → option_map (λ (x : Master). x.step_number) o ≡ Some m
        → (x : Master) × (find (is_key key) ms ≡ Some x) × (x.step_number ≡ m) × (master_at ms m ≡ Some x)
    by_row None e k = absurd (let n : None ≡ Some m = k in cc)
    by_row (Some x) e k =
        let is : x.step_number ≡ m = same_Some x.step_number m k in
        (x, e, is, ap (master_at ms) (sym is) ∙ (found (is_key key) (λ (y : Master). find (is_step_number y.step_number) ms ≡ Some y) x ms (all_found (λ (y : Master). y.step_number) ms rise) e).1)

-- A lessee with an open token is kept.
pub unredeemed : (tokens : List LeaseToken) (ms : List Master) (m key : ℕ)
    → InOrder (λ (x y : Master). x.step_number < y.step_number) ms → AreKeptBy tokens ms
    → is_some (token_of tokens m) ≡ true → is_lessee ms m ≡ true → IsKeyOf ms m key →
    option_map_or (λ (x : Master). x.kept && is_some x.lessor) (find (is_key key) ms) false ≡ true
unredeemed tokens ms m key rise kept opens lessee h =
    let it = at_key ms m key rise h in
    let held : it.0.kept ≡ true =
    (found (is_key key) (λ (x : Master). x.kept ≡ is_some (token_of tokens x.step_number)) it.0 ms kept it.1).1
    ∙ ap (λ n. is_some (token_of tokens n)) it.2 ∙ opens in
    let lent : is_some it.0.lessor ≡ true =
    ap (λ o. is_some (option_and_then (λ (x : Master). x.lessor) o)) (sym it.3) ∙ lessee in
    ap (λ o. option_map_or (λ (x : Master). x.kept && is_some x.lessor) o false) it.1 ∙ (λ i. held i && lent i)

-- ---- the token that was looked up

-- A token of no master is not open.
pub no_token : (tokens : List LeaseToken) (t : ℕ) → token_master tokens t ≡ None → find (is_token t) tokens ≡ None
no_token tokens t h = by_row (find (is_token t) tokens) h
  where
    by_row : (o : Option LeaseToken) → option_map (λ (row : LeaseToken). row.master) o ≡ None → o ≡ None
    by_row None e = refl
    by_row (Some row) e = absurd (let n : Some row.master ≡ None = e in cc)

-- A token of a master is open, and the master is its lessee.
pub open_token : (tokens : List LeaseToken) (t m : ℕ) → token_master tokens t ≡ Some m
    → (row : LeaseToken) × (find (is_token t) tokens ≡ Some row) × (row.master ≡ m)
open_token tokens t m h = by_row (find (is_token t) tokens) refl h
  where
    by_row : (o : Option LeaseToken) → find (is_token t) tokens ≡ o
        → option_map (λ (row : LeaseToken). row.master) o ≡ Some m
        → (row : LeaseToken) × (find (is_token t) tokens ≡ Some row) × (row.master ≡ m)
    by_row None e k = absurd (let n : None ≡ Some m = k in cc)
    by_row (Some row) e k = (row, e, same_Some row.master m k)

-- The master of an open token is a lessee.
pub of_lessee : (tokens : List LeaseToken) (ms : List Master) (t m : ℕ) → AreOfLessees tokens ms
    → token_master tokens t ≡ Some m → is_lessee ms m ≡ true
of_lessee tokens ms t m h e =
    let it = open_token tokens t m e in
    ap (is_lessee ms) (sym it.2)
    ∙ (found (is_token t) (λ (row : LeaseToken). is_lessee ms row.master ≡ true) it.0 tokens h it.1).1

-- ---- its client

abbrev pub lease_flags : Bool → Bool → FileFlags
lease_flags root universal = record (new_flags false root universal) { authenticated = true }

-- the masters with the newest client, which redeemed a lessee
abbrev pub redeemed_last : ℕ → ℕ → MasterSet → MasterSet
redeemed_last b m v = with_kept m false (with_last_member (lease_client b m) v)

-- The client that redeems a lease is the last, since it is newer than all.
pub last_redeemed : (b m : ℕ) (v : MasterSet) → IsNewClient v b → redeemed b m v ≡ redeemed_last b m v
last_redeemed b m v newest = ap (with_kept m false) (newest_last v (lease_client b m) newest)

-- the state with the client that spent the token
abbrev pub with_lease_client : State → ℕ → ℕ → ℕ → Bool → Bool → State
with_lease_client s b t m root universal =
    joined s b (lease_flags root universal) (redeemed_last b m s.masters) (without_token t s.leases)

module _ (s : State) (t m : ℕ) (invariants : MeetsInvariants s) (is : token_master s.leases.tokens t ≡ Some m) where
  abbrev row : LeaseToken
  row = (open_token s.leases.tokens t m is).0

  found_row : find (is_token t) s.leases.tokens ≡ Some row
  found_row = (open_token s.leases.tokens t m is).1

  its_master : row.master ≡ m
  its_master = (open_token s.leases.tokens t m is).2

  -- The master of a token that was looked up has an open token.
  pub opens : is_some (token_of s.leases.tokens m) ≡ true
  opens =
      ap (λ n. is_some (token_of s.leases.tokens n)) (sym its_master)
      ∙ ap is_some
      (its_open s.leases.tokens t row found_row (tokens_differ s.leases.tokens (leases_so s invariants).tokens_rise) (leases_so s invariants).lessees_differ)

  spent_is : filter (λ (r : LeaseToken). not (is_token t r)) s.leases.tokens ≡ filter (λ (r : LeaseToken). not (r.master == m)) s.leases.tokens
  spent_is =
      spent s.leases.tokens t row found_row (tokens_differ s.leases.tokens (leases_so s invariants).tokens_rise)
      (leases_so s invariants).lessees_differ
      ∙ (λ i. filter (λ (r : LeaseToken). not (r.master == its_master i)) s.leases.tokens)

  -- A client that spends a lease token keeps all invariants.
  pub redeemed_invariants : (b : ℕ) (root universal : Bool) → IsNewClient s.masters b
      → AreMasters (redeemed_last b m s.masters) → AreLeases (without_token t s.leases)
      → MeetsInvariants (with_lease_client s b t m root universal)
  redeemed_invariants b root universal newest are leases =
      let below : ℕ → Bool = λ n. n == m in
      joined_invariants s (lease_flags root universal) (lease_client b m) (redeemed_last b m s.masters)
      (without_token t s.leases) invariants refl are leases
      (subst (λ l. AreOfLessees l (released below s.masters.masters)) (sym spent_is) (of_lessees_ended below s.leases.tokens s.masters.masters (tokens_of_lessees s invariants)))
      (subst (λ l. AreKeptBy l (released below s.masters.masters)) (sym spent_is) (kept_ended below s.leases.tokens s.masters.masters (kept_have_tokens s invariants)))
      (subst (AreAgreed s.leases) (last_redeemed b m s.masters newest) (agreed_redeemed b m s.masters s.leases.lendings (leases_agree s invariants)))
      refl

  module _ (w : Rows) (x : Master) (there : master_at s.masters.masters m ≡ Some x) (h : Represents s w) where
    -- The rows find the lessee of a token that was looked up.
    pub its_row : lease_master w t ≡ Some (master_row_of s.leases.tokens x)
    its_row =
        leased_is s.leases.tokens t row found_row (tokens_differ s.leases.tokens (leases_so s invariants).tokens_rise)
        (leases_so s invariants).lessees_differ w s.masters.masters (masters_are s w h)
        ∙ ap (λ n. option_map (master_row_of s.leases.tokens) (master_at s.masters.masters n)) its_master
        ∙ ap (option_map (master_row_of s.leases.tokens)) there

    number : x.step_number ≡ m
    number =
        eqb-true x.step_number m
        (found (is_step_number m) (λ _. Unit {0}) x s.masters.masters (all_each (λ _. Unit {0}) (λ _. tt) s.masters.masters) there).0

    client_is : (b : ℕ) (root universal : Bool) → w.steps + 1 ≡ b
        → client_row_by (record { client = b; flags = lease_flags root universal }) (Some (lease_client b m)) ≡
        record { client = step_number w; render = false; root = root; authenticated = true; once_master = false; is_master = true; master = option_map (λ (r : MasterRow). r.master) (lease_master w t); capabilities = opening_capabilities universal }
    client_is b root universal e =
        let named : Some m ≡ option_map (λ (r : MasterRow). r.master) (lease_master w t) =
        ap Some (sym number) ∙ sym (ap (option_map (λ (r : MasterRow). r.master)) its_row) in
        λ i. record
        { client = sym e i; render = false; root = root; authenticated = true; once_master = false; is_master = true; master = named i; capabilities = opening_capabilities universal }

    masters_now : map (λ (r : MasterRow). if is_option t r.lease_token then record r { lease_token = None } else r) w.masters ≡ map (master_row_of (without_token t s.leases).tokens) (released (λ n. n == m) s.masters.masters)
    masters_now =
        ap (map (λ (r : MasterRow). if is_option t r.lease_token then record r { lease_token = None } else r))
        (masters_are s w h)
        ∙ rows_spent s.leases.tokens t row found_row
        (tokens_differ s.leases.tokens (leases_so s invariants).tokens_rise) (leases_so s invariants).lessees_differ
        s.masters.masters
        ∙
        (λ i. map (master_row_of (without_token t s.leases).tokens) (released (λ n. n == its_master i) s.masters.masters))

    -- The state with a client that spent a lease token represents the rows after this opening.
    pub redeemed_represents : (b : ℕ) (root universal : Bool) → IsLater s b → w.steps + 1 ≡ b → (part : Part)
        → represents_part part (with_lease_client s b t m root universal) (opened_lease w t root universal)
    unfolding represents_part
    redeemed_represents b root universal later e Clients =
        (λ i. clients_are s w h i ++ sym (client_is b root universal e) i ∷ [])
        ∙ sym
        (client_pushed (lease_flags root universal) (lease_client b m) s.files.clients s.masters.members later.clients (members_open s invariants))
    redeemed_represents b root universal later e Masters = masters_now
    redeemed_represents b root universal later e Magics =
        subst (SameRows w.magics) (sym (no_magic_more (lease_client b m) refl s.masters.members)) (magics_are s w h)
    redeemed_represents b root universal later e part = h part
