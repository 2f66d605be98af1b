-- The caller of a call that is admitted.
use Rattle.std.proofs.Common.{◌≡◌, ℕ, ◌==◌, Bool, true, false, not, cond, ◌||◌, ◌&&◌, List, [], ◌∷◌, filter, find, Option, None, Some, refl, sym, ap, ◌∙◌}
use Rattle.std.specs.Option.{is_some, is_none, option_map, option_map_or}
use Rattle.drm_index_array.proofs.FoundInLists.{is_some-find, is_some-map}
use Rattle.drm_files.specs.declared.rows.FileClient.{FileClient}
use Rattle.drm_files.specs.declared.rows.FileFlags.{FileFlags}
use Rattle.drm_files.specs.Files as files
use Rattle.drm_table.specs.Permit.{check, first_failing}
use Rattle.drm_masters.specs.declared.rows.Member.{Member}
use Rattle.drm_masters.specs.Masters as masters
use Rattle.drm_masters.specs.Masters.{member_of, is_current, is_current_member}
use Rattle.drm_masters.specs.Calls as calls
use Rattle.drm_masters.specs.Calls.{drop_checks, set_checks}
use Rattle.drm_table.specs.declared.rules.Rule.TheVariants.{MasterPerm, MasterBusy, NotCurrent, IsLessee}
use Rattle.drm_table.specs.declared.permits.Standing.{Standing}
use Rattle.std.specs.List.{list_any}
use Rattle.std.proofs.Math.Bool.{and-false}
use Rattle.drm_index_array.specs.Least.{least}
use Rattle.drm_index_array.specs.Numbers.{is_among}
use Rattle.drm_index_array.proofs.Lists.{list_any-map, list_any_agree}
use Rattle.drm_index_array.proofs.Orders.{same-any}
use Rattle.drm_masters.specs.declared.rows.Magic.{Magic}
use Rattle.drm_model.specs.Rows.{MagicRow}
use Rattle.drm_state.specs.Parts.{magic_row_of, magics_of}
use Rattle.drm_state.proofs.MagicRows.{any-filter_map}
use Rattle.drm_state.proofs.Represented.{bounds_are, magics_are}
use Rattle.drm_model.specs.Magics.{magics_under, free_magic, is_open_magic, magic_client, may_be_master, is_master, drop_master, set_master}
use Rattle.drm_model.specs.Rows.{Rows, ClientRow}
use Rattle.drm_model.specs.Masters.{credentials_of, credentials_in}
use Rattle.drm_table.specs.declared.calls.Call.TheVariants.{SetMaster, DropMaster}
use Rattle.drm_table.specs.declared.events.Event.TheVariants.{Ask}
use Rattle.drm_model.specs.Calls.{meaning}
use Rattle.drm_model.specs.Verdict.{admission_checks, verdict}
use Rattle.drm_state.proofs.Refinements.{call_verdict}
use Rattle.drm_state.specs.declared.state.State.{State}
use Rattle.drm_state.specs.Parts.{root_of}
use Rattle.drm_state.specs.Refinement.{Represents}
use Rattle.drm_state.proofs.Represented.{device_master_is}
use Rattle.drm_state.proofs.Lookups.{credentials_is}
use Rattle.drm_state.proofs.Callers.{row_is, caller_row, lessee_is}

-- ---- the rules for a caller that belongs to a master

module _ (s : State) (w : Rows) (c : ℕ) (flags : FileFlags) (x : Member) (h : Represents s w) (file : find (files.is_client c) s.files.clients ≡ Some (record { client = c; flags = flags })) (look : member_of s.masters.members c ≡ Some x) where
  stands : credentials_of w c ≡ record { root = flags.root; render = flags.render; authenticated = flags.authenticated; current = is_current s.masters c }
  stands = ap (credentials_in w) (row_is s w c flags h file) ∙ credentials_is s w h c flags

  -- A client is current by rows exactly if its entry says so.
  pub current_is : (credentials_of w c).current ≡ is_current_member s.masters x
  current_is =
      ap (λ (t : Standing). t.current) stands ∙ ap (λ o. option_map_or (is_current_member s.masters) o false) look

  root_is : (credentials_of w c).root ≡ root_of s c
  root_is =
      ap (λ (t : Standing). t.root) stands
      ∙ sym (ap (λ o. option_map_or (λ (f : FileClient). f.flags.root) o false) file)

  -- A client may be master by rows exactly if it was one once or is root.
  pub may_be : may_be_master w c ≡ (x.once_master || root_of s c)
  may_be =
      λ i. option_map_or (λ (row : ClientRow). row.once_master) (caller_row s w c flags x h file look i) false ||
      root_is i

  -- A client is a master by rows exactly if its entry says so.
  pub master_is : is_master w c ≡ x.is_master
  master_is =
      ap (λ o. option_map_or (λ (row : ClientRow). row.is_master) o false) (caller_row s w c flags x h file look)

  drop_checks_are : (drop_master w c).checks ≡ calls.drop_checks s.masters x (root_of s c)
  unfolding drop_checks
  drop_checks_are =
      λ i. check MasterPerm (may_be i) ∷ check NotCurrent (current_is i) ∷ check IsLessee
      (not (lessee_is s w c flags x h file look i)) ∷ []

  -- DROP_MASTER is denied by the first of its rules that fails in the state.
  pub drop_verdict : (root : Bool) → root ≡ root_of s c → first_failing (admission_checks w c DropMaster) ≡ None
      → verdict w (Ask c DropMaster) ≡ first_failing (calls.drop_checks s.masters x root)
  unfolding meaning
  drop_verdict root is admitted =
      call_verdict w c DropMaster admitted ∙ ap first_failing drop_checks_are
      ∙ ap (λ b. first_failing (calls.drop_checks s.masters x b)) (sym is)

  none_is : (o : Option ℕ) → is_none o ≡ not (is_some o)
  none_is None = refl
  none_is (Some n) = refl

  set_checks_are : (set_master w c).checks ≡ calls.set_checks s.masters x (root_of s c)
  unfolding set_checks
  set_checks_are = λ i.
      check MasterPerm (may_be i)
      ∷ check MasterBusy (current_is i || (ap is_none (device_master_is s w h) ∙ none_is s.masters.device_master) i)
      ∷ check IsLessee (current_is i || not (master_is i && lessee_is s w c flags x h file look i))
      ∷ []

  -- SET_MASTER is denied by the first of its rules that fails in the state.
  pub set_verdict : (root : Bool) → root ≡ root_of s c → first_failing (admission_checks w c SetMaster) ≡ None
      → verdict w (Ask c SetMaster) ≡ first_failing (calls.set_checks s.masters x root)
  unfolding meaning
  set_verdict root is admitted =
      call_verdict w c SetMaster admitted ∙ ap first_failing set_checks_are
      ∙ ap (λ b. first_failing (calls.set_checks s.masters x b)) (sym is)

-- ---- the caller's magic

any_filter : {X : Type 0} (p q : X → Bool) → (xs : List X) → list_any q (filter p xs) ≡ list_any (λ x. p x && q x) xs
any_filter p q [] = refl
any_filter p q (x ∷ xs) =
    elim (p x) as (λ b. list_any q (cond b (x ∷ filter p xs) (filter p xs)) ≡ ((b && q x) || list_any (λ x. p x && q x) xs)) [ true ↦ ap (λ b. q x || b) (any_filter p q xs) | false ↦ any_filter p q xs ]

-- whether a client has the number under the master
number_is : (m n : ℕ) (x : Member)
    → option_map_or (λ (row : MagicRow). (row.master == m) && (row.number == n)) (magic_row_of x) false ≡ masters.has_magic m n x
number_is m n x = by_magic x.magic
  where
    by_magic : (g : Option Magic)
        → option_map_or (λ (row : MagicRow). (row.master == m) && (row.number == n)) (option_map (λ (d : Magic). record { master = x.master; number = d.number; client = x.client; spent = d.spent }) g) false ≡ ((x.master == m) && option_map_or (λ (d : Magic). d.number == n) g false)
    by_magic None = sym (and-false (x.master == m))
    by_magic (Some d) = refl

taken_is : (s : State) (w : Rows) → Represents s w → (m n : ℕ)
    → is_among (magics_under w m) n ≡ list_any (masters.has_magic m n) s.masters.members
taken_is s w h m n =
    list_any-map (λ k. k == n) (λ (row : MagicRow). row.number) (filter (λ (row : MagicRow). row.master == m) w.magics)
    ∙ any_filter (λ (row : MagicRow). row.master == m) (λ (row : MagicRow). row.number == n) w.magics
    ∙ same-any (λ (row : MagicRow). (row.master == m) && (row.number == n)) w.magics (magics_of s) (magics_are s w h)
    ∙ any-filter_map (λ (row : MagicRow). (row.master == m) && (row.number == n)) magic_row_of s.masters.members
    ∙ list_any_agree
    (λ x. option_map_or (λ (row : MagicRow). (row.master == m) && (row.number == n)) (magic_row_of x) false)
    (masters.has_magic m n) (number_is m n) s.masters.members

-- The free magic of a master is the same by rows as in the state.
pub free_is : (s : State) (w : Rows) → Represents s w → (m : ℕ) → free_magic w m ≡ masters.free_magic s.masters m
free_is s w h m =
    ap (λ (test : ℕ → Bool). least test 1 w.limits.clients) (λ i n. not (taken_is s w h m n i))
    ∙ ap (λ last. least (λ n. not (list_any (masters.has_magic m n) s.masters.members)) 1 last)
    (sym (bounds_are s w h).5)

-- A client has a magic unspent by its row exactly if it has it in its entry.
pub open_is : (m n : ℕ) (x : Member)
    → option_map_or (is_open_magic m n) (magic_row_of x) false ≡ masters.has_open_magic m n x
open_is m n x = by_magic x.magic
  where
    by_magic : (g : Option Magic)
        → option_map_or (is_open_magic m n) (option_map (λ (d : Magic). record { master = x.master; number = d.number; client = x.client; spent = d.spent }) g) false ≡ ((x.master == m) && option_map_or (λ (d : Magic). (d.number == n) && not d.spent) g false)
    by_magic None = sym (and-false (x.master == m))
    by_magic (Some d) = and_assoc (x.master == m) (d.number == n) (not d.spent)
      where
        and_assoc : (a b c : Bool) → ((a && b) && c) ≡ (a && (b && c))
        and_assoc true b c = refl
        and_assoc false b c = refl

-- AUTH_MAGIC finds a client by rows exactly if it finds one in the state.
pub opens : (s : State) (w : Rows) → Represents s w → (m n : ℕ)
    → is_some (magic_client w m n) ≡ is_some (find (masters.has_open_magic m n) s.masters.members)
opens s w h m n =
    is_some-map (λ (row : MagicRow). row.client) (find (is_open_magic m n) w.magics)
    ∙ is_some-find (is_open_magic m n) w.magics
    ∙ same-any (is_open_magic m n) w.magics (magics_of s) (magics_are s w h)
    ∙ any-filter_map (is_open_magic m n) magic_row_of s.masters.members
    ∙ list_any_agree (λ x. option_map_or (is_open_magic m n) (magic_row_of x) false) (masters.has_open_magic m n)
    (open_is m n) s.masters.members
    ∙ sym (is_some-find (masters.has_open_magic m n) s.masters.members)
