-- The rows of clients, by their files and how they belong to masters.
use Rattle.std.proofs.Common.{◌≡◌, ℕ, ◌<◌, ◌==◌, Bool, true, false, cond, not, ◌||◌, List, [], ◌∷◌, ◌++◌, map, filter, find, Option, Some, None, refl, sym, ap, ◌∙◌, subst, eq-eqb}
use Rattle.std.specs.List.{list_any, AllByRecursion}
use Rattle.std.specs.Option.{is_some, option_map}
use Rattle.std.proofs.lemmas.Bool.{eqb-true, or_left, or_right}
use Rattle.std.specs.Cmp.{both_ways}
use Rattle.std.proofs.lemmas.List.{map-append}
use Rattle.drm_index_array.specs.Orders.{InOrder}
use Rattle.drm_index_array.proofs.Lists.{all_weaker, list_any-map, list_any_left, list_any_right, list_any_gives, some_passing, all_both}
use Rattle.drm_index_array.proofs.FoundInLists.{is_some-find, find_none, find_last, find_others}
use Rattle.drm_index_array.proofs.Numbers.{flipped, less-differ}
use Rattle.drm_files.specs.declared.rows.FileFlags.{FileFlags}
use Rattle.drm_files.specs.declared.rows.FileClient.{FileClient}
use Rattle.drm_files.specs.Files.{is_client}
use Rattle.drm_model.specs.Rows.{ClientRow, is_option}
use Rattle.drm_masters.specs.declared.rows.Member.{Member}
use Rattle.drm_masters.specs.Masters as masters
use Rattle.drm_masters.specs.Masters.{member_of}
use Rattle.drm_index_array.proofs.Rising.{any_found, all_found}
use Rattle.drm_state.specs.Parts.{client_row_by, client_row_of}

abbrev IsThere : List FileClient → Member → Type 0
IsThere fs m = is_some (find (is_client m.client) fs) ≡ true

-- The row of a client that was looked up has its flags and how it belongs to masters.
pub row_found : (c : ℕ) (flags : FileFlags) (ms : List Member) → (fs : List FileClient)
    → Some flags ≡ option_map (λ (f : FileClient). f.flags) (find (is_client c) fs) →
    option_map (client_row_of ms) (find (is_client c) fs) ≡ Some
    (client_row_by (record { client = c; flags = flags }) (member_of ms c))
row_found c flags ms [] e = absurd (let n : Some flags ≡ None = e in cc)
row_found c flags ms (f ∷ fs) e =
    elim (f.client == c) as (λ b. (f.client == c) ≡ b → Some flags ≡ option_map (λ (f : FileClient). f.flags) (cond b (Some f) (find (is_client c) fs)) → option_map (client_row_of ms) (cond b (Some f) (find (is_client c) fs)) ≡ Some (client_row_by (record { client = c; flags = flags }) (member_of ms c))) [
      | true ↦ λ is j.
          let same : f.flags ≡ flags = let s : Some flags ≡ Some f.flags = j in cc in
          ap (λ n. Some (client_row_by (record { client = n; flags = f.flags }) (member_of ms n)))
          (eqb-true f.client c is)
          ∙ ap (λ g. Some (client_row_by (record { client = c; flags = g }) (member_of ms c))) same
      | false ↦ λ is j. row_found c flags ms fs j
    ] refl e

-- A client whose flags are not found has no file.
pub not_found : (c : ℕ) (fs : List FileClient) → None ≡ option_map (λ (f : FileClient). f.flags) (find (is_client c) fs)
    → is_some (find (is_client c) fs) ≡ false
not_found c fs e = nothing (find (is_client c) fs) e
  where
    nothing : (o : Option FileClient) → None ≡ option_map (λ (f : FileClient). f.flags) o → is_some o ≡ false
    nothing None h = refl
    nothing (Some f) h = absurd (let n : None ≡ Some f.flags = h in cc)

-- A client whose flags are found has a file.
pub found : (c : ℕ) (flags : FileFlags) (fs : List FileClient)
    → Some flags ≡ option_map (λ (f : FileClient). f.flags) (find (is_client c) fs)
    → is_some (find (is_client c) fs) ≡ true
found c flags fs e = something (find (is_client c) fs) e
  where
    something : (o : Option FileClient) → Some flags ≡ option_map (λ (f : FileClient). f.flags) o → is_some o ≡ true
    something None h = absurd (let n : Some flags ≡ None = h in cc)
    something (Some f) h = refl

-- ---- one more client

-- An open client is older than the next one, if all are.
pub older : (c b : ℕ) → (fs : List FileClient) → AllByRecursion (λ (f : FileClient). f.client < b) fs
    → is_some (find (is_client c) fs) ≡ true → c < b
older c b [] h e = absurd (let k : false ≡ true = e in cc)
older c b (f ∷ fs) h e =
    elim (f.client == c) as (λ t. (f.client == c) ≡ t → is_some (cond t (Some f) (find (is_client c) fs)) ≡ true → c < b)
    [ true ↦ λ is k. subst (λ n. n < b) (eqb-true f.client c is) h.0 | false ↦ λ is k. older c b fs h.1 k ] refl e

-- Those that belong to masters are older than a new client.
pub members_older : (b : ℕ) (fs : List FileClient) (ms : List Member)
    → AllByRecursion (λ (f : FileClient). f.client < b) fs → AllByRecursion (IsThere fs) ms
    → AllByRecursion (λ (m : Member). (m.client == b) ≡ false) ms
members_older b fs ms h k =
    all_weaker (IsThere fs) (λ (m : Member). (m.client == b) ≡ false)
    (λ m e. less-differ m.client b (older m.client b fs h e)) ms k

find_before : (c : ℕ) (m : Member) → (m.client == c) ≡ false → (ms : List Member)
    → find (masters.is_client c) (ms ++ m ∷ []) ≡ find (masters.is_client c) ms
find_before c m e [] = ap (λ t. cond t (Some m) None) e
find_before c m e (x ∷ ms) = ap (λ r. cond (x.client == c) (Some x) r) (find_before c m e ms)

rows_before : (m : Member) (ms : List Member) → (fs : List FileClient)
    → AllByRecursion (λ (f : FileClient). f.client < m.client) fs
    → map (client_row_of (ms ++ m ∷ [])) fs ≡ map (client_row_of ms) fs
rows_before m ms [] h = refl
rows_before m ms (f ∷ fs) h =
    ap (λ o. client_row_by f o ∷ map (client_row_of (ms ++ m ∷ [])) fs)
    (find_before f.client m (flipped f.client m.client (less-differ f.client m.client h.0)) ms)
    ∙ ap (λ l. client_row_of ms f ∷ l) (rows_before m ms fs h.1)

-- One more client that belongs to a master adds its row.
pub client_pushed : (flags : FileFlags) (m : Member) (fs : List FileClient) (ms : List Member)
    → AllByRecursion (λ (f : FileClient). f.client < m.client) fs → AllByRecursion (IsThere fs) ms →
    map (client_row_of (ms ++ m ∷ [])) (fs ++ record { client = m.client; flags = flags } ∷ []) ≡ map (client_row_of ms)
    fs ++ client_row_by (record { client = m.client; flags = flags }) (Some m) ∷ []
client_pushed flags m fs ms h k =
    let f : FileClient = record { client = m.client; flags = flags } in
    map-append (client_row_of (ms ++ m ∷ [])) fs (f ∷ [])
    ∙ ap (λ l. l ++ client_row_of (ms ++ m ∷ []) f ∷ []) (rows_before m ms fs h)
    ∙ ap (λ o. map (client_row_of ms) fs ++ client_row_by f o ∷ [])
    (find_last (masters.is_client m.client) m (eq-eqb m.client m.client refl) ms (members_older m.client fs ms h k))

-- One more client that belongs to no master adds its row, without a master.
pub render_pushed : (f : FileClient) (fs : List FileClient) (ms : List Member)
    → AllByRecursion (λ (g : FileClient). g.client < f.client) fs → AllByRecursion (IsThere fs) ms →
    map (client_row_of ms) (fs ++ f ∷ []) ≡ map (client_row_of ms) fs ++ client_row_by f None ∷ []
render_pushed f fs ms h k =
    map-append (client_row_of ms) fs (f ∷ [])
    ∙ ap (λ o. map (client_row_of ms) fs ++ client_row_by f o ∷ [])
    (find_none (masters.is_client f.client) ms (members_older f.client fs ms h k))

some-append : (c : ℕ) (f : FileClient) (fs : List FileClient) → is_some (find (is_client c) fs) ≡ true
    → is_some (find (is_client c) (fs ++ f ∷ [])) ≡ true
some-append c f fs h =
    is_some-find (is_client c) (fs ++ f ∷ [])
    ∙ list_any_left (is_client c) fs (f ∷ []) (sym (is_some-find (is_client c) fs) ∙ h)

-- Each client that belongs to a master is still open after one more opened.
pub members_open_yet : (f : FileClient) (fs : List FileClient) (ms : List Member) → AllByRecursion (IsThere fs) ms
    → AllByRecursion (IsThere (fs ++ f ∷ [])) ms
members_open_yet f fs ms h = all_weaker (IsThere fs) (IsThere (fs ++ f ∷ [])) (λ m e. some-append m.client f fs e) ms h

-- A file that is added is found.
pub found_last : (f : FileClient) (fs : List FileClient) → is_some (find (is_client f.client) (fs ++ f ∷ [])) ≡ true
found_last f fs =
    is_some-find (is_client f.client) (fs ++ f ∷ [])
    ∙ list_any_right (is_client f.client) fs (f ∷ [])
    (or_left (f.client == f.client) false (eq-eqb f.client f.client refl))

-- ---- a client fewer

-- Without a client, the rows are those of all other clients.
pub rows_left : (c : ℕ) (ms : List Member) → (fs : List FileClient) →
    map (client_row_of (filter (λ (x : Member). not (x.client == c)) ms))
    (filter (λ (f : FileClient). not (is_client c f)) fs) ≡ filter (λ (row : ClientRow). not (row.client == c))
    (map (client_row_of ms) fs)
rows_left c ms [] = refl
rows_left c ms (f ∷ fs) =
    let left = filter (λ (x : Member). not (x.client == c)) ms in
    let rest = filter (λ (f : FileClient). not (is_client c f)) fs in
    elim (f.client == c) as (λ b. (f.client == c) ≡ b → map (client_row_of left) (cond (not b) (f ∷ rest) rest) ≡ cond (not b) (client_row_of ms f ∷ filter (λ (row : ClientRow). not (row.client == c)) (map (client_row_of ms) fs)) (filter (λ (row : ClientRow). not (row.client == c)) (map (client_row_of ms) fs))) [
      | true ↦ λ e. rows_left c ms fs
      | false ↦ λ e. ap (λ o. client_row_by f o ∷ map (client_row_of left) rest) (find_others (λ (x : Member). x.client) f.client c e ms) ∙ ap (λ l. client_row_of ms f ∷ l) (rows_left c ms fs)
    ] refl

-- Each client that belongs to a master is still open after one was removed.
pub members_open_left : (c : ℕ) (fs : List FileClient) (ms : List Member) → AllByRecursion (IsThere fs) ms
    → AllByRecursion (IsThere (filter (λ (f : FileClient). not (is_client c f)) fs)) (filter (λ (x : Member). not (x.client == c)) ms)
members_open_left c fs [] h = tt
members_open_left c fs (m ∷ ms) h =
    let rest = filter (λ (x : Member). not (x.client == c)) ms in
    elim (m.client == c) as (λ b. (m.client == c) ≡ b → AllByRecursion (IsThere (filter (λ (f : FileClient). not (is_client c f)) fs)) (cond (not b) (m ∷ rest) rest))
    [ true ↦ λ e. members_open_left c fs ms h.1 | false ↦ λ e. (ap is_some (find_others (λ (f : FileClient). f.client) m.client c e fs) ∙ h.0, members_open_left c fs ms h.1) ]
    refl

-- ---- the masters that clients name

-- what a client's row names a member names
named_by : (m c : ℕ) (ms : List Member)
    → is_option m (option_map (λ (x : Member). x.master) (masters.member_of ms c)) ≡ true
    → list_any (λ (x : Member). x.master == m) ms ≡ true
named_by m c ms h = by_row (masters.member_of ms c) refl h
  where
    by_row : (o : Option Member) → masters.member_of ms c ≡ o
        → is_option m (option_map (λ (x : Member). x.master) o) ≡ true
        → list_any (λ (x : Member). x.master == m) ms ≡ true
    by_row None e k = absurd (let n : false ≡ true = k in cc)
    by_row (Some x) e k = any_found (masters.is_client c) (λ (y : Member). y.master == m) x ms e k

any_of_client : (c : ℕ) (q : FileClient → Bool) → ((f : FileClient) → f.client ≡ c → q f ≡ true)
    → (fs : List FileClient) → is_some (find (is_client c) fs) ≡ true → list_any q fs ≡ true
any_of_client c q g [] h = absurd (let e : false ≡ true = h in cc)
any_of_client c q g (f ∷ fs) h =
    elim (f.client == c) as (λ b. (f.client == c) ≡ b → is_some (cond b (Some f) (find (is_client c) fs)) ≡ true → (q f || list_any q fs) ≡ true)
    [ true ↦ λ e k. or_left (q f) _ (g f (eqb-true f.client c e)) | false ↦ λ e k. or_right (q f) _ (any_of_client c q g fs k) ]
    refl h

-- A master is named by a client's row exactly if a client belongs to it.
pub masters_named : (m : ℕ) (fs : List FileClient) (ms : List Member) → AllByRecursion (IsThere fs) ms
    → InOrder (λ (x y : Member). x.client < y.client) ms
    → list_any (λ (row : ClientRow). is_option m row.master) (map (client_row_of ms) fs) ≡ list_any (λ (x : Member). x.master == m) ms
masters_named m fs ms there rise =
    let test =
    λ (f : FileClient). is_option m (option_map (λ (x : Member). x.master) (masters.member_of ms f.client)) in
    let down : list_any test fs ≡ true → list_any (λ (x : Member). x.master == m) ms ≡ true =
    list_any_gives test (list_any (λ (x : Member). x.master == m) ms) (λ f e. named_by m f.client ms e) fs in
    let up = λ (e : list_any (λ (x : Member). x.master == m) ms ≡ true).
    let it =
    some_passing (λ (x : Member). x.master == m)
    (λ (x : Member). IsThere fs x × (masters.member_of ms x.client ≡ Some x)) ms
    (all_both (IsThere fs) (λ (x : Member). masters.member_of ms x.client ≡ Some x) _ (λ x t f. (t, f)) ms there (all_found (λ (x : Member). x.client) ms rise))
    e in
    let some : list_any test fs ≡ true =
    any_of_client it.0.client test
    (λ f is. ap (λ n. is_option m (option_map (λ (x : Member). x.master) (masters.member_of ms n))) is ∙ ap (λ o. is_option m (option_map (λ (x : Member). x.master) o)) it.2.1 ∙ it.1)
    fs it.2.0 in
    some in
    list_any-map (λ (row : ClientRow). is_option m row.master) (client_row_of ms) fs
    ∙ both_ways (list_any test fs) (list_any (λ (x : Member). x.master == m) ms) down up
