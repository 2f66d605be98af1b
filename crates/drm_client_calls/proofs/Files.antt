-- The file of a new client.
use Rattle.std.proofs.Common.{◌≡◌, ℕ, ◌<◌, Bool, true, false, cond, List, [], ◌∷◌, ◌++◌, map, find, Some, refl, ap, ◌∙◌, eq-eqb}
use Rattle.std.specs.Prelude.{if◌then◌else◌}
use Rattle.std.specs.List.{AllByRecursion}
use Rattle.std.specs.Option.{is_some}
use Rattle.std.proofs.lemmas.List.{map-append}
use Rattle.std.proofs.lemmas.Bool.{lt-ltb}
use Rattle.drm_state.proofs.Members.{found_last}
use Rattle.drm_index_array.proofs.Lists.{all_weaker}
use Rattle.drm_index_array.proofs.Numbers.{less-differ}
use Rattle.drm_index_array.proofs.Placed.{placed_last as last}
use Rattle.drm_files.specs.declared.rows.FileClient.{FileClient}
use Rattle.drm_files.specs.Files.{FileLists, is_client, is_open_client, client_before, placed, authenticated, new_flags, with_client, with_authenticated}

-- ---- a new client comes last

-- The file of the newest client is put last.
pub placed_last : (f : FileClient) → (fs : List FileClient)
    → AllByRecursion (λ (g : FileClient). g.client < f.client) fs → placed client_before f fs ≡ fs ++ f ∷ []
placed_last f fs newest =
    last (λ (g : FileClient). client_before g f) f fs
    (all_weaker (λ (g : FileClient). g.client < f.client) (λ (g : FileClient). client_before g f ≡ true) (λ g less. lt-ltb g.client f.client less) fs newest)

-- Authentication of the newest client leaves the files of all older clients.
pub authenticated_last : (f : FileClient) → (fs : List FileClient)
    → AllByRecursion (λ (g : FileClient). g.client < f.client) fs
    → map (λ (row : FileClient). if is_client f.client row then authenticated row else row) fs ≡ fs
authenticated_last f [] h = refl
authenticated_last f (g ∷ gs) h =
    ap
    (λ b. (if b then authenticated g else g) ∷ map (λ (row : FileClient). if is_client f.client row then authenticated row else row) gs)
    (less-differ g.client f.client h.0)
    ∙ ap (λ l. g ∷ l) (authenticated_last f gs h.1)

-- A client that is newer than all has no file.
pub not_there : (c : ℕ) → (fs : List FileClient) → AllByRecursion (λ (g : FileClient). g.client < c) fs
    → is_some (find (is_client c) fs) ≡ false
not_there c [] h = refl
not_there c (g ∷ gs) h =
    ap (λ b. is_some (cond b (Some g) (find (is_client c) gs))) (less-differ g.client c h.0) ∙ not_there c gs h.1

-- ---- the file of a new client

abbrev opened : FileLists → ℕ → Bool → Bool → Bool → Bool → FileLists
opened files number render root authenticated universal =
    record files
    { clients = files.clients ++ record { client = number; flags = record (new_flags render root universal) { authenticated = authenticated } } ∷ [] }

-- A new client's file is last, with the flags of its opening.
pub opened_file : (files : FileLists) (number : ℕ) (render root universal : Bool)
    → AllByRecursion (λ (g : FileClient). g.client < number) files.clients
    → with_client files number (new_flags render root universal) ≡ opened files number render root root universal
opened_file files number render root universal h =
    ap (λ fs. record files { clients = fs })
    (placed_last (record { client = number; flags = new_flags render root universal }) files.clients h)

-- A client is open after its file was added.
pub opened_open_client : (files new : FileLists) (number : ℕ) (render root universal : Bool)
    → AllByRecursion (λ (g : FileClient). g.client < number) files.clients
    → new ≡ with_client files number (new_flags render root universal) → is_open_client new number ≡ true
opened_open_client files new number render root universal h e =
    ap (λ (l : FileLists). is_open_client l number) (e ∙ opened_file files number render root universal h)
    ∙ found_last (record { client = number; flags = new_flags render root universal }) files.clients

-- A new client's file is last and authenticated, after both steps.
pub opened_authenticated : (files new : FileLists) (number : ℕ) (render root universal : Bool)
    → AllByRecursion (λ (g : FileClient). g.client < number) files.clients
    → new ≡ with_client files number (new_flags render root universal)
    → with_authenticated new number ≡ opened files number render root true universal
opened_authenticated files new number render root universal h e =
    let f : FileClient = record { client = number; flags = new_flags render root universal } in
    let change = λ (row : FileClient). if is_client number row then authenticated row else row in
    ap (λ (l : FileLists). with_authenticated l number) (e ∙ opened_file files number render root universal h)
    ∙ ap (λ fs. record files { clients = fs })
    (map-append change files.clients (f ∷ []) ∙ ap (λ l. l ++ change f ∷ []) (authenticated_last f files.clients h) ∙ ap (λ b. files.clients ++ (if b then authenticated f else f) ∷ []) (eq-eqb number number refl))
