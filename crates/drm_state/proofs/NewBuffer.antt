-- What a new buffer leaves of the parts.
use Rattle.std.proofs.Common.{◌≡◌, ℕ, ◌==◌, true, false, cond, not, ◌&&◌, ◌||◌, List, [], ◌∷◌, ◌++◌, map, filter, find, Option, Some, None, refl, sym, ap, ◌∙◌, subst, eq-eqb}
use Rattle.std.specs.Prelude.{nat_le, ⊤, unwrap_or}
use Rattle.std.specs.List.{AllByRecursion}
use Rattle.std.specs.Option.{is_some, option_map, option_map_or, OnSome}
use Rattle.std.proofs.lemmas.List.{map-append}
use Rattle.std.proofs.lemmas.Bool.{and_left, eqb-true}
use Rattle.drm_index_array.specs.Orders.{SameRows}
use Rattle.drm_index_array.specs.Numbers.{is_among}
use Rattle.drm_index_array.proofs.Lists.{all_weaker, list_any-map, all_each}
use Rattle.drm_index_array.proofs.FoundInLists.{is_some-find, is_among-map_filter, find_last, none_found, on_some}
use Rattle.drm_index_array.proofs.Numbers.{among-left, among-right, among-more}
use Rattle.drm_index_array.proofs.Orders.{same-map, same-trans, same-any, same-cons, last_first}
use Rattle.drm_gem.specs.declared.object.Object.{Object}
use Rattle.drm_gem.specs.declared.object.Dead.{Dead}
use Rattle.drm_gem.specs.Objects.{ObjectSet, IsNewStepNumber, is_key, object_at, passes, without_key, unheld, is_unused, dead_of, dead_after, new_object}
use Rattle.drm_files.specs.declared.rows.FileHandle.{FileHandle}
use Rattle.drm_files.specs.Files as files
use Rattle.drm_files.specs.Files.{handle_before, placed, with_handle_row, hold}
use Rattle.drm_index_array.specs.Least.{least}
use Rattle.drm_index_array.proofs.Least.{least-same}
use Rattle.drm_modes.specs.declared.rows.Framebuffer.{Framebuffer}
use Rattle.drm_model.specs.Rows.{Rows, HandleRow, handle_row, is_handle, handles_of, free_handle, step_number}
use Rattle.drm_model.specs.Buffers.{with_object}
use Rattle.drm_state.specs.declared.state.State.{State}
use Rattle.drm_share.specs.declared.rows.SharedName.{SharedName}
use Rattle.drm_share.specs.declared.rows.SharedToken.{SharedToken}
use Rattle.drm_state.specs.Parts.{step_number_at, handle_row_by, handle_row_of, name_row_by, name_row_of, token_row_by, token_row_of, framebuffer_row_by, framebuffer_row_of, object_row_of, holds_of, keys_of, token_keys, framebuffer_keys, referring_keys}
use Rattle.drm_state.specs.Invariants.{Invariant, HoldsRise, ObjectsCounted, NamesHeld, meets_invariant, MeetsInvariants, AreNamed}
use Rattle.drm_model.specs.Parts.{Part, Holds, Objects, Names, Tokens, Framebuffers}
use Rattle.drm_state.specs.Refinement.{represents_part, Represents, RepresentsAt}
use Rattle.drm_state.proofs.Represented.{bounds_are, holds_are, objects_are, names_are, tokens_are, framebuffers_are, holds_rise, objects_counted, names_held}
use Rattle.drm_state.proofs.Counting.{is_found, same_invariants, created_invariants}
use Rattle.drm_state.proofs.Naming.{same_numbers}
use Rattle.drm_state.proofs.Holding.{same_placed, in_order_placed, free_is_new}

-- one more object, younger than all others
abbrev pub with_newest : ObjectSet → ℕ → ℕ → ℕ → ObjectSet
with_newest set key birth size = record set { objects = set.objects ++ new_object key birth size ∷ [] }

-- ---- a new object is taken back

drop_last : (key : ℕ) (y : Object) → (y.key == key) ≡ true → (xs : List Object)
    → AllByRecursion (λ (x : Object). (x.key == key) ≡ false) xs
    → filter (λ (x : Object). not (x.key == key)) (xs ++ y ∷ []) ≡ xs
drop_last key y e [] h = ap (λ b. cond (not b) (y ∷ []) []) e
drop_last key y e (x ∷ xs) h =
    ap
    (λ b. cond (not b) (x ∷ filter (λ (x : Object). not (x.key == key)) (xs ++ y ∷ [])) (filter (λ (x : Object). not (x.key == key)) (xs ++ y ∷ [])))
    h.0
    ∙ ap (λ l. x ∷ l) (drop_last key y e xs h.1)

-- The object that was just created has a handle to lose.
pub made_there : (old set : ObjectSet) (key step_number size : ℕ) → object_at old key ≡ None
    → set ≡ with_newest old key step_number size → passes (λ x. nat_le 1 x.holds) set key ≡ true
made_there old set key step_number size fresh e =
    ap (λ (o : ObjectSet). passes (λ x. nat_le 1 x.holds) o key) e
    ∙ ap (λ o. option_map_or (λ (x : Object). nat_le 1 x.holds) o false)
    (find_last (is_key key) (new_object key step_number size) (eq-eqb key key refl) old.objects (none_found (is_key key) old.objects fresh))

-- Without its only handle, the object that was just created is removed, and all others are as before.
pub taken_back : (old set new : ObjectSet) (key step_number size : ℕ) (left : Option Dead) → object_at old key ≡ None
    → set ≡ with_newest old key step_number size → left ≡ dead_after unheld set key
    → OnSome left (new ≡ without_key key set) → new ≡ old
taken_back old set new key step_number size left fresh e is gone =
    let others = none_found (is_key key) old.objects fresh in
    let x = new_object key step_number size in
    let test = λ (z : Object). is_key key z && is_unused (unheld z) in
    let found : find test (old.objects ++ x ∷ []) ≡ Some x =
    find_last test x (ap (λ b. b && true) (eq-eqb key key refl)) old.objects
    (all_weaker (λ (z : Object). (z.key == key) ≡ false) (λ z. test z ≡ false) (λ z h. and_left (z.key == key) (is_unused (unheld z)) h) old.objects others)
    in
    let some : is_some left ≡ true =
    ap is_some (is ∙ ap (λ (o : ObjectSet). dead_after unheld o key) e)
    ∙ ap (λ o. is_some (option_map dead_of o)) found in
    on_some left (new ≡ without_key key set) some gone ∙ ap (without_key key) e
    ∙ ap (λ os. record old { objects = os }) (drop_last key x (eq-eqb key key refl) old.objects others)

-- ---- which handle is free

-- A client has a handle by rows exactly if it has it in the state.
pub hold_row_is : (s : State) (w : Rows) → Represents s w → (c n : ℕ)
    → is_some (handle_row w c n) ≡ is_some (find (files.is_handle c n) s.files.holds)
hold_row_is s w h c n =
    is_some-find (is_handle c n) w.holds ∙ same-any (is_handle c n) w.holds (holds_of s) (holds_are s w h)
    ∙ list_any-map (is_handle c n) (handle_row_of s.objects.objects) s.files.holds
    ∙ sym (is_some-find (files.is_handle c n) s.files.holds)

handles_are : (s : State) (w : Rows) → Represents s w → (c n : ℕ)
    → is_among (handles_of w c) n ≡ is_among (files.handles_of s.files c) n
handles_are s w h c n =
    is_among-map_filter (λ (row : HandleRow). row.client == c) (λ (row : HandleRow). row.handle) n w.holds
    ∙ hold_row_is s w h c n
    ∙ sym (is_among-map_filter (files.of_client c) (λ (x : FileHandle). x.handle) n s.files.holds)

-- The free handle of a client is the same by rows as in the state.
pub free_handle_is : (s : State) (w : Rows) → Represents s w → (c : ℕ) → free_handle w c ≡ files.free_handle s.files c
free_handle_is s w h c =
    least-same (λ n. not (is_among (handles_of w c) n)) (λ n. not (is_among (files.handles_of s.files c) n)) 1
    w.limits.handles (λ n _ _. ap not (handles_are s w h c n))
    ∙ ap (least (λ n. not (is_among (files.handles_of s.files c) n)) 1) (sym (bounds_are s w h).1)

-- ---- numbers with one more object

find_pushed : (k : ℕ) (y z : Object) → (xs : List Object) → find (is_key k) xs ≡ Some z
    → find (is_key k) (xs ++ y ∷ []) ≡ Some z
find_pushed k y z [] h = absurd (let e : None ≡ Some z = h in cc)
find_pushed k y z (x ∷ xs) h = elim (x.key == k) as (λ b. cond b (Some x) (find (is_key k) xs) ≡ Some z → cond b (Some x) (find (is_key k) (xs ++ y ∷ [])) ≡ Some z) [ true ↦ λ e. e | false ↦ λ e. find_pushed k y z xs e ] h

number_kept : (k : ℕ) (y : Object) (xs : List Object) → is_some (find (is_key k) xs) ≡ true
    → step_number_at (xs ++ y ∷ []) k ≡ step_number_at xs k
number_kept k y xs h =
    let it = is_found k xs h (λ x. ⊤) (all_each _ (λ x. tt) xs) in
    ap (λ o. option_map_or (λ (x : Object). x.step_number) o 0) (find_pushed k y it.0 xs it.1 ∙ sym it.1)

holds_kept : (y : Object) (objects : List Object) → (hs : List FileHandle)
    → ((n : ℕ) → is_among (keys_of hs) n ≡ true → is_some (find (is_key n) objects) ≡ true)
    → map (handle_row_of (objects ++ y ∷ [])) hs ≡ map (handle_row_of objects) hs
holds_kept y objects hs f =
    same_numbers handle_row_by (λ (x : FileHandle). x.object) objects (objects ++ y ∷ []) hs
    (λ n e. number_kept n y objects (f n e))

-- names, tokens and framebuffers name what they named
tokens_kept : (y : Object) (objects : List Object) → (ts : List SharedToken)
    → ((n : ℕ) → is_among (token_keys ts) n ≡ true → is_some (find (is_key n) objects) ≡ true)
    → map (token_row_of (objects ++ y ∷ [])) ts ≡ map (token_row_of objects) ts
tokens_kept y objects ts f =
    same_numbers token_row_by (λ (x : SharedToken). x.object) objects (objects ++ y ∷ []) ts
    (λ n e. number_kept n y objects (f n e))

framebuffers_kept : (y : Object) (objects : List Object) → (fs : List Framebuffer)
    → ((n : ℕ) → is_among (framebuffer_keys fs) n ≡ true → is_some (find (is_key n) objects) ≡ true)
    → map (framebuffer_row_of (objects ++ y ∷ [])) fs ≡ map (framebuffer_row_of objects) fs
framebuffers_kept y objects fs f =
    same_numbers framebuffer_row_by (λ (x : Framebuffer). x.object) objects (objects ++ y ∷ []) fs
    (λ n e. number_kept n y objects (f n e))

held_names : (keys : List ℕ) → (ns : List SharedName) (n : ℕ) → AreNamed keys ns
    → is_among (map (λ (x : SharedName). x.object) ns) n ≡ true → is_among keys n ≡ true
held_names keys [] n h e = absurd (let k : false ≡ true = e in cc)
held_names keys (x ∷ xs) n h e =
    elim (x.object == n) as (λ b. (x.object == n) ≡ b → (b || is_among (map (λ (x : SharedName). x.object) xs) n) ≡ true → is_among keys n ≡ true)
    [ true ↦ λ is k. ap (is_among keys) (sym (eqb-true x.object n is)) ∙ h.0 | false ↦ λ is k. held_names keys xs n h.1 k ]
    refl e

names_kept : (y : Object) (objects : List Object) (keys : List ℕ) → (ns : List SharedName) → AreNamed keys ns
    → ((n : ℕ) → is_among keys n ≡ true → is_some (find (is_key n) objects) ≡ true)
    → map (name_row_of (objects ++ y ∷ [])) ns ≡ map (name_row_of objects) ns
names_kept y objects keys ns h f =
    same_numbers name_row_by (λ (x : SharedName). x.object) objects (objects ++ y ∷ []) ns
    (λ n e. number_kept n y objects (f n (held_names keys ns n h e)))

new_number : (key step_number size : ℕ) (objects : List Object) → find (is_key key) objects ≡ None
    → step_number_at (objects ++ new_object key step_number size ∷ []) key ≡ step_number
new_number key step_number size objects fresh =
    ap (λ o. option_map_or (λ (x : Object). x.step_number) o 0)
    (find_last (is_key key) (new_object key step_number size) (eq-eqb key key refl) objects (none_found (is_key key) objects fresh))

-- the state with a new object and a handle of it
abbrev pub with_made : State → ℕ → ℕ → ℕ → ℕ → ℕ → State
with_made s c handle key step_number size =
    record s
    { files = with_handle_row s.files (hold c handle key None); objects = with_newest s.objects key step_number size }

-- The state with a new object and its handle represents the rows with both.
pub made : (s : State) (w : Rows) (c handle key b size : ℕ) → MeetsInvariants s → RepresentsAt s b w
    → object_at s.objects key ≡ None → files.free_handle s.files c ≡ Some handle → (part : Part)
    → represents_part part (with_made s c handle key b size) (with_object w c size)
unfolding represents_part with_object
made s w c handle key b size t h fresh free Objects =
    ap (λ rows. rows ++ record { object = step_number w; size = size; stamp = 0 } ∷ []) (objects_are s w h.rows)
    ∙ ap (λ n. map object_row_of s.objects.objects ++ record { object = n; size = size; stamp = 0 } ∷ [])
    h.step_number_is
    ∙ sym (map-append object_row_of s.objects.objects (new_object key b size ∷ []))
made s w c handle key b size t h fresh free Holds =
    let y : FileHandle = hold c handle key None in
    let objects = s.objects.objects ++ new_object key b size ∷ [] in
    let row : HandleRow = record { client = c; handle = handle; object = b; export_order = None } in
    let number : unwrap_or (free_handle w c) 0 ≡ handle =
    ap (λ o. unwrap_or o 0) (free_handle_is s w h.rows c ∙ free) in
    let named : map (handle_row_of objects) (y ∷ s.files.holds) ≡ row ∷ holds_of s =
    ap
    (λ n. record { client = c; handle = handle; object = n; export_order = None } ∷ map (handle_row_of objects) s.files.holds)
    (new_number key b size s.objects.objects fresh)
    ∙ ap (λ l. row ∷ l) (holds_kept (new_object key b size) s.objects.objects s.files.holds (λ n e. (objects_counted s t).there n (among-left (keys_of s.files.holds) (referring_keys s) n e))) in
    let placed_rows : SameRows (row ∷ holds_of s) (map (handle_row_of objects) (placed handle_before y s.files.holds)) =
    subst (λ l. SameRows l (map (handle_row_of objects) (placed handle_before y s.files.holds))) named (same-map (handle_row_of objects) (y ∷ s.files.holds) (placed handle_before y s.files.holds) (same_placed y s.files.holds)) in
    let more : SameRows (w.holds ++ row ∷ []) (map (handle_row_of objects) (placed handle_before y s.files.holds)) =
    same-trans (w.holds ++ row ∷ []) (row ∷ w.holds) _ (last_first w.holds row) (same-trans (row ∷ w.holds) (row ∷ holds_of s) _ (same-cons row w.holds (holds_of s) (holds_are s w h.rows)) placed_rows) in
    let numbered : HandleRow =
    record { client = c; handle = unwrap_or (free_handle w c) 0; object = b; export_order = None } in
    let first : row ≡ numbered =
    ap (λ n. record { client = c; handle = n; object = b; export_order = None }) (sym number) in
    let new : numbered ≡ record { client = c; handle = unwrap_or (free_handle w c) 0; object = step_number w; export_order = None } =
    ap (λ n. record { client = c; handle = unwrap_or (free_handle w c) 0; object = n; export_order = None })
    (sym h.step_number_is) in
    let longer = ap (λ (r : HandleRow). w.holds ++ r ∷ []) (first ∙ new) in
    subst (λ rows. SameRows rows (map (handle_row_of objects) (placed handle_before y s.files.holds))) longer more
made s w c handle key b size t h fresh free Tokens =
    subst (SameRows w.tokens)
    (sym (tokens_kept (new_object key b size) s.objects.objects s.tokens.tokens (λ n e. (objects_counted s t).there n (among-right (keys_of s.files.holds) (referring_keys s) n (among-left (token_keys s.tokens.tokens) (framebuffer_keys s.modes.framebuffers) n e)))))
    (tokens_are s w h.rows)
made s w c handle key b size t h fresh free Framebuffers =
    subst (SameRows w.framebuffers)
    (sym (framebuffers_kept (new_object key b size) s.objects.objects s.modes.framebuffers (λ n e. (objects_counted s t).there n (among-right (keys_of s.files.holds) (referring_keys s) n (among-right (token_keys s.tokens.tokens) (framebuffer_keys s.modes.framebuffers) n e)))))
    (framebuffers_are s w h.rows)
made s w c handle key b size t h fresh free Names =
    subst (SameRows w.names)
    (sym (names_kept (new_object key b size) s.objects.objects (keys_of s.files.holds) s.names.names (names_held s t) (λ n e. (objects_counted s t).there n (among-left (keys_of s.files.holds) (referring_keys s) n e))))
    (names_are s w h.rows)
made s w c handle key b size t h fresh free part = h.rows part

-- Each name is still of an object that a handle names after one more handle.
pub named_yet : (c handle key : ℕ) (export_order : Option ℕ) (hs : List FileHandle) (ns : List SharedName)
    → AreNamed (keys_of hs) ns → AreNamed (keys_of (placed handle_before (hold c handle key export_order) hs)) ns
named_yet c handle key export_order hs ns h =
    let y : FileHandle = hold c handle key export_order in
    all_weaker (λ (x : SharedName). is_among (keys_of hs) x.object ≡ true)
    (λ (x : SharedName). is_among (keys_of (placed handle_before y hs)) x.object ≡ true)
    (λ x e. sym (same-any (λ n. n == x.object) (key ∷ keys_of hs) (keys_of (placed handle_before y hs)) (same-map (λ (z : FileHandle). z.object) (y ∷ hs) (placed handle_before y hs) (same_placed y hs))) ∙ among-more (keys_of hs) key x.object e)
    ns h

-- A new object with its handle keeps all invariants.
pub made_invariants : (s : State) (c handle key b size : ℕ) → MeetsInvariants s → IsNewStepNumber s.objects b
    → object_at s.objects key ≡ None → files.free_handle s.files c ≡ Some handle → (invariant : Invariant)
    → meets_invariant invariant (with_made s c handle key b size)
unfolding meets_invariant
made_invariants s c handle key b size t newest fresh free HoldsRise =
    in_order_placed (hold c handle key None) s.files.holds (holds_rise s t) (free_is_new s.files c handle free)
made_invariants s c handle key b size t newest fresh free ObjectsCounted =
    let y : FileHandle = hold c handle key None in
    same_invariants (key ∷ keys_of s.files.holds) (keys_of (placed handle_before y s.files.holds)) (referring_keys s)
    (s.objects.objects ++ new_object key b size ∷ [])
    (same-map (λ (x : FileHandle). x.object) (y ∷ s.files.holds) (placed handle_before y s.files.holds) (same_placed y s.files.holds))
    (created_invariants (keys_of s.files.holds) (referring_keys s) s.objects.objects (new_object key b size) (objects_counted s t) fresh newest refl refl)
made_invariants s c handle key b size t newest fresh free NamesHeld =
    named_yet c handle key None s.files.holds s.names.names (names_held s t)
made_invariants s c handle key b size t newest fresh free invariant = t invariant
