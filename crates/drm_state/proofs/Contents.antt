-- What a client's handles name, their list, stamps, and what a handle fewer leaves of the objects.
use Rattle.std.proofs.Common.{◌≡◌, ℕ, suc, ◌<◌, ◌≤◌, ◌==◌, nat_le, true, false, not, cond, ◌&&◌, ◌||◌, List, [], ◌∷◌, ◌++◌, map, filter, find, take, length, Option, Some, None, refl, sym, ap, ◌∙◌, subst, arith, eq-eqb}
use Rattle.std.specs.Prelude.{unwrap_or, if◌then◌else◌, slice_get, drop}
use Rattle.std.specs.List.{list_any, AllByRecursion}
use Rattle.std.specs.Option.{is_some, option_map, option_map_or, OnSome, IfNone}
use Rattle.std.proofs.lemmas.Bool.{le-leb}
use Rattle.std.proofs.lemmas.Bool.Decides.{nat_tests}
use Rattle.std.proofs.lemmas.List.{map-append}
use Rattle.drm_index_array.specs.Orders.{SameRows}
use Rattle.drm_index_array.specs.Numbers.{is_among}
use Rattle.drm_index_array.proofs.Lists.{all_weaker, filter-map, map-map, list_any-map}
use Rattle.drm_index_array.proofs.FoundInLists.{find-map, found-number, is_some-map, find-same}
use Rattle.drm_index_array.proofs.Numbers.{among-more, among-first, among-left, among-right}
use Rattle.drm_index_array.proofs.Orders.{in_order_filter, same-any, same-map, same-filter, sorted-same, order_of_numbers, same_parts}
use Rattle.drm_gem.specs.declared.object.Object.{Object}
use Rattle.drm_gem.specs.declared.object.Dead.{Dead}
use Rattle.drm_gem.specs.Objects.{ObjectSet, is_key, passes, changed_at, without_key, unheld, unreferred, stamped, dead_after}
use Rattle.drm_files.specs.declared.rows.FileHandle.{FileHandle}
use Rattle.drm_files.specs.Files as files
use Rattle.drm_files.specs.Files.{FileLists, of_client, left_by, without_handle_row, without_client}
use Rattle.drm_share.specs.Names.{NameList}
use Rattle.drm_modes.specs.declared.rows.Framebuffer.{Framebuffer}
use Rattle.drm_model.specs.Rows.{Rows, HandleRow, ObjectRow, is_handle, handle_row, object_of, object_row, handles_of}
use Rattle.drm_model.specs.Numbers.{rising}
use Rattle.drm_model.specs.Buffers.{with_stamp}
use Rattle.drm_model.specs.Sharing.{size_of}
use Rattle.drm_state.specs.declared.state.State.{State}
use Rattle.drm_share.specs.declared.rows.SharedName.{SharedName}
use Rattle.drm_share.specs.declared.rows.SharedToken.{SharedToken}
use Rattle.drm_state.specs.Parts.{step_number_at, handle_row_by, handle_row_of, name_row_by, name_row_of, token_row_by, token_row_of, framebuffer_row_by, framebuffer_row_of, object_row_of, holds_of, keys_of, referring_keys}
use Rattle.drm_state.specs.Invariants.{Invariant, HoldsRise, ObjectsCounted, NamesHeld, meets_invariant, MeetsInvariants, AreCounted, AreNamed, Counts, Leaves}
use Rattle.drm_model.specs.Parts.{Part, Holds, Objects, Names, Tokens, Framebuffers}
use Rattle.drm_state.specs.Refinement.{represents_part, Represents}
use Rattle.drm_state.proofs.Represented.{holds_are, objects_are, names_are, tokens_are, framebuffers_are, holds_rise, objects_counted, names_held}
use Rattle.drm_state.proofs.Counting.{IsStep, at_key, is_found, changed_invariants, same_invariants, fewer_step, handle_fewer, reference_fewer}
use Rattle.drm_state.proofs.Sweeps.{without_handle, named_left}
use Rattle.drm_state.proofs.Naming.{same_numbers, key_by_number}
use Rattle.drm_state.proofs.Holding.{one_object, handles_rise, one_goes}
use Rattle.drm_state.proofs.NewBuffer.{hold_row_is}

abbrev object_behind : FileHandle → ℕ
object_behind x = x.object

-- A client has a handle by rows exactly if a look-up found it in the state.
pub holds_it : (s : State) (w : Rows) → Represents s w → (c n : ℕ) (r o : Option ℕ)
    → r ≡ option_map object_behind (find (files.is_handle c n) s.files.holds) → r ≡ o
    → is_some (handle_row w c n) ≡ is_some o
holds_it s w h c n r o e g =
    hold_row_is s w h c n ∙ sym (is_some-map object_behind (find (files.is_handle c n) s.files.holds))
    ∙ ap is_some (sym e ∙ g)

number_named : (s : State) (w : Rows) → MeetsInvariants s → Represents s w → (c n key : ℕ) (found : Option FileHandle)
    → find (files.is_handle c n) s.files.holds ≡ found → Some key ≡ option_map object_behind found
    → object_of w c n ≡ step_number_at s.objects.objects key
number_named s w t h c n key None e f = absurd (let k : Some key ≡ None = f in cc)
number_named s w t h c n key (Some y) e f =
    let same : key ≡ y.object = let k : Some key ≡ Some y.object = f in cc in
    let number = step_number_at s.objects.objects in
    let test = λ (row : HandleRow). is_handle c n row && not (row.object == number y.object) in
    let one : list_any test w.holds ≡ false =
    same-any test w.holds (holds_of s) (holds_are s w h)
    ∙ list_any-map test (handle_row_of s.objects.objects) s.files.holds
    ∙ one_object c n number s.files.holds (holds_rise s t) y e in
    let some : is_some (handle_row w c n) ≡ true = hold_row_is s w h c n ∙ ap is_some e in
    ap (λ o. unwrap_or o 0)
    (found-number (is_handle c n) (λ (row : HandleRow). row.object) (number y.object) w.holds one some)
    ∙ ap number (sym same)

-- A handle that a look-up found names the object of its key.
pub object_found : (s : State) (w : Rows) → MeetsInvariants s → Represents s w → (c n key : ℕ) (r : Option ℕ)
    → r ≡ option_map object_behind (find (files.is_handle c n) s.files.holds) → r ≡ Some key
    → object_of w c n ≡ step_number_at s.objects.objects key
object_found s w t h c n key r e g =
    number_named s w t h c n key (find (files.is_handle c n) s.files.holds) refl (sym g ∙ e)

-- The key that a client's handle names is among the keys that handles name.
pub key_found : (c n key : ℕ) → (hs : List FileHandle)
    → Some key ≡ option_map object_behind (find (files.is_handle c n) hs) → is_among (keys_of hs) key ≡ true
key_found c n key [] e = absurd (let k : Some key ≡ None = e in cc)
key_found c n key (x ∷ xs) e =
    elim (files.is_handle c n x) as (λ b. Some key ≡ option_map object_behind (cond b (Some x) (find (files.is_handle c n) xs)) → is_among (keys_of (x ∷ xs)) key ≡ true) [
      | true ↦ λ f. let same : key ≡ x.object = let k : Some key ≡ Some x.object = f in cc in ap (λ b. b || is_among (keys_of xs) key) (eq-eqb x.object key (sym same))
      | false ↦ λ f. among-more (keys_of xs) x.object key (key_found c n key xs f)
    ] e

-- The object of a handle that a look-up found exists.
pub key_there : (s : State) (c n key : ℕ) (r : Option ℕ) → MeetsInvariants s
    → r ≡ option_map object_behind (find (files.is_handle c n) s.files.holds) → r ≡ Some key
    → is_some (find (is_key key) s.objects.objects) ≡ true
key_there s c n key r t e g =
    (objects_counted s t).there key
    (among-left (keys_of s.files.holds) (referring_keys s) key (key_found c n key s.files.holds (sym g ∙ e)))

-- ---- the list of handles

-- The list of a client's handles from a number on is the same by rows, 64 at most.
pub handles_listed : (s : State) (w : Rows) → MeetsInvariants s → Represents s w → (c from : ℕ)
    → take 64 (filter (λ h. nat_le from h) (files.handles_of s.files c)) ≡ take 64 (filter (λ handle. nat_le from handle) (rising (handles_of w c)))
handles_listed s w t h c from =
    let mine = λ (row : HandleRow). row.client == c in
    let handle = λ (row : HandleRow). row.handle in
    let theirs : map handle (filter mine (holds_of s)) ≡ files.handles_of s.files c =
    ap (map handle) (filter-map mine (handle_row_of s.objects.objects) s.files.holds) ∙ map-map handle (handle_row_of s.objects.objects) (filter (of_client c) s.files.holds) in
    let all : rising (handles_of w c) ≡ files.handles_of s.files c =
    sorted-same nat_le (λ x y. x == y) order_of_numbers (handles_of w c) (files.handles_of s.files c)
    (handles_rise c s.files.holds (holds_rise s t))
    (λ test. same-map handle (filter mine w.holds) (filter mine (holds_of s)) (same-filter mine w.holds (holds_of s) (holds_are s w h)) test ∙ ap (λ l. length (filter test l)) theirs) in
    ap (λ l. take 64 (filter (λ h. nat_le from h) l)) (sym all)

-- ---- another stamp

number_stamped : (n key stamp : ℕ) → (xs : List Object)
    → step_number_at (at_key key (stamped stamp) xs) n ≡ step_number_at xs n
number_stamped n key stamp [] = refl
number_stamped n key stamp (x ∷ xs) =
    elim (x.key == key) as (λ b. step_number_at ((if b then stamped stamp x else x) ∷ at_key key (stamped stamp) xs) n ≡ step_number_at (x ∷ xs) n) [
      | true ↦ elim (x.key == n) as (λ t. option_map_or (λ (x : Object). x.step_number) (cond t (Some (stamped stamp x)) (find (is_key n) (at_key key (stamped stamp) xs))) 0 ≡ option_map_or (λ (x : Object). x.step_number) (cond t (Some x) (find (is_key n) xs)) 0) [ true ↦ refl | false ↦ number_stamped n key stamp xs ]
      | false ↦ elim (x.key == n) as (λ t. option_map_or (λ (x : Object). x.step_number) (cond t (Some x) (find (is_key n) (at_key key (stamped stamp) xs))) 0 ≡ option_map_or (λ (x : Object). x.step_number) (cond t (Some x) (find (is_key n) xs)) 0) [ true ↦ refl | false ↦ number_stamped n key stamp xs ]
    ]

holds_stamped : (key stamp : ℕ) (objects : List Object) → (hs : List FileHandle)
    → map (handle_row_of (at_key key (stamped stamp) objects)) hs ≡ map (handle_row_of objects) hs
holds_stamped key stamp objects hs =
    same_numbers handle_row_by (λ (x : FileHandle). x.object) objects (at_key key (stamped stamp) objects) hs
    (λ n e. number_stamped n key stamp objects)

tokens_stamped : (key stamp : ℕ) (objects : List Object) → (ts : List SharedToken)
    → map (token_row_of (at_key key (stamped stamp) objects)) ts ≡ map (token_row_of objects) ts
tokens_stamped key stamp objects ts =
    same_numbers token_row_by (λ (x : SharedToken). x.object) objects (at_key key (stamped stamp) objects) ts
    (λ n e. number_stamped n key stamp objects)

framebuffers_stamped : (key stamp : ℕ) (objects : List Object) → (fs : List Framebuffer)
    → map (framebuffer_row_of (at_key key (stamped stamp) objects)) fs ≡ map (framebuffer_row_of objects) fs
framebuffers_stamped key stamp objects fs =
    same_numbers framebuffer_row_by (λ (x : Framebuffer). x.object) objects (at_key key (stamped stamp) objects) fs
    (λ n e. number_stamped n key stamp objects)

names_stamped : (key stamp : ℕ) (objects : List Object) → (ns : List SharedName)
    → map (name_row_of (at_key key (stamped stamp) objects)) ns ≡ map (name_row_of objects) ns
names_stamped key stamp objects ns =
    same_numbers name_row_by (λ (x : SharedName). x.object) objects (at_key key (stamped stamp) objects) ns
    (λ n e. number_stamped n key stamp objects)

eqb-flip : (a b c d : ℕ) → (a == b) ≡ (c == d) → (b == a) ≡ (d == c)
eqb-flip a b c d h = grind (arith, nat_tests)

rows_stamped : (key stamp number : ℕ) → (xs : List Object)
    → AllByRecursion (λ (x : Object). (number == x.step_number) ≡ (key == x.key)) xs
    → with_stamp number stamp (map object_row_of xs) ≡ map object_row_of (at_key key (stamped stamp) xs)
unfolding with_stamp
rows_stamped key stamp number [] h = refl
rows_stamped key stamp number (x ∷ xs) h =
    ap
    (λ b. (if b then record (object_row_of x) { stamp = stamp } else object_row_of x) ∷ with_stamp number stamp (map object_row_of xs))
    (eqb-flip number x.step_number key x.key h.0)
    ∙ ap (λ l. (if x.key == key then record (object_row_of x) { stamp = stamp } else object_row_of x) ∷ l)
    (rows_stamped key stamp number xs h.1)
    ∙ ap (λ (y : ObjectRow). y ∷ map object_row_of (at_key key (stamped stamp) xs))
    (elim (x.key == key) as (λ b. (if b then record (object_row_of x) { stamp = stamp } else object_row_of x) ≡ object_row_of (if b then stamped stamp x else x)) [ true ↦ refl | false ↦ refl ])

-- the objects with another stamp at a key
abbrev pub with_stamped : State → ℕ → ℕ → State
with_stamped s key stamp = record s { objects = changed_at key (stamped stamp) s.objects }

-- A state with another stamp of an object represents the rows with this stamp.
pub stamped_represents : (s : State) (w : Rows) (key stamp : ℕ) → MeetsInvariants s
    → is_among (keys_of s.files.holds) key ≡ true → Represents s w → (part : Part)
    → represents_part part (with_stamped s key stamp) (record w { objects = with_stamp (step_number_at s.objects.objects key) stamp w.objects })
unfolding represents_part
stamped_represents s w key stamp t e h Holds =
    subst (SameRows w.holds) (sym (holds_stamped key stamp s.objects.objects s.files.holds)) (holds_are s w h)
stamped_represents s w key stamp t e h Objects =
    let number = step_number_at s.objects.objects key in
    ap (with_stamp number stamp) (objects_are s w h)
    ∙ rows_stamped key stamp number s.objects.objects
    (key_by_number (keys_of s.files.holds) (referring_keys s) s.objects.objects key (objects_counted s t) (among-left (keys_of s.files.holds) (referring_keys s) key e))
stamped_represents s w key stamp t e h Tokens =
    subst (SameRows w.tokens) (sym (tokens_stamped key stamp s.objects.objects s.tokens.tokens)) (tokens_are s w h)
stamped_represents s w key stamp t e h Framebuffers =
    subst (SameRows w.framebuffers) (sym (framebuffers_stamped key stamp s.objects.objects s.modes.framebuffers))
    (framebuffers_are s w h)
stamped_represents s w key stamp t e h Names =
    subst (SameRows w.names) (sym (names_stamped key stamp s.objects.objects s.names.names)) (names_are s w h)
stamped_represents s w key stamp t e h part = h part

-- Another stamp of an object keeps all invariants.
pub stamped_invariants : (s : State) (key stamp : ℕ) → MeetsInvariants s → (invariant : Invariant)
    → meets_invariant invariant (with_stamped s key stamp)
unfolding meets_invariant
stamped_invariants s key stamp t ObjectsCounted =
    let keys = keys_of s.files.holds in
    changed_invariants keys (referring_keys s) keys (referring_keys s) key (stamped stamp)
    (record { key = λ x. refl; step_number = λ x. refl }) (λ n. refl) (λ x e c. c) (λ x e c. c) s.objects.objects
    (objects_counted s t)
stamped_invariants s key stamp t invariant = t invariant

read_field : (f : Object → ℕ) (g : ObjectRow → ℕ) → ((x : Object) → g (object_row_of x) ≡ f x)
    → (o : Option Object) (n : ℕ) → option_map f o ≡ Some n
    → unwrap_or (option_map g (option_map object_row_of o)) 0 ≡ n
read_field f g is None n h = absurd (let e : None ≡ Some n = h in cc)
read_field f g is (Some x) n h = let e : Some (f x) ≡ Some n = h in let k : f x ≡ n = cc in is x ∙ k

-- what the row of a key's object says
field_found : (f : Object → ℕ) (g : ObjectRow → ℕ) → ((x : Object) → g (object_row_of x) ≡ f x)
    → (s : State) (w : Rows) (key n : ℕ) → MeetsInvariants s
    → is_among (keys_of s.files.holds ++ referring_keys s) key ≡ true → Represents s w
    → option_map f (find (is_key key) s.objects.objects) ≡ Some n →
    n ≡ unwrap_or (option_map g (object_row w (step_number_at s.objects.objects key))) 0
field_found f g is s w key n t e h k =
    let number = step_number_at s.objects.objects key in
    let same : find (λ (x : Object). x.step_number == number) s.objects.objects ≡ find (is_key key) s.objects.objects =
    find-same (λ (x : Object). x.step_number == number) (is_key key) s.objects.objects
    (all_weaker (λ (x : Object). (number == x.step_number) ≡ (key == x.key)) (λ (x : Object). (x.step_number == number) ≡ (x.key == key)) (λ x r. eqb-flip number x.step_number key x.key r) s.objects.objects
    (key_by_number (keys_of s.files.holds) (referring_keys s) s.objects.objects key (objects_counted s t) e)) in
    sym (ap (λ rows. unwrap_or (option_map g (find (λ (row : ObjectRow). row.object == number) rows)) 0) (objects_are s w h)
    ∙ ap (λ o. unwrap_or (option_map g o) 0) (find-map (λ (row : ObjectRow). row.object == number) object_row_of s.objects.objects ∙ ap (option_map object_row_of) same) ∙ read_field f g is (find (is_key key) s.objects.objects) n k)

-- The stamp of the object of a key is that of the object's row.
pub stamp_found : (s : State) (w : Rows) (key n : ℕ) → MeetsInvariants s → is_among (keys_of s.files.holds) key ≡ true
    → Represents s w → option_map (λ (x : Object). x.stamp) (find (is_key key) s.objects.objects) ≡ Some n →
    n ≡ unwrap_or (option_map (λ (row : ObjectRow). row.stamp) (object_row w (step_number_at s.objects.objects key))) 0
stamp_found s w key n t e h k =
    field_found (λ (x : Object). x.stamp) (λ (row : ObjectRow). row.stamp) (λ x. refl) s w key n t
    (among-left (keys_of s.files.holds) (referring_keys s) key e) h k

-- The size of the object of a key is that of the object's row.
pub size_found : (s : State) (w : Rows) (key n : ℕ) → MeetsInvariants s
    → is_among (keys_of s.files.holds ++ referring_keys s) key ≡ true → Represents s w
    → option_map (λ (x : Object). x.size) (find (is_key key) s.objects.objects) ≡ Some n
    → n ≡ size_of w (step_number_at s.objects.objects key)
size_found s w key n t e h k =
    field_found (λ (x : Object). x.size) (λ (row : ObjectRow). row.size) (λ x. refl) s w key n t e h k

-- ---- a handle fewer

-- An object that a handle names has a handle to lose.
pub has_handle : (set : ObjectSet) (k : ℕ) (keys refs : List ℕ) → AreCounted (k ∷ keys) refs set.objects
    → passes (λ x. nat_le 1 x.holds) set k ≡ true
has_handle set k keys refs h =
    let it = is_found k set.objects (h.there k (among-first (keys ++ refs) k)) (Counts (k ∷ keys) refs) h.counted in
    let some : 1 ≤ it.0.holds =
    at_least it.0.holds _
    (it.3.0 ∙ ap (λ b. length (cond b (k ∷ filter (λ key. key == it.0.key) keys) (filter (λ key. key == it.0.key) keys))) (eq-eqb k it.0.key (sym it.2)))
    in
    ap (λ o. option_map_or (λ (x : Object). nat_le 1 x.holds) o false) it.1 ∙ le-leb 1 it.0.holds some
  where
    at_least : (n m : ℕ) → n ≡ suc m → 1 ≤ n
    at_least n m e = omega (arith, e)

-- Objects count the key of a client's handle, and the keys of all other handles.
pub first_invariants : (s : State) (c n key : ℕ) (r : Option ℕ) → MeetsInvariants s
    → r ≡ option_map object_behind (find (files.is_handle c n) s.files.holds) → r ≡ Some key
    → AreCounted (key ∷ keys_of (without_handle_row s.files c n).holds) (referring_keys s) s.objects.objects
first_invariants s c n key r t e g =
    same_invariants (keys_of s.files.holds) (key ∷ keys_of (without_handle_row s.files c n).holds) (referring_keys s)
    s.objects.objects (one_goes c n key s.files.holds (holds_rise s t) (sym g ∙ e)) (objects_counted s t)

-- An object counts one handle fewer, or is freed with the last that named it, and the others stay.
pub unheld_step : (set new : ObjectSet) (k : ℕ) (keys refs : List ℕ) (left : Option Dead)
    → AreCounted (k ∷ keys) refs set.objects → left ≡ dead_after unheld set k → OnSome left (new ≡ without_key k set)
    → IfNone left (new ≡ changed_at k unheld set) → IsStep set.objects keys refs new
unheld_step set new k keys refs left h e gone same =
    fewer_step k unheld (k ∷ keys) refs keys refs set new left (handle_fewer k keys refs) h e gone same

-- An object that a token or a framebuffer names has a reference to lose.
pub has_reference : (set : ObjectSet) (k : ℕ) (keys refs : List ℕ) → AreCounted keys (k ∷ refs) set.objects
    → passes (λ x. nat_le 1 x.refs) set k ≡ true
has_reference set k keys refs h =
    let it =
    is_found k set.objects (h.there k (among-right keys (k ∷ refs) k (among-first refs k))) (Counts keys (k ∷ refs))
    h.counted in
    let some : 1 ≤ it.0.refs =
    at_least it.0.refs _
    (it.3.1 ∙ ap (λ b. length (cond b (k ∷ filter (λ key. key == it.0.key) refs) (filter (λ key. key == it.0.key) refs))) (eq-eqb k it.0.key (sym it.2)))
    in
    ap (λ o. option_map_or (λ (x : Object). nat_le 1 x.refs) o false) it.1 ∙ le-leb 1 it.0.refs some
  where
    at_least : (n m : ℕ) → n ≡ suc m → 1 ≤ n
    at_least n m e = omega (arith, e)

-- An object counts one token or framebuffer fewer, or is freed with the last, and the others stay.
pub unreferred_step : (set new : ObjectSet) (k : ℕ) (keys refs : List ℕ) (left : Option Dead)
    → AreCounted keys (k ∷ refs) set.objects → left ≡ dead_after unreferred set k
    → OnSome left (new ≡ without_key k set) → IfNone left (new ≡ changed_at k unreferred set)
    → IsStep set.objects keys refs new
unreferred_step set new k keys refs left h e gone same =
    fewer_step k unreferred keys (k ∷ refs) keys refs set new left (reference_fewer k keys refs) h e gone same

-- A state without a handle, and without what it alone named, keeps all invariants.
pub handle_gone_invariants : (s : State) (c n : ℕ) (names : NameList) (set : ObjectSet) → MeetsInvariants s
    → Leaves s.names s.objects (keys_of (without_handle_row s.files c n).holds) (referring_keys s) names set
    → (invariant : Invariant) → meets_invariant invariant (without_handle s c n names set)
unfolding meets_invariant
handle_gone_invariants s c n names set t left HoldsRise =
    in_order_filter (λ (x y : FileHandle). files.handle_before x y ≡ true) _ s.files.holds (holds_rise s t)
handle_gone_invariants s c n names set t left ObjectsCounted = left.invariants
handle_gone_invariants s c n names set t left NamesHeld =
    named_left s.names names s.objects set (keys_of (without_handle_row s.files c n).holds) (referring_keys s) left
handle_gone_invariants s c n names set t left invariant = t invariant

-- Each name is of the handle's object or of one that another handle names.
pub first_named : (s : State) (c n key : ℕ) (r : Option ℕ) → MeetsInvariants s
    → r ≡ option_map object_behind (find (files.is_handle c n) s.files.holds) → r ≡ Some key
    → AreNamed (key ∷ keys_of (without_handle_row s.files c n).holds) s.names.names
first_named s c n key r t e g =
    all_weaker (λ (x : SharedName). is_among (keys_of s.files.holds) x.object ≡ true)
    (λ (x : SharedName). is_among (key ∷ keys_of (without_handle_row s.files c n).holds) x.object ≡ true)
    (λ x named. sym (same-any (λ k. k == x.object) (keys_of s.files.holds) (key ∷ keys_of (without_handle_row s.files c n).holds) (one_goes c n key s.files.holds (holds_rise s t) (sym g ∙ e))) ∙ named)
    s.names.names (names_held s t)

limit_kept : (old set : ObjectSet) (key : ℕ) (f : Object → Object) → (left : Option Dead)
    → OnSome left (set ≡ without_key key old) → IfNone left (set ≡ changed_at key f old) → set.limit ≡ old.limit
limit_kept old set key f None gone stays = ap (λ (o : ObjectSet). o.limit) stays
limit_kept old set key f (Some x) gone stays = ap (λ (o : ObjectSet). o.limit) gone

-- The limit of objects is unchanged when an object loses a handle.
pub unhold_limit : (old set : ObjectSet) (key : ℕ) (left : Option Dead) → OnSome left (set ≡ without_key key old)
    → IfNone left (set ≡ changed_at key unheld old) → set.limit ≡ old.limit
unhold_limit old set key left gone stays = limit_kept old set key unheld left gone stays

-- The limit of objects is unchanged when an object loses a token or a framebuffer.
pub unrefer_limit : (old set : ObjectSet) (key : ℕ) (left : Option Dead) → OnSome left (set ≡ without_key key old)
    → IfNone left (set ≡ changed_at key unreferred old) → set.limit ≡ old.limit
unrefer_limit old set key left gone stays = limit_kept old set key unreferred left gone stays

-- ---- all handles of a client

abbrev pub rest_keys : List (ℕ × ℕ) → List ℕ
rest_keys rest = map (λ p. p.1) rest

-- The keys that are left to release begin with the key of the first handle that is left.
pub first_rest : (rest : List (ℕ × ℕ)) (h k : ℕ) → Some (h, k) ≡ slice_get rest 0
    → rest_keys rest ≡ k ∷ rest_keys (drop 1 rest)
first_rest [] h k e = absurd (let n : Some (h, k) ≡ None = e in cc)
first_rest (p ∷ ps) h k e =
    ap (λ n. n ∷ rest_keys ps)
    (let s : Some (h, k) ≡ Some p = e in sym (ap (λ q. option_map_or (λ (r : ℕ × ℕ). r.1) q 0) s))

-- Each released handle leaves fewer to release.
pub shorter_rest : (rest : List (ℕ × ℕ)) (h k : ℕ) → Some (h, k) ≡ slice_get rest 0 → length (drop 1 rest) < length rest
shorter_rest [] h k e = absurd (let n : Some (h, k) ≡ None = e in cc)
shorter_rest (p ∷ ps) h k e = omega arith

-- If there is no first handle to release, none is left.
pub no_rest : (rest : List (ℕ × ℕ)) → None ≡ slice_get rest 0 → rest ≡ []
no_rest [] e = refl
no_rest (p ∷ ps) e = absurd (let n : None ≡ Some p = e in cc)

-- The keys that handles name are those of a client's handles and those of all others.
pub all_keys : (lists : FileLists) (c : ℕ)
    → SameRows (keys_of lists.holds) (rest_keys (left_by lists c) ++ keys_of (without_client lists c).holds)
all_keys lists c =
    let mine = filter (of_client c) lists.holds in
    let others = filter (λ (x : FileHandle). not (of_client c x)) lists.holds in
    subst (SameRows (keys_of lists.holds))
    (map-append (λ (x : FileHandle). x.object) mine others ∙ ap (λ l. l ++ keys_of others) (sym (map-map (λ (p : ℕ × ℕ). p.1) (λ (x : FileHandle). (x.handle, x.object)) mine)))
    (same-map (λ (x : FileHandle). x.object) lists.holds (mine ++ others) (same_parts (of_client c) lists.holds))
