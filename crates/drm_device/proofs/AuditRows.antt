-- The rows of an audit, by the parts that represent them.
use Rattle.std.proofs.Common.{◌≡◌, ℕ, zero, suc, ◌+◌, ◌==◌, ◌<◌, ◌≤◌, Bool, true, false, cond, not, List, ◌++◌, filter, length, [], ◌∷◌, map, find, Option, Some, None, refl, sym, ◌∙◌, ap, subst, arith, eq-eqb, inl, inr}
use Rattle.std.specs.Prelude.{slice_get}
use Rattle.std.specs.List.{AllByRecursion}
use Rattle.std.specs.Option.{option_map, option_map_or}
use Rattle.std.proofs.lemmas.Bool.Decides.{nat_tests}
use Rattle.std.proofs.lemmas.Option.{slice_get-map}
use Rattle.std.proofs.lemmas.Bool.{or_left}
use Rattle.drm_index_array.specs.Orders.{InOrder, SameRows, sorted_by}
use Rattle.drm_index_array.specs.Rows as rows
use Rattle.drm_modes.specs.declared.rows.Framebuffer.{Framebuffer}
use Rattle.drm_modes.specs.declared.rows.Shown.{Shown}
use Rattle.drm_modes.specs.Modes.{framebuffer_before, shown, lit_rows, shown_rows}
use Rattle.drm_share.specs.declared.rows.SharedName.{SharedName}
use Rattle.drm_share.specs.declared.rows.SharedToken.{SharedToken}
use Rattle.drm_share.specs.Names.{AreNames, name_before}
use Rattle.drm_share.specs.Tokens.{AreTokens, token_before}
use Rattle.drm_index_array.specs.Numbers.{is_among, count}
use Rattle.drm_index_array.proofs.Lists.{map-map, all_weaker}
use Rattle.drm_index_array.proofs.FoundInLists.{all_at}
use Rattle.drm_index_array.proofs.Numbers.{among-left, among-right, among-more, count_of, count-append}
use Rattle.drm_index_array.proofs.Orders.{RisesTo, sorted-as_is, sorted-same, same-map, in_order_map, in_order_weaker}
use Rattle.drm_table.specs.declared.audits.AuditRow.{AuditRow}
use Rattle.drm_table.specs.declared.audits.AuditKind.TheVariants as kinds
use Rattle.drm_gem.specs.declared.object.Object.{Object}
use Rattle.drm_gem.specs.Objects.{is_key}
use Rattle.drm_files.specs.declared.rows.FileHandle.{FileHandle}
use Rattle.drm_files.specs.Files.{handle_before, comes_after}
use Rattle.drm_model.specs.Rows.{Rows, TokenRow, FramebufferRow}
use Rattle.drm_model.specs.StepNumbers.{MadeInTurn}
use Rattle.drm_model.specs.Audit.{audit_row, or_zero, is_before, client_audit, master_audit, object_audit, handle_audit, name_audit, token_audit, framebuffer_audit, grant_audit, shown_audit, handle_count, reference_count, audit_rows, rising_rows}
use Rattle.drm_model.proofs.AuditOrder.{is_row, order_of_rows}
use Rattle.drm_masters.specs.declared.rows.Master.{Master}
use Rattle.drm_leases.specs.declared.rows.Grant.{Grant}
use Rattle.drm_leases.specs.Leases.{grant_before}
use Rattle.drm_state.specs.declared.state.State.{State}
use Rattle.drm_state.specs.Parts.{client_row_of, master_row_of, object_row_of, handle_row_of, holds_of, name_row_of, names_of, token_row_of, tokens_of, grant_row_of, grants_of, framebuffer_row_of, framebuffers_of, shown_row_of, shown_of, step_number_at, keys_of, referring_keys}
use Rattle.drm_state.specs.Invariants.{MeetsInvariants, Counts}
use Rattle.drm_device.specs.Audits.{RepresentsAfter}
use Rattle.drm_state.proofs.Represented.{clients_are, masters_are, holds_are, objects_are, names_are, tokens_are, grants_are, framebuffers_are, shown_are, modes_so, leases_so, device_master_is, last_token_is, last_lease_token_is, holds_rise, objects_counted}
use Rattle.drm_state.proofs.Naming.{references, references_by, holds_counted, count_numbers}

before-less : (x y : AuditRow) → x.a < y.a → is_before x y ≡ true
before-less x y h = grind (arith, nat_tests)

-- rows whose numbers rise
by_number : {X : Type 0} (f : X → AuditRow) (rows : List X) (last : ℕ) → MadeInTurn (λ x. (f x).a) last rows
    → rising_rows (map f rows) ≡ map f rows
by_number f rows last h =
    sorted-as_is is_before (map f rows)
    (in_order_map (λ x y. is_before x y ≡ true) f rows (in_order_weaker _ _ (λ x y k. before-less (f x) (f y) k) rows h.0))

-- An audit of clients lists the rows of the state, in the order of their numbers.
pub client_rows : (s : State) (steps : ℕ) (w : Rows) → RepresentsAfter s steps w
    → rising_rows (audit_rows w kinds.Client) ≡ map (λ f. client_audit w (client_row_of s.masters.members f)) s.files.clients
unfolding audit_rows
client_rows s steps w h =
    by_number (client_audit w) w.clients w.steps h.step_numbers.0 ∙ ap (map (client_audit w)) (clients_are s w h.rows)
    ∙ map-map (client_audit w) (client_row_of s.masters.members) s.files.clients

-- An audit of masters lists the rows of the state, in the order of their numbers.
pub master_rows : (s : State) (steps : ℕ) (w : Rows) → RepresentsAfter s steps w
    → rising_rows (audit_rows w kinds.Master) ≡ map (λ (x : Master). master_audit (master_row_of s.leases.tokens x)) s.masters.masters
unfolding audit_rows
master_rows s steps w h =
    by_number master_audit w.masters w.steps h.step_numbers.1 ∙ ap (map master_audit) (masters_are s w h.rows)
    ∙ map-map master_audit (master_row_of s.leases.tokens) s.masters.masters

object_rows : (s : State) (steps : ℕ) (w : Rows) → RepresentsAfter s steps w
    → rising_rows (audit_rows w kinds.Object) ≡ map (λ (x : Object). object_audit w (object_row_of x)) s.objects.objects
unfolding audit_rows
object_rows s steps w h =
    by_number (object_audit w) w.objects w.steps h.step_numbers.2 ∙ ap (map (object_audit w)) (objects_are s w h.rows)
    ∙ map-map (object_audit w) object_row_of s.objects.objects

-- The row of an audit at a place is that of the item there.
pub row_of_item : {X : Type 0} (f : X → AuditRow) (xs : List X) (rows : List AuditRow) (position : ℕ) (found : Option X)
    → rows ≡ map f xs → found ≡ slice_get xs position → option_map f found ≡ slice_get rows position
row_of_item f xs rows position found e h =
    ap (option_map f) h ∙ sym (slice_get-map f xs position) ∙ ap (λ ys. slice_get ys position) (sym e)

references_counted : (w : Rows) (n : ℕ) → reference_count w n ≡ count (references w) n
references_counted w n =
    ap (λ m. m + length (filter (λ (row : FramebufferRow). row.object == n) w.framebuffers))
    (count_of (λ (row : TokenRow). row.object) n w.tokens)
    ∙ ap (λ m. count (map (λ (row : TokenRow). row.object) w.tokens) n + m)
    (count_of (λ (row : FramebufferRow). row.object) n w.framebuffers)
    ∙ sym
    (count-append (map (λ (row : TokenRow). row.object) w.tokens) (map (λ (row : FramebufferRow). row.object) w.framebuffers) n)

-- what refers to an object is what it counts
object_is : (s : State) (w : Rows) (position : ℕ) (x : Object) (steps : ℕ) → MeetsInvariants s
    → RepresentsAfter s steps w → slice_get s.objects.objects position ≡ Some x
    → audit_row x.step_number x.size x.holds x.refs ≡ object_audit w (object_row_of x)
object_is s w position x steps t h e =
    let keys = keys_of s.files.holds in
    let refs = referring_keys s in
    let invariants = objects_counted s t in
    let counts = all_at (Counts keys refs) s.objects.objects position x invariants.counted e in
    let numbers = λ (some : List ℕ) (sub : (n : ℕ) → is_among some n ≡ true → is_among (keys ++ refs) n ≡ true).
    all_at (λ (x : Object). count (map (step_number_at s.objects.objects) some) x.step_number ≡ count some x.key) s.objects.objects position x (count_numbers keys refs s.objects.objects invariants some sub) e in
    let holds : handle_count w x.step_number ≡ x.holds =
    holds_counted w.holds s.objects.objects s.files.holds x.step_number (holds_are s w h.rows)
    ∙ numbers keys (λ n k. among-left keys refs n k) ∙ sym counts.0 in
    let others : reference_count w x.step_number ≡ x.refs =
    references_counted w x.step_number
    ∙ references_by w s.objects.objects s.tokens.tokens s.modes.framebuffers (tokens_are s w h.rows)
    (framebuffers_are s w h.rows) (λ n. n == x.step_number)
    ∙ numbers refs (λ n k. among-right keys refs n k) ∙ sym counts.1 in
    ap (λ m. audit_row x.step_number x.size m x.refs) (sym holds)
    ∙ ap (audit_row x.step_number x.size (handle_count w x.step_number)) (sym others)

-- The row of an audit at an object's place has its size and its counts.
pub object_row_at : (s : State) (w : Rows) (position : ℕ) (found : Option Object) (steps : ℕ) → MeetsInvariants s
    → RepresentsAfter s steps w → found ≡ slice_get s.objects.objects position →
    option_map (λ (x : Object). audit_row x.step_number x.size x.holds x.refs) found ≡ slice_get
    (rising_rows (audit_rows w kinds.Object)) position
object_row_at s w position None steps t h e =
    row_of_item (λ (x : Object). object_audit w (object_row_of x)) s.objects.objects _ position None
    (object_rows s steps w h) e
object_row_at s w position (Some x) steps t h e =
    ap Some (object_is s w position x steps t h (sym e))
    ∙ row_of_item (λ (x : Object). object_audit w (object_row_of x)) s.objects.objects _ position (Some x)
    (object_rows s steps w h) e

-- rows told by items in their order
rising_by : {X R : Type 0} (audit : R → AuditRow) (row : X → R) (before : X → X → Type 0)
    → ((x y : X) → before x y → RisesTo is_before (audit (row x)) (audit (row y))) → (rows : List R) (xs : List X)
    → InOrder before xs → SameRows rows (map row xs) → rising_rows (map audit rows) ≡ map audit (map row xs)
rising_by audit row before rises rows xs order same =
    sorted-same is_before is_row order_of_rows (map audit rows) (map audit (map row xs))
    (subst (InOrder (RisesTo is_before)) (sym (map-map audit row xs)) (in_order_map (RisesTo is_before) (λ x. audit (row x)) xs (in_order_weaker _ _ rises xs order)))
    (same-map audit rows (map row xs) same)

as_order : {X : Type 0} (before : X → X → Bool) → (xs : List X) → rows.InOrder before xs
    → InOrder (λ x y. before x y ≡ true) xs
as_order before [] h = tt
as_order before (x ∷ xs) h = (h.0, as_order before xs h.1)

abbrev audit_of : State → FileHandle → AuditRow
audit_of s x = handle_audit (handle_row_of s.objects.objects x)

hold-rises : (s : State) (x y : FileHandle) → handle_before x y ≡ true → RisesTo is_before (audit_of s x) (audit_of s y)
hold-rises s x y h = (grind (arith, nat_tests), grind (arith, nat_tests))

-- An audit of handles lists the rows of the state, by client and handle.
pub hold_rows : (s : State) (steps : ℕ) (w : Rows) → MeetsInvariants s → RepresentsAfter s steps w
    → rising_rows (audit_rows w kinds.Hold) ≡ map handle_audit (holds_of s)
unfolding audit_rows
hold_rows s steps w t h =
    rising_by handle_audit (handle_row_of s.objects.objects) (λ x y. handle_before x y ≡ true) (hold-rises s) w.holds
    s.files.holds (holds_rise s t) (holds_are s w h.rows)

name-rises : (s : State) (x y : SharedName) → name_before x y ≡ true
    → RisesTo is_before (name_audit (name_row_of s.objects.objects x)) (name_audit (name_row_of s.objects.objects y))
name-rises s x y h = (grind (arith, nat_tests), grind (arith, nat_tests))

-- An audit of names lists the rows of the state, in the order of their numbers.
pub name_rows : (s : State) (steps : ℕ) (w : Rows) → AreNames s.names → RepresentsAfter s steps w
    → rising_rows (audit_rows w kinds.Name) ≡ map name_audit (names_of s)
unfolding audit_rows
name_rows s steps w are h =
    rising_by name_audit (name_row_of s.objects.objects) (λ x y. name_before x y ≡ true) (name-rises s) w.names
    s.names.names (as_order name_before s.names.names are.names_rise) (names_are s w h.rows)

token-rises : (s : State) (x y : SharedToken) → token_before x y ≡ true
    → RisesTo is_before (token_audit (token_row_of s.objects.objects x)) (token_audit (token_row_of s.objects.objects y))
token-rises s x y h = (grind (arith, nat_tests), grind (arith, nat_tests))

-- An audit of tokens lists the rows of the state, in the order of their numbers.
pub token_rows : (s : State) (steps : ℕ) (w : Rows) → AreTokens s.tokens → RepresentsAfter s steps w
    → rising_rows (audit_rows w kinds.Token) ≡ map token_audit (tokens_of s)
unfolding audit_rows
token_rows s steps w are h =
    rising_by token_audit (token_row_of s.objects.objects) (λ x y. token_before x y ≡ true) (token-rises s) w.tokens
    s.tokens.tokens (as_order token_before s.tokens.tokens are.tokens_rise) (tokens_are s w h.rows)

framebuffer-rises : (s : State) (x y : Framebuffer) → framebuffer_before x y ≡ true
    → RisesTo is_before (framebuffer_audit (framebuffer_row_of s.objects.objects x)) (framebuffer_audit (framebuffer_row_of s.objects.objects y))
framebuffer-rises s x y h = (grind (arith, nat_tests), grind (arith, nat_tests))

-- An audit of framebuffers lists the rows of the state, in the order of their ids.
pub framebuffer_rows : (s : State) (steps : ℕ) (w : Rows) → MeetsInvariants s → RepresentsAfter s steps w
    → rising_rows (audit_rows w kinds.Framebuffer) ≡ map framebuffer_audit (framebuffers_of s)
unfolding audit_rows
framebuffer_rows s steps w t h =
    rising_by framebuffer_audit (framebuffer_row_of s.objects.objects) (λ x y. framebuffer_before x y ≡ true)
    (framebuffer-rises s) w.framebuffers s.modes.framebuffers
    (as_order framebuffer_before s.modes.framebuffers (modes_so s t).framebuffers_rise) (framebuffers_are s w h.rows)

-- what is shown rises by what shows it
lit_above : (x y : ℕ) → x ≤ y → (scanouts : List ℕ)
    → AllByRecursion (λ (row : Shown). x ≤ row.engine) (lit_rows y scanouts)
lit_above x y h [] = tt
lit_above x y h (f ∷ fs) =
    let rest = lit_above x (y + 1) (omega (arith, h)) fs in
    elim (f == 0) as (λ b. AllByRecursion (λ (row : Shown). x ≤ row.engine) (cond (not b) (shown y f ∷ lit_rows (y + 1) fs) (lit_rows (y + 1) fs))) [ true ↦ rest | false ↦ (h, rest) ]

lit_rise : (x : ℕ) → (scanouts : List ℕ) → InOrder (λ (a b : Shown). a.engine < b.engine) (lit_rows x scanouts)
lit_rise x [] = tt
lit_rise x (f ∷ fs) =
    elim (f == 0) as (λ b. InOrder (λ (a b : Shown). a.engine < b.engine) (cond (not b) (shown x f ∷ lit_rows (x + 1) fs) (lit_rows (x + 1) fs))) [
      | true ↦ lit_rise (x + 1) fs
      | false ↦ (all_weaker (λ (row : Shown). x + 1 ≤ row.engine) (λ (row : Shown). x < row.engine) (λ row h. omega (arith, h)) (lit_rows (x + 1) fs) (lit_above (x + 1) (x + 1) (omega arith) fs), lit_rise (x + 1) fs)
    ]

shown-rises : (x y : Shown) → x.engine < y.engine
    → RisesTo is_before (shown_audit (shown_row_of x)) (shown_audit (shown_row_of y))
shown-rises x y h = (grind (arith, nat_tests), grind (arith, nat_tests))

-- An audit of what is shown lists the rows of the state, by CRTC or plane.
pub shown_audits : (s : State) (steps : ℕ) (w : Rows) → RepresentsAfter s steps w
    → rising_rows (audit_rows w kinds.Shown) ≡ map shown_audit (shown_of s)
unfolding audit_rows
shown_audits s steps w h =
    rising_by shown_audit shown_row_of (λ x y. x.engine < y.engine) shown-rises w.shown (shown_rows s.modes)
    (lit_rise 1 s.modes.scanouts) (shown_are s w h.rows)

grant-rises : (g h : Grant) → grant_before g h
    → RisesTo is_before (grant_audit (grant_row_of g)) (grant_audit (grant_row_of h))
grant-rises g h (inl lt) = (grind (arith, nat_tests), grind (arith, nat_tests))
grant-rises g h (inr k) = let same = k.0 in let lt = k.1 in (grind (arith, nat_tests), grind (arith, nat_tests))

-- An audit of grants lists the rows of the state, by lessee and mode object.
pub grant_rows : (s : State) (steps : ℕ) (w : Rows) → MeetsInvariants s → RepresentsAfter s steps w
    → rising_rows (audit_rows w kinds.Grant) ≡ map grant_audit (grants_of s)
unfolding audit_rows
grant_rows s steps w t h =
    rising_by grant_audit grant_row_of grant_before grant-rises w.grants s.leases.grants (leases_so s t).grants_rise
    (grants_are s w h.rows)

-- An audit of the device has one row: its master, the last tokens and the number of steps.
pub device_rows : (s : State) (steps : ℕ) (w : Rows) → RepresentsAfter s steps w
    → rising_rows (audit_rows w kinds.Device) ≡ audit_row (or_zero s.masters.device_master) (or_zero s.tokens.last_given) (or_zero s.leases.last_given) steps ∷ []
unfolding audit_rows sorted_by
device_rows s steps w h =
    rw (device_master_is s w h.rows, last_token_is s w h.rows, last_lease_token_is s w h.rows, h.steps_are) refl

-- ---- of a handle at a place

-- The key of the handle at a place is among the keys that handles name.
pub among_at : (hs : List FileHandle) (i : ℕ) (x : FileHandle) → slice_get hs i ≡ Some x
    → is_among (keys_of hs) x.object ≡ true
among_at [] i x h = absurd (let e : None ≡ Some x = h in cc)
among_at (y ∷ ys) zero x h = let same : y ≡ x = let e : Some y ≡ Some x = h in cc in or_left (y.object == x.object) _ (eq-eqb y.object x.object (ap (λ (z : FileHandle). z.object) same))
among_at (y ∷ ys) (suc i) x h = among-more (keys_of ys) y.object x.object (among_at ys i x h)

step_number_of : (o : Option Object) (n : ℕ) → option_map (λ (x : Object). x.step_number) o ≡ Some n
    → option_map_or (λ (x : Object). x.step_number) o 0 ≡ n
step_number_of None n h = absurd (let e : None ≡ Some n = h in cc)
step_number_of (Some x) n h = let e : Some x.step_number ≡ Some n = h in cc

-- The numbers of a handle, with the step of its object, are its row of an audit.
pub hold_row : (objects : List Object) (x : FileHandle) (n position : ℕ)
    → option_map (λ (x : Object). x.step_number) (find (is_key x.object) objects) ≡ Some n
    → position ≡ or_zero x.export_order
    → audit_row x.client x.handle n position ≡ handle_audit (handle_row_of objects x)
hold_row objects x n position k p =
    ap (λ m. audit_row x.client x.handle m position) (sym (step_number_of (find (is_key x.object) objects) n k))
    ∙ ap (audit_row x.client x.handle (step_number_at objects x.object)) p

hold_at : (objects : List Object) (hs : List FileHandle) (i : ℕ) (x : Option FileHandle) → slice_get hs i ≡ x
    → slice_get (map handle_audit (map (handle_row_of objects) hs)) i ≡ option_map handle_audit (option_map (handle_row_of objects) x)
hold_at objects hs i x e =
    slice_get-map handle_audit (map (handle_row_of objects) hs) i
    ∙ ap (option_map handle_audit) (slice_get-map (handle_row_of objects) hs i ∙ ap (option_map (handle_row_of objects)) e)

-- The row of an audit at a handle's place is that of the handle.
pub hold_there : (objects : List Object) (hs : List FileHandle) (i : ℕ) (x : FileHandle) → slice_get hs i ≡ Some x
    → Some (handle_audit (handle_row_of objects x)) ≡ slice_get (map handle_audit (map (handle_row_of objects) hs)) i
hold_there objects hs i x e = sym (hold_at objects hs i (Some x) e)

-- Where no handle is left, no row of an audit is left.
pub hold_at_end : (objects : List Object) (hs : List FileHandle) (i : ℕ) → None ≡ slice_get hs i
    → None ≡ slice_get (map handle_audit (map (handle_row_of objects) hs)) i
hold_at_end objects hs i e = sym (hold_at objects hs i None (sym e))

-- handles that follow one come after it, and no other handle does

first_later : (x : FileHandle) → (ys : List FileHandle) → AllByRecursion (λ (y : FileHandle). handle_before x y ≡ true) ys
    → find (comes_after x.client x.handle) ys ≡ slice_get ys 0
first_later x [] later = refl
first_later x (y ∷ ys) later =
    ap (λ b. cond b (Some y) (find (comes_after x.client x.handle) ys)) (is_later later.0)
  where
    is_later : handle_before x y ≡ true → comes_after x.client x.handle y ≡ true
    is_later before = grind (arith, nat_tests)

not_itself : (x : FileHandle) → comes_after x.client x.handle x ≡ false
not_itself x = grind (arith, nat_tests)

not_earlier : (x y : FileHandle) → handle_before y x ≡ true → comes_after x.client x.handle y ≡ false
not_earlier x y before = grind (arith, nat_tests)

after_next : (hs : List FileHandle) → InOrder (λ (x y : FileHandle). handle_before x y ≡ true) hs → (i : ℕ) (x : FileHandle)
    → slice_get hs i ≡ Some x → find (comes_after x.client x.handle) hs ≡ slice_get hs (suc i)
after_next [] order i x e = absurd (let n : None ≡ Some x = e in cc)
after_next (y ∷ ys) order zero x e =
    let same : y ≡ x = let s : Some y ≡ Some x = e in cc in
    ap (λ (z : FileHandle). find (comes_after z.client z.handle) (y ∷ ys)) (sym same)
    ∙ ap (λ b. cond b (Some y) (find (comes_after y.client y.handle) ys)) (not_itself y) ∙ first_later y ys order.0
after_next (y ∷ ys) order (suc i) x e =
    ap (λ b. cond b (Some y) (find (comes_after x.client x.handle) ys))
    (not_earlier x y (all_at (λ (z : FileHandle). handle_before y z ≡ true) ys i x order.0 e))
    ∙ after_next ys order.1 i x e

-- The first handle that comes after the one at a place is at the next place.
pub after_place : (hs : List FileHandle) → InOrder (λ (x y : FileHandle). handle_before x y ≡ true) hs
    → (i : ℕ) (x : FileHandle) → slice_get hs i ≡ Some x
    → find (comes_after x.client x.handle) hs ≡ slice_get hs (i + 1)
after_place hs order i x e =
    let next : suc i ≡ i + 1 = omega arith in
    after_next hs order i x e ∙ ap (slice_get hs) next

-- ---- the same for names, tokens, framebuffers, shown rows and grants: the audit's row at a place is that of the item

-- A name's row of an audit, with the step of its object, has the name's place among those of the model.
pub name_there : (objects : List Object) (ns : List SharedName) (i : ℕ) (x : SharedName) (n : ℕ)
    → slice_get ns i ≡ Some x → option_map (λ (x : Object). x.step_number) (find (is_key x.object) objects) ≡ Some n →
    Some (audit_row x.name n 0 0) ≡ slice_get (map name_audit (map (name_row_of objects) ns)) i
name_there objects ns i x n e k =
    ap (λ m. Some (audit_row x.name m 0 0)) (sym (step_number_of (find (is_key x.object) objects) n k))
    ∙ sym
    (slice_get-map name_audit (map (name_row_of objects) ns) i ∙ ap (option_map name_audit) (slice_get-map (name_row_of objects) ns i ∙ ap (option_map (name_row_of objects)) e))

-- A token's row of an audit, with its client and the step of its object, has the token's place among those of the model.
pub token_there : (objects : List Object) (ts : List SharedToken) (i : ℕ) (x : SharedToken) (n : ℕ)
    → slice_get ts i ≡ Some x → option_map (λ (x : Object). x.step_number) (find (is_key x.object) objects) ≡ Some n →
    Some (audit_row x.token x.client n 0) ≡ slice_get (map token_audit (map (token_row_of objects) ts)) i
token_there objects ts i x n e k =
    ap (λ m. Some (audit_row x.token x.client m 0)) (sym (step_number_of (find (is_key x.object) objects) n k))
    ∙ sym
    (slice_get-map token_audit (map (token_row_of objects) ts) i ∙ ap (option_map token_audit) (slice_get-map (token_row_of objects) ts i ∙ ap (option_map (token_row_of objects)) e))

-- A framebuffer's row of an audit, with its client and the step of its object, has its place among those of the model.
pub framebuffer_there : (objects : List Object) (fs : List Framebuffer) (i : ℕ) (x : Framebuffer) (n : ℕ)
    → slice_get fs i ≡ Some x → option_map (λ (x : Object). x.step_number) (find (is_key x.object) objects) ≡ Some n →
    Some (audit_row x.framebuffer x.client n 0) ≡ slice_get
    (map framebuffer_audit (map (framebuffer_row_of objects) fs)) i
framebuffer_there objects fs i x n e k =
    ap (λ m. Some (audit_row x.framebuffer x.client m 0)) (sym (step_number_of (find (is_key x.object) objects) n k))
    ∙ sym
    (slice_get-map framebuffer_audit (map (framebuffer_row_of objects) fs) i ∙ ap (option_map framebuffer_audit) (slice_get-map (framebuffer_row_of objects) fs i ∙ ap (option_map (framebuffer_row_of objects)) e))

-- A row of an audit for what is shown has its place among those of the model.
pub shown_there : (xs : List Shown) (i : ℕ) (x : Shown) → slice_get xs i ≡ Some x
    → Some (audit_row x.engine x.framebuffer 0 0) ≡ slice_get (map shown_audit (map shown_row_of xs)) i
shown_there xs i x e =
    sym
    (slice_get-map shown_audit (map shown_row_of xs) i ∙ ap (option_map shown_audit) (slice_get-map shown_row_of xs i ∙ ap (option_map shown_row_of) e))

-- A row of an audit for a granted mode object has its place among those of the model.
pub grant_there : (xs : List Grant) (i : ℕ) (x : Grant) → slice_get xs i ≡ Some x
    → Some (audit_row x.master x.mode_object 0 0) ≡ slice_get (map grant_audit (map grant_row_of xs)) i
grant_there xs i x e =
    sym
    (slice_get-map grant_audit (map grant_row_of xs) i ∙ ap (option_map grant_audit) (slice_get-map grant_row_of xs i ∙ ap (option_map grant_row_of) e))
