-- Free numbers are no row's.
use Rattle.std.proofs.Common.{◌≡◌, ℕ, ◌≤◌, ◌==◌, true, false, not, List, find, Option, None, Some, refl, sym, ◌∙◌, arith}
use Rattle.std.specs.Prelude.{unwrap_or}
use Rattle.std.specs.Option.{is_some, option_map, option_or}
use Rattle.std.proofs.lemmas.Bool.{eqb-true, not-true}
use Rattle.drm_index_array.specs.Numbers.{is_among}
use Rattle.drm_index_array.proofs.FoundInLists.{is_among-map_filter}
use Rattle.drm_index_array.specs.Least.{least}
use Rattle.drm_index_array.proofs.Least.{least_some}
use Rattle.drm_model.specs.Numbers.{next_in_turn}
use Rattle.drm_model.specs.Rows.{Rows, HandleRow, is_handle, handle_row, has_handle, object_of, handles_of, free_handle}
use Rattle.drm_history.proofs.HoldSteps.{object_at}

-- An option that holds a number holds the one that it yields with 0 as default.
pub some_of : (o : Option ℕ) → is_some o ≡ true → o ≡ Some (unwrap_or o 0)
some_of (Some n) h = refl
some_of None h = absurd (let e : false ≡ true = h in cc)

is_none : {X : Type 0} (o : Option X) → is_some o ≡ false → o ≡ None
is_none None h = refl
is_none (Some x) h = absurd (let e : true ≡ false = h in cc)

-- The lowest free number is not taken.
pub least_is_free : (taken : List ℕ) (first last n : ℕ) → least (λ m. not (is_among taken m)) first last ≡ Some n
    → is_among taken n ≡ false
least_is_free taken first last n h =
    not-true (is_among taken n) (least_some (λ m. not (is_among taken m)) first last n h).passes

either_free : (taken : List ℕ) (a b : Option ℕ) (n : ℕ) → ((m : ℕ) → a ≡ Some m → is_among taken m ≡ false)
    → ((m : ℕ) → b ≡ Some m → is_among taken m ≡ false) → option_or a b ≡ Some n → is_among taken n ≡ false
either_free taken None b n p q h = q n h
either_free taken (Some m) b n p q h = p n h

-- The next free number in rotation is not taken.
pub next_is_free : (taken : List ℕ) (given last n : ℕ) → next_in_turn (λ m. not (is_among taken m)) given last ≡ Some n
    → is_among taken n ≡ false
next_is_free taken given last n h =
    either_free taken _ _ n (λ m e. least_is_free taken _ last m e) (λ m e. least_is_free taken 1 last m e) h

-- A client has no row of its free handle.
pub free_is_none : (w : Rows) (c : ℕ) → is_some (free_handle w c) ≡ true
    → find (is_handle c (unwrap_or (free_handle w c) 0)) w.holds ≡ None
free_is_none w c h =
    let n = unwrap_or (free_handle w c) 0 in
    is_none (find (is_handle c n) w.holds)
    (sym (is_among-map_filter (λ (row : HandleRow). row.client == c) (λ (row : HandleRow). row.handle) n w.holds) ∙ least_is_free (handles_of w c) 1 w.limits.handles n (some_of (free_handle w c) h))

not_zero : (n : ℕ) → 1 ≤ n → (n == 0) ≡ false
not_zero n h = elim (n == 0) as (λ b. (n == 0) ≡ b → b ≡ false) [ true ↦ λ e. absurd (let k : n ≡ 0 = eqb-true n 0 e in omega (arith, h, k)) | false ↦ λ e. refl ] refl

-- A client's free handle is not 0.
pub free_is_some : (w : Rows) (c : ℕ) → is_some (free_handle w c) ≡ true → (unwrap_or (free_handle w c) 0 == 0) ≡ false
free_is_some w c h =
    let n = unwrap_or (free_handle w c) 0 in
    not_zero n
    (least_some (λ m. not (is_among (handles_of w c) m)) 1 w.limits.handles n (some_of (free_handle w c) h)).at_least

held_of : (o : Option HandleRow) → is_some o ≡ true
    → option_map (λ (row : HandleRow). row.object) o ≡ Some (unwrap_or (option_map (λ (row : HandleRow). row.object) o) 0)
held_of (Some row) h = refl
held_of None h = absurd (let e : false ≡ true = h in cc)

-- A handle that exists has the object that its row names.
pub held_object : (w : Rows) (c h : ℕ) → has_handle w c h ≡ true → object_at w.holds c h ≡ Some (object_of w c h)
held_object w c h there = held_of (handle_row w c h) there
