-- One step of each call that returns, takes or publishes.
use Rattle.std.proofs.Common.{◌≡◌, ℕ, ◌+◌, ◌==◌, Bool, true, false, not, ◌&&◌, ◌||◌, List, ◌∷◌, length, filter, find, map, Option, None, Some, refl, sym, ◌∙◌, ap}
use Rattle.std.specs.Prelude.{if◌then◌else◌, unwrap_or}
use Rattle.std.specs.List.{AllByRecursion}
use Rattle.std.specs.Option.{is_some, option_map, option_and_then, option_or}
use Rattle.std.proofs.lemmas.Bool.{eqb-true, and_parts}
use Rattle.drm_index_array.specs.Numbers.{is_among}
use Rattle.drm_index_array.proofs.Lists.{all_both, all_filter, filter_true, list_any-map, some_passing}
use Rattle.drm_index_array.specs.Least.{least_of}
use Rattle.drm_index_array.proofs.Least.{least_of_some}
use Rattle.drm_table.specs.Permit.{Check}
use Rattle.drm_table.specs.declared.answers.Answer.TheVariants.{Number, Buffer}
use Rattle.drm_table.specs.declared.calls.Call.{Call}
use Rattle.drm_table.specs.declared.calls.Call.TheVariants.{GemClose, GemFlink, GemOpen, PrimeHandleToFd, PrimeFdToHandle, BufCreate, TokenClose, GetFb, AddFb, RmFb, CreateDumb, DestroyDumb}
use Rattle.drm_table.specs.declared.events.Event.TheVariants.{Ask}
use Rattle.drm_model.specs.Rows.{Rows, HandleRow, NameRow, TokenRow, FramebufferRow, step_number, is_handle, is_option, object_of, free_handle, with_handle_row, framebuffer_row}
use Rattle.drm_model.specs.Calls.{meaning}
use Rattle.drm_model.specs.Buffers.{new_handle, with_object}
use Rattle.drm_model.specs.Sharing.{size_of, named_object, free_name, named, next_token, new_token, with_export_order, exported_object, is_handle_of, export_orders_of, handles_at, prime_handle, imported, is_token_of}
use Rattle.drm_model.specs.Modes.{gives_handle, framebuffer_object, framebuffer_answer, free_framebuffer, new_framebuffer, is_framebuffer_of}
use Rattle.drm_history.specs.History.{AnsweredEvent}
use Rattle.drm_history.specs.Steps.{Name, Token, Framebuffer, Creation, Transfer, given, takes, published}
use Rattle.drm_history.proofs.HistoryFunctions.{gift, holder_under, Published, told}
use Rattle.drm_history.proofs.HoldSteps.{object_at, all_held, holds_stay, holds_change, hold_comes, hold_comes_again}
use Rattle.drm_history.proofs.NumberSteps.{WasAdded, added_still, added_more, numbered_told, numbered_found, numbered_still, numbered_more, numbered_again, owned_fewer, owned_still, owned_more}
use Rattle.drm_history.proofs.Facts.{Facts, FactsOf, name_number, name_object, token_number, token_object, token_client, framebuffer_number, framebuffer_object as object_of_framebuffer, framebuffer_client, numbers_still, silent, taking}
use Rattle.drm_history.proofs.NumbersOfNoRow.{some_of, least_is_free, next_is_free, free_is_none, free_is_some, held_object}
use Rattle.drm_index_array.proofs.Numbers.{same_either}

-- the step of an accepted call
abbrev pub asked_step : Rows → ℕ → Call → AnsweredEvent
asked_step w c call = record { event = Ask c call; answer = (meaning w c call).answer }

-- what a call refines where its own rules hold
abbrev pub Refines : Rows → List AnsweredEvent → ℕ → Call → Type 0
Refines w past c call =
    w.steps ≡ length past → AllByRecursion (λ (x : Check). x.holds ≡ true) (meaning w c call).checks → FactsOf past w →
    FactsOf (asked_step w c call ∷ past) (meaning w c call).rows

module _ (w : Rows) (past : List AnsweredEvent) (c : ℕ) where
  -- ---- new objects

  -- An accepted BUF_CREATE returns the handle that the rows then have, of a new object.
  pub buf_create : (size : ℕ) → Refines w past c (BufCreate size)
  unfolding meaning with_object gift given takes holder_under published
  buf_create size s v f =
      let room = and_parts (is_some (free_handle w c)) _ v.1.0 in
      record {
        held =
            hold_comes (asked_step w c (BufCreate size)) past
            (record { client = c; handle = new_handle w c; object = step_number w; export_order = None }) Creation
            w.holds (λ d k. refl) (λ d k. refl) (ap (λ n. Some (n + 1)) (sym s)) (free_is_none w c room.0) f.held;
        numbers =
            numbers_still past w.names w.tokens w.framebuffers (asked_step w c (BufCreate size)) (λ key. refl)
            f.numbers;
      }

  -- An accepted MODE_CREATE_DUMB returns the handle that the rows then have, of a new object.
  pub create_dumb : (width height bpp : ℕ) → Refines w past c (CreateDumb width height bpp)
  unfolding meaning with_object gift given takes holder_under published
  create_dumb width height bpp s v f =
      let room = and_parts (is_some (free_handle w c)) _ v.1.0 in
      record {
        held =
            hold_comes (asked_step w c (CreateDumb width height bpp)) past
            (record { client = c; handle = new_handle w c; object = step_number w; export_order = None }) Creation
            w.holds (λ d k. refl) (λ d k. refl) (ap (λ n. Some (n + 1)) (sym s)) (free_is_none w c room.0) f.held;
        numbers =
            numbers_still past w.names w.tokens w.framebuffers (asked_step w c (CreateDumb width height bpp))
            (λ key. refl) f.numbers;
      }

  -- ---- handles that are returned

  one_goes : (handle d k : ℕ) → ((c == d) && (handle == k)) ≡ ((d == c) && (k == handle))
  one_goes handle d k = ap (λ b. b && (handle == k)) (same_either c d) ∙ ap (λ b. (d == c) && b) (same_either handle k)

  -- An accepted GEM_CLOSE takes the handle from the history and from the rows.
  pub gem_close : (handle : ℕ) → Refines w past c (GemClose handle)
  unfolding meaning gift given takes holder_under published
  gem_close handle s v f =
      taking past w.names w.tokens w.framebuffers (asked_step w c (GemClose handle)) (λ d k. (d == c) && (k == handle))
      w.holds (λ d k. refl) (one_goes handle) (λ key. refl) f

  -- An accepted MODE_DESTROY_DUMB takes the handle from the history and from the rows.
  pub destroy_dumb : (handle : ℕ) → Refines w past c (DestroyDumb handle)
  unfolding meaning gift given takes holder_under published
  destroy_dumb handle s v f =
      taking past w.names w.tokens w.framebuffers (asked_step w c (DestroyDumb handle))
      (λ d k. (d == c) && (k == handle)) w.holds (λ d k. refl) (one_goes handle) (λ key. refl) f

  -- ---- names

  flinked : (handle o : ℕ) (r : Option NameRow) → find (λ (row : NameRow). row.object == o) w.names ≡ r
      → object_at w.holds c handle ≡ Some o →
      is_some (option_or (option_map (λ (row : NameRow). row.name) r) (free_name w)) ≡ true → FactsOf past w →
      Facts
      (record { event = Ask c (GemFlink handle); answer = Number (unwrap_or (option_or (option_map (λ (row : NameRow). row.name) r) (free_name w)) 0) } ∷ past)
      w.holds (named w o (option_map (λ (row : NameRow). row.name) r)) w.tokens w.framebuffers
  unfolding gift given takes holder_under published
  flinked handle o (Some row) e held room f =
      let step : AnsweredEvent = record { event = Ask c (GemFlink handle); answer = Number row.name } in
      record {
        held = holds_stay step past w.holds (λ d k. refl) (λ d k. refl) f.held;
        numbers = record {
          named =
              numbered_again Name name_number name_object step past row o (record { client = c; handle = handle })
              (λ m. refl) (f.held.agree c handle ∙ held) w.names e f.numbers.named;
          exported =
              owned_still Token token_number token_object token_client step past (λ n. refl) w.tokens
              f.numbers.exported;
          framed =
              owned_still Framebuffer framebuffer_number object_of_framebuffer framebuffer_client step past (λ n. refl)
              w.framebuffers f.numbers.framed;
          added = added_still step past (λ n. refl) w.framebuffers f.numbers.added;
        };
      }
  flinked handle o None e held room f =
      let name = unwrap_or (free_name w) 0 in
      let step : AnsweredEvent = record { event = Ask c (GemFlink handle); answer = Number name } in
      record {
        held = holds_stay step past w.holds (λ d k. refl) (λ d k. refl) f.held;
        numbers = record {
          named =
              numbered_more Name name_number name_object step past (record { name = name; object = o })
              (record { client = c; handle = handle }) (λ m. refl) (f.held.agree c handle ∙ held) w.names
              (least_is_free (map name_number w.names) 1 w.limits.names name (some_of (free_name w) room))
              f.numbers.named;
          exported =
              owned_still Token token_number token_object token_client step past (λ n. refl) w.tokens
              f.numbers.exported;
          framed =
              owned_still Framebuffer framebuffer_number object_of_framebuffer framebuffer_client step past (λ n. refl)
              w.framebuffers f.numbers.framed;
          added = added_still step past (λ n. refl) w.framebuffers f.numbers.added;
        };
      }

  -- An accepted GEM_FLINK publishes the handle's object under the name that the rows then have.
  pub gem_flink : (handle : ℕ) → Refines w past c (GemFlink handle)
  unfolding meaning
  gem_flink handle s v f = let o = object_of w c handle in flinked handle o (find (λ (row : NameRow). row.object == o) w.names) refl (held_object w c handle v.0) v.1.0 f

  -- An accepted GEM_OPEN returns a handle of the object that was last published under the name.
  pub gem_open : (name : ℕ) → Refines w past c (GemOpen name)
  unfolding meaning gift given takes holder_under published
  gem_open name s v f = record {
    held =
        hold_comes (asked_step w c (GemOpen name)) past
        (record { client = c; handle = new_handle w c; object = unwrap_or (named_object w name) 0; export_order = None })
        (Transfer (Name name)) w.holds (λ d k. refl) (λ d k. refl)
        (numbered_told Name name_number name_object past name w.names v.0 f.numbers.named) (free_is_none w c v.1.0)
        f.held;
    numbers =
        numbers_still past w.names w.tokens w.framebuffers (asked_step w c (GemOpen name)) (λ key. refl) f.numbers;
  }

  -- ---- tokens

  placed_same : (handle export_order d k : ℕ) (row : HandleRow) (b : Bool)
      → is_handle d k (if b then record row { export_order = Some (unwrap_or row.export_order export_order) } else row) ≡ is_handle d k row
  placed_same handle export_order d k row true = refl
  placed_same handle export_order d k row false = refl

  placed_object : (export_order : ℕ) (row : HandleRow) (b : Bool)
      → (if b then record row { export_order = Some (unwrap_or row.export_order export_order) } else row).object ≡ row.object
  placed_object export_order row true = refl
  placed_object export_order row false = refl

  placed_from : (export_order : ℕ) (x y : HandleRow) (b : Bool)
      → is_handle (if b then record x { export_order = Some (unwrap_or x.export_order export_order) } else x).client (if b then record x { export_order = Some (unwrap_or x.export_order export_order) } else x).handle y ≡ is_handle x.client x.handle y
  placed_from export_order x y true = refl
  placed_from export_order x y false = refl

  -- An accepted PRIME_HANDLE_TO_FD publishes the handle's object under the token that the rows then have.
  pub prime_export : (handle : ℕ) → Refines w past c (PrimeHandleToFd handle)
  unfolding meaning with_export_order gift given takes holder_under published
  prime_export handle s v f =
      let step = asked_step w c (PrimeHandleToFd handle) in
      record {
        held =
            holds_change step past
            (λ (row : HandleRow). if is_handle c handle row then record row { export_order = Some (unwrap_or row.export_order (step_number w)) } else row)
            w.holds
            (λ d k row. placed_same handle (step_number w) d k row (is_handle c handle row))
            (λ row. placed_object (step_number w) row (is_handle c handle row))
            (λ x y. placed_from (step_number w) x y (is_handle c handle x))
            (λ d k. refl) (λ d k. refl) f.held;
        numbers = record {
          named = numbered_still Name name_number name_object step past (λ n. refl) w.names f.numbers.named;
          exported =
              owned_more Token token_number token_object token_client step past
              (record { token = new_token w; client = c; object = object_of w c handle }) handle (λ m. refl)
              (f.held.agree c handle ∙ held_object w c handle v.0) w.tokens
              (next_is_free (map token_number w.tokens) w.last_token w.limits.tokens (new_token w) (some_of (next_token w) v.1.0))
              f.numbers.exported;
          framed =
              owned_still Framebuffer framebuffer_number object_of_framebuffer framebuffer_client step past (λ n. refl)
              w.framebuffers f.numbers.framed;
          added = added_still step past (λ n. refl) w.framebuffers f.numbers.added;
        };
      }

  its_object : (o handle : ℕ) (row : HandleRow) → (row.handle == handle) ≡ true → is_handle_of c o row ≡ true
      → object_at w.holds row.client row.handle ≡ Some row.object → object_at w.holds c handle ≡ Some o
  its_object o handle row e of_both at =
      let both = and_parts (row.client == c) (row.object == o) of_both in
      ap (λ d. object_at w.holds d handle) (sym (eqb-true row.client c both.0))
      ∙ ap (object_at w.holds row.client) (sym (eqb-true row.handle handle e)) ∙ at
      ∙ ap (λ n. Some n) (eqb-true row.object o both.1)

  -- the handle with the least export order is the client's, and of the object
  prime_held_at : (o handle export_order : ℕ) → is_among (handles_at w c o export_order) handle ≡ true → FactsOf past w
      → object_at w.holds c handle ≡ Some o
  prime_held_at o handle export_order among f =
      let chosen = filter (is_handle_of c o) w.holds in
      let all = all_both (λ (row : HandleRow). is_handle_of c o row ≡ true) (λ (row : HandleRow). object_at w.holds row.client row.handle ≡ Some row.object)
      (λ (row : HandleRow). (is_handle_of c o row ≡ true) × (object_at w.holds row.client row.handle ≡ Some row.object))
      (λ row p q. (p, q)) chosen (filter_true (is_handle_of c o) w.holds)
      (all_filter (λ (row : HandleRow). object_at w.holds row.client row.handle ≡ Some row.object) (is_handle_of c o) w.holds (all_held w.holds f.held.differ)) in
      let there = some_passing (λ (row : HandleRow). row.handle == handle) (λ (row : HandleRow). (is_handle_of c o row ≡ true) × (object_at w.holds row.client row.handle ≡ Some row.object)) (filter (λ (row : HandleRow). is_option export_order row.export_order) chosen)
      (all_filter (λ (row : HandleRow). (is_handle_of c o row ≡ true) × (object_at w.holds row.client row.handle ≡ Some row.object)) (λ (row : HandleRow). is_option export_order row.export_order) chosen all)
      (sym (list_any-map (λ n. n == handle) (λ (row : HandleRow). row.handle) (filter (λ (row : HandleRow). is_option export_order row.export_order) chosen)) ∙ among) in
      its_object o handle there.0 there.1 there.2.0 there.2.1

  prime_held_by : (o handle : ℕ) (export_order : Option ℕ)
      → option_and_then (λ p. least_of (handles_at w c o p)) export_order ≡ Some handle → FactsOf past w
      → object_at w.holds c handle ≡ Some o
  prime_held_by o handle (Some export_order) e f =
      prime_held_at o handle export_order (least_of_some (handles_at w c o export_order) handle e).among f
  prime_held_by o handle None e f = absurd (let no : None ≡ Some handle = e in cc)

  prime_held : (o handle : ℕ) → prime_handle w c o ≡ Some handle → FactsOf past w → object_at w.holds c handle ≡ Some o
  unfolding prime_handle
  prime_held o handle e f = prime_held_by o handle (least_of (export_orders_of w c o)) e f

  import_as : (token o : ℕ) (p : Option ℕ) → prime_handle w c o ≡ p → is_some (option_or p (free_handle w c)) ≡ true
      → told past (Published (Token token)) ≡ Some o → FactsOf past w →
      Facts
      (record { event = Ask c (PrimeFdToHandle token); answer = Buffer (unwrap_or (option_or p (free_handle w c)) 0) (size_of w o) } ∷ past)
      (imported w c o p) w.names w.tokens w.framebuffers
  unfolding gift given takes holder_under published
  import_as token o (Some handle) e room known f =
      let step : AnsweredEvent =
      record { event = Ask c (PrimeFdToHandle token); answer = Buffer handle (size_of w o) } in
      record {
        held =
            hold_comes_again step past c handle o (Transfer (Token token)) w.holds (λ d k. refl) (λ d k. refl) known
            (prime_held o handle e f) f.held;
        numbers = numbers_still past w.names w.tokens w.framebuffers step (λ key. refl) f.numbers;
      }
  import_as token o None e room known f =
      let step : AnsweredEvent =
      record
      { event = Ask c (PrimeFdToHandle token); answer = Buffer (unwrap_or (free_handle w c) 0) (size_of w o) } in
      record {
        held =
            hold_comes step past
            (record { client = c; handle = unwrap_or (free_handle w c) 0; object = o; export_order = Some (step_number w) })
            (Transfer (Token token)) w.holds (λ d k. refl) (λ d k. refl) known (free_is_none w c room) f.held;
        numbers = numbers_still past w.names w.tokens w.framebuffers step (λ key. refl) f.numbers;
      }

  -- An accepted PRIME_FD_TO_HANDLE returns a handle of the object that was last published under the token.
  pub prime_import : (token : ℕ) → Refines w past c (PrimeFdToHandle token)
  unfolding meaning
  prime_import token s v f =
      let o = unwrap_or (exported_object w token) 0 in
      import_as token o (prime_handle w c o) refl v.1.0
      (numbered_told Token token_number token_object past token w.tokens v.0 f.numbers.exported.numbered) f

  -- An accepted TOKEN_CLOSE removes a token's row, and the history still describes all rows.
  pub token_close : (token : ℕ) → Refines w past c (TokenClose token)
  unfolding meaning gift given takes holder_under published
  token_close token s v f =
      let step = asked_step w c (TokenClose token) in
      let still = numbers_still past w.names w.tokens w.framebuffers step (λ key. refl) f.numbers in
      record {
        held = holds_stay step past w.holds (λ d k. refl) (λ d k. refl) f.held;
        numbers =
            record
            { named = still.named; exported = owned_fewer Token token_number token_object token_client (step ∷ past) (λ (row : TokenRow). not (is_token_of c token row)) w.tokens still.exported; framed = still.framed; added = still.added };
      }

  -- ---- framebuffers

  -- An accepted MODE_ADDFB publishes the handle's object under the framebuffer's id, with its shape.
  pub add_fb : (width height pitch bpp handle : ℕ) → Refines w past c (AddFb width height pitch bpp handle)
  unfolding meaning gift given takes holder_under published
  add_fb width height pitch bpp handle s v f =
      let step = asked_step w c (AddFb width height pitch bpp handle) in
      record {
        held = holds_stay step past w.holds (λ d k. refl) (λ d k. refl) f.held;
        numbers = record {
          named = numbered_still Name name_number name_object step past (λ n. refl) w.names f.numbers.named;
          exported =
              owned_still Token token_number token_object token_client step past (λ n. refl) w.tokens
              f.numbers.exported;
          framed = owned_more Framebuffer framebuffer_number object_of_framebuffer framebuffer_client step past
              (record { framebuffer = new_framebuffer w; client = c; object = object_of w c handle; width = width; height = height; pitch = pitch; bpp = bpp })
              handle (λ m. refl)
              (f.held.agree c handle ∙ held_object w c handle v.0) w.framebuffers
              (least_is_free (map framebuffer_number w.framebuffers) _ _ (new_framebuffer w) (some_of (free_framebuffer w) v.1.1.0))
              f.numbers.framed;
          added =
              added_more past
              (record { framebuffer = new_framebuffer w; client = c; object = object_of w c handle; width = width; height = height; pitch = pitch; bpp = bpp })
              handle (λ m. refl) w.framebuffers
              (least_is_free (map framebuffer_number w.framebuffers) _ _ (new_framebuffer w) (some_of (free_framebuffer w) v.1.1.0))
              f.numbers.added;
        };
      }

  -- An accepted MODE_RMFB removes a framebuffer's row, and the history still describes all rows.
  pub rm_fb : (framebuffer : ℕ) → Refines w past c (RmFb framebuffer)
  unfolding meaning gift given takes holder_under published
  rm_fb framebuffer s v f =
      let step = asked_step w c (RmFb framebuffer) in
      let still = numbers_still past w.names w.tokens w.framebuffers step (λ key. refl) f.numbers in
      record {
        held = holds_stay step past w.holds (λ d k. refl) (λ d k. refl) f.held;
        numbers = record {
          named = still.named;
          exported = still.exported;
          framed =
              owned_fewer Framebuffer framebuffer_number object_of_framebuffer framebuffer_client (step ∷ past)
              (λ (row : FramebufferRow). not (is_framebuffer_of c framebuffer row)) w.framebuffers still.framed;
          added =
              all_filter (WasAdded (step ∷ past)) (λ (row : FramebufferRow). not (is_framebuffer_of c framebuffer row))
              w.framebuffers still.added;
        };
      }

  -- by whether it returns a handle
  got : (framebuffer : ℕ) (r : Option FramebufferRow) → framebuffer_row w framebuffer ≡ r → is_some r ≡ true
      → (gives : Bool) → (not gives || is_some (free_handle w c)) ≡ true → FactsOf past w →
      Facts
      (record { event = Ask c (GetFb framebuffer); answer = framebuffer_answer (if gives then new_handle w c else 0) r } ∷ past)
      (if gives then with_handle_row w c (framebuffer_object w framebuffer) None else w.holds) w.names w.tokens
      w.framebuffers
  unfolding gift given takes holder_under published
  got framebuffer None e there gives room f = absurd (let no : false ≡ true = there in cc)
  got framebuffer (Some row) e there false room f =
      silent past w.names w.tokens w.framebuffers
      (record { event = Ask c (GetFb framebuffer); answer = framebuffer_answer 0 (Some row) }) w.holds
      (record { gives = λ d k. refl; takes_none = λ d k. refl; publishes = λ key. refl }) f
  got framebuffer (Some row) e there true room f =
      let step : AnsweredEvent =
      record { event = Ask c (GetFb framebuffer); answer = framebuffer_answer (new_handle w c) (Some row) } in
      record {
        held =
            hold_comes step past
            (record { client = c; handle = new_handle w c; object = framebuffer_object w framebuffer; export_order = None })
            (Transfer (Framebuffer framebuffer)) w.holds
            (λ d k. rw (free_is_some w c room) refl) (λ d k. refl)
            (numbered_found Framebuffer framebuffer_number object_of_framebuffer past framebuffer w.framebuffers row e f.numbers.framed.numbered ∙ ap (λ o. Some (unwrap_or (option_map object_of_framebuffer o) 0)) (sym e))
            (free_is_none w c room) f.held;
        numbers = numbers_still past w.names w.tokens w.framebuffers step (λ key. refl) f.numbers;
      }

  -- An accepted MODE_GETFB returns a handle of the framebuffer's object, or none, and the rows have the same.
  pub get_fb : (framebuffer : ℕ) → Refines w past c (GetFb framebuffer)
  unfolding meaning
  get_fb framebuffer s v f = got framebuffer (framebuffer_row w framebuffer) refl v.0 (gives_handle w c) v.1.0 f
