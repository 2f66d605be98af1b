-- The clients that are authenticated, by the history alone (drm(7), magics).
use Rattle.std.specs.Prelude.{ℕ, ◌==◌, Bool, false, ◌&&◌, ◌||◌, List, [], ◌∷◌, Option, None, Some, if◌then◌else◌}
use Rattle.drm_model.specs.Rows.{is_option}
use Rattle.drm_history.specs.History.{AnsweredEvent, next_number}
use Rattle.drm_history.specs.Effects.{Effect, OpensPrimary, Redeems, GetsMagic, Authenticates, effect}
use Rattle.drm_history.specs.MasterState.{is_master_in, caller_master_in}

-- the magic of a client under a master, after a step
abbrev pub magic_by : Effect → List AnsweredEvent → ℕ → ℕ → Option ℕ → Option ℕ
magic_by (GetsMagic c answered) past m magic older = if (answered == magic) && (caller_master_in past c == m) then Some c else older
magic_by _ past m magic older = older

-- the client of a magic: that of the last GET_MAGIC that answered the number under this master
unfoldable pub magic_in : List AnsweredEvent → ℕ → ℕ → Option ℕ
magic_in [] m magic = None
magic_in (step ∷ past) m magic = magic_by (effect step) past m magic (magic_in past m magic)

-- whether the step opened the client as root
abbrev pub is_root_by : Effect → ℕ → ℕ → Bool
is_root_by (OpensPrimary root capabilities) number c = root && (number == c)
is_root_by (Redeems token root capabilities) number c = root && (number == c)
is_root_by _ number c = false

-- whether the client opened as root
unfoldable pub is_root_in : List AnsweredEvent → ℕ → Bool
is_root_in [] c = false
is_root_in (step ∷ past) c = is_root_by (effect step) (next_number past) c || is_root_in past c

-- whether the step authenticates the client by its magic
abbrev pub is_named_by : Effect → List AnsweredEvent → ℕ → Bool
is_named_by (Authenticates caller magic) past c = is_option c (magic_in past (caller_master_in past caller) magic)
is_named_by _ past c = false

-- whether some AUTH_MAGIC named the client's magic, under the master of its caller
unfoldable pub is_named_in : List AnsweredEvent → ℕ → Bool
is_named_in [] c = false
is_named_in (step ∷ past) c = is_named_by (effect step) past c || is_named_in past c

-- whether the client is authenticated: it opened as root, is a master, or AUTH_MAGIC named its magic
abbrev pub known : List AnsweredEvent → ℕ → Bool
known history c = is_root_in history c || is_master_in history c || is_named_in history c
