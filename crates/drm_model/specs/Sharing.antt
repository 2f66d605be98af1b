-- GEM_FLINK and GEM_OPEN (drm-gem(7), drm-mm), PRIME_HANDLE_TO_FD and PRIME_FD_TO_HANDLE (drm-mm, PRIME), and
-- TOKEN_CLOSE. Tokens, which represent file descriptors, and the export order of handles, which says which of several
-- an import returns, are this project's own.
use Rattle.std.specs.Prelude.{ℕ, ◌==◌, Bool, not, ◌&&◌, List, [], ◌∷◌, ◌++◌, Option, None, Some, unwrap_or, find, map, filter, if◌then◌else◌}
use Rattle.std.specs.List.{filter_map}
use Rattle.std.specs.Option.{is_some, option_map, option_and_then, option_or}
use Rattle.drm_index_array.specs.Numbers.{is_among}
use Rattle.drm_table.specs.declared.answers.Answer.TheVariants.{Number, Buffer}
use Rattle.drm_table.specs.declared.rules.Rule.TheVariants.{NoHandle, NoName, NoToken, Full}
use Rattle.drm_table.specs.Permit.{check}
use Rattle.drm_index_array.specs.Least.{least, least_of}
use Rattle.drm_model.specs.Numbers.{next_in_turn}
use Rattle.drm_model.specs.Rows.{Rows, HandleRow, ObjectRow, NameRow, TokenRow, step_number, without, is_option, is_handle, has_handle, object_of, object_row, free_handle, with_handle_row}
use Rattle.drm_model.specs.Meaning.{Meaning, nothing}
use Rattle.drm_model.specs.Buffers.{new_handle}

-- the size of an object in bytes; 0 if it is not there
abbrev pub size_of : Rows → ℕ → ℕ
size_of w o = unwrap_or (option_map (λ (row : ObjectRow). row.size) (object_row w o)) 0

-- ---- names

-- the name of an object, if it has one
abbrev pub name_of : Rows → ℕ → Option ℕ
name_of w o = option_map (λ (row : NameRow). row.name) (find (λ row. row.object == o) w.names)

-- the object that has a name
abbrev pub named_object : Rows → ℕ → Option ℕ
named_object w name = option_map (λ (row : NameRow). row.object) (find (λ row. row.name == name) w.names)

-- the lowest free name, from 1 (the kernel's IDR returns the lowest; the limit is own)
abbrev pub free_name : Rows → Option ℕ
free_name w = least (λ name. not (is_among (map (λ row. row.name) w.names) name)) 1 w.limits.names

-- the name that the object has, or else the one that it would get
abbrev pub flink_name : Rows → ℕ → Option ℕ
flink_name w o = option_or (name_of w o) (free_name w)

-- the names, with one for the object if it had none
abbrev pub named : Rows → ℕ → Option ℕ → List NameRow
named w o (Some name) = w.names
named w o None = w.names ++ record { name = unwrap_or (free_name w) 0; object = o } ∷ []

-- GEM_FLINK: the name that the object of the handle has, or else the lowest free one
abbrev pub gem_flink : Rows → ℕ → ℕ → Meaning
gem_flink w c handle = record {
  checks = check NoHandle (has_handle w c handle) ∷ check Full (is_some (flink_name w (object_of w c handle))) ∷ [];
  rows = record w { names = named w (object_of w c handle) (name_of w (object_of w c handle)) };
  answer = Number (unwrap_or (flink_name w (object_of w c handle)) 0);
}

-- the object that has a name, which the rule says is there; 0 if none has it
abbrev pub object_named : Rows → ℕ → ℕ
object_named w name = unwrap_or (named_object w name) 0

-- GEM_OPEN: a fresh handle each time
abbrev pub gem_open : Rows → ℕ → ℕ → Meaning
gem_open w c name = record {
  checks = check NoName (is_some (named_object w name)) ∷ check Full (is_some (free_handle w c)) ∷ [];
  rows = record w { holds = with_handle_row w c (object_named w name) None };
  answer = Buffer (new_handle w c) (size_of w (object_named w name));
}

-- ---- tokens

-- whether no open token has the number
abbrev pub is_free_token : Rows → ℕ → Bool
is_free_token w token = not (is_among (map (λ row. row.token) w.tokens) token)

-- the next token in rotation
abbrev pub next_token : Rows → Option ℕ
next_token w = next_in_turn (is_free_token w) w.last_token w.limits.tokens

-- the token of an export; 0 if none is free
abbrev pub new_token : Rows → ℕ
new_token w = unwrap_or (next_token w) 0

-- the handles, of which the client's has this export order, unless it has one already
unfoldable pub with_export_order : ℕ → ℕ → ℕ → List HandleRow → List HandleRow
with_export_order c handle export_order holds =
    map
    (λ (row : HandleRow). if is_handle c handle row then record row { export_order = Some (unwrap_or row.export_order export_order) } else row)
    holds

-- PRIME_HANDLE_TO_FD: a new token, and an export order for the handle
abbrev pub prime_export : Rows → ℕ → ℕ → Meaning
prime_export w c handle = record {
  checks = check NoHandle (has_handle w c handle) ∷ check Full (is_some (next_token w)) ∷ [];
  rows = record w {
    tokens = w.tokens ++ record { token = new_token w; client = c; object = object_of w c handle } ∷ [];
    last_token = new_token w;
    holds = with_export_order c handle (step_number w) w.holds;
  };
  answer = Number (new_token w);
}

-- the object of an open token
abbrev pub exported_object : Rows → ℕ → Option ℕ
exported_object w token = option_map (λ (row : TokenRow). row.object) (find (λ row. row.token == token) w.tokens)

-- a handle of the client for the object
abbrev pub is_handle_of : ℕ → ℕ → HandleRow → Bool
is_handle_of c o row = (row.client == c) && (row.object == o)

-- the export orders of the client's handles of the object
abbrev pub export_orders_of : Rows → ℕ → ℕ → List ℕ
export_orders_of w c o = filter_map (λ (row : HandleRow). row.export_order) (filter (is_handle_of c o) w.holds)

-- the client's handles of the object that have this export order
abbrev pub handles_at : Rows → ℕ → ℕ → ℕ → List ℕ
handles_at w c o export_order =
    map (λ (row : HandleRow). row.handle)
    (filter (λ row. is_option export_order row.export_order) (filter (is_handle_of c o) w.holds))

-- the client's handle of the object with the least export order, at a tie the least handle
unfoldable pub prime_handle : Rows → ℕ → ℕ → Option ℕ
prime_handle w c o =
    option_and_then (λ export_order. least_of (handles_at w c o export_order)) (least_of (export_orders_of w c o))

-- the handles, with one of the client for the object if it had none with an export order
abbrev pub imported : Rows → ℕ → ℕ → Option ℕ → List HandleRow
imported w c o (Some handle) = w.holds
imported w c o None = with_handle_row w c o (Some (step_number w))

-- the handle that the import answers, if there is one
abbrev pub import_handle : Rows → ℕ → ℕ → Option ℕ
import_handle w c o = option_or (prime_handle w c o) (free_handle w c)

-- the object of an open token, which the rule says is there; 0 if no token has the number
abbrev pub object_exported : Rows → ℕ → ℕ
object_exported w token = unwrap_or (exported_object w token) 0

-- PRIME_FD_TO_HANDLE: the client's handle of the object with the least export order, or else a fresh one
abbrev pub prime_import : Rows → ℕ → ℕ → Meaning
prime_import w c token = record {
  checks =
      check NoToken (is_some (exported_object w token)) ∷ check Full
      (is_some (import_handle w c (object_exported w token))) ∷ [];
  rows = record w { holds = imported w c (object_exported w token) (prime_handle w c (object_exported w token)) };
  answer = Buffer (unwrap_or (import_handle w c (object_exported w token)) 0) (size_of w (object_exported w token));
}

-- an open token of the client
abbrev pub is_token_of : ℕ → ℕ → TokenRow → Bool
is_token_of c token row = (row.token == token) && (row.client == c)

-- TOKEN_CLOSE: by its exporter alone
abbrev pub token_close : Rows → ℕ → ℕ → Meaning
token_close w c token = record (nothing w) {
  checks = check NoToken (is_some (find (is_token_of c token) w.tokens)) ∷ [];
  rows = record w { tokens = without (is_token_of c token) w.tokens };
}
