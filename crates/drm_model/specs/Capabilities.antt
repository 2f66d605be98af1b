-- VERSION, GET_CAP and SET_CLIENT_CAP (drm-uapi; the numbers of the version are this project's own).
use Rattle.std.specs.Prelude.{ℕ, ◌==◌, nat_le, Bool, ◌&&◌, ◌||◌, List, [], ◌∷◌, map, if◌then◌else◌}
use Rattle.drm_table.specs.declared.answers.Answer.{Answer}
use Rattle.drm_table.specs.declared.answers.Answer.TheVariants.{Version, Number}
use Rattle.drm_table.specs.declared.rules.Rule.TheVariants.{BadCap}
use Rattle.drm_table.specs.Permit.{check}
use Rattle.drm_model.specs.ClientCapabilities.{is_capability, with_capability}
use Rattle.drm_model.specs.Rows.{Rows, ClientRow, is_client}
use Rattle.drm_model.specs.Meaning.{Meaning, nothing}

-- the version of the interface
abbrev pub version_answer : Answer
version_answer = Version 1 0 0

-- VERSION
abbrev pub version : Rows → Meaning
version w = record (nothing w) { answer = version_answer }

-- GET_CAP: dumb buffers (DRM_CAP_DUMB_BUFFER, 1), and PRIME in both directions (DRM_CAP_PRIME, 5)
abbrev pub get_cap : Rows → ℕ → Meaning
get_cap w cap = record (nothing w) {
  checks = check BadCap ((cap == 1) || (cap == 5)) ∷ [];
  answer = Number (if cap == 1 then 1 else 3);
}

-- the clients, with one capability of one of them on or off
unfoldable pub with_client_capability : ℕ → ℕ → Bool → List ClientRow → List ClientRow
with_client_capability c cap on clients =
    map
    (λ (row : ClientRow). if is_client c row then record row { capabilities = with_capability cap on row.capabilities } else row)
    clients

-- SET_CLIENT_CAP: a capability, off by 0 and on by 1
abbrev pub set_client_cap : Rows → ℕ → ℕ → ℕ → Meaning
set_client_cap w c cap value = record (nothing w) {
  checks = check BadCap (is_capability cap && nat_le value 1) ∷ [];
  rows = record w { clients = with_client_capability c cap (value == 1) w.clients };
}
