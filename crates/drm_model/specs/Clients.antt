-- Openings and closings of clients (drm-uapi, drm(7); step numbers, root and universal planes by opening, and lease tokens are this
-- project's own).
use Rattle.std.specs.Prelude.{ℕ, ◌==◌, Bool, true, false, List, [], ◌∷◌, ◌++◌, Option, None, Some, map, if◌then◌else◌}
use Rattle.std.specs.Option.{is_some, option_map}
use Rattle.drm_table.specs.declared.events.Opening.{Opening}
use Rattle.drm_table.specs.declared.events.Opening.TheVariants.{Primary, Render, Lease}
use Rattle.drm_table.specs.declared.rules.Rule.TheVariants.{NoLeaseToken, Full}
use Rattle.drm_table.specs.Permit.{Check, check}
use Rattle.drm_model.specs.Rows.{Rows, ClientRow, MasterRow, step_number, without, is_option, client_row, has_client_room}
use Rattle.drm_model.specs.ClientCapabilities.{opening_capabilities}
use Rattle.drm_model.specs.Masters.{new_master}
use Rattle.drm_model.specs.Leases.{lease_master, ended}

-- the rules of an opening, in order (limits and lease tokens are own)
unfoldable pub opening_checks : Rows → Opening → List Check
opening_checks w (Primary root universal) = check Full (has_client_room w) ∷ []
opening_checks w Render = check Full (has_client_room w) ∷ []
opening_checks w (Lease token root universal) =
    check NoLeaseToken (is_some (lease_master w token)) ∷ check Full (has_client_room w) ∷ []

-- the first master of a device without one: its client is a master
abbrev pub founded : Rows → Bool → Bool → Rows
founded w root universal = record w {
  masters = w.masters ++ new_master (step_number w) ∷ [];
  device_master = Some (step_number w);
  clients =
      w.clients ++ record
      { client = step_number w; render = false; root = root; authenticated = true; once_master = true; is_master = true; master = Some (step_number w); capabilities = opening_capabilities universal }
      ∷ [];
}

-- a client of the device's master, which isn't one itself; root is authenticated from its opening (own)
abbrev pub joined : Rows → Bool → Bool → ℕ → Rows
joined w root universal m = record w {
  clients =
      w.clients ++ record
      { client = step_number w; render = false; root = root; authenticated = root; once_master = false; is_master = false; master = Some m; capabilities = opening_capabilities universal }
      ∷ [];
}

-- the first primary client of a device without a master founds one (drm(7))
abbrev pub opened_primary : Rows → Bool → Bool → Option ℕ → Rows
opened_primary w root universal None = founded w root universal
opened_primary w root universal (Some m) = joined w root universal m

-- a render client has no master (drm-uapi), and universal planes on (own)
abbrev pub opened_render : Rows → Rows
opened_render w = record w {
  clients =
      w.clients ++ record
      { client = step_number w; render = true; root = false; authenticated = false; once_master = false; is_master = false; master = None; capabilities = opening_capabilities true }
      ∷ [];
}

-- the token is spent, and the client is a master of the lessee
abbrev pub opened_lease : Rows → ℕ → Bool → Bool → Rows
opened_lease w token root universal = record w {
  masters =
      map (λ (row : MasterRow). if is_option token row.lease_token then record row { lease_token = None } else row)
      w.masters;
  clients =
      w.clients ++ record
      { client = step_number w; render = false; root = root; authenticated = true; once_master = false; is_master = true; master = option_map (λ (row : MasterRow). row.master) (lease_master w token); capabilities = opening_capabilities universal }
      ∷ [];
}

-- what an accepted opening does
unfoldable pub opened : Rows → Opening → Rows
opened w (Primary root universal) = opened_primary w root universal w.device_master
opened w Render = opened_render w
opened w (Lease token root universal) = opened_lease w token root universal

-- a closing client that is a master: what its master lent is removed, and the device's master if it was that one
abbrev pub ended_if : Rows → Bool → Option ℕ → Rows
ended_if w true (Some m) =
    record (ended w m) { device_master = if is_option m w.device_master then None else w.device_master }
ended_if w true None = w
ended_if w false m = w

-- the rows after a closing, for the row of its client
abbrev pub ended_own : Rows → Option ClientRow → Rows
ended_own w (Some row) = ended_if w row.is_master row.master
ended_own w None = w

-- all rows of the client go, and what its own master returned
unfoldable pub closed : Rows → ℕ → Rows
closed w c = record (ended_own w (client_row w c)) {
  clients = without (λ row. row.client == c) w.clients;
  magics = without (λ row. row.client == c) w.magics;
  holds = without (λ row. row.client == c) w.holds;
  tokens = without (λ row. row.client == c) w.tokens;
  framebuffers = without (λ row. row.client == c) w.framebuffers;
}
