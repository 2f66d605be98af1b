-- What remains of a client and of what its master lent after a closing, and of the lessee after a revocation (drm-uapi,
-- leases).
use Rattle.std.specs.Prelude.{◌≡◌, ℕ, ◌==◌, Bool, false, ◌&&◌}
use Rattle.std.specs.List.{list_any}
use Rattle.std.specs.Option.{is_some}
use Rattle.drm_model.specs.Rows.{Rows, ClientRow, MasterRow, MagicRow, HandleRow, TokenRow, GrantRow, FramebufferRow}

-- no row names the client
pub record IsForgotten (w : Rows) (c : ℕ) : Type 0 where
  pub clients : list_any (λ (row : ClientRow). row.client == c) w.clients ≡ false
  pub magics : list_any (λ (row : MagicRow). row.client == c) w.magics ≡ false
  pub holds : list_any (λ (row : HandleRow). row.client == c) w.holds ≡ false
  pub tokens : list_any (λ (row : TokenRow). row.client == c) w.tokens ≡ false
  pub framebuffers : list_any (λ (row : FramebufferRow). row.client == c) w.framebuffers ≡ false

-- the row is a grant of the master
abbrev pub is_grant_of : ℕ → GrantRow → Bool
is_grant_of m row = row.master == m

-- the row is the master's, and its lease token is open
abbrev pub is_open_lease : ℕ → MasterRow → Bool
is_open_lease m row = (row.master == m) && is_some row.lease_token

-- the master has no grant and no open lease token
pub record HasEnded (w : Rows) (m : ℕ) : Type 0 where
  pub grants : list_any (is_grant_of m) w.grants ≡ false
  pub lease_token : list_any (is_open_lease m) w.masters ≡ false
