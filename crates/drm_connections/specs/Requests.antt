-- The bytes that a connection brings (own).
use Rattle.std.specs.Prelude.{◌≡◌, ℕ, List, Option}
use Rattle.std.specs.Io.KnownBytes.{prepend_known}
use Rattle.drm_connections.specs.declared.requests.Requests.{Requests}
use Rattle.drm_connections.specs.Looks.{after_first}

-- what is left of a connection's requests: what was read ahead, then what is in the stream and was not looked at
abbrev pub requests_left : {S R : Type 0} → (S → Option (List ℕ)) → Requests S R → Option (List ℕ)
requests_left remaining r = prepend_known r.ahead (after_first r.seen (remaining r.stream))

-- nothing that was handed on is still in the stream
abbrev pub IsSettled : {S R : Type 0} → Requests S R → Type 0
IsSettled r = r.seen ≡ 0
