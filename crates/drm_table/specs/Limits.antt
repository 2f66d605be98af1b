-- The ranges of the limits (own).
use Rattle.std.specs.Prelude.{ℕ, Bool, ◌&&◌, nat_le}
use Rattle.drm_table.specs.declared.limits.Limits.{Limits}

-- whether a number is between two others, both included
abbrev pub is_between : ℕ → ℕ → ℕ → Bool
is_between low high n = nat_le low n && nat_le n high

-- whether each limit is in its range
unfoldable pub are_in_range : Limits → Bool
are_in_range limits =
    is_between 1 1024 limits.clients
    && is_between 1 65535 limits.handles
    && is_between 1 65535 limits.names
    && is_between 1 65535 limits.tokens
    && is_between 1 65535 limits.objects
    && is_between 1 64 limits.framebuffers
    && is_between 1 64 limits.lessees
    && is_between 2 100000 limits.journal
