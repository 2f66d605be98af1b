-- The limits of the device, as words spell them (own).
use Rattle.std.specs.Prelude.{ℕ, Option, Some, None, if◌then◌else◌}
use Rattle.drm_table.specs.declared.limits.Limits.{Limits}
use Rattle.drm_table.specs.Limits.{are_in_range}
use Rattle.drm_script.specs.declared.limits_line.Limit.{Limit}
use Rattle.drm_script.specs.declared.limits_line.Limit.TheVariants as each
use Rattle.drm_script.specs.declared.limits_line.TheConstants.{OTHERS}
use Rattle.drm_script.specs.Fields.{Words, ◌>>=◌, end_at, number_at}

-- the program's limits, with a number in place of one of them
abbrev pub with_limit : Limit → ℕ → Limits
with_limit each.Clients n = record OTHERS { clients = n }
with_limit each.Handles n = record OTHERS { handles = n }
with_limit each.Names n = record OTHERS { names = n }
with_limit each.Tokens n = record OTHERS { tokens = n }
with_limit each.Objects n = record OTHERS { objects = n }
with_limit each.Framebuffers n = record OTHERS { framebuffers = n }
with_limit each.Lessees n = record OTHERS { lessees = n }
with_limit each.Journal n = record OTHERS { journal = n }

-- the number, if it is in the range of the limit
abbrev pub in_range : Limit → ℕ → Option ℕ
in_range limit n = if are_in_range (with_limit limit n) then Some n else None

-- the number of a limit, in its range
unfoldable pub limit_at : Limit → Words → Option (ℕ × Words)
limit_at limit ws = do
  number ← number_at 32 ws
  fitting ← in_range limit number.0
  Some (fitting, number.1)

-- eight numbers in the order of the limits, after the word, each in its range
unfoldable pub limits_at : Words → Option Limits
limits_at ws = do
  clients ← limit_at each.Clients ws
  handles ← limit_at each.Handles clients.1
  names ← limit_at each.Names handles.1
  tokens ← limit_at each.Tokens names.1
  objects ← limit_at each.Objects tokens.1
  framebuffers ← limit_at each.Framebuffers objects.1
  lessees ← limit_at each.Lessees framebuffers.1
  journal ← limit_at each.Journal lessees.1
  end ← end_at journal.1
  Some (record {
    clients = clients.0;
    handles = handles.0;
    names = names.0;
    tokens = tokens.0;
    objects = objects.0;
    framebuffers = framebuffers.0;
    lessees = lessees.0;
    journal = journal.0;
  })
