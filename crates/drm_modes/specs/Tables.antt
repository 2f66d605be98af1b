-- The flat lists that the table and the scanouts represent (own).
use Rattle.std.specs.Prelude.{◌≡◌, ℕ, ◌+◌, ◌==◌, ◌≤◌, Bool, true, ◌||◌, List, length, map as list_map}
use Rattle.std.specs.List.{AllByRecursion}
use Rattle.std.specs.Ordering.{nat_cmp}
use Rattle.std.specs.FinMap as map
use Rattle.drm_id_alloc.specs.Table.{Table, IsWithin}
use Rattle.drm_id_alloc.specs.Groups.{GroupMap, has, AreGroupsOf}
use Rattle.drm_modes.specs.declared.rows.Fb.{Fb}
use Rattle.drm_modes.specs.declared.rows.Framebuffer.{Framebuffer}
use Rattle.drm_modes.specs.Topology.{Topology, IsTopology, object_count}
use Rattle.drm_modes.specs.Modes.{ModeSet, framebuffer, scanout_count, first_framebuffer}

-- the row of a framebuffer's entry
abbrev pub framebuffer_row : ℕ × Fb → Framebuffer
framebuffer_row entry = framebuffer entry.0 entry.1.client entry.1.shape entry.1.object

-- the rows of all framebuffers, in their order
abbrev pub framebuffers_in : map.FinMap nat_cmp Fb → List Framebuffer
framebuffers_in slots = list_map framebuffer_row (map.entries slots)

abbrev pub mode_set : Topology → Table Fb → List ℕ → ModeSet
mode_set t table scanouts =
    record { topology = t; framebuffers = framebuffers_in table.slots; scanouts = scanouts; last = table.last }

-- dark, or a framebuffer that exists
abbrev pub is_scanout : map.FinMap nat_cmp Fb → ℕ → Bool
is_scanout slots f = (f == 0) || map.contains_key slots f

-- ids follow those of the fixed objects, each framebuffer is in the group of its client, each CRTC and plane has a
-- scanout, and what they show is there
pub record HasModes (t : Topology) (table : Table Fb) (owned : GroupMap) (scanouts : List ℕ) : Type 0 where
  pub topology : IsTopology t
  pub first_is : table.first ≡ first_framebuffer t
  pub last_high : table.last ≤ object_count t + 64
  pub within : IsWithin table.slots table.first table.last table.last_given
  pub owners : AreGroupsOf (λ (fb : Fb). fb.client) table.slots (has owned)
  pub each_has_a_scanout : length scanouts ≡ scanout_count t
  pub scanouts_are : AllByRecursion (λ f. is_scanout table.slots f ≡ true) scanouts
