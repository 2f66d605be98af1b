-- The parts that the lines so far define (own).
use Rattle.drm_runs.specs.declared.parts.Parts.{Parts}
use Rattle.drm_runs.specs.Told.{Told}

-- the parts in the fields
abbrev pub told_in : Parts → Told
told_in parts = record {
  crtcs = parts.crtcs;
  planes = parts.planes.items;
  kinds = parts.kinds.items;
  encoders = parts.encoders.items;
  connectors = parts.connectors.items;
}
