-- The parts of a topology that lines define, and the topology with these parts (own).
use Rattle.std.specs.Prelude.{ℕ, ◌+◌, Bool, ◌||◌, if◌then◌else◌, List, [], ◌++◌, map, filter, length, Option, None, unwrap_or, slice_get}
use Rattle.std.specs.List.{filter_map}
use Rattle.std.specs.Option.{option_or}
use Rattle.drm_script.specs.Fields.{Words}
use Rattle.drm_modes.specs.declared.kinds.PlaneKind.{PlaneKind}
use Rattle.drm_modes.specs.declared.kinds.PlaneKind.TheVariants as plane_kinds
use Rattle.drm_modes.specs.Topology.{Topology}
use Rattle.drm_modes.specs.Topologies.{topology_with}
use Rattle.drm_runs.specs.declared.words.LineWord.{LineWord}
use Rattle.drm_runs.specs.declared.words.LineWord.TheVariants as words
use Rattle.drm_runs.specs.TopologyLines.{begins_with, others, only_number, mask_of, own_crtc, encoder_place}

-- The parts: the number of CRTCs, if it is set. For each plane and each encoder, the mask of its CRTCs. For each plane,
-- its kind. For each connector, the place of its encoder among the encoders, from 1.
pub record Told : Type 0 where
  pub crtcs : Option ℕ
  pub planes : List ℕ
  pub kinds : List PlaneKind
  pub encoders : List ℕ
  pub connectors : List ℕ

-- the words after the first one, of each line that begins with it
abbrev pub behind : LineWord → List Words → List Words
behind name lines = map others (filter (begins_with name) lines)

-- the line defines a plane
abbrev pub tells_plane : Words → Bool
tells_plane line = begins_with words.Plane line || begins_with words.Primary line || begins_with words.Cursor line

-- what the plane of a line is for
abbrev pub kind_told : Words → PlaneKind
kind_told line =
    if begins_with words.Primary line then plane_kinds.Primary (own_crtc (others line))
    else if begins_with words.Cursor line then plane_kinds.Cursor (own_crtc (others line))
    else plane_kinds.Overlay

-- the parts that lines define, each list in the order of the lines
unfoldable pub told : List Words → Told
told lines = record {
  crtcs = slice_get (filter_map only_number (behind words.Crtcs lines)) 0;
  planes = map (λ line. mask_of (others line)) (filter tells_plane lines);
  kinds = map kind_told (filter tells_plane lines);
  encoders = map mask_of (behind words.Encoder lines);
  connectors = map encoder_place (behind words.Connector lines);
}

-- no line was read
abbrev pub nothing_told : Told
nothing_told = record { crtcs = None; planes = []; kinds = []; encoders = []; connectors = [] }

-- the parts of lines together with those of the lines after them; the first line with a number of CRTCs sets it
abbrev pub joined : Told → Told → Told
joined t u = record {
  crtcs = option_or t.crtcs u.crtcs;
  planes = t.planes ++ u.planes;
  kinds = t.kinds ++ u.kinds;
  encoders = t.encoders ++ u.encoders;
  connectors = t.connectors ++ u.connectors;
}

-- the number of CRTCs; 0 if it isn't set
abbrev pub crtc_count : Told → ℕ
crtc_count t = unwrap_or t.crtcs 0

-- how many objects there are
abbrev pub objects_told : Told → ℕ
objects_told t = crtc_count t + length t.planes + length t.encoders + length t.connectors

-- the id of the encoder at a place from 1: encoders follow the CRTCs and the planes
abbrev pub encoder_id : Told → ℕ → ℕ
encoder_id t place = crtc_count t + length t.planes + place

-- the topology with these parts
abbrev pub topology_told : Told → Topology
topology_told t = topology_with (crtc_count t) t.planes t.kinds t.encoders (map (encoder_id t) t.connectors)
