use Rattle.std.proofs.Common.{◌≡◌, ℕ, ◌+◌, ◌*◌, ◌<◌, ◌++◌, length, get_or, drop}
use Rattle.std.specs.List.{flat_map}
use Rattle.drm_frames.specs.Lists.{FitsId}
use Rattle.drm_frames.specs.Number.{u32}
use Rattle.drm_frames.proofs.lists.push_ids.Given as goal

abbrev pub invariant-loop-id : goal.invariant-loop-id
invariant-loop-id l = record {
  text : l.fields ++ flat_map u32 (drop l.id-index l.ids) ≡ l.fn.fields ++ flat_map u32 l.ids;
  len : length l.fields ≡ length l.fn.fields + 4 * l.id-index;
  fits : (k d : ℕ) → k < l.id-index → FitsId (get_or l.ids k d);
}
