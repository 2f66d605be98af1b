-- The answers hold few ids: their lists show fixed mode objects and framebuffers, of each 64 at most.
use Rattle.std.proofs.Common.{◌≡◌, ℕ, zero, suc, ◌+◌, ◌≤◌, ◌==◌, nat_le, map, filter, length, Option, None, Some, Ok, refl, ap, arith}
use Rattle.std.proofs.lemmas.List.{length-map}
use Rattle.drm_index_array.proofs.Lists.{filter-shorter}
use Rattle.drm_index_array.proofs.Orders.{length-sorted}
use Rattle.drm_table.specs.Results.{FitsOneFrame}
use Rattle.drm_table.specs.declared.calls.Call.{Call}
use Rattle.drm_table.specs.declared.calls.Call.TheVariants.{GetResources, GetFb}
use Rattle.drm_table.specs.declared.events.Event.{Event}
use Rattle.drm_table.specs.declared.events.Event.TheVariants.{Open, Ask, Close}
use Rattle.drm_table.specs.declared.rules.Rule.{Rule}
use Rattle.drm_modes.specs.Numbers.{numbers_from}
use Rattle.drm_modes.specs.Topology.{IsTopology, first_encoder, first_connector, encoder_ids}
use Rattle.drm_modes.proofs.Ids.{length-numbers_from}
use Rattle.drm_model.specs.Rows.{Rows, FramebufferRow, framebuffer_row}
use Rattle.drm_model.specs.Sees.{sees, visible_crtcs, visible_connectors, own_framebuffers}
use Rattle.drm_model.specs.Modes.{framebuffer_answer}
use Rattle.drm_model.specs.Calls.{meaning}
use Rattle.drm_model.specs.Verdict.{verdict}
use Rattle.drm_model.specs.Reply.{reply, reply_by, answer_of}

seen-few : (w : Rows) (c first count : ℕ) → length (filter (sees w c) (numbers_from first count)) ≤ count
seen-few w c first count =
    let all = length-numbers_from first count in
    let fewer = filter-shorter (sees w c) (numbers_from first count) in
    omega (arith, all, fewer)

own-few : (w : Rows) (c : ℕ) → length (own_framebuffers w c) ≤ length w.framebuffers
own-few w c =
    let own = filter (λ (row : FramebufferRow). row.client == c) w.framebuffers in
    let sorted = length-sorted nat_le (map (λ (row : FramebufferRow). row.framebuffer) own) in
    let ids = length-map own (λ (row : FramebufferRow). row.framebuffer) in
    let fewer = filter-shorter (λ (row : FramebufferRow). row.client == c) w.framebuffers in
    omega (arith, sorted, ids, fewer)

resources-few : (w : Rows) (c : ℕ) → IsTopology w.topology → length w.framebuffers ≤ 64 →
    length (visible_crtcs w c) + length (visible_connectors w c) + length (encoder_ids w.topology) + length
    (own_framebuffers w c) ≤ 251
resources-few w c topology few =
    let crtcs = seen-few w c 1 w.topology.crtcs in
    let connectors = seen-few w c (first_connector w.topology) (length w.topology.connectors) in
    let encoders = length-numbers_from (first_encoder w.topology) (length w.topology.encoders) in
    let framebuffers = own-few w c in
    omega (arith, crtcs, connectors, encoders, framebuffers, topology.few, few)

framebuffer-few : (handle : ℕ) (row : Option FramebufferRow) → FitsOneFrame (Ok (framebuffer_answer handle row))
framebuffer-few handle (Some row) = tt
framebuffer-few handle None = tt

-- a call that is not told here answers no resources
asked-few : (w : Rows) (c : ℕ) (call : Call) → IsTopology w.topology → length w.framebuffers ≤ 64
    → FitsOneFrame (Ok (meaning w c call).answer)
unfolding meaning
asked-few w c GetResources topology few = resources-few w c topology few
asked-few w c (GetFb f) topology few = framebuffer-few _ (framebuffer_row w f)
asked-few w c call topology few = tt

answered-few : (w : Rows) (event : Event) → IsTopology w.topology → length w.framebuffers ≤ 64
    → FitsOneFrame (Ok (answer_of w event))
unfolding answer_of
answered-few w (Open opening) topology few = tt
answered-few w (Ask c call) topology few = asked-few w c call topology few
answered-few w (Close c) topology few = tt

replied-few : (w : Rows) (event : Event) (v : Option Rule) → IsTopology w.topology → length w.framebuffers ≤ 64
    → FitsOneFrame (Ok (reply_by v w event))
replied-few w event (Some rule) topology few = tt
replied-few w event None topology few = answered-few w event topology few

-- Each answer fits one frame if there are 64 framebuffers at most.
pub few_reply : (w : Rows) (event : Event) → IsTopology w.topology → length w.framebuffers ≤ 64
    → FitsOneFrame (Ok (reply w event))
unfolding reply
few_reply w event topology few = replied-few w event (verdict w event) topology few
