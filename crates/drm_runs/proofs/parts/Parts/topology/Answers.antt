use Rattle.std.proofs.Common.{◌+◌, Some, is_some, option_map, map, ap, sym, ◌∙◌}
use Rattle.drm_modes.specs.Topology.{is_topology}
use Rattle.drm_runs.specs.Parts.{told_in}
use Rattle.drm_runs.specs.Told.{topology_told}
use Rattle.drm_runs.proofs.TopologyOfParts.{made, topology_given}
use Rattle.drm_runs.proofs.parts.Parts.topology.Goals as goal

pub returns : goal.returns
returns c =
    let t = told_in c.args.self.now in
    let crtcs = c.in_ok-crtcs.crtcs in
    let before = crtcs + c.len.result in
    let told = c.in_ok-crtcs.was in
    let same = topology_given t crtcs before c.as_slice-2.result.now c.as_slice-3.result.now c.as_slice-4.result.now c.as_slice-5.result.now told
    c.as_slice-2.ensures.value c.as_slice-3.ensures.value c.as_slice-4.ensures.value
    (ap (λ n. crtcs + n) c.len.ensures.value)
    (c.as_slice-5.ensures.value ∙ c.encoder_ids-connectors.ensures ∙ ap (map (λ place. before + place)) c.as_slice.ensures.value) in
    made c.with_kinds.result _ c.with_kinds.ensures.made c.with_kinds.ensures.value
    (ap is_topology same ∙ c.requires.is (ap is_some told))
    ∙ ap Some same ∙ sym (ap (option_map (λ _. topology_told t)) told)
