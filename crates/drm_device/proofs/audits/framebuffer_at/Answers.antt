use Rattle.std.proofs.Common.{◌≡◌, true, ◌∙◌, sym}
use Rattle.drm_index_array.specs.Numbers.{is_among}
use Rattle.drm_index_array.proofs.FoundInLists.{all_at}
use Rattle.drm_index_array.proofs.Numbers.{among-right}
use Rattle.drm_modes.specs.declared.rows.Framebuffer.{Framebuffer}
use Rattle.drm_state.specs.Parts.{keys_of, token_keys, framebuffer_keys, referring_keys}
use Rattle.drm_state.proofs.Represented.{objects_counted}
use Rattle.drm_state.proofs.SharedLookups.{its_key}
use Rattle.drm_device.proofs.AuditRows.{framebuffer_there}
use Rattle.drm_device.proofs.audits.framebuffer_at.Goals as goal

pub birth-requires : goal.birth-requires
birth-requires c =
    let s = c.args.state.now in
    let key = c.in_ok-made.made.object in
    (objects_counted s c.requires).there key
    (among-right (keys_of s.files.holds) (referring_keys s) key
    (among-right (token_keys s.tokens.tokens) (framebuffer_keys s.modes.framebuffers) key
    (all_at (λ (x : Framebuffer). is_among (framebuffer_keys s.modes.framebuffers) x.object ≡ true) s.modes.framebuffers c.args.position c.in_ok-made.made (its_key (λ (x : Framebuffer). x.object) s.modes.framebuffers) (sym c.nth_framebuffer.ensures ∙ c.in_ok-made.was))))

pub returns : goal.returns
returns c =
    framebuffer_there c.args.state.now.objects.objects c.args.state.now.modes.framebuffers c.args.position
    c.in_ok-made.made c.birth.result (sym c.nth_framebuffer.ensures ∙ c.in_ok-made.was) c.birth.ensures
