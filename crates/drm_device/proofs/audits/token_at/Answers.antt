use Rattle.std.proofs.Common.{◌≡◌, true, ◌∙◌, sym}
use Rattle.drm_index_array.specs.Numbers.{is_among}
use Rattle.drm_index_array.proofs.FoundInLists.{all_at}
use Rattle.drm_index_array.proofs.Numbers.{among-left, among-right}
use Rattle.drm_share.specs.declared.rows.SharedToken.{SharedToken}
use Rattle.drm_state.specs.Parts.{keys_of, token_keys, framebuffer_keys, referring_keys}
use Rattle.drm_state.proofs.Represented.{objects_counted}
use Rattle.drm_state.proofs.SharedLookups.{its_key}
use Rattle.drm_device.proofs.AuditRows.{token_there}
use Rattle.drm_device.proofs.audits.token_at.Goals as goal

pub birth-requires : goal.birth-requires
birth-requires c =
    let s = c.args.state.now in
    (objects_counted s c.requires).there c.in_ok-shared.shared.object
    (among-right (keys_of s.files.holds) (referring_keys s) c.in_ok-shared.shared.object
    (among-left (token_keys s.tokens.tokens) (framebuffer_keys s.modes.framebuffers) c.in_ok-shared.shared.object
    (all_at (λ (x : SharedToken). is_among (token_keys s.tokens.tokens) x.object ≡ true) s.tokens.tokens c.args.position c.in_ok-shared.shared (its_key (λ (x : SharedToken). x.object) s.tokens.tokens) (sym c.nth_token.ensures.row ∙ c.in_ok-shared.was))))

pub returns-clause-row : goal.returns-clause-row
returns-clause-row c =
    token_there c.args.state.now.objects.objects c.args.state.now.tokens.tokens c.args.position c.in_ok-shared.shared
    c.birth.result (sym c.nth_token.ensures.row ∙ c.in_ok-shared.was) c.birth.ensures
