use Rattle.std.proofs.Common.{◌≡◌, ◌++◌, true, ◌∙◌, sym}
use Rattle.drm_index_array.specs.Numbers.{is_among}
use Rattle.drm_index_array.proofs.FoundInLists.{all_at}
use Rattle.drm_share.specs.declared.rows.SharedName.{SharedName}
use Rattle.drm_state.specs.Parts.{keys_of, referring_keys}
use Rattle.drm_state.proofs.Represented.{objects_counted}
use Rattle.drm_state.proofs.Sweeps.{names_known}
use Rattle.drm_device.proofs.AuditRows.{name_there}
use Rattle.drm_device.proofs.audits.name_at.Goals as goal

pub birth-requires : goal.birth-requires
birth-requires c =
    let s = c.args.state.now in
    (objects_counted s c.requires).there c.in_ok-shared.shared.object
    (all_at (λ (x : SharedName). is_among (keys_of s.files.holds ++ referring_keys s) x.object ≡ true) s.names.names c.args.position c.in_ok-shared.shared (names_known s c.requires) (sym c.nth_name.ensures.row ∙ c.in_ok-shared.was))

pub returns-clause-row : goal.returns-clause-row
returns-clause-row c =
    name_there c.args.state.now.objects.objects c.args.state.now.names.names c.args.position c.in_ok-shared.shared
    c.birth.result (sym c.nth_name.ensures.row ∙ c.in_ok-shared.was) c.birth.ensures
