use Rattle.std.proofs.Common.{ap, ◌∙◌, slice_get, option_map}
use Rattle.drm_files.specs.Files.{FileLists, client}
use Rattle.drm_files.proofs.ListsAfterCalls.{client_at, client_named}
use Rattle.drm_files.proofs.files.Files.nth_client.Goals as goal

pub returns-in_err-client : goal.returns-in_err-client
returns-in_err-client c =
    let inside = c.self.inside in
    c.from_residual.ensures
    ∙ ap (client_named inside.clients.items) c.in_err-client.ensures.nth
    ∙ client_at inside.clients.items c.args.position
    ∙ ap (λ (l : FileLists). slice_get l.clients c.args.position) c.self.view_is

pub returns-in_err-record : goal.returns-in_err-record
returns-in_err-record c =
    let inside = c.self.inside in
    c.from_residual-in_err-record.ensures
    ∙ ap (λ r. option_map (λ s. client c.in_ok-client.client s.flags) r) c.in_err-record.ensures.value
    ∙ ap (client_named inside.clients.items) c.in_ok-client.ensures.nth
    ∙ client_at inside.clients.items c.args.position
    ∙ ap (λ (l : FileLists). slice_get l.clients c.args.position) c.self.view_is

pub returns : goal.returns
returns c =
    let inside = c.self.inside in
    ap (λ r. option_map (λ s. client c.in_ok-client.client s.flags) r) c.in_ok-record.ensures.value
    ∙ ap (client_named inside.clients.items) c.in_ok-client.ensures.nth
    ∙ client_at inside.clients.items c.args.position
    ∙ ap (λ (l : FileLists). slice_get l.clients c.args.position) c.self.view_is
