use Rattle.std.proofs.Common.{true, ◌∷◌, ◌++◌, [], ◌∙◌, sym, ap}
use Rattle.std.specs.Prelude.{if◌then◌else◌}
use Rattle.drm_files.specs.Files.{client, new_flags}
use Rattle.drm_client_calls.proofs.Files.{not_there, opened_file, opened_open_client, opened_authenticated}
use Rattle.drm_client_calls.proofs.openings.open_file.Goals as goal

pub open-requires : goal.open-requires
open-requires c = record { absent = not_there c.args.number c.args.files.now.clients c.requires.newest }

pub set_authenticated-requires : goal.set_authenticated-requires
set_authenticated-requires c =
    record
    { open_client = opened_open_client c.args.files.now c.open.new.self c.args.number c.args.render c.args.root c.args.universal c.requires.newest c.in_default.ensures.ok }

pub returns-then-opener-clause-ok : goal.returns-then-opener-clause-ok
returns-then-opener-clause-ok c =
    c.set_authenticated.ensures
    ∙ opened_authenticated c.args.files.now c.open.new.self c.args.number c.args.render c.args.root c.args.universal
    c.requires.newest c.in_default.ensures.ok
    ∙ ap
    (λ b. record c.args.files.now { clients = c.args.files.now.clients ++ client c.args.number (record (new_flags c.args.render c.args.root c.args.universal) { authenticated = if b then true else c.args.root }) ∷ [] })
    (sym c.if-opener.true)

pub returns-else-opener-clause-ok : goal.returns-else-opener-clause-ok
returns-else-opener-clause-ok c =
    c.in_default.ensures.ok
    ∙ opened_file c.args.files.now c.args.number c.args.render c.args.root c.args.universal c.requires.newest
    ∙ ap
    (λ b. record c.args.files.now { clients = c.args.files.now.clients ++ client c.args.number (record (new_flags c.args.render c.args.root c.args.universal) { authenticated = if b then true else c.args.root }) ∷ [] })
    (sym c.if-opener.false)
