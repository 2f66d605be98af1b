use Rattle.std.proofs.Common.{◌≡◌, ℕ, [], ◌∷◌, None, Some, Option, List, sym, ◌∙◌, ap}
use Rattle.std.specs.Prelude.{slice_get}
use Rattle.drm_model.specs.Audit.{audit_row, or_zero, client_audit, master_audit}
use Rattle.drm_state.specs.Parts.{client_row_by, client_row_of, master_row_of, magic_row_of}
use Rattle.drm_masters.specs.declared.rows.Master.{Master}
use Rattle.std.specs.Option.{option_and_then}
use Rattle.drm_state.proofs.MagicRows.{magic_is}
use Rattle.drm_device.specs.Audits.{IsRowAt}
use Rattle.drm_device.proofs.AuditRows.{object_row_at, client_rows, master_rows, hold_rows, name_rows, token_rows, grant_rows, framebuffer_rows, shown_audits, device_rows, row_of_item}
use Rattle.drm_device.proofs.audits.row_at.Goals as goal

-- what the look-up found, of the list itself
there : {X : Type 0} (found got : Option X) (items xs : List X) (position : ℕ) → found ≡ got
    → found ≡ slice_get xs position → xs ≡ items → got ≡ slice_get items position
there found got items xs position e f g = sym e ∙ f ∙ ap (λ ys. slice_get ys position) g

pub returns-in_err-file-in-Client : goal.returns-in_err-file-in-Client
unfolding IsRowAt
returns-in_err-file-in-Client c = rw c.in-Client.is (λ w h.
    c.from_residual.ensures ∙ row_of_item (λ f. client_audit w (client_row_of c.args.state.now.masters.members f)) c.args.state.now.files.clients _ c.args.position None (client_rows c.args.state.now c.args.steps w h) (sym c.in_err-file-in-Client.was ∙ c.nth_client.ensures))

pub returns-in_ok-file-in-Client : goal.returns-in_ok-file-in-Client
unfolding IsRowAt
returns-in_ok-file-in-Client c = rw c.in-Client.is (λ w h.
    let file = c.in_ok-file-in-Client.file in
    ap Some
    (c.client_row.ensures w (magic_is c.args.state.now w c.requires h.rows file.client ∙ ap (option_and_then magic_row_of) (sym c.member.ensures.member)))
    ∙ ap (λ m. Some (client_audit w (client_row_by file m))) c.member.ensures.member
    ∙ row_of_item (λ f. client_audit w (client_row_of c.args.state.now.masters.members f)) c.args.state.now.files.clients _ c.args.position (Some file) (client_rows c.args.state.now c.args.steps w h) (sym c.in_ok-file-in-Client.was ∙ c.nth_client.ensures))

pub returns-in_err-master-in-Master : goal.returns-in_err-master-in-Master
unfolding IsRowAt
returns-in_err-master-in-Master c = rw c.in-Master.is (λ w h.
    c.from_residual-in_err-master-in-Master.ensures
    ∙ row_of_item (λ (x : Master). master_audit (master_row_of c.args.state.now.leases.tokens x)) c.args.state.now.masters.masters _ c.args.position None (master_rows c.args.state.now c.args.steps w h) (sym c.in_err-master-in-Master.was ∙ c.nth_master.ensures))

pub returns-in_ok-master-in-Master : goal.returns-in_ok-master-in-Master
unfolding IsRowAt
returns-in_ok-master-in-Master c = rw c.in-Master.is (λ w h.
    ap Some (c.master_row.ensures c.args.state.now.leases.tokens c.token_of.ensures)
    ∙ row_of_item (λ (x : Master). master_audit (master_row_of c.args.state.now.leases.tokens x))
    c.args.state.now.masters.masters _ c.args.position (Some c.in_ok-master-in-Master.master)
    (master_rows c.args.state.now c.args.steps w h)
    (sym c.in_ok-master-in-Master.was ∙ c.nth_master.ensures))

pub returns-in_err-nth_object-in-Object : goal.returns-in_err-nth_object-in-Object
unfolding IsRowAt
returns-in_err-nth_object-in-Object c =
    rw c.in-Object.is
    (λ w h. c.from_residual-in_err-nth_object-in-Object.ensures ∙ object_row_at c.args.state.now w c.args.position None c.args.steps c.requires h (sym c.in_err-nth_object-in-Object.was ∙ c.nth_object.ensures))

pub returns-in_ok-nth_object-in-Object : goal.returns-in_ok-nth_object-in-Object
unfolding IsRowAt
returns-in_ok-nth_object-in-Object c =
    rw c.in-Object.is
    (λ w h. ap Some c.object_row.ensures ∙ object_row_at c.args.state.now w c.args.position (Some c.in_ok-nth_object-in-Object.field-0) c.args.steps c.requires h (sym c.in_ok-nth_object-in-Object.was ∙ c.nth_object.ensures))

pub returns-in-Hold : goal.returns-in-Hold
unfolding IsRowAt
returns-in-Hold c =
    rw c.in-Hold.is
    (λ w h. c.handle_at.ensures ∙ ap (λ rows. slice_get rows c.args.position) (sym (hold_rows c.args.state.now c.args.steps w c.requires h)))

pub returns-in-Name : goal.returns-in-Name
unfolding IsRowAt
returns-in-Name c =
    rw c.in-Name.is
    (λ w h. c.name_at.ensures.row ∙ ap (λ rows. slice_get rows c.args.position) (sym (name_rows c.args.state.now c.args.steps w c.name_at.ensures.names h)))

pub returns-in-Token : goal.returns-in-Token
unfolding IsRowAt
returns-in-Token c =
    rw c.in-Token.is
    (λ w h. c.token_at.ensures.row ∙ ap (λ rows. slice_get rows c.args.position) (sym (token_rows c.args.state.now c.args.steps w c.token_at.ensures.tokens h)))

pub returns-in-Device : goal.returns-in-Device
unfolding IsRowAt
returns-in-Device c = rw c.in-Device.is (λ w h. c.item_at.ensures ∙ ap (λ row. slice_get (row ∷ []) c.args.position) (c.device_row.ensures ∙ (λ i. audit_row (or_zero (c.device_master.ensures i)) (or_zero (c.last_given.ensures.last_given i)) (or_zero (c.last_given-in-Device.ensures i)) c.args.steps))
    ∙ sym (ap (λ rows. slice_get rows c.args.position) (device_rows c.args.state.now c.args.steps w h)))

pub returns-in-Framebuffer : goal.returns-in-Framebuffer
unfolding IsRowAt
returns-in-Framebuffer c =
    rw c.in-Framebuffer.is
    (λ w h. c.framebuffer_at.ensures ∙ ap (λ rows. slice_get rows c.args.position) (sym (framebuffer_rows c.args.state.now c.args.steps w c.requires h)))

pub returns-in-Shown : goal.returns-in-Shown
unfolding IsRowAt
returns-in-Shown c =
    rw c.in-Shown.is
    (λ w h. c.shown_at.ensures ∙ ap (λ rows. slice_get rows c.args.position) (sym (shown_audits c.args.state.now c.args.steps w h)))

pub returns-in-Grant : goal.returns-in-Grant
unfolding IsRowAt
returns-in-Grant c =
    rw c.in-Grant.is
    (λ w h. c.grant_at.ensures ∙ ap (λ rows. slice_get rows c.args.position) (sym (grant_rows c.args.state.now c.args.steps w c.requires h)))
