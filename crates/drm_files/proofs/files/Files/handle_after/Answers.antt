use Rattle.std.proofs.Common.{◌≡◌, ◌+◌, nat_le, filter, slice_get, ap, sym, ◌∙◌, arith}
use Rattle.std.specs.Option.{option_or}
use Rattle.drm_files.specs.declared.rows.FileHandle.{FileHandle}
use Rattle.drm_files.proofs.After.{after_is}
use Rattle.drm_files.proofs.files.Files.handle_after.Goals as goal

pub returns-in-Some : goal.returns-in-Some
returns-in-Some c =
    let holds = c.args.self.now.holds in
    let later = slice_get (filter (λ (row : FileHandle). nat_le (c.args.client + 1) row.client) holds) 0 in
    ap (λ o. option_or o later) c.in-Some.ensures.next
    ∙ sym (after_is c.args.client c.args.handle holds c.in-Some.ensures.rise)

pub returns-in_err-above : goal.returns-in_err-above
returns-in_err-above c =
    let holds = c.args.self.now.holds in
    let last : c.args.client + 1 ≡ 4294967296 = omega (arith, c.in_err-above.ensures, c.ranges.client.fits) in
    c.from_residual.ensures
    ∙ ap (λ l. slice_get l 0) (sym (ap (λ n. filter (λ (row : FileHandle). nat_le n row.client) holds) last ∙ c.in_default.ensures.fit))
    ∙ ap (λ o. option_or o (slice_get (filter (λ (row : FileHandle). nat_le (c.args.client + 1) row.client) holds) 0)) c.in_default.ensures.next
    ∙ sym (after_is c.args.client c.args.handle holds c.in_default.ensures.rise)

pub returns : goal.returns
returns c =
    let holds = c.args.self.now.holds in
    let above : c.in_ok-above.above ≡ c.args.client + 1 = c.in_ok-above.ensures.1 in
    c.nth_handle_from.ensures
    ∙ ap (λ n. slice_get (filter (λ (row : FileHandle). nat_le n row.client) holds) 0) above
    ∙ ap (λ o. option_or o (slice_get (filter (λ (row : FileHandle). nat_le (c.args.client + 1) row.client) holds) 0)) c.in_default.ensures.next
    ∙ sym (after_is c.args.client c.args.handle holds c.in_default.ensures.rise)
