use Rattle.std.proofs.Common.{ap, ◌∙◌, slice_get}
use Rattle.drm_files.proofs.After.{from_first}
use Rattle.drm_files.proofs.files.Files.nth_handle.Goals as goal

pub returns : goal.returns
returns c = c.nth_handle_from.ensures ∙ ap (λ l. slice_get l c.args.position) (from_first c.args.self.now.holds)
