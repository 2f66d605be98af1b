use Rattle.std.proofs.Common.{◌≡◌, ◌+◌, replicate, ap, ◌∙◌}
use Rattle.drm_id_alloc.specs.Table.{empty_table}
use Rattle.drm_modes.specs.Topology.{object_count}
use Rattle.drm_modes.specs.Modes.{scanout_count, first_framebuffer}
use Rattle.drm_modes.specs.Tables.{mode_set}
use Rattle.drm_modes.proofs.ModeFacts.{has-none, none_made}
use Rattle.drm_modes.proofs.modes.Modes.new.Goals as goal

pub invariant_of-result : goal.invariant_of-result
invariant_of-result c =
    let t = c.args.topology in
    let n = c.args.framebuffers in
    let table : c.new.result ≡ empty_table (first_framebuffer t) (object_count t + n) =
    c.new.ensures ∙ ap (λ objects. empty_table (objects + 1) (objects + n)) c.object_count-objects.ensures.count in
    let scanouts : c.dark.result.items ≡ replicate (scanout_count t) 0 =
    c.dark.ensures ∙ ap (λ count. replicate count 0) c.scanout_count-count.ensures.count in
    rw (table, scanouts) (has-none t n c.new-2.result c.laws.ensures c.requires.some c.requires.few c.new-2.ensures)

pub returns : goal.returns
returns c =
    let t = c.args.topology in
    let n = c.args.framebuffers in
    let table : c.new.result ≡ empty_table (first_framebuffer t) (object_count t + n) =
    c.new.ensures ∙ ap (λ objects. empty_table (objects + 1) (objects + n)) c.object_count-objects.ensures.count in
    let scanouts : c.dark.result.items ≡ replicate (scanout_count t) 0 =
    c.dark.ensures ∙ ap (λ count. replicate count 0) c.scanout_count-count.ensures.count in
    (λ i. mode_set t (table i) (scanouts i)) ∙ none_made t n
