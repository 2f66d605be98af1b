use Rattle.std.proofs.Common.{◌≡◌, ◌&&◌, false, get_or, find, sym, ap, ◌∙◌, arith}
use Rattle.std.specs.Prelude.{nat_lt}
use Rattle.std.proofs.lemmas.Bool.Decides.{nat_tests}
use Rattle.drm_index_array.specs.Chains.{is_under}
use Rattle.drm_rights.specs.Leases.{is_ended_by, lessor_noted}
use Rattle.drm_trails.proofs.RisingLemmas.{find_from}
use Rattle.drm_rights.proofs.notes.first_end.Goals as goal

pub loop-end-init : goal.loop-end-init
loop-end-init c =
    let ends = c.args.ends.now in
    let m = c.args.master in
    find_from (is_ended_by c.args.leases.now m) ends c.older_ends-place.result
    (λ k d lt within.
    let le = c.older_ends-place.ensures.older k d (omega arith) lt in
    let no : nat_lt m (get_or ends k d).step ≡ false = grind (arith, nat_tests) in
    ap (λ b. b && is_under (lessor_noted c.args.leases.now) (get_or ends k d).master m) no)
    ∙ ap (find (is_ended_by c.args.leases.now m)) (sym c.split_at.ensures.back)
