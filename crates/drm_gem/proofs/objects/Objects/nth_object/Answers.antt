use Rattle.std.proofs.Common.{option_and_then, slice_get, ap, ◌∙◌}
use Rattle.std.specs.FinMap as fin
use Rattle.slab.specs.Slab.{get}
use Rattle.drm_keys.proofs.KeyLemmas.{at_position}
use Rattle.drm_gem.specs.Fields.{nothing, key_of, step_number_of}
use Rattle.drm_gem.specs.Objects.{ObjectSet}
use Rattle.drm_gem.proofs.objects.Objects.nth_object.Goals as goal

pub returns : goal.returns
returns c =
    let keys = c.self.inside.keys.items in
    let kept = c.self.inside.kept in
    c.copied.ensures ∙ c.get-2.ensures
    ∙ ap (option_and_then (get kept)) c.in_ok-number.ensures.value
    ∙ ap (option_and_then (λ b. option_and_then (get kept) (fin.get keys b))) c.in_ok-step_number.ensures.nth
    ∙ at_position key_of step_number_of nothing keys kept c.self.invariant c.args.position
    ∙ ap (λ (s : ObjectSet). slice_get s.objects c.args.position) c.self.view_is
