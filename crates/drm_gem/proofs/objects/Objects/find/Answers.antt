use Rattle.std.proofs.Common.{ap, sym, ◌∙◌}
use Rattle.drm_keys.proofs.KeyLemmas.{by_key, keys_differ}
use Rattle.drm_gem.specs.Fields.{nothing, key_of, step_number_of}
use Rattle.drm_gem.specs.Objects.{ObjectSet, object_at}
use Rattle.drm_gem.proofs.objects.Objects.find.Goals as goal

pub returns-clause-value : goal.returns-clause-value
returns-clause-value c =
    c.copied.ensures ∙ c.get.ensures
    ∙ sym
    (by_key key_of step_number_of nothing c.self.inside.keys.items c.self.inside.kept c.self.invariant c.number.result)
    ∙ ap (λ (s : ObjectSet). object_at s c.number.result) c.self.view_is
    ∙ ap (object_at c.args.self.now) c.number.ensures

pub returns-clause-differ : goal.returns-clause-differ
returns-clause-differ c =
    rw (← c.self.view_is)
    (keys_differ key_of step_number_of nothing c.self.inside.keys.items c.self.inside.kept c.self.invariant)
