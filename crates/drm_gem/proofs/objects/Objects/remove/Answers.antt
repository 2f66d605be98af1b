use Rattle.std.proofs.Common.{ℕ, List, ap, sym, ◌∙◌}
use Rattle.std.specs.FinMap as fin
use Rattle.drm_index_array.specs.Indexed.{Indexed}
use Rattle.drm_keys.specs.Keys.{rows_in}
use Rattle.drm_keys.proofs.KeyLemmas.{by_key, removed_keyed}
use Rattle.drm_gem.specs.declared.object.Object.{Object}
use Rattle.drm_gem.specs.Fields.{nothing, key_of, step_number_of}
use Rattle.drm_gem.specs.Objects.{without_key}
use Rattle.drm_gem.proofs.Records.{gone}
use Rattle.drm_gem.proofs.objects.Objects.remove.Goals as goal

pub invariant_of-self : goal.invariant_of-self
invariant_of-self c =
    let there =
    rw
    (← c.self.view_is, sym c.number.ensures, by_key key_of step_number_of nothing c.self.inside.keys.items c.self.inside.kept c.self.invariant c.number.result)
    at c.requires in
    rw c.remove-number.ensures.after
    (removed_keyed key_of step_number_of nothing c.self.inside.keys.items c.self.inside.kept c.self.invariant c.number.result c.args.old c.try_remove-object.new.self there c.try_remove-object.ensures.updates)

pub returns : goal.returns
returns c =
    let there =
    rw
    (← c.self.view_is, sym c.number.ensures, by_key key_of step_number_of nothing c.self.inside.keys.items c.self.inside.kept c.self.invariant c.number.result)
    at c.requires in
    ap
    (λ (a : Indexed ℕ). record { limit = c.self.inside.limit; objects = rows_in nothing c.try_remove-object.new.self (fin.entries a.items) })
    c.remove-number.ensures.after
    ∙ ap (λ (os : List Object). record { limit = c.self.inside.limit; objects = os })
    (gone c.self.inside.keys.items c.self.inside.kept c.self.invariant c.number.result c.args.old c.try_remove-object.new.self there c.try_remove-object.ensures.updates)
    ∙ ap (without_key c.number.result) c.self.view_is
    ∙ ap (λ k. without_key k c.args.self.now) c.number.ensures
