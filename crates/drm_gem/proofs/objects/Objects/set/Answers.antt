use Rattle.std.proofs.Common.{Some, List, refl, ap, sym, subst, ◌∙◌}
use Rattle.std.specs.Prelude.{IsSome}
use Rattle.std.proofs.lemmas.Option.{none-some}
use Rattle.slab.specs.Slab.{get, with_value, Updates}
use Rattle.slab.proofs.SlabLemmas.{Updates-with_value}
use Rattle.drm_keys.proofs.KeyLemmas.{by_key, replaced_keyed}
use Rattle.drm_gem.specs.declared.object.Object.{Object}
use Rattle.drm_gem.specs.Fields.{nothing, key_of, step_number_of}
use Rattle.drm_gem.specs.Objects.{changed_at}
use Rattle.drm_gem.proofs.Records.{changed}
use Rattle.drm_gem.proofs.objects.Objects.set.Goals as goal

pub unreachable-requires : goal.unreachable-requires
unreachable-requires c =
    let there =
    rw
    (← c.self.view_is, sym c.number.ensures, by_key key_of step_number_of nothing c.self.inside.keys.items c.self.inside.kept c.self.invariant c.number.result)
    at c.requires.there in
    none-some c.args.old (c.in_default.ensures.value ∙ there)

pub invariant_of-self : goal.invariant_of-self
invariant_of-self c =
    let there =
    rw
    (← c.self.view_is, sym c.number.ensures, by_key key_of step_number_of nothing c.self.inside.keys.items c.self.inside.kept c.self.invariant c.number.result)
    at c.requires.there in
    let present : IsSome (get c.self.inside.kept c.number.result) = subst IsSome c.in-Some.ensures.value refl in
    replaced_keyed key_of step_number_of nothing c.self.inside.keys.items c.self.inside.kept c.self.invariant
    c.number.result c.args.old (λ x. c.args.new) (with_value c.self.inside.kept c.number.result c.args.new) there
    c.requires.same_step c.requires.same_key
    (Updates-with_value c.self.inside.kept c.number.result c.args.new present)

pub returns : goal.returns
returns c = λ f is.
    let there =
    rw
    (← c.self.view_is, sym c.number.ensures, by_key key_of step_number_of nothing c.self.inside.keys.items c.self.inside.kept c.self.invariant c.number.result)
    at c.requires.there in
    let present : IsSome (get c.self.inside.kept c.number.result) = subst IsSome c.in-Some.ensures.value refl in
    let up =
    subst
    (λ x. Updates c.self.inside.kept (with_value c.self.inside.kept c.number.result c.args.new) c.number.result (Some x))
    (sym is) (Updates-with_value c.self.inside.kept c.number.result c.args.new present) in
    ap (λ (os : List Object). record { limit = c.self.inside.limit; objects = os })
    (changed c.self.inside.keys.items c.self.inside.kept c.self.invariant c.number.result c.args.old (with_value c.self.inside.kept c.number.result c.args.new) there f (ap step_number_of is ∙ c.requires.same_step) (ap key_of is ∙ c.requires.same_key) up)
    ∙ ap (changed_at c.number.result f) c.self.view_is
    ∙ ap (λ k. changed_at k f c.args.self.now) c.number.ensures
