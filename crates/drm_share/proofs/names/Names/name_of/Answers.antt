use Rattle.std.proofs.Common.{ap, ◌∙◌}
use Rattle.std.specs.FinMap as fin
use Rattle.drm_share.specs.Names.{NameList, name_of}
use Rattle.drm_share.proofs.NameFacts.{names_are, name_is}
use Rattle.drm_share.proofs.names.Names.name_of.Goals as goal

pub returns-clause-name : goal.returns-clause-name
returns-clause-name c =
    c.copied.ensures
    ∙ c.get.ensures.value
    ∙ ap (fin.get c.self.inside.names.items) c.number.ensures
    ∙ name_is c.self.inside.objects c.self.inside.names.items c.self.invariant c.args.object
    ∙ ap (λ (l : NameList). name_of l c.args.object) c.self.view_is

pub returns-clause-names : goal.returns-clause-names
returns-clause-names c =
    rw (← c.self.view_is) (names_are c.self.inside.objects c.self.inside.names.items c.self.invariant)
