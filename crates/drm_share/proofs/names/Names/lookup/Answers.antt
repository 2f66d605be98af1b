use Rattle.std.proofs.Common.{ap, sym, ◌∙◌, find, option_map}
use Rattle.drm_share.specs.Names.{NameList, is_name}
use Rattle.drm_share.proofs.NameFacts.{object_is, names_are}
use Rattle.drm_share.proofs.names.Names.lookup.Goals as goal

pub returns-clause-object : goal.returns-clause-object
returns-clause-object c =
    c.copied.ensures
    ∙ c.get.ensures.value
    ∙ sym (object_is c.self.inside.objects c.args.name)
    ∙ ap (λ (l : NameList). option_map (λ row. row.object) (find (is_name c.args.name) l.names)) c.self.view_is

pub returns-clause-names : goal.returns-clause-names
returns-clause-names c =
    rw (← c.self.view_is) (names_are c.self.inside.objects c.self.inside.names.items c.self.invariant)
