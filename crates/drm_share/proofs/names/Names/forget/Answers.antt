use Rattle.std.proofs.Common.{ap, sym, ◌∙◌}
use Rattle.std.specs.FinMap as fin
use Rattle.drm_share.specs.Names.{NameList, without_name_of}
use Rattle.drm_share.specs.Tables.{name_list}
use Rattle.drm_share.proofs.NameFacts.{has-removed, forgotten, none_forgotten}
use Rattle.drm_share.proofs.names.Names.forget.Goals as goal

pub invariant_of-self : goal.invariant_of-self
invariant_of-self c =
    let inside = c.self.inside in
    let is = ap (fin.get inside.names.items) (sym c.number.ensures) ∙ sym c.in-Some.ensures.value in
    rw (c.remove-object.ensures.after, c.in-Some.ensures.after, c.number.ensures)
    (has-removed inside.objects inside.names.items c.self.invariant c.in-Some.name c.args.object is)

pub returns-in-Some : goal.returns-in-Some
returns-in-Some c =
    let inside = c.self.inside in
    let is = ap (fin.get inside.names.items) (sym c.number.ensures) ∙ sym c.in-Some.ensures.value in
    ap name_list c.remove-object.ensures.after
    ∙ forgotten inside.objects inside.names.items c.self.invariant c.in-Some.name c.args.object is
    ∙ ap (λ (l : NameList). without_name_of l c.args.object) c.self.view_is

pub returns-in_default : goal.returns-in_default
returns-in_default c =
    let inside = c.self.inside in
    let none = ap (fin.get inside.names.items) (sym c.number.ensures) ∙ sym c.in_default.ensures.value in
    sym (none_forgotten inside.objects inside.names.items c.self.invariant c.args.object none)
    ∙ ap (λ (l : NameList). without_name_of l c.args.object) c.self.view_is
