use Rattle.std.proofs.Common.{◌≡◌, ap, sym, ◌∙◌, arith}
use Rattle.std.specs.FinMap as fin
use Rattle.drm_id_alloc.specs.Table.{without_entry}
use Rattle.drm_id_alloc.proofs.TableLemmas.{taken_back}
use Rattle.drm_share.specs.Names.{NameList, with_name}
use Rattle.drm_share.specs.Tables.{name_list}
use Rattle.std.proofs.lemmas.Option.{none-some}
use Rattle.drm_share.proofs.NameFacts.{free_name_is, name_given, has-given}
use Rattle.drm_share.proofs.names.Names.give.Goals as goal

pub returns-in-Err-Full-clause-full : goal.returns-in-Err-Full-clause-full
returns-in-Err-Full-clause-full c =
    let free = free_name_is c.self.inside.objects c.self.invariant.numbered.first_is in
    let full = rw c.in-Err-Full.field-0-is at c.in-Err-Full.ensures.full in
    rw (← c.self.view_is) ((λ _. free ∙ full.0 tt), λ _. tt)

pub returns-in-Err-NoMemory-clause-full : goal.returns-in-Err-NoMemory-clause-full
returns-in-Err-NoMemory-clause-full c =
    let free = free_name_is c.self.inside.objects c.self.invariant.numbered.first_is in
    let full = rw c.in-Err-NoMemory.field-0-is at c.in-Err-NoMemory.ensures.full in
    rw (← c.self.view_is) ((λ none. absurd none), λ none. full.1 (sym free ∙ none))

-- the name is taken back
pub invariant_of-self-in-Err : goal.invariant_of-self-in-Err
invariant_of-self-in-Err c =
    let inside = c.self.inside in
    let back : c.remove-returned.new.self ≡ inside.objects =
    c.remove-returned.ensures.after ∙ ap (λ t. without_entry t c.in-Ok.name) c.in-Ok.ensures.ok ∙ taken_back inside.objects c.in-Ok.name c.args.object c.in-Ok.ensures.fresh in
    rw (back, c.in-Err.ensures.err) c.self.invariant

pub returns-in-Err-clause-err : goal.returns-in-Err-clause-err
returns-in-Err-clause-err c =
    let inside = c.self.inside in
    let back : c.remove-returned.new.self ≡ inside.objects =
    c.remove-returned.ensures.after ∙ ap (λ t. without_entry t c.in-Ok.name) c.in-Ok.ensures.ok ∙ taken_back inside.objects c.in-Ok.name c.args.object c.in-Ok.ensures.fresh in
    ap name_list back ∙ c.self.view_is

pub returns-in-Err-clause-full : goal.returns-in-Err-clause-full
returns-in-Err-clause-full c =
    let free = free_name_is c.self.inside.objects c.self.invariant.numbered.first_is in
    rw (← c.self.view_is)
    ((λ none. absurd none), λ none. none-some c.in-Ok.name (sym none ∙ free ∙ c.in-Ok.ensures.given))

pub invariant_of-self-in_default : goal.invariant_of-self-in_default
invariant_of-self-in_default c =
    let inside = c.self.inside in
    let unnamed = ap (fin.get inside.names.items) (sym c.number.ensures) ∙ c.in_default.ensures.absent in
    rw (c.in-Ok.ensures.ok, c.in_default.ensures.ok, c.number.ensures)
    (has-given inside.objects inside.names.items c.self.invariant c.in-Ok.name c.args.object unnamed c.in-Ok.ensures.fresh c.in-Ok.ensures.low c.in-Ok.ensures.high)

pub returns-clause-given : goal.returns-clause-given
returns-clause-given c =
    rw (← c.self.view_is)
    (free_name_is c.self.inside.objects c.self.invariant.numbered.first_is ∙ c.in-Ok.ensures.given)

pub returns-clause-low : goal.returns-clause-low
returns-clause-low c = omega (arith, c.in-Ok.ensures.low, c.self.invariant.numbered.first_is)

pub returns-clause-high : goal.returns-clause-high
returns-clause-high c = rw (← c.self.view_is) c.in-Ok.ensures.high

pub returns-clause-ok : goal.returns-clause-ok
returns-clause-ok c =
    ap name_list c.in-Ok.ensures.ok
    ∙ name_given c.self.inside.objects c.in-Ok.name c.args.object c.in-Ok.ensures.fresh
    ∙ ap (λ (l : NameList). with_name l c.in-Ok.name c.args.object) c.self.view_is
