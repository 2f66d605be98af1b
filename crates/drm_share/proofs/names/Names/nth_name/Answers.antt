use Rattle.std.proofs.Common.{ap, ◌∙◌, slice_get, option_map, option_and_then}
use Rattle.std.specs.FinMap as fin
use Rattle.drm_index_array.proofs.RowsByKey.{row_at}
use Rattle.drm_share.specs.Names.{NameList, shared_name}
use Rattle.drm_share.specs.Tables.{name_row}
use Rattle.drm_share.proofs.NameFacts.{names_are}
use Rattle.drm_share.proofs.names.Names.nth_name.Goals as goal

pub returns-in_err-name-clause-row : goal.returns-in_err-name-clause-row
returns-in_err-name-clause-row c =
    let slots = c.self.inside.objects.slots in
    c.from_residual.ensures
    ∙ ap (option_and_then (λ n. option_map (λ v. name_row (n, v)) (fin.get slots n))) c.in_err-name.ensures.nth
    ∙ row_at slots 0 name_row c.args.position
    ∙ ap (λ (l : NameList). slice_get l.names c.args.position) c.self.view_is

pub returns-in_err-object-clause-row : goal.returns-in_err-object-clause-row
returns-in_err-object-clause-row c =
    let slots = c.self.inside.objects.slots in
    c.from_residual-in_err-object.ensures
    ∙ ap (option_map (shared_name c.in_ok-name.name)) c.in_err-object.ensures.value
    ∙ ap (option_and_then (λ n. option_map (λ v. name_row (n, v)) (fin.get slots n))) c.in_ok-name.ensures.nth
    ∙ row_at slots 0 name_row c.args.position
    ∙ ap (λ (l : NameList). slice_get l.names c.args.position) c.self.view_is

pub returns-clause-row : goal.returns-clause-row
returns-clause-row c =
    let slots = c.self.inside.objects.slots in
    ap (option_map (shared_name c.in_ok-name.name)) c.in_ok-object.ensures.value
    ∙ ap (option_and_then (λ n. option_map (λ v. name_row (n, v)) (fin.get slots n))) c.in_ok-name.ensures.nth
    ∙ row_at slots 0 name_row c.args.position
    ∙ ap (λ (l : NameList). slice_get l.names c.args.position) c.self.view_is

pub returns-in_err-name-clause-names : goal.returns-in_err-name-clause-names
returns-in_err-name-clause-names c =
    rw (← c.self.view_is) (names_are c.self.inside.objects c.self.inside.names.items c.self.invariant)

pub returns-in_err-object-clause-names : goal.returns-in_err-object-clause-names
returns-in_err-object-clause-names c =
    rw (← c.self.view_is) (names_are c.self.inside.objects c.self.inside.names.items c.self.invariant)

pub returns-clause-names : goal.returns-clause-names
returns-clause-names c =
    rw (← c.self.view_is) (names_are c.self.inside.objects c.self.inside.names.items c.self.invariant)
