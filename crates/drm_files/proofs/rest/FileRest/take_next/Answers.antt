use Rattle.std.proofs.Common.{ap, sym, ◌∙◌, slice_get, drop}
use Rattle.drm_files.specs.Records.{pairs_from}
use Rattle.drm_files.proofs.Rests.{nothing_left, taken, above}
use Rattle.drm_files.proofs.rest.FileRest.take_next.Goals as goal

pub returns-in_err-handle-clause-first : goal.returns-in_err-handle-clause-first
returns-in_err-handle-clause-first c =
    let table = c.self.inside.handles in
    let none = nothing_left table c.in_ok-from.from c.in_err-handle.ensures.none_above in
    c.from_residual-in_err-handle.ensures
    ∙ ap (λ l. slice_get l 0) (sym none ∙ ap (pairs_from table) (sym c.in_ok-from.was) ∙ c.self.view_is)

pub returns-in_err-handle-clause-rest : goal.returns-in_err-handle-clause-rest
returns-in_err-handle-clause-rest c =
    let table = c.self.inside.handles in
    let none = nothing_left table c.in_ok-from.from c.in_err-handle.ensures.none_above in
    let left = sym c.self.view_is ∙ ap (pairs_from table) c.in_ok-from.was ∙ none in
    left ∙ ap (drop 1) (sym left)

pub returns-clause-first : goal.returns-clause-first
returns-clause-first c =
    let table = c.self.inside.handles in
    let left =
    taken table c.in_ok-from.from c.in_ok-handle.handle c.in_ok-handle.held.now (sym c.in_ok-handle.ensures.least)
    c.in_ok-handle.ensures.held in
    ap (λ l. slice_get l 0) (sym left ∙ ap (pairs_from table) (sym c.in_ok-from.was) ∙ c.self.view_is)

pub returns-clause-rest : goal.returns-clause-rest
returns-clause-rest c =
    let table = c.self.inside.handles in
    let h = c.in_ok-handle.handle in
    let left =
    taken table c.in_ok-from.from h c.in_ok-handle.held.now (sym c.in_ok-handle.ensures.least)
    c.in_ok-handle.ensures.held in
    above table h c.checked_add-self-inside.result c.in_ok-handle.ensures.bound c.checked_add-self-inside.ensures
    ∙ ap (drop 1) (sym left ∙ ap (pairs_from table) (sym c.in_ok-from.was) ∙ c.self.view_is)
