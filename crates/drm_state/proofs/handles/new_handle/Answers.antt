use Rattle.std.proofs.Common.{refl, sym, ap, ◌∙◌, subst}
use Rattle.std.specs.Option.{is_some}
use Rattle.drm_files.specs.FileFault.{IsFull}
use Rattle.drm_files.specs.Files as files
use Rattle.drm_model.specs.Rows.{with_handle_row}
use Rattle.drm_model.specs.Change.{swept}
use Rattle.drm_state.specs.Parts.{step_number_at}
use Rattle.drm_state.specs.Invariants.{MeetsInvariants}
use Rattle.drm_state.specs.Refinement.{AddsHandle, Represents}
use Rattle.drm_state.proofs.NewBuffer.{free_handle_is}
use Rattle.drm_state.proofs.SharedChanges.{added, added_invariants, can_hold}
use Rattle.drm_state.proofs.FoundHandle.{some_free}
use Rattle.drm_state.proofs.handles.new_handle.Goals as goal

pub returns-in-Err-Full-clause-adds : goal.returns-in-Err-Full-clause-adds
unfolding AddsHandle
returns-in-Err-Full-clause-adds c = λ w r.
    (free_handle_is c.args.state.now w r c.args.client ∙ c.in-Err-Full.ensures.full.0 (subst IsFull (sym c.in-Err-Full.field-0-is) tt), subst (λ fs. Represents (record c.args.state.now { files = fs }) w) (sym c.in-Err-Full.ensures.err) r)

pub returns-in-Err-NoMemory-clause-adds : goal.returns-in-Err-NoMemory-clause-adds
unfolding AddsHandle
returns-in-Err-NoMemory-clause-adds c = λ w r.
    let some =
    some_free (files.free_handle c.args.state.now.files c.args.client)
    (λ e. subst IsFull c.in-Err-NoMemory.field-0-is (c.in-Err-NoMemory.ensures.full.1 e)) in
    (ap is_some (free_handle_is c.args.state.now w r c.args.client) ∙ some, subst (λ fs. Represents (record c.args.state.now { files = fs }) w) (sym c.in-Err-NoMemory.ensures.err) r)

pub hold-requires : goal.hold-requires
hold-requires c =
    can_hold c.args.state.now c.args.object c.args.step_number c.requires.precondition.invariants c.requires.known
    c.requires.precondition.later.holds c.requires.precondition.fits

pub returns-clause-invariants : goal.returns-clause-invariants
returns-clause-invariants c =
    subst (λ fs. MeetsInvariants (record c.args.state.now { files = fs; objects = c.hold.new.self }))
    (sym c.in-Ok.ensures.ok)
    (subst (λ o. MeetsInvariants (record c.args.state.now { files = files.with_handle_row c.args.state.now.files (files.hold c.args.client c.in-Ok.handle c.args.object c.args.export_order); objects = o })) (sym c.hold.ensures)
    (added_invariants c.args.state.now c.args.client c.in-Ok.handle c.args.object c.args.export_order c.requires.precondition.invariants c.requires.known c.in-Ok.ensures.given))

pub returns-clause-adds : goal.returns-clause-adds
unfolding AddsHandle
returns-clause-adds c = λ w r.
    let o = step_number_at c.args.state.now.objects.objects c.args.object in (
      free_handle_is c.args.state.now w r c.args.client ∙ c.in-Ok.ensures.given,
      subst
          (λ fs. Represents (record c.args.state.now { files = fs; objects = c.hold.new.self }) (swept (record w { holds = with_handle_row w c.args.client o c.args.export_order })))
          (sym c.in-Ok.ensures.ok)
          (subst (λ x. Represents (record c.args.state.now { files = files.with_handle_row c.args.state.now.files (files.hold c.args.client c.in-Ok.handle c.args.object c.args.export_order); objects = x }) (swept (record w { holds = with_handle_row w c.args.client o c.args.export_order }))) (sym c.hold.ensures)
          (added c.args.state.now c.args.client c.in-Ok.handle c.args.object c.args.export_order c.requires.precondition.invariants c.requires.known c.in-Ok.ensures.given w o r refl)),
    )
