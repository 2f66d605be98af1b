use Rattle.std.proofs.Common.{◌≡◌, ℕ, ◌<◌, ◌≤◌, ◌&&◌, true, false, length, None, sym, ap, ◌∙◌, subst, inl, inr}
use Rattle.std.specs.Option.{unwrap_or, is_some}
use Rattle.std.proofs.lemmas.Bool.{cases_lt}
use Rattle.drm_gem.specs.declared.objects.CreateFault.TheVariants as faults
use Rattle.drm_gem.proofs.NewestObject.{newest_unused, newest_last}
use Rattle.drm_files.specs.Files as files
use Rattle.drm_model.specs.Rows.{Rows, free_handle, has_object_room}
use Rattle.drm_model.specs.Buffers.{has_buffer_room, with_object}
use Rattle.drm_state.specs.declared.state.State.{State}
use Rattle.drm_state.specs.Invariants.{MeetsInvariants}
use Rattle.drm_state.specs.Refinement.{MakesBuffer, Represents}
use Rattle.drm_state.proofs.Refinements.{no_object_room, object_room}
use Rattle.drm_state.proofs.Sweeps.{unswept}
use Rattle.drm_state.proofs.NewBuffer.{made_there, taken_back, free_handle_is, made, made_invariants}
use Rattle.drm_client_calls.proofs.buffers.new_buffer.Goals as goal

no_handle : (w : Rows) (c : ℕ) → is_some (free_handle w c) ≡ false → has_buffer_room w c ≡ false
no_handle w c h = ap (λ b. b && has_object_room w) h

no_object : (w : Rows) (c : ℕ) → has_object_room w ≡ false → is_some (free_handle w c) ≡ true
    → has_buffer_room w c ≡ false
no_object w c h k = ap (λ b. b && has_object_room w) k ∙ h

room : (w : Rows) (c : ℕ) → is_some (free_handle w c) ≡ true → has_object_room w ≡ true → has_buffer_room w c ≡ true
room w c h k = ap (λ b. b && has_object_room w) h ∙ k

pub returns-then-not-has_room-clause-makes : goal.returns-then-not-has_room-clause-makes
unfolding MakesBuffer
returns-then-not-has_room-clause-makes c = λ w s.
    (no_handle w c.args.client (ap is_some (free_handle_is c.args.state.now w s.rows c.args.client) ∙ sym c.has_room.ensures ∙ c.if-not-has_room.true), s.rows)

pub returns-in-Err-Full-clause-makes : goal.returns-in-Err-Full-clause-makes
unfolding MakesBuffer
returns-in-Err-Full-clause-makes c = λ w s.
    let free =
    ap is_some (free_handle_is c.args.state.now w s.rows c.args.client) ∙ sym c.has_room.ensures
    ∙ c.if-not-has_room.false in
    let full = no_object_room c.args.state.now w s.rows (c.in-Err-Full.ensures.full.0 c.in-Err-Full.field-0-is) in
    (no_object w c.args.client full free, subst (λ o. Represents (record c.args.state.now { objects = o }) w) (sym c.in-Err-Full.ensures.err) s.rows)

below : (n limit : ℕ) → (limit ≤ n → ⊥) → n < limit
below n limit h = elim (cases_lt n limit) [ inl less ↦ less | inr le ↦ absurd (h le) ]

not_full : {f : faults.the_data} → f ≡ faults.NoMemory → f ≡ faults.Full → ⊥
not_full e h = let k : faults.NoMemory ≡ faults.Full = sym e ∙ h in cc

pub returns-in-Err-NoMemory-clause-makes : goal.returns-in-Err-NoMemory-clause-makes
unfolding MakesBuffer
returns-in-Err-NoMemory-clause-makes c = λ w s.
    let free =
    ap is_some (free_handle_is c.args.state.now w s.rows c.args.client) ∙ sym c.has_room.ensures
    ∙ c.if-not-has_room.false in
    let less : length c.args.state.now.objects.objects < c.args.state.now.objects.limit =
    below _ _ (λ le. not_full c.in-Err-NoMemory.field-0-is (c.in-Err-NoMemory.ensures.full.1 le)) in
    (room w c.args.client free (object_room c.args.state.now w s.rows less), subst (λ o. Represents (record c.args.state.now { objects = o }) w) (sym c.in-Err-NoMemory.ensures.err) s.rows)

pub create-requires : goal.create-requires
create-requires c =
    record { unused = newest_unused c.args.state.now.objects c.args.step_number c.requires.precondition.later.objects }

pub unhold-dead-requires : goal.unhold-dead-requires
unhold-dead-requires c =
    let last =
    newest_last c.args.state.now.objects c.in-Ok.made c.args.step_number c.args.size
    c.requires.precondition.later.objects in
    made_there c.args.state.now.objects c.create.new.self c.in-Ok.made c.args.step_number c.args.size
    c.in-Ok.ensures.fresh (c.in-Ok.ensures.ok ∙ last)

back : (c : goal.After-unhold-dead) → c.unhold-dead.new.self ≡ c.args.state.now.objects
back c =
    let last =
    newest_last c.args.state.now.objects c.in-Ok.made c.args.step_number c.args.size
    c.requires.precondition.later.objects in
    taken_back c.args.state.now.objects c.create.new.self c.unhold-dead.new.self c.in-Ok.made c.args.step_number
    c.args.size c.unhold-dead.result c.in-Ok.ensures.fresh (c.in-Ok.ensures.ok ∙ last) c.unhold-dead.ensures.dead
    c.unhold-dead.ensures.gone

pub returns-in_default-clause-makes : goal.returns-in_default-clause-makes
unfolding MakesBuffer
returns-in_default-clause-makes c = λ w s.
    let free = ap is_some (free_handle_is c.args.state.now w s.rows c.args.client) ∙ sym c.has_room.ensures ∙ c.if-not-has_room.false in (
      room w c.args.client free (object_room c.args.state.now w s.rows c.in-Ok.ensures.room),
      subst (λ fs. Represents (record c.args.state.now { files = fs; objects = c.unhold-dead.new.self }) w)
          (sym c.in_default.ensures.err)
          (subst (λ o. Represents (record c.args.state.now { objects = o }) w) (sym (back c)) s.rows),
    )

pub returns-in_default-clause-invariants : goal.returns-in_default-clause-invariants
returns-in_default-clause-invariants c =
    subst (λ fs. MeetsInvariants (record c.args.state.now { files = fs; objects = c.unhold-dead.new.self }))
    (sym c.in_default.ensures.err)
    (subst (λ o. MeetsInvariants (record c.args.state.now { objects = o })) (sym (back c)) c.requires.precondition.invariants)

pub returns-clause-invariants : goal.returns-clause-invariants
returns-clause-invariants c =
    let last =
    newest_last c.args.state.now.objects c.in-Ok.made c.args.step_number c.args.size
    c.requires.precondition.later.objects in
    subst (λ fs. MeetsInvariants (record c.args.state.now { files = fs; objects = c.create.new.self }))
    (sym c.in-Ok-add_handle.ensures.ok)
    (subst (λ o. MeetsInvariants (record c.args.state.now { files = files.with_handle_row c.args.state.now.files (files.hold c.args.client c.in-Ok-add_handle.handle c.in-Ok.made None); objects = o })) (sym (c.in-Ok.ensures.ok ∙ last))
    (made_invariants c.args.state.now c.args.client c.in-Ok-add_handle.handle c.in-Ok.made c.args.step_number c.args.size c.requires.precondition.invariants c.requires.precondition.later.objects c.in-Ok.ensures.fresh c.in-Ok-add_handle.ensures.given))

pub returns-clause-makes : goal.returns-clause-makes
unfolding MakesBuffer
returns-clause-makes c = λ w s.
    let last =
    newest_last c.args.state.now.objects c.in-Ok.made c.args.step_number c.args.size
    c.requires.precondition.later.objects in
    let free = free_handle_is c.args.state.now w s.rows c.args.client in
    let number = ap (λ o. unwrap_or o 0) (sym (free ∙ c.in-Ok-add_handle.ensures.given)) in
    let state : State = record c.args.state.now { files = c.add_handle.new.files; objects = c.create.new.self } in
    let more : Represents state (with_object w c.args.client c.args.size) =
    subst
    (λ fs. Represents (record c.args.state.now { files = fs; objects = c.create.new.self }) (with_object w c.args.client c.args.size))
    (sym c.in-Ok-add_handle.ensures.ok)
    (subst (λ o. Represents (record c.args.state.now { files = files.with_handle_row c.args.state.now.files (files.hold c.args.client c.in-Ok-add_handle.handle c.in-Ok.made None); objects = o }) (with_object w c.args.client c.args.size)) (sym (c.in-Ok.ensures.ok ∙ last))
    (made c.args.state.now w c.args.client c.in-Ok-add_handle.handle c.in-Ok.made c.args.step_number c.args.size c.requires.precondition.invariants s c.in-Ok.ensures.fresh c.in-Ok-add_handle.ensures.given)) in (
      room w c.args.client (ap is_some free ∙ sym c.has_room.ensures ∙ c.if-not-has_room.false)
          (object_room c.args.state.now w s.rows c.in-Ok.ensures.room),
      number,
      unswept state (with_object w c.args.client c.args.size) (returns-clause-invariants c) more,
    )
