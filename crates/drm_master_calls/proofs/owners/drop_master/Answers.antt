use Rattle.std.proofs.Common.{None, refl, sym, subst, ◌∙◌}
use Rattle.std.specs.Prelude.{IfSome}
use Rattle.drm_table.specs.declared.answers.Answer.TheVariants.{Done}
use Rattle.drm_table.specs.declared.calls.Call.TheVariants.{DropMaster}
use Rattle.drm_table.specs.declared.events.Event.TheVariants.{Ask}
use Rattle.drm_masters.specs.Masters.{AreMasters}
use Rattle.drm_masters.specs.Calls.{DroppedBy}
use Rattle.drm_model.specs.Change.{changed}
use Rattle.drm_model.specs.Calls.{meaning}
use Rattle.drm_model.specs.Reply.{answer_of}
use Rattle.drm_state.specs.Callers.{as_caller}
use Rattle.drm_state.specs.Invariants.{MeetsInvariants}
use Rattle.drm_state.specs.Refinement.{RefinesReply, Represents}
use Rattle.drm_state.proofs.Refinements.{denied, carried_on}
use Rattle.drm_state.proofs.Callers.{caller_root, caller_file}
use Rattle.drm_master_calls.proofs.Callers.{drop_verdict}
use Rattle.drm_master_calls.proofs.Changed.{device_invariants, device_represents}
use Rattle.drm_master_calls.proofs.owners.drop_master.Goals as goal

pub returns-in-Ok-clause-invariants : goal.returns-in-Ok-clause-invariants
returns-in-Ok-clause-invariants c =
    let s = c.args.state.now in
    let done =
    subst
    (λ o. IfSome o (λ x. DroppedBy s.masters x c.args.caller.flags.root c.drop_master.result c.drop_master.new.self))
    (sym c.requires.caller.member) c.drop_master.ensures.dropped in
    let now =
    (subst (λ r. DroppedBy s.masters c.args.caller.member c.args.caller.flags.root r c.drop_master.new.self) c.in-Ok.is done).1
    in
    subst (λ v. MeetsInvariants (record s { masters = v })) (sym now)
    (device_invariants s None c.requires.invariants (subst AreMasters now c.laws.ensures))

pub returns-in-Ok-clause-refines : goal.returns-in-Ok-clause-refines
unfolding RefinesReply meaning changed answer_of
returns-in-Ok-clause-refines c = rw c.set_done.ensures.done (λ w h admitted.
    let s = c.args.state.now in
    let file = caller_file s (as_caller c.args.caller) c.requires.caller in
    let look = sym c.requires.caller.member in
    let done =
    subst
    (λ o. IfSome o (λ x. DroppedBy s.masters x c.args.caller.flags.root c.drop_master.result c.drop_master.new.self))
    look c.drop_master.ensures.dropped in
    let by =
    subst (λ r. DroppedBy s.masters c.args.caller.member c.args.caller.flags.root r c.drop_master.new.self)
    c.in-Ok.is done in
    let none =
    drop_verdict s w c.args.caller.client c.args.caller.flags c.args.caller.member h file look
    c.args.caller.flags.root (caller_root s (as_caller c.args.caller) c.requires.caller) admitted
    ∙ by.0 in
    carried_on (record s { masters = c.drop_master.new.self }) w (Ask c.args.caller.client DropMaster) Done
    (returns-in-Ok-clause-invariants c) none refl
    (subst (λ v. Represents (record s { masters = v }) (record w { device_master = None })) (sym by.1) (device_represents s w None h)))

pub returns-in-Err-clause-refines : goal.returns-in-Err-clause-refines
unfolding RefinesReply meaning
returns-in-Err-clause-refines c = rw c.set_denied.ensures.denied (λ w h admitted.
    let s = c.args.state.now in
    let file = caller_file s (as_caller c.args.caller) c.requires.caller in
    let look = sym c.requires.caller.member in
    let done =
    subst
    (λ o. IfSome o (λ x. DroppedBy s.masters x c.args.caller.flags.root c.drop_master.result c.drop_master.new.self))
    look c.drop_master.ensures.dropped in
    let by =
    subst (λ r. DroppedBy s.masters c.args.caller.member c.args.caller.flags.root r c.drop_master.new.self)
    c.in-Err.is done in
    denied (record s { masters = c.drop_master.new.self }) w (Ask c.args.caller.client DropMaster) c.in-Err.rule
    (drop_verdict s w c.args.caller.client c.args.caller.flags c.args.caller.member h file look c.args.caller.flags.root (caller_root s (as_caller c.args.caller) c.requires.caller) admitted ∙ by.0)
    (subst (λ v. Represents (record s { masters = v }) w) (sym by.1) h))
