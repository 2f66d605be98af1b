use Rattle.std.proofs.Common.{◌≡◌, ℕ, Bool, List, Some, sym, ap, ◌∙◌}
use Rattle.std.specs.Prelude.{if◌then◌else◌}
use Rattle.std.specs.Option.{is_some, option_and_then}
use Rattle.drm_masters.specs.declared.rows.Master.{Master}
use Rattle.drm_masters.specs.Masters.{master_at}
use Rattle.drm_table.specs.declared.answers.Answer.TheVariants.{List as ListIs}
use Rattle.drm_table.specs.declared.calls.Call.TheVariants.{GetLease}
use Rattle.drm_table.specs.declared.events.Event.TheVariants.{Ask}
use Rattle.drm_model.specs.Numbers.{rising}
use Rattle.drm_model.specs.Magics.{caller_master}
use Rattle.drm_model.specs.Masters.{is_lessee}
use Rattle.drm_model.specs.Leases.{granted_of, leasable_ids}
use Rattle.drm_model.specs.Calls.{meaning}
use Rattle.drm_model.specs.Change.{changed}
use Rattle.drm_model.specs.Reply.{answer_of}
use Rattle.drm_state.specs.Callers.{as_caller}
use Rattle.drm_state.specs.Refinement.{RefinesReply}
use Rattle.drm_state.proofs.Refinements.{carried_on, call_verdict}
use Rattle.drm_state.proofs.Callers.{caller_file, lessee_is, own_master_is}
use Rattle.drm_state.proofs.Seeing.{topology_is}
use Rattle.drm_master_calls.proofs.LesseeRows.{lease_listed, objects_by_key, none_there, caller_master_there}
use Rattle.drm_master_calls.proofs.told.get_lease.Goals as goal
use Rattle.drm_master_calls.proofs.told.get_lease.Goals.{then-is_some, else-is_some}

pub unreachable-requires : goal.unreachable-requires
unreachable-requires c =
    none_there _
    (caller_master_there c.args.state.now c.requires.invariants c.args.caller.client c.args.caller.member (sym c.requires.caller.member))
    (sym c.master.ensures.master ∙ c.in_default.is)

pub returns : goal.returns
unfolding RefinesReply meaning changed answer_of
returns c = rw c.set_list.ensures.list (λ w h admitted.
    let s = c.args.state.now in
    let client = c.args.caller.client in
    let x = c.args.caller.member in
    let file = caller_file s (as_caller c.args.caller) c.requires.caller in
    let look = sym c.requires.caller.member in
    let own = own_master_is s w client c.args.caller.flags x h file look in
    let row : master_at s.masters.masters x.master ≡ Some c.in-Some.master =
    sym c.master.ensures.master ∙ c.in-Some.is in
    let is : is_lessee w client ≡ c.is_some.result =
    lessee_is s w client c.args.caller.flags x h file look
    ∙ ap (λ o. is_some (option_and_then (λ (y : Master). y.lessor) o)) row ∙ sym c.is_some.ensures in
    let told = λ (b : Bool). let l : List ℕ = if b then rising (granted_of w (caller_master w client)) else leasable_ids w.topology in l in
    let list : c.if-is_some.list ≡ told (is_lessee w client) = elim c.if-is_some.branch [
      | then-is_some b ↦ b.list-is ∙ b.objects_of-list.ensures ∙ objects_by_key s c.requires.invariants x.master c.in-Some.master.key c.in-Some.ensures.keyed ∙ sym (ap told (is ∙ b.if-is_some.true) ∙ ap (λ m. rising (granted_of w m)) own ∙ lease_listed s w h c.requires.invariants x.master)
      | else-is_some b ↦ b.list-is ∙ b.leasable-list.ensures ∙ sym (ap told (is ∙ b.if-is_some.false) ∙ ap leasable_ids (topology_is s w h))
    ] in
    carried_on s w (Ask client GetLease) (ListIs c.if-is_some.list) c.requires.invariants
    (call_verdict w client GetLease admitted) (ap ListIs list) h)
