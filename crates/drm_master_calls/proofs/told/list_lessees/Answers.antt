use Rattle.std.proofs.Common.{filter, sym, ap, ◌∙◌}
use Rattle.drm_table.specs.declared.answers.Answer.TheVariants.{List as ListIs}
use Rattle.drm_table.specs.declared.calls.Call.TheVariants.{ListLessees}
use Rattle.drm_table.specs.declared.events.Event.TheVariants.{Ask}
use Rattle.drm_modes.specs.Numbers.{numbers_from}
use Rattle.drm_model.specs.Leases as model
use Rattle.drm_model.specs.Calls.{meaning}
use Rattle.drm_model.specs.Change.{changed}
use Rattle.drm_model.specs.Reply.{answer_of}
use Rattle.drm_leases.specs.Leases.{lessee_ids}
use Rattle.drm_leases.proofs.MasterKeys.{keyed_step_number, keyed_there}
use Rattle.drm_state.specs.Callers.{as_caller}
use Rattle.drm_state.specs.Refinement.{RefinesReply}
use Rattle.drm_state.proofs.Refinements.{carried_on, call_verdict}
use Rattle.drm_state.proofs.Callers.{caller_file, own_master_is}
use Rattle.drm_master_calls.proofs.LesseeRows.{lessees_listed, none_there, caller_master_there}
use Rattle.drm_master_calls.proofs.told.list_lessees.Goals as goal

pub unreachable-requires : goal.unreachable-requires
unreachable-requires c =
    none_there _
    (caller_master_there c.args.state.now c.requires.invariants c.args.caller.client c.args.caller.member (sym c.requires.caller.member))
    (sym c.master.ensures.master ∙ c.in_default.is)

pub list-requires : goal.list-requires
list-requires c =
    keyed_there c.args.state.now.masters.masters c.args.caller.member.master c.in-Some.master.key
    c.in-Some.ensures.keyed

pub returns : goal.returns
unfolding RefinesReply meaning changed answer_of
returns c = rw c.set_list.ensures.list (λ w h admitted.
    let s = c.args.state.now in
    let client = c.args.caller.client in
    let x = c.args.caller.member in
    let file = caller_file s (as_caller c.args.caller) c.requires.caller in
    let own = own_master_is s w client c.args.caller.flags x h file (sym c.requires.caller.member) in
    carried_on s w (Ask client ListLessees) (ListIs c.list.result) c.requires.invariants
    (call_verdict w client ListLessees admitted)
    (ap ListIs (c.list.ensures ∙ ap (lessee_ids s.leases.grants s.masters.masters s.masters.last_lessee) (keyed_step_number s.masters.masters x.master c.in-Some.master.key c.in-Some.ensures.keyed) ∙ sym ((λ i. filter (model.has_lessee w (own i)) (numbers_from 1 w.limits.lessees)) ∙ lessees_listed s w h x.master)))
    h)
