use Rattle.std.proofs.Common.{◌<◌, false, List, filter, sym, ap, subst, ◌∙◌}
use Rattle.std.specs.List.{AllByRecursion}
use Rattle.drm_index_array.specs.Orders.{InOrder}
use Rattle.drm_masters.specs.declared.rows.Master.{Master}
use Rattle.drm_masters.specs.Fields.{set_of}
use Rattle.drm_masters.specs.Masters.{MasterSet, HasOlderLessor, is_living, swept}
use Rattle.drm_masters.specs.Calls as calls
use Rattle.drm_masters.proofs.Pushed.{kept_keyed}
use Rattle.drm_masters.proofs.Upward.{OthersUsed}
use Rattle.drm_masters.proofs.MastersStaySound.{sound, swept_are, kept_ties, released_used, keyed_fewer, known}
use Rattle.drm_masters.proofs.masters.Masters.release.Goals as goal

pub sweep_up-requires : goal.sweep_up-requires
sweep_up-requires c =
    let v = c.args.self.now in
    let so = known c.self.inside v c.self.view_is c.self.invariant in
    let m = c.in-Some.released.step_number in
    let t = kept_ties v so.are m false in
    let masters = c.set_kept.ensures ∙ ap (λ (u : MasterSet). (calls.with_kept m false u).masters) c.self.view_is in
    record {
      rise = subst (λ l. InOrder (λ (x y : Master). x.step_number < y.step_number) l) (sym masters) t.masters_rise;
      older = subst (λ l. AllByRecursion (HasOlderLessor l) l) (sym masters) t.lessors_older;
      others =
          subst (λ l. OthersUsed c.self.inside.members.items l m) (sym c.set_kept.ensures)
          (subst (λ (w : MasterSet). OthersUsed w.members (calls.with_kept m false w).masters m) (sym c.self.view_is) (released_used v so.are m));
    }

pub invariant_of-self : goal.invariant_of-self
invariant_of-self c =
    let v = c.args.self.now in
    let so = known c.self.inside v c.self.view_is c.self.invariant in
    let mem = c.self.inside.members.items in
    let new = calls.with_kept c.in-Some.released.step_number false v in
    let left = λ (l : List Master). let r : MasterSet = record { members = mem; masters = filter (λ (u : Master). is_living mem l u.step_number) l; device_master = c.self.inside.device_master; last_magic = c.self.inside.last_magic; last_lessee = c.self.inside.last_lessee } in r in
    sound _ (swept new)
    ((λ i. record (set_of c.self.inside) { masters = c.sweep_up.ensures i })
    ∙ ap left c.set_kept.ensures
    ∙ ap (λ (u : MasterSet). swept (calls.with_kept c.in-Some.released.step_number false u)) c.self.view_is
    )
    (swept_are new (kept_ties c.args.self.now so.are c.in-Some.released.step_number false))
    (keyed_fewer new.masters (λ (u : Master). is_living v.members new.masters u.step_number) (kept_keyed c.in-Some.released.step_number false v.masters so.keyed))
