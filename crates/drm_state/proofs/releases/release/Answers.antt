use Rattle.std.proofs.Common.{sym, subst}
use Rattle.drm_state.specs.Invariants.{Leaves}
use Rattle.drm_state.proofs.Contents.{has_handle}
use Rattle.drm_state.proofs.LastHandles.{leaves_last, leaves_others}
use Rattle.drm_state.proofs.releases.release.Goals as goal
use Rattle.drm_state.proofs.releases.release.Goals.{then-is_last, else-is_last}

pub unhold-dead-requires : goal.unhold-dead-requires
unhold-dead-requires c =
    has_handle c.args.objects.now c.args.object c.requires.invariants.0 c.requires.invariants.1 c.requires.invariants.2

pub returns : goal.returns
returns c = record {
  leaves = λ keys refs invariants named.
      elim c.if-is_last.branch [
        | then-is_last w ↦
            subst (λ now. Leaves c.args.names.now c.args.objects.now keys refs now c.unhold-dead.new.self)
            (sym w.names-is)
            (leaves_last c.args.names.now c.args.objects.now c.unhold-dead.new.self c.args.object c.holds-is_last.result keys refs c.unhold-dead.result invariants named c.holds-is_last.ensures c.unhold-dead.ensures.dead c.unhold-dead.ensures.gone c.unhold-dead.ensures.stays
            w.forget.new.self w.if-is_last.true w.forget.ensures)
        | else-is_last w ↦
            subst (λ now. Leaves c.args.names.now c.args.objects.now keys refs now c.unhold-dead.new.self)
            (sym w.names-is)
            (leaves_others c.args.names.now c.args.objects.now c.unhold-dead.new.self c.args.object c.holds-is_last.result keys refs c.unhold-dead.result invariants named c.holds-is_last.ensures c.unhold-dead.ensures.dead c.unhold-dead.ensures.gone c.unhold-dead.ensures.stays w.if-is_last.false)
      ];
}
