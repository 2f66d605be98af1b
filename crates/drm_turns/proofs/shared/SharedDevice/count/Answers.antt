use Rattle.std.proofs.Common.{◌≡◌, ap, sym, ◌∙◌, subst, arith, false}
use Rattle.drm_model.specs.Reply.{reply}
use Rattle.drm_model.specs.Run.{no_room}
use Rattle.drm_turns.specs.declared.history.Entry.{Entry}
use Rattle.drm_turns.specs.History.{rows_after}
use Rattle.drm_turns.proofs.Moves.{counts_moves}
use Rattle.drm_turns.proofs.shared.SharedDevice.count.Goals as goal

pub fetch_add-requires : goal.fetch_add-requires
fetch_add-requires g c =
    let v = c.args.place.now.me.0 in
    let is = c.requires.entry in (
      c.requires.own ∙ sym c.self.view_is,
      (let w = c.self.invariant.0 in omega arith),
      counts_moves _ _ c.args.place.now.me g.E.Noted.entry c.requires.serving.0 (ap (λ (e : Entry). e.by) is)
          c.requires.serving.1 (let few = c.requires.serving.2 in omega arith)
          (subst (λ (e : Entry). no_room (rows_after v.origin v.seen) e.event ≡ false) (sym is) c.requires.legal.0)
          (subst (λ (e : Entry). e.answer ≡ reply (rows_after v.origin v.seen) e.event) (sym is) c.requires.legal.1),
    )
