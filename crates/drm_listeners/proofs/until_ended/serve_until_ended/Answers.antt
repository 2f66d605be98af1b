use Rattle.std.proofs.Common.{◌≡◌, List, ◌∙◌, length, sym, ap, subst, arith}
use Rattle.drm_model.specs.Run.{DeviceValue}
use Rattle.drm_turns.specs.declared.history.Entry.{Entry}
use Rattle.drm_turns.specs.History.{StartsWith, journaled_before}
use Rattle.drm_listeners.specs.UntilEnded.{counts_of}
use Rattle.drm_listeners.proofs.AllSessions.{all-served}
use Rattle.drm_listeners.proofs.until_ended.serve_until_ended.Goals as goal

pub returns-in-Ok-kept-clause-served : goal.returns-in-Ok-kept-clause-served
returns-in-Ok-kept-clause-served g c =
    let number = c.serve_asked-kept.ensures.same.0.1 ∙ c.in-Ok.ensures.number in
    let outstanding = c.serve_asked-kept.ensures.outstanding ∙ c.in-Ok.ensures.none_outstanding in
    all-served (counts_of c.in-Ok-kept.visitors) c.args.device c.in-Ok-close.device c.in-Ok.made.1 c.serve_asked-kept.new.participant
    c.in-Ok.ensures.seen c.in-Ok.ensures.counts.1
    c.serve_asked-kept.ensures.same c.in-Ok-kept.ensures.served c.in-Ok-close.ensures.closes
    (c.in-Ok-close.ensures.counted number outstanding)

pub returns-in-Err-kept-clause-kept : goal.returns-in-Err-kept-clause-kept
returns-in-Err-kept-clause-kept g c = λ _.
    let number = c.serve_asked-kept.ensures.same.0.1 ∙ c.in-Ok.ensures.number in
    let outstanding = c.serve_asked-kept.ensures.outstanding ∙ c.in-Ok.ensures.none_outstanding in
    let kept = c.in-Err-kept.ensures.kept in (
      kept.0,
      all-served kept.0 c.args.device c.in-Ok-close.device c.in-Ok.made.1 c.serve_asked-kept.new.participant
          c.in-Ok.ensures.seen c.in-Ok.ensures.counts.1
          c.serve_asked-kept.ensures.same kept.1 c.in-Ok-close.ensures.closes
          (c.in-Ok-close.ensures.counted number outstanding),
    )
