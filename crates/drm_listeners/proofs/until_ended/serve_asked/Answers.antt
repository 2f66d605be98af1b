use Rattle.drm_listeners.specs.UntilEnded.{counts_of}
use Rattle.drm_listeners.proofs.AllSessions.{all-sat, all-sat-on-fault, asked, was-asked}
use Rattle.drm_listeners.proofs.until_ended.serve_asked.Goals as goal

pub returns-in-Ok-clause-served : goal.returns-in-Ok-clause-served
returns-in-Ok-clause-served g c =
    let h = c.in-Ok.ensures.gathered in
    let card = c.visitors_of.ensures h.owns.card h.are.0.1 in
    let render = c.visitors_of-in-Ok.ensures h.owns.render h.are.1.1 in
    let root = c.visitors_of-in-Ok-2.ensures h.owns.root h.are.2.1 in
    all-sat _ asked _ _ _ h card.sessions render.sessions root.sessions

pub returns-in-Err-clause-kept : goal.returns-in-Err-clause-kept
returns-in-Err-clause-kept g c = all-sat-on-fault asked _ _ _ c.in-Err.ensures.gathered
