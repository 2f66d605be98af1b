use Rattle.std.proofs.Common.{ap, subst}
use Rattle.drm_sessions.specs.declared.class.Class.{Class}
use Rattle.drm_listeners.specs.declared.listener.Terms.{Terms}
use Rattle.drm_listeners.specs.Accepting.{Serves}
use Rattle.drm_listeners.specs.Listeners.{participants_of, terms_of, untils_in}
use Rattle.drm_listeners.proofs.Gathering.{if_ok_both}
use Rattle.drm_listeners.proofs.listeners.serve_in_scope.Goals as goal

pub returns : goal.returns
returns g c =
    let jobs = c.args.jobs in
    let ready = c.requires in
    let card = c.start_listener-card.ensures in
    let render = c.start_listener-render.ensures in
    let root = c.start_listener-root.ensures in
    c.all_served.ensures (untils_in jobs) (participants_of jobs)
    record {
      card =
          subst (λ (terms : Terms). Serves terms jobs.card.participant c.join_listener.result)
          (ap (λ (class : Class). terms_of class jobs.card.listener.terms.until) ready.card.of_class)
          (c.join_listener.ensures jobs.card.listener.terms jobs.card.participant
          (if_ok_both _ _ c.start_listener-card.result card.terms card.participant) card.failed);
      render =
          subst (λ (terms : Terms). Serves terms jobs.render.participant c.join_listener-2.result)
          (ap (λ (class : Class). terms_of class jobs.render.listener.terms.until) ready.render.of_class)
          (c.join_listener-2.ensures jobs.render.listener.terms jobs.render.participant
          (if_ok_both _ _ c.start_listener-render.result render.terms render.participant) render.failed);
      root =
          subst (λ (terms : Terms). Serves terms jobs.root.participant c.join_listener-3.result)
          (ap (λ (class : Class). terms_of class jobs.root.listener.terms.until) ready.root.of_class)
          (c.join_listener-3.ensures jobs.root.listener.terms jobs.root.participant
          (if_ok_both _ _ c.start_listener-root.result root.terms root.participant) root.failed);
    }
