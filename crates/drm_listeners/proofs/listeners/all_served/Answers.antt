use Rattle.drm_listeners.proofs.listeners.all_served.Goals as goal

pub returns : goal.returns
returns c = λ untils participants h.
    let served = c.args.served in
    record {
      card = h.card.0;
      render = h.render.0;
      root = h.root.0;
      accounts = c.all_accounts.ensures untils (record { card = served.card.participant; render = served.render.participant; root = served.root.participant })
          h.card.1 h.render.1 h.root.1;
    }
