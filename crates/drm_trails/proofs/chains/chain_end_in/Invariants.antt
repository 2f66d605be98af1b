use Rattle.std.proofs.Common.{◌≡◌, take}
use Rattle.drm_history.proofs.HistoryFunctions.{told, Held}
use Rattle.drm_trails.specs.Steps.{history_of}
use Rattle.drm_trails.specs.Chains.{EndsChain}
use Rattle.drm_trails.proofs.chains.chain_end_in.Given as goal

-- what is told of the handle is what was told of the holder's up to this moment, and a chain to that is the rest of one to the handle
abbrev pub invariant-links : goal.invariant-links
invariant-links l = record {
  same : told (history_of (take l.count l.steps)) (Held l.client l.handle) ≡ told (history_of (take l.moment l.steps)) (Held l.holder l.held);
  leads : EndsChain (history_of (take l.count l.steps)) (history_of (take l.moment l.steps)) l.client l.handle l.holder l.held l.links.items;
}

abbrev pub decreases-links : goal.decreases-links
decreases-links l = l.moment
