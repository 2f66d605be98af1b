use Rattle.std.proofs.Common.{[], length, refl, ap, arith}
use Rattle.std.proofs.lemmas.List.Elements.{All-nil, All-same}
use Rattle.std.specs.Prelude.{IsSomeAnd}
use Rattle.drm_listeners.specs.Accepting.{IsPromised}
use Rattle.drm_listeners.proofs.Workers.{none-for, none-plain, none-threadless, none-within}
use Rattle.drm_listeners.proofs.accepting.accept_connections.Goals as goal

pub loop-init : goal.loop-init
loop-init g c =
    let none = ap (λ xs. length xs) c.new.ensures in
    let fresh = c.requires.fresh in
    let begun = none-for c.args.listener.terms c.args.sessions c.args.own.now fresh.2 fresh.3 c.requires.room in
    let merged = ap (λ xs. length xs) fresh.2 in
    let unused = c.requires.unused in
    record {
      terms = refl;
      same = (refl, refl, refl);
      parent = refl;
      served = begun;
      promised =
          All-same (λ worker. IsSomeAnd worker (λ worker. IsPromised c.args.listener.terms.class c.args.own.now worker.thread.promise))
          _ _ c.new.ensures
          (All-nil (λ worker. IsSomeAnd worker (λ worker. IsPromised c.args.listener.terms.class c.args.own.now worker.thread.promise)));
      outstanding = omega (arith, none);
      all = omega (arith, unused);
      within = none-within c.args.listener.terms.until _ unused;
      counted = omega (arith, none, merged);
      plain = none-plain c.args.listener.terms.until _ refl;
      threads = none-threadless c.args.listener.terms.until _ refl;
      room = c.requires.room;
    }
