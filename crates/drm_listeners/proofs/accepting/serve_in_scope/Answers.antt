use Rattle.std.proofs.Common.{◌∙◌, arith}
use Rattle.drm_listeners.proofs.Workers.{accounted, where_err, where_ok}
use Rattle.drm_listeners.proofs.accepting.serve_in_scope.Goals as goal

pub returns-in-Ok : goal.returns-in-Ok
returns-in-Ok g c =
    let terms = c.args.listener.terms in
    let accepted = c.accept_connections-pool.ensures in
    let joined = c.join_all-sessions.ensures in
    let back = joined.outstanding in
    let out = accepted.outstanding in
    let merged = joined.merged in
    let same = joined.same in (
      record {
        same = (same.0 ∙ accepted.same.0, same.1 ∙ accepted.same.1, same.2 ∙ accepted.same.2);
        unchanged = (joined.parent ∙ accepted.parent, omega (arith, back, out));
        served = joined.served.0;
      },
      accounted terms _ _ _ c.accept_connections-pool.new.own c.join_all-sessions.new.own _
          joined.served
          (where_ok _ _ _ c.in-Ok.is accepted.threads) (omega (arith, merged))
          (where_ok _ _ _ c.in-Ok.is accepted.closing),
    )

pub returns-in-Err : goal.returns-in-Err
returns-in-Err g c =
    let accepted = c.accept_connections-pool.ensures in
    let joined = c.join_all-sessions.ensures in
    let back = joined.outstanding in
    let out = accepted.outstanding in
    let same = joined.same in (
      record {
        same = (same.0 ∙ accepted.same.0, same.1 ∙ accepted.same.1, same.2 ∙ accepted.same.2);
        unchanged = (joined.parent ∙ accepted.parent, omega (arith, back, out));
        served = joined.served.0;
      },
      where_err _ _ _ c.in-Err.is accepted.fault,
    )
