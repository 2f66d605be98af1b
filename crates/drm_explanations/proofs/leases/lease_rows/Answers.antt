use Rattle.std.proofs.Common.{◌≡◌, ◌+◌, ◌++◌, All, IfSome, List, Option, None, Some, false, cond, get_or, map, option_to_list, take, append-nil, ap, subst, sym, ◌∙◌}
use Rattle.std.specs.Option.{option_map}
use Rattle.std.proofs.lemmas.List.Elements.{All-push}
use Rattle.drm_explanations.specs.Rows as rows
use Rattle.drm_explanations.specs.declared.rows.LeaseRow.{LeaseRow}
use Rattle.drm_rights.specs.declared.notes.Lease.{Lease}
use Rattle.drm_explanations.proofs.LeaseRowLemmas.{lease_named}
use Rattle.drm_explanations.proofs.leases.lease_rows.Goals as goal
use Rattle.drm_explanations.proofs.leases.lease_rows.Goals.{in-Some+in_ok-push, in_default}

pub loop-lease-preserved : goal.loop-lease-preserved
loop-lease-preserved c =
    let Tells = rows.TellsLease c.args.topology.now c.args.ledger.now in
    let leases = c.leases-lease-items.result.now in
    let n = c.loop-lease.lease-index in
    let none : Lease =
    record { master = 0; client = 0; lessor = None; owner = 0; id = 0; token = 0; universal = false } in
    let Names : Option LeaseRow → Type 0 =
    λ row. option_map rows.names_of_row row ≡ cond (rows.is_step c.args.ledger.now (get_or leases n none).master)
    (Some (rows.names_of (get_or leases n none))) None in
    let more : (row : Option LeaseRow) → Names row → map rows.names_of_row (c.loop-lease.rows.items ++ option_to_list row) ≡ map rows.names_of (take (n + 1) leases) = λ row its.
    lease_named c.args.ledger.now leases n none c.loop-lease.rows.items row c.leases-lease-items.ensures c.loop-lease-test.true c.loop-lease.invariant.names its in
    elim c.match-branch-2.branch [
      | in-Some+in_ok-push w ↦
          let tells : Tells w.in-Some.row = subst (λ row. IfSome row Tells) w.in-Some.is c.in_ok-row.ensures.tells in
          record {
            tells =
                subst (λ told. All Tells told.items) (sym w.rows-is)
                (subst (All Tells) (sym w.in_ok-push.ensures.items) (All-push Tells c.loop-lease.rows.items w.in-Some.row c.loop-lease.invariant.tells tells));
            names =
                ap (λ told. map rows.names_of_row told.items) w.rows-is
                ∙ ap (λ (l : List LeaseRow). map rows.names_of_row l) w.in_ok-push.ensures.items
                ∙ more (Some w.in-Some.row) (subst Names w.in-Some.is c.in_ok-row.ensures.names);
          }
      | in_default w ↦ record {
        tells = subst (λ told. All Tells told.items) (sym w.rows-is) c.loop-lease.invariant.tells;
        names =
            ap (λ told. map rows.names_of_row told.items) w.rows-is
            ∙ ap (λ (l : List LeaseRow). map rows.names_of_row l) (sym (append-nil c.loop-lease.rows.items))
            ∙ more None (subst Names w.in_default.is c.in_ok-row.ensures.names);
      }
    ]
