use Rattle.std.proofs.Common.{◌≡◌, All, IfSome, List, None, Some, map, option_to_list, sym, ap, subst, ◌∙◌}
use Rattle.std.specs.Option.{option_map}
use Rattle.std.proofs.lemmas.List.Elements.{All-nil, All-push}
use Rattle.drm_explanations.specs.Rows as rows
use Rattle.drm_explanations.specs.declared.rows.ClientRow.{ClientRow}
use Rattle.drm_explanations.specs.Rows.{opening_of_row}
use Rattle.drm_explanations.proofs.OpeningLemmas.{shown_opening, none_opened, with_none, with_one}
use Rattle.drm_explanations.proofs.clients.client_rows.Goals as goal
use Rattle.drm_explanations.proofs.clients.client_rows.Goals.{in-Some+in_ok-push-in-Some, in-None}

pub loop-step-init : goal.loop-step-init
loop-step-init c =
    let Tells = rows.TellsClient c.args.topology.now c.args.labels.now c.args.ledger.now in record {
      tells = subst (All Tells) (sym c.new-rows.ensures.items) (All-nil Tells);
      openings = ap (λ (l : List ClientRow). map opening_of_row l) c.new-rows.ensures.items ∙ sym (none_opened c.args.only);
    }

pub loop-step-preserved : goal.loop-step-preserved
loop-step-preserved c =
    let Tells = rows.TellsClient c.args.topology.now c.args.labels.now c.args.ledger.now in
    let opens = shown_opening c.args.only c.step-item.result in
    elim c.match-branch-3.branch [
      | in-Some+in_ok-push-in-Some w ↦
          let row : ClientRow = w.in-Some.row in
          let tells : Tells row = subst (λ o. IfSome o Tells) w.in-Some.is c.in_ok-row.ensures.tells in
          let new : option_to_list (option_map opening_of_row (Some row)) ≡ opens =
          subst (λ o. option_to_list (option_map opening_of_row o) ≡ opens) w.in-Some.is c.in_ok-row.ensures.opening in
          record {
            tells =
                subst (λ told. All Tells told.items) (sym w.rows-is)
                (subst (All Tells) (sym w.in_ok-push-in-Some.ensures.items) (All-push Tells c.loop-step.rows.items row c.loop-step.invariant.tells tells));
            openings = ap (λ told. map opening_of_row told.items) w.rows-is
                ∙ ap (λ (l : List ClientRow). map opening_of_row l) w.in_ok-push-in-Some.ensures.items
                ∙ with_one c.args.only c.steps-steps.result.now c.loop-step.step-index c.step-item.result
                c.loop-step.rows.items row c.loop-step-test.true c.step-item.is c.loop-step.invariant.openings new;
          }
      | in-None w ↦
          let new : option_to_list (option_map opening_of_row None) ≡ opens =
          subst (λ o. option_to_list (option_map opening_of_row o) ≡ opens) w.in-None.is c.in_ok-row.ensures.opening in
          record {
            tells = subst (λ told. All Tells told.items) (sym w.rows-is) c.loop-step.invariant.tells;
            openings = ap (λ told. map opening_of_row told.items) w.rows-is
                ∙ with_none c.args.only c.steps-steps.result.now c.loop-step.step-index c.step-item.result
                c.loop-step.rows.items c.loop-step-test.true c.step-item.is c.loop-step.invariant.openings new;
          }
    ]
