use Rattle.std.proofs.Common.{◌≡◌, None, Some, sym, ap, ◌∙◌}
use Rattle.std.specs.Option.{option_map, option_map_or, option_and_then}
use Rattle.drm_masters.specs.declared.rows.Master.{Master}
use Rattle.drm_masters.specs.Masters.{MasterSet, master_at, key_of, lessor_of, step_number_at}
use Rattle.drm_masters.proofs.masters.Masters.lessor_of.Goals as goal

pub returns : goal.returns
returns c =
    let x = c.in_ok-step_number.field-0 in
    let l = c.in_ok-lessor.lessor in
    let key : step_number_at c.args.self.now.masters c.args.master ≡ x.step_number =
    ap (λ (w : MasterSet). step_number_at w.masters c.args.master) (sym c.self.view_is)
    ∙ ap (λ o. option_map_or (λ (y : Master). y.step_number) o 0) (sym c.of_key.ensures ∙ c.in_ok-step_number.was)
    in
    let above : lessor_of c.args.self.now.masters x.step_number ≡ Some l =
    ap (λ (w : MasterSet). lessor_of w.masters x.step_number) (sym c.self.view_is) ∙ sym c.lessor_of.ensures
    ∙ c.in_ok-lessor.was in
    let here : master_at c.args.self.now.masters l ≡ Some c.in_ok-at.field-0 =
    ap (λ (w : MasterSet). master_at w.masters l) (sym c.self.view_is) ∙ sym c.at.ensures ∙ c.in_ok-at.was in
    sym (ap (option_map (λ (y : Master). y.key)) here)
    ∙ sym (ap (option_and_then (key_of c.args.self.now.masters)) (ap (lessor_of c.args.self.now.masters) key ∙ above))

pub returns-in_err-at : goal.returns-in_err-at
returns-in_err-at c =
    let x = c.in_ok-step_number.field-0 in
    let l = c.in_ok-lessor.lessor in
    let key : step_number_at c.args.self.now.masters c.args.master ≡ x.step_number =
    ap (λ (w : MasterSet). step_number_at w.masters c.args.master) (sym c.self.view_is)
    ∙ ap (λ o. option_map_or (λ (y : Master). y.step_number) o 0) (sym c.of_key.ensures ∙ c.in_ok-step_number.was)
    in
    let above : lessor_of c.args.self.now.masters x.step_number ≡ Some l =
    ap (λ (w : MasterSet). lessor_of w.masters x.step_number) (sym c.self.view_is) ∙ sym c.lessor_of.ensures
    ∙ c.in_ok-lessor.was in
    let none : master_at c.args.self.now.masters l ≡ None =
    ap (λ (w : MasterSet). master_at w.masters l) (sym c.self.view_is) ∙ sym c.at.ensures ∙ c.in_err-at.was in
    c.from_residual-in_err-at.ensures ∙ sym (ap (option_map (λ (y : Master). y.key)) none)
    ∙ sym (ap (option_and_then (key_of c.args.self.now.masters)) (ap (lessor_of c.args.self.now.masters) key ∙ above))
