use Rattle.std.proofs.Common.{◌≡◌, ◌<◌, true, false, not, filter, is_some, Option, None, Some, sym, ap, subst, ◌∙◌, arith}
use Rattle.std.specs.List.{list_any, AllByRecursion}
use Rattle.std.proofs.lemmas.Bool.{eqb-true, false≢true}
use Rattle.drm_index_array.specs.Orders.{InOrder}
use Rattle.drm_masters.specs.declared.rows.Master.{Master}
use Rattle.drm_masters.specs.Masters.{is_step_number, is_option, is_used, is_living, master_at, HasOlderLessor}
use Rattle.drm_masters.proofs.MasterChains.{falls}
use Rattle.drm_masters.proofs.Owned.{unnamed}
use Rattle.drm_masters.proofs.MastersStaySound.{at_step_number}
use Rattle.drm_masters.proofs.Upward.{OthersUsed, all_stay, all_used, gone, gone_rise, gone_older, top_left, lessor_left, same_left}
use Rattle.drm_masters.proofs.sweeps.+sweep_up.Goals as goal

pub returns-in_default : goal.returns-in_default
returns-in_default t c =
    let members = c.args.members.now.items in
    let ms = c.args.masters.now.items in
    let none : master_at ms c.args.step_number ≡ None = sym c.at.ensures ∙ c.in_default.is in
    all_stay members ms c.requires.rise c.requires.older
    (all_used members ms c.args.step_number c.requires.others (λ x at e. absurd (false≢true (ap is_some (sym none ∙ ap (master_at ms) (sym (eqb-true x.step_number c.args.step_number e)) ∙ at)))) c.requires.rise)

pub returns-then-is_used : goal.returns-then-is_used
returns-then-is_used t c =
    let members = c.args.members.now.items in
    let ms = c.args.masters.now.items in
    let x = c.in-Some.master in
    let at : master_at ms c.args.step_number ≡ Some x = sym c.at.ensures ∙ c.in-Some.is in
    let is = at_step_number ms c.args.step_number x at in
    let used : is_used members ms x ≡ true = sym c.is_used.ensures ∙ c.if-is_used.true in
    all_stay members ms c.requires.rise c.requires.older
    (all_used members ms c.args.step_number c.requires.others (λ z here e. let one : Some z ≡ Some x = sym here ∙ ap (master_at ms) (eqb-true z.step_number c.args.step_number e) ∙ at in let same : z ≡ x = cc in ap (is_used members ms) same ∙ used) c.requires.rise)

pub remove-requires-clause-no_lessee : goal.remove-requires-clause-no_lessee
remove-requires-clause-no_lessee t c =
    let members = c.args.members.now.items in
    let ms = c.args.masters.now.items in
    let x = c.in-Some.master in
    let is = at_step_number ms c.args.step_number x (sym c.at.ensures ∙ c.in-Some.is) in
    subst (λ b. list_any (λ (y : Master). is_option b y.lessor) ms ≡ false) is.0
    (unnamed members ms x (sym c.is_used.ensures ∙ c.if-is_used.false))

pub sweep_up-requires : goal.sweep_up-requires
sweep_up-requires t c =
    let members = c.args.members.now.items in
    let ms = c.args.masters.now.items in
    let x = c.in-Some.master in
    let at : master_at ms c.args.step_number ≡ Some x = sym c.at.ensures ∙ c.in-Some.is in
    let is = at_step_number ms c.args.step_number x at in
    let unused : is_used members ms x ≡ false = sym c.is_used.ensures ∙ c.if-is_used.false in
    let others : OthersUsed members ms x.step_number = subst (OthersUsed members ms) (sym is.0) c.requires.others in
    let left = gone members ms c.requires.rise c.requires.older x is.1 unused in
    let removed : c.remove.new.self.items ≡ left =
    c.remove.ensures ∙ ap (λ b. filter (λ (z : Master). not (is_step_number b z)) ms) (sym is.0) in
    let l = c.in-Some-above.lessor in
    let lt = falls ms c.requires.older x.step_number l (ap (λ (o : Option Master). elim o [ None ↦ None | Some z ↦ z.lessor ]) is.1 ∙ c.in-Some-above.is) in (
      omega (arith, lt, is.0, c.decreases),
      (
        subst (λ rows. InOrder (λ (y z : Master). y.step_number < z.step_number) rows) (sym removed)
            (gone_rise members ms c.requires.rise c.requires.older x is.1 unused),
        (
          subst (λ rows. AllByRecursion (HasOlderLessor rows) rows) (sym removed)
              (gone_older members ms c.requires.rise c.requires.older x is.1 unused),
          subst (λ rows. OthersUsed members rows l) (sym removed)
              (lessor_left members ms c.requires.rise c.requires.older x is.1 unused l (λ m e. let one : Some l ≡ Some m = sym c.in-Some-above.is ∙ e in cc) others),
        ),
      ),
    )

pub returns-in-Some-above : goal.returns-in-Some-above
returns-in-Some-above t c =
    let members = c.args.members.now.items in
    let ms = c.args.masters.now.items in
    let x = c.in-Some.master in
    let at : master_at ms c.args.step_number ≡ Some x = sym c.at.ensures ∙ c.in-Some.is in
    let is = at_step_number ms c.args.step_number x at in
    let unused : is_used members ms x ≡ false = sym c.is_used.ensures ∙ c.if-is_used.false in
    let left = gone members ms c.requires.rise c.requires.older x is.1 unused in
    let removed : c.remove.new.self.items ≡ left =
    c.remove.ensures ∙ ap (λ b. filter (λ (z : Master). not (is_step_number b z)) ms) (sym is.0) in
    c.sweep_up.ensures ∙ ap (λ rows. filter (λ (z : Master). is_living members rows z.step_number) rows) removed
    ∙ same_left members ms c.requires.rise c.requires.older x is.1 unused

pub returns-in_default-above : goal.returns-in_default-above
returns-in_default-above t c =
    let members = c.args.members.now.items in
    let ms = c.args.masters.now.items in
    let x = c.in-Some.master in
    let at : master_at ms c.args.step_number ≡ Some x = sym c.at.ensures ∙ c.in-Some.is in
    let is = at_step_number ms c.args.step_number x at in
    let unused : is_used members ms x ≡ false = sym c.is_used.ensures ∙ c.if-is_used.false in
    let others : OthersUsed members ms x.step_number = subst (OthersUsed members ms) (sym is.0) c.requires.others in
    let left = gone members ms c.requires.rise c.requires.older x is.1 unused in
    let removed : c.remove.new.self.items ≡ left =
    c.remove.ensures ∙ ap (λ b. filter (λ (z : Master). not (is_step_number b z)) ms) (sym is.0) in
    removed ∙ top_left members ms c.requires.rise c.requires.older x is.1 unused c.in_default-above.is others
