use Rattle.std.proofs.Common.{◌≡◌, true, ◌&&◌, None, sym, ap, ◌∙◌}
use Rattle.std.proofs.Math.Bool.{and-true}
use Rattle.drm_index_array.proofs.Chains.{top_none}
use Rattle.drm_masters.specs.Masters.{is_option, lessor_of}
use Rattle.drm_masters.proofs.MasterChains.{is_this}
use Rattle.drm_masters.proofs.searches.is_current_among.Goals as goal

pub returns-then-is_option : goal.returns-then-is_option
returns-then-is_option c =
    let ms = c.args.masters.now.items in
    let m = c.args.member.master in
    let its : is_option m c.args.device ≡ true = sym c.is_option.ensures ∙ c.if-is_option.true in
    let top : lessor_of ms m ≡ None = c.requires.top m (is_this m c.args.device its) in
    sym (and-true c.args.member.is_master) ∙ ap (λ b. c.args.member.is_master && b) (sym its)
    ∙ ap (λ n. c.args.member.is_master && is_option n c.args.device) (top_none (lessor_of ms) m top)
