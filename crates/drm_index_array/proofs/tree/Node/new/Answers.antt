use Rattle.std.proofs.Common.{◌∙◌, ap, sym, subst, take, rules}
use Rattle.drm_index_array.specs.Slots.{IsNode, view_of}
use Rattle.drm_index_array.proofs.EmptyLemmas.{empty_node, empty_view, no_words, resized_vacant}
use Rattle.drm_index_array.proofs.tree.Node.new.Goals as goal

pub invariant_of-result : goal.invariant_of-result
invariant_of-result g c =
    let all =
    resized_vacant _ _ (λ p x q st. search rules) 64 _ _ _ (ap (take 64) c.new-slots.ensures.items)
    c.in_ok-resize_with.ensures.items (sym c.resize_with.new.self.ok.0 ∙ c.in_ok-resize_with.ensures.len) in
    rw c.none.ensures
    (subst (λ slots. IsNode c.args.height slots no_words 0) (sym all) (empty_node _ c.args.height c.requires))

pub returns : goal.returns
returns g c =
    let all =
    resized_vacant _ _ (λ p x q st. search rules) 64 _ _ _ (ap (take 64) c.new-slots.ensures.items)
    c.in_ok-resize_with.ensures.items (sym c.resize_with.new.self.ok.0 ∙ c.in_ok-resize_with.ensures.len) in
    ap (λ slots. view_of c.args.height slots) all ∙ empty_view _ c.args.height
