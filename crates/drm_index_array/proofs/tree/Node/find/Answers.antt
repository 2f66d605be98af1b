use Rattle.std.proofs.Common.{◌≡◌, ◌+◌, ◌-◌, ◌%◌, ◌∙◌, ap, sym, arith, subst}
use Rattle.std.proofs.Math.Nat.{mod-eq_of_lt}
use Rattle.std.specs.FinMap as map
use Rattle.drm_index_array.specs.Tree.{width, span}
use Rattle.drm_index_array.specs.Slots.{below, Fits}
use Rattle.drm_index_array.proofs.SlotLemmas.{child_span}
use Rattle.drm_index_array.proofs.tree.Node.find.Goals as goal

pub loop-entry-init : goal.loop-entry-init
loop-entry-init g c =
    let same = ap (λ t. t.height) c.self.view_is in
    let whole : c.args.index % span c.args.self.now.height ≡ c.args.index =
    mod-eq_of_lt (c.covers.ensures.covers.0 c.if-not-covers.false) in
    (same, ap (λ h. map.get c.args.self.now.items (c.args.index % span h)) same ∙ ap (map.get c.args.self.now.items) whole)

pub slot_at-requires : goal.slot_at-requires
slot_at-requires g c = c.loop-entry.invariant.0

pub returns-in-Vacant-clause-entry : goal.returns-in-Vacant-clause-entry
returns-in-Vacant-clause-entry g c =
    ap (λ s. below s (c.args.index % width c.loop-entry.level)) (sym c.in-Vacant.is)
    ∙ c.slot_at.ensures.below
    ∙ c.loop-entry.invariant.1

pub returns-in-Value-clause-entry : goal.returns-in-Value-clause-entry
returns-in-Value-clause-entry g c =
    ap (λ s. below s (c.args.index % width c.loop-entry.level)) (sym c.in-Value.is)
    ∙ c.slot_at.ensures.below
    ∙ c.loop-entry.invariant.1

pub loop-entry-preserved : goal.loop-entry-preserved
loop-entry-preserved g c =
    let fits : c.in-Child.child.value.height + 1 ≡ c.loop-entry.level =
    subst (Fits c.loop-entry.level) c.in-Child.is c.slot_at.ensures.fits in
    let wide = child_span (c.loop-entry.level - 1) c.loop-entry.level (omega (arith, fits)) in
    (omega (arith, fits, ap (λ t. t.height) c.deref-node.ensures), ap (λ n. map.get c.deref-node.result.now.items (c.args.index % n)) wide ∙ ap (λ t. map.get t.items (c.args.index % width c.loop-entry.level)) c.deref-node.ensures ∙ ap (λ s. below s (c.args.index % width c.loop-entry.level)) (sym c.in-Child.is) ∙ c.slot_at.ensures.below ∙ c.loop-entry.invariant.1)
