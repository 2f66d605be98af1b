use Rattle.std.proofs.Common.{ℕ, ap, sym, ◌∙◌, not, arith}
use Rattle.std.specs.FinMap as map
use Rattle.drm_index_array.specs.Root.{items_of}
use Rattle.drm_index_array.proofs.ArrayLemmas.{key_at, all_vacant, vacant_here, vacant_nowhere}
use Rattle.drm_index_array.proofs.array.IndexArray.next_vacant.Goals as goal

pub returns-in_default : goal.returns-in_default
returns-in_default g c = all_vacant _ _ c.self.view_is (ap items_of c.in_default.is) c.args.from (omega arith)

pub returns-then-vacant : goal.returns-then-vacant
returns-then-vacant g c =
    let tree = ap (λ t. t.items) c.deref.ensures ∙ sym (ap items_of c.in-Some.is) in
    let same = λ (k : ℕ). ap not (ap (λ m. map.contains_key m k) tree ∙ key_at _ _ c.self.view_is k) in
    vacant_nowhere _ (λ k. not (map.contains_key c.args.self.now.items k)) same c.args.from _
    c.next_vacant-vacant.ensures (omega (arith, c.if-vacant.true))

pub returns : goal.returns
returns g c =
    let tree = ap (λ t. t.items) c.deref.ensures ∙ sym (ap items_of c.in-Some.is) in
    let same = λ (k : ℕ). ap not (ap (λ m. map.contains_key m k) tree ∙ key_at _ _ c.self.view_is k) in
    vacant_here _ (λ k. not (map.contains_key c.args.self.now.items k)) same c.args.from _ c.next_vacant-vacant.ensures
    (omega (arith, c.if-vacant.false))
