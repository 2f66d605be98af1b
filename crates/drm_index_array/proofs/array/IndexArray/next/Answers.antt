use Rattle.std.proofs.Common.{ℕ, ap, sym, ◌∙◌, is_some, arith}
use Rattle.std.specs.FinMap as map
use Rattle.drm_index_array.specs.Tree.{span}
use Rattle.drm_index_array.specs.Root.{items_of}
use Rattle.drm_index_array.proofs.ArrayLemmas.{item_bound, key_at, no_key, search_none, search_low, search_some, nothing_least}
use Rattle.drm_index_array.proofs.array.IndexArray.next.Goals as goal

pub returns-in_default-clause-least : goal.returns-in_default-clause-least
returns-in_default-clause-least g c =
    nothing_least _ c.args.from 4294967295 (λ k ge. (no_key _ _ c.self.view_is (ap items_of c.in_default.is)) k)

pub returns-in_default-clause-none_above : goal.returns-in_default-clause-none_above
returns-in_default-clause-none_above g c = λ k ge. (no_key _ _ c.self.view_is (ap items_of c.in_default.is)) k

pub returns-in_default-clause-bound : goal.returns-in_default-clause-bound
returns-in_default-clause-bound g c = item_bound _ _ c.self.view_is _ c.self.invariant.rooted

pub returns-in_default-first-clause-least : goal.returns-in_default-first-clause-least
returns-in_default-first-clause-least g c =
    let tree = ap (λ t. t.items) c.deref.ensures ∙ sym (ap items_of c.in-Some.is) in
    let same = λ (k : ℕ). ap (λ m. map.contains_key m k) tree ∙ key_at _ _ c.self.view_is k in
    nothing_least _ c.args.from 4294967295
    (search_none _ (map.contains_key c.args.self.now.items) same (span c.deref.result.now.height) c.args.from (λ k le. ap is_some (c.first.ensures.past k le)) c.in_default-first.ensures.first)

pub returns-in_default-first-clause-none_above : goal.returns-in_default-first-clause-none_above
returns-in_default-first-clause-none_above g c =
    let tree = ap (λ t. t.items) c.deref.ensures ∙ sym (ap items_of c.in-Some.is) in
    let same = λ (k : ℕ). ap (λ m. map.contains_key m k) tree ∙ key_at _ _ c.self.view_is k in
    search_none _ (map.contains_key c.args.self.now.items) same (span c.deref.result.now.height) c.args.from
    (λ k le. ap is_some (c.first.ensures.past k le)) c.in_default-first.ensures.first

pub returns-in_default-first-clause-bound : goal.returns-in_default-first-clause-bound
returns-in_default-first-clause-bound g c = item_bound _ _ c.self.view_is _ c.self.invariant.rooted

pub overflow_cast-result : goal.overflow_cast-result
overflow_cast-result g c =
    let tree = ap (λ t. t.items) c.deref.ensures ∙ sym (ap items_of c.in-Some.is) in
    let same = λ (k : ℕ). ap (λ m. map.contains_key m k) tree ∙ key_at _ _ c.self.view_is k in
    omega
    (arith, search_low _ (map.contains_key c.args.self.now.items) same (span c.deref.result.now.height) c.args.from (λ k le. ap is_some (c.first.ensures.past k le)) (item_bound _ _ c.self.view_is _ c.self.invariant.rooted) c.in-Some-first.found c.in-Some-first.ensures.first)

pub returns-clause-least : goal.returns-clause-least
returns-clause-least g c =
    let tree = ap (λ t. t.items) c.deref.ensures ∙ sym (ap items_of c.in-Some.is) in
    let same = λ (k : ℕ). ap (λ m. map.contains_key m k) tree ∙ key_at _ _ c.self.view_is k in
    search_some _ (map.contains_key c.args.self.now.items) same (span c.deref.result.now.height) c.args.from
    (λ k le. ap is_some (c.first.ensures.past k le)) (item_bound _ _ c.self.view_is _ c.self.invariant.rooted)
    c.in-Some-first.found c.in-Some-first.ensures.first

pub returns-clause-bound : goal.returns-clause-bound
returns-clause-bound g c = item_bound _ _ c.self.view_is _ c.self.invariant.rooted
