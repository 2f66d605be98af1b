use Rattle.std.proofs.Common.{ℕ, ap, sym, ◌∙◌, false, arith}
use Rattle.std.specs.Option.{option_map_or}
use Rattle.std.specs.FinMap as map
use Rattle.std.specs.FinSet as set
use Rattle.drm_index_array.specs.Indexed.{marked_with}
use Rattle.drm_index_array.specs.Marked.{mark_of}
use Rattle.drm_index_array.specs.Tree.{span}
use Rattle.drm_index_array.specs.Root.{items_of}
use Rattle.drm_index_array.proofs.ArrayLemmas.{mark_bound, mark_is_key, mark_at, no_mark, search_none, search_low, search_some, nothing_least}
use Rattle.drm_index_array.proofs.array.IndexArray.next_marked.Goals as goal

pub returns-in_default-clause-least : goal.returns-in_default-clause-least
returns-in_default-clause-least g c =
    nothing_least _ c.args.from 4294967295
    (λ k ge. (no_mark _ _ c.self.view_is (ap items_of c.in_default.is) c.args.mark) k)

pub returns-in_default-clause-none_above : goal.returns-in_default-clause-none_above
returns-in_default-clause-none_above g c =
    λ k ge. (no_mark _ _ c.self.view_is (ap items_of c.in_default.is) c.args.mark) k

pub returns-in_default-clause-present : goal.returns-in_default-clause-present
returns-in_default-clause-present g c = mark_is_key _ _ c.self.view_is c.args.mark

pub returns-in_default-first-clause-least : goal.returns-in_default-first-clause-least
returns-in_default-first-clause-least g c =
    let tree = ap (λ t. t.items) c.deref.ensures ∙ sym (ap items_of c.in-Some.is) in
    let same =
    λ (k : ℕ). ap (λ m. option_map_or (λ s. mark_of s c.args.mark) (map.get m k) false) tree
    ∙ mark_at _ _ c.self.view_is c.args.mark k in
    nothing_least _ c.args.from 4294967295
    (search_none _ (set.contains (marked_with c.args.self.now c.args.mark)) same (span c.deref.result.now.height) c.args.from (λ k le. ap (λ o. option_map_or (λ s. mark_of s c.args.mark) o false) (c.first.ensures.past k le)) c.in_default-first.ensures.first)

pub returns-in_default-first-clause-none_above : goal.returns-in_default-first-clause-none_above
returns-in_default-first-clause-none_above g c =
    let tree = ap (λ t. t.items) c.deref.ensures ∙ sym (ap items_of c.in-Some.is) in
    let same =
    λ (k : ℕ). ap (λ m. option_map_or (λ s. mark_of s c.args.mark) (map.get m k) false) tree
    ∙ mark_at _ _ c.self.view_is c.args.mark k in
    search_none _ (set.contains (marked_with c.args.self.now c.args.mark)) same (span c.deref.result.now.height)
    c.args.from (λ k le. ap (λ o. option_map_or (λ s. mark_of s c.args.mark) o false) (c.first.ensures.past k le))
    c.in_default-first.ensures.first

pub returns-in_default-first-clause-present : goal.returns-in_default-first-clause-present
returns-in_default-first-clause-present g c = mark_is_key _ _ c.self.view_is c.args.mark

pub overflow_cast-result : goal.overflow_cast-result
overflow_cast-result g c =
    let tree = ap (λ t. t.items) c.deref.ensures ∙ sym (ap items_of c.in-Some.is) in
    let same =
    λ (k : ℕ). ap (λ m. option_map_or (λ s. mark_of s c.args.mark) (map.get m k) false) tree
    ∙ mark_at _ _ c.self.view_is c.args.mark k in
    omega
    (arith, search_low _ (set.contains (marked_with c.args.self.now c.args.mark)) same (span c.deref.result.now.height) c.args.from (λ k le. ap (λ o. option_map_or (λ s. mark_of s c.args.mark) o false) (c.first.ensures.past k le)) (mark_bound _ _ c.self.view_is _ c.self.invariant.rooted c.args.mark) c.in-Some-first.found c.in-Some-first.ensures.first)

pub returns-clause-least : goal.returns-clause-least
returns-clause-least g c =
    let tree = ap (λ t. t.items) c.deref.ensures ∙ sym (ap items_of c.in-Some.is) in
    let same =
    λ (k : ℕ). ap (λ m. option_map_or (λ s. mark_of s c.args.mark) (map.get m k) false) tree
    ∙ mark_at _ _ c.self.view_is c.args.mark k in
    search_some _ (set.contains (marked_with c.args.self.now c.args.mark)) same (span c.deref.result.now.height)
    c.args.from (λ k le. ap (λ o. option_map_or (λ s. mark_of s c.args.mark) o false) (c.first.ensures.past k le))
    (mark_bound _ _ c.self.view_is _ c.self.invariant.rooted c.args.mark) c.in-Some-first.found
    c.in-Some-first.ensures.first

pub returns-clause-present : goal.returns-clause-present
returns-clause-present g c = mark_is_key _ _ c.self.view_is c.args.mark
