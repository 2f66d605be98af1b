use Rattle.std.proofs.Common.{◌≡◌, ℕ, ◌≤◌, ◌&&◌, Bool, false, nat_lt, find, reverse, get_or, sym, ap, ◌∙◌, arith}
use Rattle.std.proofs.lemmas.Bool.Decides.{nat_tests}
use Rattle.drm_trails.specs.Searches.{concerns, is_touch_before}
use Rattle.drm_trails.specs.declared.searches.Touch.{Touch}
use Rattle.drm_trails.proofs.RisingLemmas.{find_newest_before}
use Rattle.drm_trails.proofs.searches.touch_before.Goals as goal

not_before : (t : Touch) (moment : ℕ) (own : Bool) → moment ≤ t.past → (nat_lt t.past moment && own) ≡ false
not_before t moment own le = let no : nat_lt t.past moment ≡ false = grind (arith, nat_tests) in ap (λ b. b && own) no

pub returns-clause-last : goal.returns-clause-last
returns-clause-last c =
    let test = is_touch_before c.args.moment c.args.client c.args.handle in
    c.newest_touch.ensures.last
    ∙ ap (λ xs. find test (reverse xs)) c.split_at.ensures.front
    ∙ sym (find_newest_before test c.args.touches.now c.older_touches-place.result (λ k d le within.
    not_before (get_or c.args.touches.now k d) c.args.moment (concerns c.args.client c.args.handle (get_or c.args.touches.now k d)) (c.older_touches-place.ensures.others k d le within)))
