use Rattle.std.proofs.Common.{◌≡◌, ℕ, ◌≤◌, ◌&&◌, Bool, false, nat_lt, find, reverse, get_or, sym, ap, ◌∙◌, arith}
use Rattle.std.proofs.lemmas.Bool.Decides.{nat_tests}
use Rattle.drm_history.specs.Steps.{is_key}
use Rattle.drm_trails.specs.Steps.{key_of}
use Rattle.drm_trails.specs.Searches.{is_before}
use Rattle.drm_trails.specs.declared.searches.Publication.{Publication}
use Rattle.drm_trails.proofs.RisingLemmas.{find_newest_before}
use Rattle.drm_trails.proofs.searches.publication_before.Goals as goal

not_before : (p : Publication) (moment : ℕ) (own : Bool) → moment ≤ p.past → (nat_lt p.past moment && own) ≡ false
not_before p moment own le = let no : nat_lt p.past moment ≡ false = grind (arith, nat_tests) in ap (λ b. b && own) no

pub returns-clause-last : goal.returns-clause-last
returns-clause-last c =
    let key = key_of c.args.key in
    let test = is_before c.args.moment key in
    c.newest_publication.ensures.last
    ∙ ap (λ xs. find test (reverse xs)) c.split_at.ensures.front
    ∙ sym (find_newest_before test c.args.publications.now c.older_publications-place.result (λ k d le within.
    not_before (get_or c.args.publications.now k d) c.args.moment (is_key (key_of (get_or c.args.publications.now k d).key) key) (c.older_publications-place.ensures.others k d le within)))
