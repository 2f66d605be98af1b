-- A handle that a history grants has a chain, and what a chain leads to is such a handle.
use Rattle.std.proofs.Common.{ℕ, ◌≤◌, List, [], ◌∷◌, length, refl, sym, ◌∙◌, ap, arith, length-append}
use Rattle.drm_history.specs.History.{AnsweredEvent, next_number}
use Rattle.drm_history.specs.Steps.{Key, Source}
use Rattle.drm_history.specs.Holds.{WasGiven, WasPublished, Has, made, passed}
use Rattle.drm_history.specs.Chains.{Link, IsChain, Chain}

-- The step that granted a handle is one of the history.
pub given_within : (history past : List AnsweredEvent) (c h : ℕ) (source : Source) → WasGiven history c h source past
    → next_number past ≤ length history
given_within history past c h source g = let all = length-append g.later (g.step ∷ past) in let same = ap length g.steps in omega (arith, all, same)

-- The step that published under a key is one of the history.
pub published_within : (history past : List AnsweredEvent) (key : Key) (c h : ℕ) → WasPublished history key c h past
    → next_number past ≤ length history
published_within history past key c h p = let all = length-append p.later (p.step ∷ past) in let same = ap length p.steps in omega (arith, all, same)

-- The first step that a chain names is one of the history.
pub link_within : (history : List AnsweredEvent) (o : ℕ) (link : Link) (links : List Link)
    → IsChain history o (link ∷ links) → link.step ≤ length history
unfolding IsChain
link_within history o link [] k = let within = given_within history k.0 link.client link.handle _ k.1 in omega (arith, within, k.2)
link_within history o link (before ∷ links) k = let within = given_within history k.0 link.client link.handle _ k.3 in omega (arith, within, k.4)

-- Each handle that a history grants has a chain to its object.
pub has_chain : (o : ℕ) (history : List AnsweredEvent) (c h : ℕ) → Has history c h o → Chain history c h o
unfolding IsChain
has_chain o history c h (made {past = past} g e) = (next_number past, [], (past, g, refl, sym e))
has_chain o history c h (passed {past = past} {before = before} {d = d} {k = k} {key = key} g p had) =
    let older = has_chain o before d k had in
    let link : Link = record { step = older.0; client = d; handle = k } in
    let first = link_within before o link older.1 older.2 in
    let then = published_within past before key d k p in
    (next_number past, link ∷ older.1, (past, before, key, g, refl, p, omega (arith, first, then), older.2))

chain_holds : (history : List AnsweredEvent) (o : ℕ) (link : Link) (links : List Link)
    → IsChain history o (link ∷ links) → Has history link.client link.handle o
unfolding IsChain
chain_holds history o link [] k = made k.1 (sym k.3 ∙ k.2)
chain_holds history o link (before ∷ links) k = passed k.3 k.5 (chain_holds k.1 o before links k.7)

-- A handle that has a chain is one that the history grants, of the chain's object.
pub chain_has : (history : List AnsweredEvent) (c h o : ℕ) → Chain history c h o → Has history c h o
chain_has history c h o k = chain_holds history o (record { step = k.0; client = c; handle = h }) k.1 k.2
