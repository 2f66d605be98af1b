use Rattle.std.proofs.Common.{◌≡◌, ℕ, ◌<◌, List, [], ◌∷◌, ◌++◌, length, None, Some, sym, ◌∙◌, ap, take, ◌+◌, arith, option_map}
use Rattle.drm_history.specs.History.{AnsweredEvent}
use Rattle.drm_trails.specs.Steps.{history_of, key_of, source_of}
use Rattle.drm_trails.specs.Chains.{Explains, EndsChain}
use Rattle.drm_trails.specs.Searches.{last_gift, last_sharing, sharing_by}
use Rattle.drm_trails.specs.declared.steps.Step.{Step}
use Rattle.drm_trails.specs.declared.steps.Source.TheVariants as sources
use Rattle.drm_trails.specs.declared.chains.Link.{Link}
use Rattle.drm_trails.specs.declared.chains.Origin.TheVariants as origins
use Rattle.drm_trails.proofs.HistoryLemmas.{next_number-take}
use Rattle.drm_trails.proofs.ChainLemmas.{told-last_gift, told-last_sharing, told_from_gift, told_from_sharing, has_none, leads_to_made, leads_to_transfer}
use Rattle.drm_trails.proofs.chains.chain_end_in.Goals as goal

pub returns-in_default-clause-none : goal.returns-in_default-clause-none
returns-in_default-clause-none c =
    has_none (history_of (take c.args.count c.args.steps.now)) c.args.client c.args.handle
    (c.links.invariant.same ∙ told-last_gift (history_of (take c.links.moment c.args.steps.now)) c.links.holder c.links.held ∙ ap told_from_gift (sym c.in_default.ensures.last))

-- the chain that is found where the step of a handle made its object
found_made : (history : List AnsweredEvent) (steps : List Step) (links items : List Link) (moment past c h d k : ℕ)
    → EndsChain history (history_of (take moment steps)) c h d k links → past < length steps →
    Some (record { source = source_of sources.Creation; past = history_of (take past steps) }) ≡ last_gift
    (history_of (take moment steps)) d k → items ≡ links ++ record
    { step = past + 1; client = d; handle = k; origin = origins.Made } ∷ [] →
    (o : ℕ) × Explains history c h o items
found_made history steps links items moment past c h d k leads inside last same =
    leads_to_made history (history_of (take moment steps)) (history_of (take past steps)) c h d k (past + 1) links items
    leads (sym last) (next_number-take steps past (omega (arith, inside))) same

pub returns-in-Creation-clause-whole : goal.returns-in-Creation-clause-whole
returns-in-Creation-clause-whole c =
    let g = c.in-Some.giving in
    let last =
    ap (λ s. Some (record { source = source_of s; past = history_of (take g.past c.args.steps.now) }))
    (sym c.in-Creation.is)
    ∙ c.in-Some.ensures.last in
    found_made (history_of (take c.args.count c.args.steps.now)) c.args.steps.now c.links.links.items
    c.push.new.self.items c.links.moment g.past c.args.client c.args.handle c.links.holder c.links.held
    c.links.invariant.leads c.in-Some.ensures.among last c.in_ok-push-in-Creation.ensures.items

pub returns-in_default-publication_before-clause-none :
    goal.returns-in_default-publication_before-clause-none
returns-in_default-publication_before-clause-none c =
    let steps = c.args.steps.now in
    let g = c.in-Some.giving in
    let key = key_of c.in-Transfer.key in
    let past = history_of (take g.past steps) in
    let found =
    sym c.in-Some.ensures.last ∙ ap (λ s. Some (record { source = source_of s; past = past })) c.in-Transfer.is in
    let unshared : last_sharing past key ≡ None =
    sym (c.requires.noted.told g.past key)
    ∙ ap (option_map (sharing_by steps)) (sym c.in_default-publication_before.ensures.last) in
    has_none (history_of (take c.args.count steps)) c.args.client c.args.handle
    (c.links.invariant.same ∙ told-last_gift (history_of (take c.links.moment steps)) c.links.holder c.links.held ∙ ap told_from_gift found
    ∙ told-last_sharing past key ∙ ap told_from_sharing unshared)

pub links-preserved : goal.links-preserved
links-preserved c =
    let steps = c.args.steps.now in
    let g = c.in-Some.giving in
    let p = c.in-Some-publication_before.publishing in
    let key = key_of c.in-Transfer.key in
    let past = history_of (take g.past steps) in
    let found =
    sym c.in-Some.ensures.last ∙ ap (λ s. Some (record { source = source_of s; past = past })) c.in-Transfer.is in
    let shared : last_sharing past key ≡ Some (sharing_by steps p) =
    sym (c.requires.noted.told g.past key)
    ∙ ap (option_map (sharing_by steps)) (sym c.in-Some-publication_before.ensures.last) in
    let given : g.past < length steps = c.in-Some.ensures.among in
    let before : p.past < g.past = c.in-Some-publication_before.ensures.before in
    record {
      same =
          c.links.invariant.same ∙ told-last_gift (history_of (take c.links.moment steps)) c.links.holder c.links.held
          ∙ ap told_from_gift found ∙ told-last_sharing past key ∙ ap told_from_sharing shared;
      leads =
          leads_to_transfer (history_of (take c.args.count steps)) (history_of (take c.links.moment steps)) past
          (history_of (take p.past steps)) c.in-Transfer.key c.args.client c.args.handle c.links.holder c.links.held
          p.client p.handle (g.past + 1) (p.past + 1)
          c.links.links.items c.push-in-Transfer.new.self.items c.links.invariant.leads found shared
          (next_number-take steps g.past (omega (arith, given)))
          (next_number-take steps p.past (omega (arith, given, before))) c.in_ok-push-in-Transfer.ensures.items;
    }
