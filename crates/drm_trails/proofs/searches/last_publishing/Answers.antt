use Rattle.std.proofs.Common.{None, Some, cond, take, ◌-◌, sym, ◌∙◌, ap, arith}
use Rattle.drm_trails.specs.Steps.{key_of, publishing_of, publishings_of, history_of}
use Rattle.drm_trails.specs.Searches.{Sharing, last_sharing}
use Rattle.drm_trails.proofs.HistoryLemmas.{last_sharing-take, last_sharing-none}
use Rattle.drm_trails.proofs.searches.last_publishing.Goals as goal

pub returns-then-is_key-clause-last : goal.returns-then-is_key-clause-last
returns-then-is_key-clause-last c =
    let p = c.in-Some.publishing in
    let its_publishing = sym c.published.ensures ∙ ap publishings_of c.in-Some.is in
    let sharing : Sharing =
    record { client = p.client; handle = p.handle; past = history_of (take (c.steps.past - 1) c.args.steps.now) } in
    sym (c.steps.invariant.same
    ∙ last_sharing-take c.args.steps.now c.steps.past c.index-steps-past.result (key_of c.args.key)
    (Some (publishing_of p)) c.steps-test.true c.steps.invariant.within c.index-steps-past.is its_publishing
    ∙ ap (λ b. cond b (Some sharing) (last_sharing (history_of (take (c.steps.past - 1) c.args.steps.now)) (key_of c.args.key))) (sym c.is_key.ensures ∙ c.if-is_key.true))

pub steps-preserved-else-is_key : goal.steps-preserved-else-is_key
steps-preserved-else-is_key c =
    let p = c.in-Some.publishing in
    let its_publishing = sym c.published.ensures ∙ ap publishings_of c.in-Some.is in
    let sharing : Sharing =
    record { client = p.client; handle = p.handle; past = history_of (take (c.steps.past - 1) c.args.steps.now) } in
    record {
      within = let within = c.steps.invariant.within in omega (arith, within);
      same = c.steps.invariant.same
          ∙ last_sharing-take c.args.steps.now c.steps.past c.index-steps-past.result (key_of c.args.key)
          (Some (publishing_of p)) c.steps-test.true c.steps.invariant.within c.index-steps-past.is its_publishing
          ∙ ap
          (λ b. cond b (Some sharing) (last_sharing (history_of (take (c.steps.past - 1) c.args.steps.now)) (key_of c.args.key)))
          (sym c.is_key.ensures ∙ c.if-is_key.false);
    }

pub steps-preserved : goal.steps-preserved
steps-preserved c = record {
  within = let within = c.steps.invariant.within in omega (arith, within);
  same = c.steps.invariant.same
      ∙ last_sharing-take c.args.steps.now c.steps.past c.index-steps-past.result (key_of c.args.key) None
      c.steps-test.true c.steps.invariant.within c.index-steps-past.is
      (sym c.published.ensures ∙ ap publishings_of c.in_default.is);
}

pub returns-clause-last : goal.returns-clause-last
returns-clause-last c =
    sym
    (c.steps.invariant.same ∙ last_sharing-none c.args.steps.now c.steps.past (key_of c.args.key) c.steps-test.false)
