use Rattle.std.proofs.Common.{◌<◌, List, length, refl, ap, sym, subst, ◌∙◌}
use Rattle.std.proofs.lemmas.Bool.{and_parts}
use Rattle.drm_index_array.proofs.Lists.{filter-fewer}
use Rattle.drm_masters.specs.Masters.{is_below}
use Rattle.drm_leases.specs.Tokens.{LeaseToken, TokenRows}
use Rattle.drm_leases.specs.Leases.{is_token_of, has_token}
use Rattle.drm_leases.proofs.Releasing.{none_yet, token_there, one_released, all_taken_below, all_released_below}
use Rattle.drm_leases.proofs.endings.release_open_below.Goals as goal

pub loop-lessee-init : goal.loop-lessee-init
loop-lessee-init c =
    (none_yet c.args.masters.now c.laws.ensures c.args.tokens.now.rows c.requires.held c.args.top, refl)

pub release_one-requires : goal.release_one-requires
release_one-requires c =
    let w =
    and_parts (is_below c.loop-lessee.masters.masters c.args.top c.in-Some.lessee)
    (has_token c.loop-lessee.tokens.rows c.in-Some.lessee) c.in-Some.ensures.some in
    record { there = token_there c.args.masters.now c.laws.ensures c.args.tokens.now.rows c.requires.held c.args.top c.loop-lessee.masters c.loop-lessee.tokens.rows c.loop-lessee.invariant.0 c.in-Some.lessee w.1 }

pub loop-lessee-smaller : goal.loop-lessee-smaller
loop-lessee-smaller c =
    let w =
    and_parts (is_below c.loop-lessee.masters.masters c.args.top c.in-Some.lessee)
    (has_token c.loop-lessee.tokens.rows c.in-Some.lessee) c.in-Some.ensures.some in
    subst (λ (l : List LeaseToken). length l < length c.loop-lessee.tokens.rows)
    (sym (ap (λ (l : TokenRows). l.rows) c.release_one.ensures.tokens))
    (filter-fewer (is_token_of c.in-Some.lessee) c.loop-lessee.tokens.rows w.1)

pub loop-lessee-preserved : goal.loop-lessee-preserved
loop-lessee-preserved c = (
  one_released c.args.masters.now c.laws.ensures c.args.tokens.now.rows c.requires.held c.args.top c.loop-lessee.masters
      c.loop-lessee.tokens.rows c.loop-lessee.invariant.0 c.in-Some.lessee c.in-Some.ensures.some c.release_one.new.masters
      c.release_one.new.tokens.rows c.release_one.ensures.masters
      (ap (λ (l : TokenRows). l.rows) c.release_one.ensures.tokens),
  c.release_one.ensures.tokens
      ∙
      (λ i. let now : TokenRows = record (c.loop-lessee.invariant.1 i) { rows = sym (ap (λ (l : TokenRows). l.rows) c.release_one.ensures.tokens) i } in now),
)

pub returns-clause-tokens : goal.returns-clause-tokens
returns-clause-tokens c =
    c.loop-lessee.invariant.1
    ∙ ap (λ (l : List LeaseToken). let now : TokenRows = record c.args.tokens.now { rows = l } in now)
    (all_taken_below c.args.masters.now c.laws.ensures c.args.tokens.now.rows c.requires.held c.args.top c.loop-lessee.masters c.loop-lessee.tokens.rows c.loop-lessee.invariant.0 c.in_default.ensures.none)

pub returns-clause-masters : goal.returns-clause-masters
returns-clause-masters c =
    all_released_below c.args.masters.now c.laws.ensures c.args.tokens.now.rows c.requires.held c.args.top
    c.loop-lessee.masters c.loop-lessee.tokens.rows c.loop-lessee.invariant.0 c.in_default.ensures.none
