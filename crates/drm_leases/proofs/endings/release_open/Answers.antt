use Rattle.std.proofs.Common.{List, ap, sym, ◌∙◌}
use Rattle.drm_leases.specs.Tokens.{LeaseToken, TokenRows}
use Rattle.drm_leases.proofs.Releasing.{top_there, top_released, top_spared}
use Rattle.drm_leases.proofs.endings.release_open.Goals as goal

pub release_one-requires : goal.release_one-requires
release_one-requires c =
    let below = c.release_open_below.ensures in
    record { there = top_there c.args.masters.now c.laws.ensures c.args.tokens.now.rows c.requires.held c.args.top c.release_open_below.new.masters c.release_open_below.new.tokens.rows below.masters (ap (λ (l : TokenRows). l.rows) below.tokens) (sym c.is_open.ensures ∙ c.if-is_open.true) }

pub returns-then-is_open-clause-tokens : goal.returns-then-is_open-clause-tokens
returns-then-is_open-clause-tokens c =
    let below = c.release_open_below.ensures in
    let rows = ap (λ (l : TokenRows). l.rows) below.tokens in
    let new = ap (λ (l : TokenRows). l.rows) c.release_one.ensures.tokens in
    let left =
    (top_released c.args.masters.now c.laws.ensures c.args.tokens.now.rows c.requires.held c.args.top c.release_open_below.new.masters c.release_open_below.new.tokens.rows below.masters rows (sym c.is_open.ensures ∙ c.if-is_open.true) c.release_one.new.masters c.release_one.new.tokens.rows c.release_one.ensures.masters new).0
    in
    c.release_one.ensures.tokens
    ∙ (λ i. let now : TokenRows = record (below.tokens i) { rows = (sym new ∙ left) i } in now)

pub returns-then-is_open-clause-masters : goal.returns-then-is_open-clause-masters
returns-then-is_open-clause-masters c =
    let below = c.release_open_below.ensures in
    (top_released c.args.masters.now c.laws.ensures c.args.tokens.now.rows c.requires.held c.args.top c.release_open_below.new.masters c.release_open_below.new.tokens.rows below.masters (ap (λ (l : TokenRows). l.rows) below.tokens) (sym c.is_open.ensures ∙ c.if-is_open.true) c.release_one.new.masters c.release_one.new.tokens.rows c.release_one.ensures.masters (ap (λ (l : TokenRows). l.rows) c.release_one.ensures.tokens)).1

pub returns-else-is_open-clause-tokens : goal.returns-else-is_open-clause-tokens
returns-else-is_open-clause-tokens c =
    let below = c.release_open_below.ensures in
    let rows = ap (λ (l : TokenRows). l.rows) below.tokens in
    below.tokens ∙ ap (λ (l : List LeaseToken). let now : TokenRows = record c.args.tokens.now { rows = l } in now)
    (sym rows ∙ (top_spared c.args.masters.now c.laws.ensures c.args.tokens.now.rows c.requires.held c.args.top c.release_open_below.new.masters c.release_open_below.new.tokens.rows below.masters rows (sym c.is_open.ensures ∙ c.if-is_open.false)).0)

pub returns-else-is_open-clause-masters : goal.returns-else-is_open-clause-masters
returns-else-is_open-clause-masters c =
    let below = c.release_open_below.ensures in
    (top_spared c.args.masters.now c.laws.ensures c.args.tokens.now.rows c.requires.held c.args.top c.release_open_below.new.masters c.release_open_below.new.tokens.rows below.masters (ap (λ (l : TokenRows). l.rows) below.tokens) (sym c.is_open.ensures ∙ c.if-is_open.false)).1
