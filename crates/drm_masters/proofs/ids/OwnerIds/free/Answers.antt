use Rattle.std.proofs.Common.{ℕ, Bool, true, not, is_some, Some, ap, ◌∙◌, arith}
use Rattle.drm_index_array.specs.Least.{least}
use Rattle.drm_index_array.proofs.Least.{least-same}
use Rattle.drm_id_alloc.proofs.TableLemmas.{none_within, past_within, some_within}
use Rattle.drm_masters.specs.Ids.{id_at, id_in}
use Rattle.drm_masters.proofs.ids.OwnerIds.free.Goals as goal

pub returns-in_default : goal.returns-in_default
returns-in_default c =
    rw (← c.self.view_is)
    (c.first_id.ensures ∙ least-same (λ id. true) (λ id. not (is_some (id_at c.self.inside.owners.items c.args.owner id))) 1 c.args.last (λ k low high. ap (λ r. not (is_some (id_in r k))) c.in_default.ensures.value))

pub returns-in_err-id : goal.returns-in_err-id
returns-in_err-id c =
    let free : ℕ → Bool = λ id. not (is_some (id_in (Some c.in-Some.ids.now) id)) in
    rw (← c.self.view_is) (c.from_residual.ensures ∙ none_within free 1 c.args.last 4294967295 (omega (arith, c.ranges.last.fits)) c.in_err-id.ensures
    ∙ ap (λ r. least (λ id. not (is_some (id_in r id))) 1 c.args.last) c.in-Some.ensures.value)

pub returns-then-id-last : goal.returns-then-id-last
returns-then-id-last c =
    let free : ℕ → Bool = λ id. not (is_some (id_in (Some c.in-Some.ids.now) id)) in
    rw (← c.self.view_is) (past_within free 1 c.args.last 4294967295 (omega (arith, c.ranges.last.fits)) c.in_ok-id.id c.in_ok-id.ensures (omega (arith, c.if-id-last.true))
    ∙ ap (λ r. least (λ id. not (is_some (id_in r id))) 1 c.args.last) c.in-Some.ensures.value)

pub returns : goal.returns
returns c =
    let free : ℕ → Bool = λ id. not (is_some (id_in (Some c.in-Some.ids.now) id)) in
    rw (← c.self.view_is) (some_within free 1 c.args.last 4294967295 (omega (arith, c.ranges.last.fits)) c.in_ok-id.id c.in_ok-id.ensures (omega (arith, c.if-id-last.false))
    ∙ ap (λ r. least (λ id. not (is_some (id_in r id))) 1 c.args.last) c.in-Some.ensures.value)
