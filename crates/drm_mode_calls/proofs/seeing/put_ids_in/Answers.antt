use Rattle.std.proofs.Common.{◌≡◌, ℕ, Bool, true, List, [], ◌∷◌, ◌++◌, filter, refl, sym, ap, ◌∙◌, arith}
use Rattle.drm_leases.specs.Views.{is_in_view}
use Rattle.drm_modes.specs.Topology.{ids_of_kind}
use Rattle.drm_modes.proofs.Fixed.{few_of_kind}
use Rattle.drm_mode_calls.proofs.seeing.put_ids_in.Goals as goal

-- a test that everything passes leaves out nothing
all_pass : (p : ℕ → Bool) → ((x : ℕ) → p x ≡ true) → (ids : List ℕ) → filter p ids ≡ ids
all_pass p passes [] = refl
all_pass p passes (x ∷ ids) = rw (passes x, all_pass p passes ids) refl

pub append_ids-requires : goal.append_ids-requires
append_ids-requires c =
    rw c.requires.empty
    (record { room = omega (arith, few_of_kind c.args.modes.now.topology c.laws.ensures.topology c.args.kind) })

pub returns-then-has_all : goal.returns-then-has_all
returns-then-has_all c =
    let t = c.args.modes.now.topology in
    c.append_ids.ensures ∙ ap (λ l. l ++ ids_of_kind t c.args.kind) c.requires.empty
    ∙ sym (all_pass (is_in_view t c.args.view) (c.has_all.ensures c.if-has_all.true t) (ids_of_kind t c.args.kind))
