use Rattle.std.proofs.Common.{ℕ, Bool, false, ◌||◌, take, refl, sym, ap, ◌∙◌, arith}
use Rattle.std.proofs.lemmas.List.{take_all}
use Rattle.std.proofs.Math.Bool.{or_comm}
use Rattle.std.specs.List.{list_any}
use Rattle.std.specs.Option.{option_map_or}
use Rattle.drm_masters.specs.Masters.{master_at}
use Rattle.drm_masters.proofs.Looked.{is_there, any_pushed}
use Rattle.drm_leases.specs.declared.rows.Lease.{Lease}
use Rattle.drm_leases.specs.declared.rows.Grant.{Grant}
use Rattle.drm_leases.specs.Leases.{is_direct_lessee}
use Rattle.drm_leases.proofs.Bits.{empty_mask}
use Rattle.drm_leases.proofs.Granting.{any_of}
use Rattle.drm_leases.proofs.searches.lessee_mask.Goals as goal

pub loop-position-init : goal.loop-position-init
loop-position-init c = λ id ge le. empty_mask id

pub unreachable-requires : goal.unreachable-requires
unreachable-requires c =
    is_there c.args.granted.now.rows c.loop-position.position
    (omega (arith, c.loop-position-test.true, c.len-position-end.ensures)) (sym c.nth.ensures ∙ c.in_default.is)

pub loop-position-preserved : goal.loop-position-preserved
loop-position-preserved c = λ id ge le.
    let rows = c.args.granted.now.rows in
    let p : Lease → Bool =
    λ x. option_map_or (is_direct_lessee c.args.master id) (master_at c.args.masters.now.masters x.lessee) false in
    let at = sym c.nth.ensures ∙ c.in-Some.is in
    c.with_lessee-mask.ensures id ge le ∙ ap (λ b. b || p c.in-Some.lease) (c.loop-position.invariant id ge le)
    ∙ or_comm (list_any p (take c.loop-position.position rows)) (p c.in-Some.lease)
    ∙ sym (any_pushed rows c.loop-position.position c.in-Some.lease at p)

pub returns : goal.returns
returns c = λ id ge le.
    let rows = c.args.granted.now.rows in
    let direct : ℕ → Bool =
    λ n. option_map_or (is_direct_lessee c.args.master id) (master_at c.args.masters.now.masters n) false in
    c.loop-position.invariant id ge le
    ∙ ap (list_any (λ (x : Lease). direct x.lessee)) (take_all c.loop-position.position rows (omega (arith, c.loop-position-test.false, c.len-position-end.ensures)))
    ∙ sym (any_of (λ (g : Grant). direct g.master) direct (λ g. refl) rows c.laws.ensures.full)
