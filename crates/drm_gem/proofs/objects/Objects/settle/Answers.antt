use Rattle.std.proofs.Common.{◌≡◌, ℕ, ◌<◌, ◌≤◌, ◌==◌, ◌&&◌, true, false, Some, None, inl, inr, sym, ap, ◌∙◌, eq-eqb, arith}
use Rattle.std.specs.Prelude.{if◌then◌else◌, ◌⊎◌}
use Rattle.std.proofs.lemmas.Bool.{and_left, and_right, and_from, ne_eqb}
use Rattle.drm_gem.specs.Objects.{is_unused, dead_of}
use Rattle.drm_gem.proofs.Records.{dead_is}
use Rattle.drm_gem.proofs.objects.Objects.settle.Goals as goal

is_used : (h r : ℕ) → (0 < h) ⊎ ((h ≤ 0) × (0 < r)) → ((h == 0) && (r == 0)) ≡ false
is_used h r (inl lt) = and_left (h == 0) (r == 0) (ne_eqb h 0 (λ e. omega (arith, lt, e)))
is_used h r (inr w) = and_right (h == 0) (r == 0) (ne_eqb r 0 (λ e. let lt = w.1 in omega (arith, lt, e)))

pub returns-then-new-gt0-clause-dead : goal.returns-then-new-gt0-clause-dead
returns-then-new-gt0-clause-dead c =
    λ f is. sym
    (dead_is c.args.key f c.args.self.now c.args.old c.args.new c.requires.differ c.requires.there is ∙ ap (λ b. if b then Some (dead_of c.args.old) else None) (is_used c.args.new.holds c.args.new.refs c.then-new-gt0.either))

pub returns-clause-dead : goal.returns-clause-dead
returns-clause-dead c =
    let unused : is_unused c.args.new ≡ true =
    and_from (c.args.new.holds == 0) (c.args.new.refs == 0) (eq-eqb c.args.new.holds 0 (omega arith))
    (eq-eqb c.args.new.refs 0 (omega arith)) in
    λ f is. sym
    (dead_is c.args.key f c.args.self.now c.args.old c.args.new c.requires.differ c.requires.there is ∙ ap (λ b. if b then Some (dead_of c.args.old) else None) unused)
