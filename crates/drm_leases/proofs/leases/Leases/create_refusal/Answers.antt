use Rattle.std.proofs.Common.{◌≡◌, None, Some, sym, ap, ◌∙◌}
use Rattle.std.specs.Option.{is_some, option_and_then}
use Rattle.drm_masters.specs.declared.rows.Member.{Member}
use Rattle.drm_masters.specs.Masters.{member_of}
use Rattle.drm_table.specs.Permit.{first_failing}
use Rattle.drm_leases.specs.Rules.{lease_checks}
use Rattle.drm_leases.proofs.Denied.{all_passed, lessees_full, rule_denies}
use Rattle.drm_leases.proofs.leases.Leases.create_refusal.Goals as goal

pub returns-in-Some-denied : goal.returns-in-Some-denied
returns-in-Some-denied c =
    let l = c.args.self.now in
    let v = c.args.masters.now in
    let s = c.args.modes.now in
    let look : member_of v.members c.args.client ≡ Some c.in-Some.member = sym c.member.ensures.member ∙ c.in-Some.is in
    sym
    (ap (option_and_then (λ (x : Member). first_failing (lease_checks l v s x.master c.args.universal c.args.ids.now))) look
    ∙ rule_denies l v s c.in-Some.member.master c.args.universal c.args.ids.now c.in-Some-denied.rule (sym c.denied.ensures ∙ c.in-Some-denied.is))

pub returns-in_default-free_lessee : goal.returns-in_default-free_lessee
returns-in_default-free_lessee c =
    let l = c.args.self.now in
    let v = c.args.masters.now in
    let s = c.args.modes.now in
    let look : member_of v.members c.args.client ≡ Some c.in-Some.member = sym c.member.ensures.member ∙ c.in-Some.is in
    sym
    (ap (option_and_then (λ (x : Member). first_failing (lease_checks l v s x.master c.args.universal c.args.ids.now))) look
    ∙ lessees_full l v s c.in-Some.member.master c.args.universal c.args.ids.now (sym c.denied.ensures ∙ c.in_default-denied.is) (sym c.free_lessee.ensures ∙ c.in_default-free_lessee.is))

pub returns : goal.returns
returns c =
    let l = c.args.self.now in
    let v = c.args.masters.now in
    let s = c.args.modes.now in
    let look : member_of v.members c.args.client ≡ Some c.in-Some.member = sym c.member.ensures.member ∙ c.in-Some.is in
    sym
    (ap (option_and_then (λ (x : Member). first_failing (lease_checks l v s x.master c.args.universal c.args.ids.now))) look
    ∙ all_passed l v s c.in-Some.member.master c.args.universal c.args.ids.now (sym c.denied.ensures ∙ c.in_default-denied.is) (ap is_some (sym c.free_lessee.ensures ∙ c.in-Some-free_lessee.is)))
