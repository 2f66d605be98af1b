use Rattle.std.proofs.Common.{◌≡◌, ◌++◌, None, Some, refl, sym, ap, subst, ◌∙◌}
use Rattle.std.specs.Prelude.{IfSome, Ok, Err}
use Rattle.std.specs.Option.{is_some}
use Rattle.drm_masters.specs.declared.faults.LesseeFault.TheVariants.{Full as LesseesFull, NoMemory as LesseeNoMemory}
use Rattle.drm_masters.specs.declared.rows.Member.{Member}
use Rattle.drm_masters.specs.Masters.{member_of, step_number_at}
use Rattle.drm_table.specs.declared.rules.Rule.TheVariants.{Full}
use Rattle.drm_table.specs.Permit.{first_failing}
use Rattle.drm_leases.specs.declared.faults.LeaseFault.TheVariants.{Denied, NoMemory}
use Rattle.drm_leases.specs.Leases.{is_leased_out, next_token}
use Rattle.drm_leases.specs.Rules.{lease_rules, leased}
use Rattle.drm_leases.specs.Calls.{Created, Lends, listed_objects}
use Rattle.drm_leases.specs.Masks.{is_empty, objects_in}
use Rattle.drm_leases.proofs.MasterKeys.{keyed_step_number}
use Rattle.drm_leases.proofs.Denied.{all_passed, lessees_full, rule_denies, token_free, unlent, shaped, lease_filled, some_none, master_there}
use Rattle.drm_leases.proofs.leases.Leases.create.Goals as goal

pub unreachable-requires-in_default-master : goal.unreachable-requires-in_default-master
unreachable-requires-in_default-master c =
    some_none _
    (master_there c.args.masters.now c.member.ensures.are c.args.client c.in-Some.member (sym c.member.ensures.member ∙ c.in-Some.is))
    (sym c.master.ensures.master ∙ c.in_default-master.is)

pub returns-in-Some-denied-clause-created : goal.returns-in-Some-denied-clause-created
returns-in-Some-denied-clause-created c =
    let l = c.args.self.now in
    let v = c.args.masters.now in
    let s = c.args.modes.now in
    let look : member_of v.members c.args.client ≡ Some c.in-Some.member = sym c.member.ensures.member ∙ c.in-Some.is in
    let rule =
    rule_denies l v s c.in-Some.member.master c.args.universal c.args.ids.now c.in-Some-denied.rule
    (sym c.denied.ensures ∙ c.in-Some-denied.is) in
    subst
    (λ o. IfSome o (λ (z : Member). Created l v s z.master c.args.universal c.args.ids.now c.args.birth (Err (Denied c.in-Some-denied.rule)) l v))
    (sym look) (rule, refl, refl)

pub lend-requires-clause-some : goal.lend-requires-clause-some
lend-requires-clause-some c =
    let none : first_failing (lease_rules c.args.self.now c.args.masters.now c.args.modes.now c.in-Some.member.master c.args.universal c.args.ids.now (is_some (next_token c.args.self.now))) ≡ None =
    sym c.denied.ensures ∙ c.in_default-denied.is in
    ap is_empty c.listed_mask-objects.ensures
    ∙ lease_filled c.args.modes.now.topology c.args.universal c.args.ids.now c.ids-along.result.now
    (shaped c.args.self.now c.args.masters.now c.args.modes.now c.in-Some.member.master c.args.universal c.args.ids.now none)

pub lend-requires-clause-token : goal.lend-requires-clause-token
lend-requires-clause-token c =
    token_free c.args.self.now c.args.masters.now c.args.modes.now c.in-Some.member.master c.args.universal
    c.args.ids.now (sym c.denied.ensures ∙ c.in_default-denied.is)

-- rule 34
pub lend-requires-clause-unlent : goal.lend-requires-clause-unlent
lend-requires-clause-unlent c =
    let l = c.args.self.now in
    let v = c.args.masters.now in
    let m = c.in-Some.member.master in
    let none : first_failing (lease_rules l v c.args.modes.now m c.args.universal c.args.ids.now (is_some (next_token l))) ≡ None =
    sym c.denied.ensures ∙ c.in_default-denied.is in
    let along = c.ids-along.ensures.ids ∙ c.brought_along-planes.ensures in
    let listed : objects_in c.listed_mask-objects.result ≡ listed_objects c.args.modes.now.topology (leased l v c.args.modes.now m c.args.universal c.args.ids.now) =
    c.listed_mask-objects.ensures
    ∙ ap (λ l. listed_objects c.args.modes.now.topology (c.args.ids.now ++ l)) along in
    λ x has. ap (λ n. is_leased_out l.grants v.masters n x)
    (keyed_step_number v.masters m c.in-Some-master.lessor.key c.in-Some-master.ensures.keyed)
    ∙ unlent l v c.args.modes.now m c.args.universal c.args.ids.now none c.listed_mask-objects.result listed x has

pub returns-in-Ok-clause-created : goal.returns-in-Ok-clause-created
returns-in-Ok-clause-created c =
    let l = c.args.self.now in
    let v = c.args.masters.now in
    let s = c.args.modes.now in
    let m = c.in-Some.member.master in
    let all = leased l v s m c.args.universal c.args.ids.now in
    let along = c.ids-along.ensures.ids ∙ c.brought_along-planes.ensures in
    let listed : objects_in c.listed_mask-objects.result ≡ listed_objects s.topology all =
    c.listed_mask-objects.ensures ∙ ap (λ l. listed_objects s.topology (c.args.ids.now ++ l)) along in
    let number : step_number_at v.masters c.in-Some-master.lessor.key ≡ m =
    keyed_step_number v.masters m c.in-Some-master.lessor.key c.in-Some-master.ensures.keyed in
    let lent : Lends l v m (listed_objects s.topology all) c.args.birth (Ok c.in-Ok.made) c.lend.new.self c.lend.new.masters =
    subst
    (λ n. Lends l v n (listed_objects s.topology all) c.args.birth (Ok c.in-Ok.made) c.lend.new.self c.lend.new.masters)
    number
    (subst (λ ids. Lends l v (step_number_at v.masters c.in-Some-master.lessor.key) ids c.args.birth (Ok c.in-Ok.made) c.lend.new.self c.lend.new.masters) listed c.in-Ok.ensures.lent)
    in
    let look : member_of v.members c.args.client ≡ Some c.in-Some.member = sym c.member.ensures.member ∙ c.in-Some.is in
    let none =
    all_passed l v s m c.args.universal c.args.ids.now (sym c.denied.ensures ∙ c.in_default-denied.is)
    (ap is_some lent.0) in
    subst
    (λ o. IfSome o (λ (z : Member). Created l v s z.master c.args.universal c.args.ids.now c.args.birth (Ok c.in-Ok.made) c.lend.new.self c.lend.new.masters))
    (sym look)
    (none, lent.0, lent.1, lent.2, (c.in-Ok.made.m, lent.3, lent.4, refl))

pub returns-in-Err-Full-clause-created : goal.returns-in-Err-Full-clause-created
returns-in-Err-Full-clause-created c =
    let l = c.args.self.now in
    let v = c.args.masters.now in
    let s = c.args.modes.now in
    let m = c.in-Some.member.master in
    let number : step_number_at v.masters c.in-Some-master.lessor.key ≡ m =
    keyed_step_number v.masters m c.in-Some-master.lessor.key c.in-Some-master.ensures.keyed in
    let lent =
    subst
    (λ n. Lends l v n (objects_in c.listed_mask-objects.result) c.args.birth (Err LesseesFull) c.lend.new.self c.lend.new.masters)
    number
    (subst (λ r. Lends l v (step_number_at v.masters c.in-Some-master.lessor.key) (objects_in c.listed_mask-objects.result) c.args.birth r c.lend.new.self c.lend.new.masters) (c.in-Err-Full.is ∙ ap Err c.in-Err-Full.field-0-is) c.lend.ensures.lent)
    in
    let look : member_of v.members c.args.client ≡ Some c.in-Some.member = sym c.member.ensures.member ∙ c.in-Some.is in
    subst
    (λ o. IfSome o (λ (z : Member). Created l v s z.master c.args.universal c.args.ids.now c.args.birth (Err (Denied Full)) c.lend.new.self c.lend.new.masters))
    (sym look)
    (lessees_full l v s m c.args.universal c.args.ids.now (sym c.denied.ensures ∙ c.in_default-denied.is) lent.0, lent.1, lent.2)

pub returns-in-Err-NoMemory-clause-created : goal.returns-in-Err-NoMemory-clause-created
returns-in-Err-NoMemory-clause-created c =
    let l = c.args.self.now in
    let v = c.args.masters.now in
    let s = c.args.modes.now in
    let m = c.in-Some.member.master in
    let number : step_number_at v.masters c.in-Some-master.lessor.key ≡ m =
    keyed_step_number v.masters m c.in-Some-master.lessor.key c.in-Some-master.ensures.keyed in
    let lent =
    subst
    (λ n. Lends l v n (objects_in c.listed_mask-objects.result) c.args.birth (Err LesseeNoMemory) c.lend.new.self c.lend.new.masters)
    number
    (subst (λ r. Lends l v (step_number_at v.masters c.in-Some-master.lessor.key) (objects_in c.listed_mask-objects.result) c.args.birth r c.lend.new.self c.lend.new.masters) (c.in-Err-NoMemory.is ∙ ap Err c.in-Err-NoMemory.field-0-is) c.lend.ensures.lent)
    in
    let look : member_of v.members c.args.client ≡ Some c.in-Some.member = sym c.member.ensures.member ∙ c.in-Some.is in
    subst
    (λ o. IfSome o (λ (z : Member). Created l v s z.master c.args.universal c.args.ids.now c.args.birth (Err NoMemory) c.lend.new.self c.lend.new.masters))
    (sym look)
    (all_passed l v s m c.args.universal c.args.ids.now (sym c.denied.ensures ∙ c.in_default-denied.is) lent.0, lent.1, lent.2)
