use Rattle.std.proofs.Common.{◌≡◌, ℕ, Bool, true, false, not, ◌&&◌, [], ◌∷◌, Option, None, Some, refl, sym, ap, ◌∙◌}
use Rattle.std.specs.Prelude.{◌||◌}
use Rattle.std.specs.Option.{is_some, is_none, option_map_or}
use Rattle.drm_table.specs.declared.rules.Rule.TheVariants.{MasterPerm, MasterBusy, IsLessee}
use Rattle.drm_table.specs.Permit.{check, first_failing}
use Rattle.drm_masters.specs.declared.rows.Member.{Member}
use Rattle.drm_masters.specs.Masters.{MasterSet, member_of, owner_of, is_option, is_lessee}
use Rattle.drm_masters.specs.Calls.{sets_new, set_checks}
use Rattle.drm_masters.proofs.masters.Masters.sets_new.Goals as goal

-- a client that is no master is neither current nor a lessee, so two rules are left
checks : (own may : Bool) (device : Option ℕ) (current lessee : Bool)
    → ((not own && not (is_some device)) && may) ≡ (not own && is_none (first_failing (check MasterPerm may ∷ check MasterBusy ((own && current) || not (is_some device)) ∷ check IsLessee ((own && current) || not (own && lessee)) ∷ [])))
checks true may device current lessee = refl
checks false true None current lessee = refl
checks false false None current lessee = refl
checks false true (Some m) current lessee = refl
checks false false (Some m) current lessee = refl

are_checks : (v : MasterSet) (x : Member) (root : Bool)
    → ((not x.is_master && not (is_some v.device_master)) && (x.once_master || root)) ≡ sets_new v x root
unfolding sets_new set_checks
are_checks v x root =
    checks x.is_master (x.once_master || root) v.device_master (is_option (owner_of v.masters x.master) v.device_master)
    (is_lessee v.masters x.master)

pub returns-in_default : goal.returns-in_default
returns-in_default c =
    let v = c.args.self.now in
    let none : member_of v.members c.args.client ≡ None =
    sym (ap (λ (w : MasterSet). member_of w.members c.args.client) c.self.view_is) ∙ sym c.get.ensures
    ∙ c.in_default.is in
    sym (ap (λ o. option_map_or (λ x. sets_new v x c.args.root) o false) none)

-- the three tests of the code, for the client that was found
tests : (v : MasterSet) (x : Member) (root own taken permitted : Bool) (o : Option Member) → o ≡ Some x
    → own ≡ x.is_master → taken ≡ is_some v.device_master → permitted ≡ (x.once_master || root)
    → ((not own && not taken) && permitted) ≡ option_map_or (λ x. sets_new v x root) o false
tests v x root own taken permitted o look is has may =
    (λ i. (not (is i) && not (has i)) && may i) ∙ are_checks v x root
    ∙ sym (ap (λ o. option_map_or (λ x. sets_new v x root) o false) look)

pub returns-then-member : goal.returns-then-member
returns-then-member c =
    let v = c.args.self.now in
    let look : member_of v.members c.args.client ≡ Some c.in-Some.member =
    sym (ap (λ (w : MasterSet). member_of w.members c.args.client) c.self.view_is) ∙ sym c.get.ensures
    ∙ c.in-Some.is in
    tests v c.in-Some.member c.args.root true (is_some v.device_master) (c.in-Some.member.once_master || c.args.root) _ look
    (sym c.if-member.true) refl refl

pub returns-then-is_some : goal.returns-then-is_some
returns-then-is_some c =
    let v = c.args.self.now in
    let look : member_of v.members c.args.client ≡ Some c.in-Some.member =
    sym (ap (λ (w : MasterSet). member_of w.members c.args.client) c.self.view_is) ∙ sym c.get.ensures
    ∙ c.in-Some.is in
    tests v c.in-Some.member c.args.root false true (c.in-Some.member.once_master || c.args.root) _ look
    (sym c.if-member.false)
    (sym c.if-is_some.true ∙ c.is_some.ensures ∙ ap (λ (w : MasterSet). is_some w.device_master) c.self.view_is) refl

pub returns : goal.returns
returns c =
    let v = c.args.self.now in
    let look : member_of v.members c.args.client ≡ Some c.in-Some.member =
    sym (ap (λ (w : MasterSet). member_of w.members c.args.client) c.self.view_is) ∙ sym c.get.ensures
    ∙ c.in-Some.is in
    tests v c.in-Some.member c.args.root false false c.is_permitted.result _ look (sym c.if-member.false)
    (sym c.if-is_some.false ∙ c.is_some.ensures ∙ ap (λ (w : MasterSet). is_some w.device_master) c.self.view_is)
    c.is_permitted.ensures
