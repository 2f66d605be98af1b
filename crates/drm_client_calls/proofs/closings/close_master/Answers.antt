use Rattle.std.proofs.Common.{◌≡◌, Some, None, Option, ℕ, subst, sym, ap, ◌∙◌}
use Rattle.std.proofs.lemmas.Option.{same_Some}
use Rattle.drm_masters.specs.declared.rows.Member.{Member}
use Rattle.drm_masters.specs.Masters.{MasterSet, member_of, master_at, swept}
use Rattle.drm_state.specs.Parts.{own_master}
use Rattle.drm_masters.specs.Calls.{ClosedBy, released}
use Rattle.drm_leases.specs.Calls as leases
use Rattle.drm_leases.proofs.MasterKeys.{keyed_step_number, keyed_there}
use Rattle.drm_client_calls.proofs.LeftAfterClosing.{nobody_gone, leases_stay, closed_without, closed_with, owner_gone, owner_leases, owner_agrees, spared_left, released_left}
use Rattle.drm_client_calls.proofs.closings.close_master.Goals as goal

-- what the closing came to
came : (v new : MasterSet) (c : ℕ) (found key : Option ℕ) → found ≡ key → ClosedBy v (member_of v.members c) found new
    → ClosedBy v (member_of v.members c) key new
came v new c found key is = subst (λ o. ClosedBy v (member_of v.members c) o new) is

pub returns-in_default-on_close : goal.returns-in_default-on_close
returns-in_default-on_close c =
    let v = c.args.masters.now in
    record {
      masters =
          (closed_without v c.on_close.new.self c.args.client c.requires.are (came v c.on_close.new.self c.args.client c.on_close.result None c.in_default-on_close.is c.on_close.ensures)).1;
      leases =
          leases_stay v c.args.client c.args.leases.now
          (closed_without v c.on_close.new.self c.args.client c.requires.are (came v c.on_close.new.self c.args.client c.on_close.result None c.in_default-on_close.is c.on_close.ensures)).0;
    }

pub revoke-requires : goal.revoke-requires
revoke-requires c =
    let v = c.args.masters.now in
    let middle = c.on_close.new.self in
    let k =
    closed_with v middle c.args.client c.in-Some-on_close.own
    (came v middle c.args.client c.on_close.result (Some c.in-Some-on_close.own) c.in-Some-on_close.is c.on_close.ensures)
    in
    record {
      there = keyed_there middle.masters k.row.master c.in-Some-on_close.own k.keyed;
      agreed =
          owner_agrees v middle c.args.client k.row k.here k.own k.is c.args.leases.now c.requires.are
          c.requires.agreed;
    }

pub returns-in_default : goal.returns-in_default
returns-in_default c =
    record {
      masters =
          nobody_gone c.args.masters.now c.args.client c.requires.are (sym c.member.ensures.member ∙ c.in_default.is);
      leases =
          leases_stay c.args.masters.now c.args.client c.args.leases.now
          (ap own_master (sym c.member.ensures.member ∙ c.in_default.is));
    }

pub returns-in-Some-master : goal.returns-in-Some-master
returns-in-Some-master c =
    let v = c.args.masters.now in
    let middle = c.on_close.new.self in
    let k =
    closed_with v middle c.args.client c.in-Some-on_close.own
    (came v middle c.args.client c.on_close.result (Some c.in-Some-on_close.own) c.in-Some-on_close.is c.on_close.ensures)
    in
    let number = keyed_step_number middle.masters k.row.master c.in-Some-on_close.own k.keyed in
    let left =
    subst
    (λ n. c.revoke.new.masters ≡ swept (released (leases.is_opened_under c.args.leases.now.tokens middle.masters n) middle))
    number c.revoke.ensures.masters in
    let same : c.in-Some.member.master ≡ k.row.master =
    ap (λ (x : Member). x.master)
    (same_Some c.in-Some.member k.row (sym c.in-Some.is ∙ c.member.ensures.member ∙ k.here)) in
    record {
      masters =
          owner_gone v middle c.args.client k.row k.here k.own k.is c.release.new.self
          (released_left v middle c.args.client c.in-Some-on_close.own k c.args.leases.now c.requires.are c.laws.ensures c.requires.kept c.revoke.new.masters c.release.new.self c.in-Some-master.master.key left (keyed_step_number c.revoke.new.masters.masters c.in-Some.member.master c.in-Some-master.master.key c.in-Some-master.ensures.keyed ∙ same) c.release.ensures);
      leases =
          owner_leases v middle c.args.client k.row k.here k.own k.is c.args.leases.now c.revoke.new.self
          (subst (λ n. c.revoke.new.self ≡ leases.ended middle.masters n c.args.leases.now) (keyed_step_number middle.masters k.row.master c.in-Some-on_close.own k.keyed) c.revoke.ensures.leases);
    }

pub release-requires : goal.release-requires
release-requires c =
    keyed_there c.revoke.new.masters.masters c.in-Some.member.master c.in-Some-master.master.key
    c.in-Some-master.ensures.keyed

pub returns-in_default-master : goal.returns-in_default-master
returns-in_default-master c =
    let v = c.args.masters.now in
    let middle = c.on_close.new.self in
    let k =
    closed_with v middle c.args.client c.in-Some-on_close.own
    (came v middle c.args.client c.on_close.result (Some c.in-Some-on_close.own) c.in-Some-on_close.is c.on_close.ensures)
    in
    let number = keyed_step_number middle.masters k.row.master c.in-Some-on_close.own k.keyed in
    let left =
    subst
    (λ n. c.revoke.new.masters ≡ swept (released (leases.is_opened_under c.args.leases.now.tokens middle.masters n) middle))
    number c.revoke.ensures.masters in
    let same : c.in-Some.member.master ≡ k.row.master =
    ap (λ (x : Member). x.master)
    (same_Some c.in-Some.member k.row (sym c.in-Some.is ∙ c.member.ensures.member ∙ k.here)) in
    record {
      masters =
          owner_gone v middle c.args.client k.row k.here k.own k.is c.revoke.new.masters
          (spared_left v middle c.args.client c.in-Some-on_close.own k c.args.leases.now c.requires.are c.laws.ensures c.requires.kept c.revoke.new.masters left (ap (master_at c.revoke.new.masters.masters) (sym same) ∙ sym c.master.ensures.master ∙ c.in_default-master.is));
      leases =
          owner_leases v middle c.args.client k.row k.here k.own k.is c.args.leases.now c.revoke.new.self
          (subst (λ n. c.revoke.new.self ≡ leases.ended middle.masters n c.args.leases.now) (keyed_step_number middle.masters k.row.master c.in-Some-on_close.own k.keyed) c.revoke.ensures.leases);
    }
