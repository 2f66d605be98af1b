use Rattle.std.proofs.Common.{ap, ◌∙◌}
use Rattle.drm_index_array.specs.Indexed.{Indexed}
use Rattle.drm_index_array.specs.Rows.{placed}
use Rattle.drm_id_alloc.specs.Groups.{has}
use Rattle.drm_id_alloc.proofs.GroupLemmas.{grouped_more, grouped_back, grouped_same}
use Rattle.drm_masters.specs.declared.members.Membership.{Membership}
use Rattle.drm_masters.specs.declared.rows.Member.{Member}
use Rattle.drm_masters.specs.Masters.{member_before}
use Rattle.drm_masters.specs.Tables.{MemberRows, members_in}
use Rattle.drm_masters.proofs.ClientList.{client_added}
use Rattle.drm_masters.proofs.ClientsOfMasters.{master_of, new_absent}
use Rattle.drm_masters.proofs.members.Members.add.Goals as goal

pub insert-requires : goal.insert-requires
insert-requires c =
    let absent = rw (← c.self.view_is) at c.requires.new_client in
    record { absent = new_absent c.self.inside.clients.items c.args.member.client absent }

pub invariant_of-self-in-Err-insert : goal.invariant_of-self-in-Err-insert
invariant_of-self-in-Err-insert c =
    let absent = rw (← c.self.view_is) at c.requires.new_client in
    let m = c.self.inside.clients.items in
    let n = c.args.member.client in
    let same =
    grouped_back master_of m (has c.self.inside.named) (has c.note.new.named) c.self.invariant
    (has c.forget.new.self) c.args.member.master n (new_absent m n absent) c.in_default.ensures.ok c.forget.ensures
    in
    rw c.in-Err-insert.ensures.err
    (grouped_same master_of m (has c.self.inside.named) (has c.forget.new.self) c.self.invariant same)

pub invariant_of-self-in_default-insert : goal.invariant_of-self-in_default-insert
invariant_of-self-in_default-insert c =
    let absent = rw (← c.self.view_is) at c.requires.new_client in
    let m = c.self.inside.clients.items in
    let n = c.args.member.client in
    rw c.in_default-insert.ensures.ok
    (grouped_more master_of m (has c.self.inside.named) (has c.note.new.named) c.self.invariant n c.kept_of.result c.args.member.master (new_absent m n absent) (ap (λ (y : Member). y.master) c.kept_of.ensures) c.in_default.ensures.ok)

pub returns-clause-ok : goal.returns-clause-ok
returns-clause-ok c =
    let absent = rw (← c.self.view_is) at c.requires.new_client in
    let m = c.self.inside.clients.items in
    ap (λ (a : Indexed Membership). members_in a.items) c.in_default-insert.ensures.ok
    ∙ client_added m c.args.member.client c.kept_of.result (new_absent m c.args.member.client absent)
    ∙ ap (λ x. placed member_before x (members_in m)) c.kept_of.ensures
    ∙ ap (λ (v : MemberRows). placed member_before c.args.member v.items) c.self.view_is
