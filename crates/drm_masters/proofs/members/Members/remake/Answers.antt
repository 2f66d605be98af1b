use Rattle.std.proofs.Common.{◌≡◌, ◌==◌, false, not, Some, ap, sym, ◌∙◌}
use Rattle.std.specs.Option.{is_some, option_map_or}
use Rattle.std.proofs.lemmas.Bool.{false≢true, not-true}
use Rattle.drm_id_alloc.specs.Groups.{has}
use Rattle.drm_masters.specs.declared.rows.Member.{Member}
use Rattle.drm_masters.specs.Masters.{member_of}
use Rattle.drm_masters.specs.Tables.{MemberRows}
use Rattle.drm_masters.proofs.ClientList.{client_changed}
use Rattle.drm_masters.proofs.ClientsOfMasters.{kept_of, named_moved}
use Rattle.drm_masters.proofs.members.Members.remake.Goals as goal

pub unreachable-requires : goal.unreachable-requires
unreachable-requires c =
    false≢true
    (sym (ap (λ o. option_map_or (λ (x : Member). not (x.master == c.args.member.master)) o false) (sym c.get.ensures ∙ c.in_default.is)) ∙ c.requires.moves)

pub put-requires : goal.put-requires
put-requires c =
    let w =
    kept_of c.self.inside.clients.items c.args.member.client c.in-Some.old
    (ap (λ (v : MemberRows). member_of v.items c.args.member.client) c.self.view_is ∙ sym c.get.ensures ∙ c.in-Some.is)
    in
    record { open_client = ap is_some w.1 }

pub invariant_of-self-2 : goal.invariant_of-self-2
invariant_of-self-2 c =
    let m = c.self.inside.clients.items in
    let n = c.args.member.client in
    let look : member_of c.args.self.now.items n ≡ Some c.in-Some.old = sym c.get.ensures ∙ c.in-Some.is in
    let w = kept_of m n c.in-Some.old (ap (λ (v : MemberRows). member_of v.items n) c.self.view_is ∙ look) in
    let apart : (c.in-Some.old.master == c.args.member.master) ≡ false =
    not-true (c.in-Some.old.master == c.args.member.master)
    (sym (ap (λ o. option_map_or (λ (x : Member). not (x.master == c.args.member.master)) o false) look) ∙ c.requires.moves)
    in
    rw c.put.ensures
    (named_moved m (has c.self.inside.named) (has c.note.new.named) (has c.forget.new.self) c.self.invariant n w.0 c.kept_of.result c.in-Some.old.master c.args.member.master w.1 w.2 (ap (λ (y : Member). y.master) c.kept_of.ensures) apart c.in_default-note.ensures.ok c.forget.ensures)

pub returns-clause-rows : goal.returns-clause-rows
returns-clause-rows c =
    let m = c.self.inside.clients.items in
    let n = c.args.member.client in
    let w =
    kept_of m n c.in-Some.old
    (ap (λ (v : MemberRows). member_of v.items n) c.self.view_is ∙ sym c.get.ensures ∙ c.in-Some.is) in
    rw (c.put.ensures, ← c.self.view_is) (client_changed m n w.0 c.kept_of.result c.args.member c.kept_of.ensures w.1)
